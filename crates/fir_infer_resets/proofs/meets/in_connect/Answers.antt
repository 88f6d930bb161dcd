use Rattle.std.proofs.lemmas.Result.{on_ok_weaker}
use Rattle.fir_ast.specs.working.Views.{expr_of}
use Rattle.fir_meaning.specs.TypeGroup.{scope_at}
use Rattle.fir_infer_resets.proofs.ConnectMeets.{connect_passed}
use Rattle.fir_infer_resets.proofs.meets.in_connect.Goals as goal

pub returns : goal.returns
returns c = λ place ts m before rest ahead same.
    let scope = scope_at m.modules before in
    on_ok_weaker c.put_meet.result
    (connect_passed ts m before rest c.args.sink c.reference-range.result c.source-given.result (expr_of c.args.source.now) c.args.walk.now c.reference-range.new.self
    c.source-given.new.self c.put_meet.new.meets same (c.reference-range.ensures ts scope) (c.source-given.ensures ts scope rest) c.args.whole place ahead)
    c.put_meet.ensures
