use Rattle.fir_ast.specs.working.Views.{named_of}
use Rattle.fir_infer_widths.proofs.DeclarationWalks.{declared_comes, own_side}
use Rattle.fir_infer_widths.proofs.statements.declared.Goals as goal

pub returns : goal.returns
returns c = λ k m before component t meant rules rest declares shows.
    let own = own_side k c.args.ground.now m before (named_of c.args.ident.now) component t meant rules rest c.args.walk.now declares in
    let at = c.declare-own.ensures _ own.found own.first declares.enters.declared own.at own.from in
    declared_comes k c.args.ground.now m before c.args.ident component t meant rules rest c.args.walk.now declares c.declare-own.result c.declare-own.new.self c.put_spot.new.spots at.0 at.1
    c.in_ok-put_spot.ensures shows
