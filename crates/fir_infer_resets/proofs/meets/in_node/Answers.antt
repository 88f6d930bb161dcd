use Rattle.std.proofs.Common.{[], ◌∷◌, length, refl, ◌∙◌}
use Rattle.fir_ast.specs.working.Views.{expr_of, named_of}
use Rattle.fir_meaning.specs.Components as component
use Rattle.fir_meaning.specs.TypeGroup.{scope_at}
use Rattle.fir_infer_resets.specs.declared.meet.Meet.TheVariants as code
use Rattle.fir_infer_resets.specs.declared.meets.Walk.{Walk}
use Rattle.fir_infer_resets.specs.working.Meetings.{meeting, named_by}
use Rattle.fir_infer_resets.proofs.MeetsJoined.{declared_behind, met_behind}
use Rattle.fir_infer_resets.proofs.meets.in_node.Goals as goal

pub returns : goal.returns
returns c =
    let n = named_of c.args.ident.now in
    let e = expr_of c.args.value.now in
    let old = c.args.walk.now in
    let second = c.source-given.new.self in
    λ place ts m before rest ahead same.
    let source = c.source-given.ensures ts (scope_at m.modules before) rest ahead in
    let met = meeting m before (named_by n e) in
    let middle : Walk = record second { meets = c.put_meet.new.meets } in
    let behind = met_behind ts rest (length before.declared) (code.Node c.args.ident second.declared c.source-given.result) met old second c.put_meet.new.meets source.passes same
    c.in_ok-put_meet.ensures (refl, source.passes.declared ∙ same, source.is) in
    declared_behind ts rest before n (component.node e) (met ∷ []) old middle c.declare.new.self c.declare.result behind c.declare.ensures
