use Rattle.std.proofs.Common.{ap, drop, get_or, sym, ◌∙◌}
use Rattle.std.proofs.lemmas.List.{at_drop_all}
use Rattle.std.specs.Prelude.{slice_set}
use Rattle.ver_sim.specs.working.Inputs.{inputs_put}
use Rattle.ver_sim.proofs.InputValues.{inputs_next, inputs_none}
use Rattle.ver_sim.proofs.inputs.put_inputs.Goals as goal

pub loop-i-preserved : goal.loop-i-preserved
loop-i-preserved c =
    inputs_next c.args.nets.now c.args.inputs.now c.loop-i.i c.loop-i.values _ _ c.loop-i-test.true c.loop-i.invariant
    (c.put_value.ensures ∙ ap (slice_set c.loop-i.values (get_or c.args.nets.now c.loop-i.i 0)) c.at.ensures)

pub returns : goal.returns
returns c =
    sym (at_drop_all (λ l. inputs_put l (drop c.loop-i.i c.args.inputs.now) c.loop-i.values) c.args.nets.now c.loop-i.i c.loop-i-test.false ∙ inputs_none _ _) ∙ c.loop-i.invariant
