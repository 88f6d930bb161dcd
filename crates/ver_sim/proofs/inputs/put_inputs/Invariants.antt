use Rattle.std.proofs.Common.{◌≡◌, drop}
use Rattle.ver_sim.specs.working.Inputs.{inputs_put}
use Rattle.ver_sim.proofs.inputs.put_inputs.Given as goal

abbrev pub invariant-loop-i : goal.invariant-loop-i
invariant-loop-i l = inputs_put (drop l.i l.nets) (drop l.i l.inputs) l.values ≡ inputs_put l.nets l.inputs l.fn.values
