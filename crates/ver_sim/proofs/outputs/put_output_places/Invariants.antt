use Rattle.std.proofs.Common.{take}
use Rattle.std.specs.Prelude.{flat_map}
use Rattle.ver_ast.specs.Nets.{output_net}
use Rattle.ver_sim.specs.working.Inputs.{IsPlaceOf}
use Rattle.ver_sim.specs.working.Pairs.{Appends}
use Rattle.ver_sim.proofs.outputs.put_output_places.Given as goal

abbrev pub invariant-loop-port : goal.invariant-loop-port
invariant-loop-port l = Appends (IsPlaceOf l.v) l.initial.out.items l.out.items (flat_map (λ p. output_net p.direction p) (take l.port-index l.port-items))
