use Rattle.std.proofs.Common.{take}
use Rattle.std.specs.Prelude.{flat_map}
use Rattle.std.specs.List.{AllZip}
use Rattle.fir_tick.specs.working.WritePlans.{writes_of, IsWritePlan}
use Rattle.fir_tick.proofs.write_plans.write_plans.Given as goal

abbrev pub invariant-loop-number : goal.invariant-loop-number
invariant-loop-number l = AllZip (IsWritePlan l.net l.roots) l.plans.items (flat_map (writes_of l.net) (take l.number-index l.net.array_order))
