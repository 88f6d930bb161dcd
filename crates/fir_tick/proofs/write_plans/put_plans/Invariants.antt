use Rattle.std.proofs.Common.{◌≡◌, List, ◌++◌, map, take}
use Rattle.std.specs.List.{AllZip}
use Rattle.fir_tick.specs.declared.write_plans.WritePlan.{WritePlan}
use Rattle.fir_tick.specs.working.WritePlans.{write_of, IsWritePlan}
use Rattle.fir_tick.proofs.write_plans.put_plans.Given as goal

abbrev pub invariant-loop-write : goal.invariant-loop-write
invariant-loop-write l = (own : List WritePlan) × (l.plans.items ≡ l.initial.plans.items ++ own) × AllZip (IsWritePlan l.net l.roots) own (map (write_of l.number) (take l.write-index l.writes))
