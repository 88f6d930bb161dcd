use Rattle.std.proofs.Common.{◌≡◌, drop, map}
use Rattle.std.specs.Prelude.{flat_map}
use Rattle.ver_check.specs.ItemFaults.{Before}
use Rattle.ver_check.specs.TreeFaults.{undriven_of}
use Rattle.ver_check.specs.working.Walks.{Stands, due_in, missing_faults}
use Rattle.ver_check.proofs.walk.Walk.all_driven.Given as goal

abbrev pub invariant-loop-due : goal.invariant-loop-due
invariant-loop-due l =
    (before : Before) → Stands l.self before → undriven_of before ≡ flat_map (missing_faults before.assigned) (map due_in (drop l.due-index l.self.due.items))
