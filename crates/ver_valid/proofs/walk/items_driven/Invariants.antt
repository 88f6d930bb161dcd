use Rattle.std.proofs.Common.{ℕ, List, drop}
use Rattle.std.specs.Prelude.{◌↔◌}
use Rattle.std.specs.List.{AllByRecursion}
use Rattle.ver_valid.specs.working.Driven.{Drives}
use Rattle.ver_valid.specs.working.Walks.{IsItemDriven}
use Rattle.ver_valid.proofs.walk.items_driven.Given as goal

abbrev pub invariant-loop-item : goal.invariant-loop-item
invariant-loop-item l =
    (ns : List (List ℕ)) → Drives l.assigned ns → AllByRecursion (IsItemDriven ns) (drop l.item-index l.items) ↔ AllByRecursion (IsItemDriven ns) l.items
