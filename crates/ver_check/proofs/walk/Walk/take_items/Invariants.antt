use Rattle.std.proofs.Common.{◌≡◌, drop}
use Rattle.ver_check.specs.ItemFaults.{Before}
use Rattle.ver_check.specs.TreeFaults.{behind_items, items_faults}
use Rattle.ver_check.specs.working.Walks.{Stands}
use Rattle.ver_check.proofs.walk.Walk.take_items.Given as goal

abbrev pub invariant-loop-item : goal.invariant-loop-item
invariant-loop-item l =
    (before : Before) → Stands l.fn.self before
    → (now : Before) × Stands l.self now
    × (items_faults before l.items l.places ≡ items_faults now (drop l.item-index l.items) l.next)
    × (behind_items before l.items l.places ≡ behind_items now (drop l.item-index l.items) l.next)
