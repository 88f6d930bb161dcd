use Rattle.std.proofs.Common.{take}
use Rattle.std.specs.List.{AllByRecursion}
use Rattle.fir_base.specs.Lists.{In}
use Rattle.ver_loop.specs.Loops.{item_gives}
use Rattle.ver_loop.proofs.giver.giving_item.Given as goal

-- none before gives it one
abbrev pub invariant-loop-number : goal.invariant-loop-number
invariant-loop-number l = AllByRecursion (λ i. In (item_gives i) l.name → ⊥) (take l.number l.items)
