use Rattle.std.proofs.Common.{◌≡◌, ◌+◌, ◌-◌, ◌^◌, ◌≤◌, length}
use Rattle.fir_leaf.specs.working.Nodes.{Gives, entries, picks_at}
use Rattle.fir_meaning.specs.working.Terms.{Picks}
use Rattle.fir_leaf_pairs.specs.working.TargetNames.{PicksWithin}
use Rattle.fir_leaf_pairs.specs.working.Reads.{reads_from}
use Rattle.fir_ground.proofs.reads.read_from.Given as goal

abbrev pub invariant-loop-leaf : goal.invariant-loop-leaf
invariant-loop-leaf l =
    (ps : Picks) → l.base + l.count ≤ 2 ^ 64 - 1 → PicksWithin (length l.fn.nodes.items) l.picks → picks_at (entries l.fn.nodes.items) l.picks ≡ ps
    → Gives l.fn.nodes.items l.nodes.items l.ids.items (reads_from l.base l.leaf ps)
