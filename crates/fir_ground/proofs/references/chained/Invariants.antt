use Rattle.std.proofs.Common.{List, drop, length, map}
use Rattle.fir_types.specs.working.Noted.{pick_seen}
use Rattle.fir_ground.specs.working.Indices.{AreIndices, Index}
use Rattle.fir_ground.proofs.Chained.{ChainedSoFar}
use Rattle.fir_ground.proofs.references.chained.Given as goal

abbrev pub invariant-loop-index : goal.invariant-loop-index
invariant-loop-index l =
    (meant : List Index) → AreIndices l.fn.nodes.items l.indices meant
    → ChainedSoFar l.fn.nodes.items l.nodes.items l.chain meant (drop (length l.yielded) meant) (map pick_seen l.picks) (drop (length l.yielded) (map pick_seen l.picks))
