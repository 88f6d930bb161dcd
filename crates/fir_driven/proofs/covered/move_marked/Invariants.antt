use Rattle.std.proofs.Common.{take}
use Rattle.fir_driven.specs.working.CoverWalks.{MovesMarked}
use Rattle.fir_driven.proofs.covered.move_marked.Given as goal

abbrev pub invariant-loop-leaf : goal.invariant-loop-leaf
invariant-loop-leaf l = MovesMarked (take l.leaf-index l.leaves) l.fn.marks.items l.marks.items l.fn.found.items l.found.items
