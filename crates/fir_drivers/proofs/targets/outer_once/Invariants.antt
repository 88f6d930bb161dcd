use Rattle.std.proofs.Common.{not, ◌&&◌, ◌||◌, nat_lt, take}
use Rattle.fir_meaning.specs.working.TermReads.{is_among}
use Rattle.fir_driven.specs.working.Covering.{depth_in}
use Rattle.fir_driven.specs.working.FlagChanges.{FlagsBecome}
use Rattle.fir_drivers.proofs.targets.outer_once.Given as goal

abbrev pub invariant-loop-leaf : goal.invariant-loop-leaf
invariant-loop-leaf l =
    FlagsBecome l.fn.marks.items l.marks.items (λ x was. was || (is_among (take l.leaf-index l.leaves) x && not (nat_lt l.depth (depth_in l.depths x))))
