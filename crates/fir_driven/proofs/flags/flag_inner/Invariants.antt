use Rattle.std.proofs.Common.{◌&&◌, ◌||◌, nat_lt, take}
use Rattle.fir_meaning.specs.working.TermReads.{is_among}
use Rattle.fir_driven.specs.working.Covering.{depth_in}
use Rattle.fir_driven.specs.working.FlagChanges.{FlagsBecome}
use Rattle.fir_driven.proofs.flags.flag_inner.Given as goal

abbrev pub invariant-loop-leaf : goal.invariant-loop-leaf
invariant-loop-leaf l =
    FlagsBecome l.fn.flags.items l.flags.items (λ x was. was || (is_among (take l.leaf-index l.leaves) x && nat_lt l.depth (depth_in l.depths x)))
