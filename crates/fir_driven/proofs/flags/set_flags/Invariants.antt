use Rattle.std.proofs.Common.{if◌then◌else◌, take}
use Rattle.fir_meaning.specs.working.TermReads.{is_among}
use Rattle.fir_driven.specs.working.FlagChanges.{FlagsBecome}
use Rattle.fir_driven.proofs.flags.set_flags.Given as goal

abbrev pub invariant-loop-leaf : goal.invariant-loop-leaf
invariant-loop-leaf l = FlagsBecome l.fn.flags.items l.flags.items (λ x was. if is_among (take l.leaf-index l.leaves) x then l.flag else was)
