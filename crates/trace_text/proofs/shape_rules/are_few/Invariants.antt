use Rattle.std.proofs.Common.{◌≡◌, ◌+◌, take}
use Rattle.std.specs.Prelude.{sum_by}
use Rattle.trace_text.specs.working.Shapes.{array_size, word_limit}
use Rattle.trace_text.proofs.shape_rules.are_few.Given as goal

abbrev pub invariant-loop-word : goal.invariant-loop-word
invariant-loop-word l = l.left + sum_by array_size (take l.word-index l.state) ≡ word_limit
