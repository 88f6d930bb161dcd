use Rattle.std.proofs.Common.{◌≤◌, take}
use Rattle.std.specs.List.{sum_by}
use Rattle.fir_net.specs.working.Arrays.{words_of}
use Rattle.fir_flatten.proofs.flat_arrays.few_words.Given as goal

-- a sum that is not above the most has all words
abbrev pub invariant-loop-number : goal.invariant-loop-number
invariant-loop-number l = l.count ≤ 4194304 → sum_by (words_of l.arrays) (take l.number-index l.order) ≤ l.count
