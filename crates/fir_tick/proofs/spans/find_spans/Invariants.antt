use Rattle.std.proofs.Common.{◌≡◌, ◌+◌, ◌≤◌, length, drop}
use Rattle.std.specs.List.{sum_by}
use Rattle.fir_net.specs.working.Arrays.{words_of}
use Rattle.fir_tick.proofs.ArraysFound.{found_from}
use Rattle.fir_tick.proofs.spans.find_spans.Given as goal

abbrev pub invariant-loop-number : goal.invariant-loop-number
invariant-loop-number l = record {
  room : length l.spans ≡ length l.net.arrays;
  few : l.begin + sum_by (words_of l.net.arrays) (drop l.number-index l.net.array_order) ≤ length l.net.state + 4194304;
  rest : found_from l.net.arrays l.begin (drop l.number-index l.net.array_order) l.spans ≡ found_from l.net.arrays (length l.net.state) l.net.array_order l.initial.spans;
}
