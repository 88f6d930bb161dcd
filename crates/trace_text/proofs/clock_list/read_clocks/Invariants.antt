use Rattle.std.proofs.Common.{◌≡◌, ◌+◌, ◌≤◌, length, drop}
use Rattle.std.specs.Prelude.{IfSome}
use Rattle.trace_text.specs.Spelling.{listed, are_clocks}
use Rattle.trace_text.specs.working.ClockLists.{IsClock, ClocksAreRead}
use Rattle.trace_text.proofs.PieceBytes.{bytes_of}
use Rattle.trace_text.proofs.ClockPieces.{low_behind, rise_from}
use Rattle.trace_text.proofs.clock_list.read_clocks.Given as goal

-- what is left begins at the place, and decides whether the word is a list
abbrev pub invariant-loop-digits : goal.invariant-loop-digits
invariant-loop-digits l = record {
  left : rise_from (low_behind l.before) (drop (length l.yielded) (listed l.word)) ≡ are_clocks (listed l.word);
  before : IfSome l.before (λ b. IsClock b);
  named : l.read.named ≤ low_behind l.before;
  place : l.place + bytes_of (drop (length l.yielded) (listed l.word)) ≡ length l.word + 1;
  read : ClocksAreRead (listed l.word) (drop (length l.yielded) (listed l.word)) l.place l.read l.room;
}
