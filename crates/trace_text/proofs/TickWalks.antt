-- What the next tick shows of the lines behind a place.
-- Skipped lines are passed one after the other, and the line behind them is the tick's, or the bad one.
use Rattle.std.proofs.Common.{◌≡◌, ℕ, ◌≤◌, List, [], ◌∷◌, ◌++◌, length, drop, length-drop, true, false, sym, ap, ◌∙◌, arith}
use Rattle.fir_base.specs.Ticks.{Tick}
use Rattle.std.specs.Prelude.{Some}
use Rattle.trace_text.specs.declared.fault.Cause.{Cause}
use Rattle.trace_text.specs.declared.lines.Line.{Line}
use Rattle.trace_text.specs.Lines.{AreTraceLines, bytes_behind, first_line, later_lines, IsSkipped}
use Rattle.trace_text.specs.Shapes.{TraceShape}
use Rattle.trace_text.specs.SpelledLines.{IsTickLine}
use Rattle.trace_text.specs.LineFaults.{line_faults}
use Rattle.trace_text.specs.working.Readings.{IsPlace, is_skipped, first_cause, TickRead, TickIsBad}
use Rattle.trace_text.specs.working.Walks.{IsPast, IsLine, fault_at}
use Rattle.trace_text.proofs.LineFronts.{behind_within}
use Rattle.trace_text.proofs.LineSteps.{skipped_so, skipped_is, lines_grow, behind_grows, all_grow, filled_at, place_moves, bad_at}

module _ (bytes : List ℕ) (from : ℕ) (line : Line) (past : IsPast bytes from line.place) (here : IsLine bytes line) where
  abbrev text : List ℕ
  text = line.text.now

  reached : AreTraceLines (drop from bytes) (past.skipped ++ text ∷ [])
  reached =
      lines_grow (drop from bytes) past.skipped text past.lines_are (filled_at bytes line.place (bytes_behind (drop from bytes) past.skipped) past.rest here.before)
      (here.text ∙ ap first_line past.rest.left)

  left_behind : IsPlace bytes line.behind (bytes_behind (drop from bytes) (past.skipped ++ text ∷ []))
  left_behind =
      place_moves bytes line.behind (later_lines (drop line.place bytes)) here.rest (bytes_behind (drop from bytes) (past.skipped ++ text ∷ []))
      (ap later_lines past.rest.left ∙ sym (behind_grows (drop from bytes) past.skipped text))

  pub one_passed : is_skipped text ≡ true → IsPast bytes from line.behind
  one_passed skipped = record {
    skipped = past.skipped ++ text ∷ [];
    lines_are = reached;
    are_skipped = all_grow IsSkipped past.skipped text past.are_skipped (skipped_so text skipped);
    rest = left_behind;
  }

  pub tick_read : (shape : TraceShape) (tick : Tick) → IsTickLine shape text tick → TickRead bytes shape from line.behind tick
  tick_read shape tick spelled = record {
    skipped = past.skipped;
    line = text;
    lines_are = reached;
    are_skipped = past.are_skipped;
    spelled = spelled;
    rest = left_behind;
  }

  pub tick_is_bad : (shape : TraceShape) (cause : Cause) → is_skipped text ≡ false → first_cause (line_faults shape true text) ≡ Some cause
      → TickIsBad bytes shape from line.place (fault_at bytes line.place cause)
  tick_is_bad shape cause counts first = record {
    skipped = past.skipped;
    bad = text;
    lines_are = reached;
    are_skipped = past.are_skipped;
    not_skipped = λ s. let e = skipped_is text s in cc;
    rest = past.rest;
    is_bad = bad_at bytes shape true text line.place cause first;
  }

-- the walk does not go back
pub past_behind : (bytes : List ℕ) (from place : ℕ) → IsPast bytes from place → from ≤ length bytes → from ≤ place
past_behind bytes from place past within =
    let left = ap length past.rest.left in
    let inside = past.rest.within in
    omega (arith, length-drop place bytes, length-drop from bytes, behind_within (drop from bytes) past.skipped)
