-- Bytes spell a trace or have a first bad line.
-- The lines are judged one after the other, each in its place, up to the first in which something is wrong.
use Rattle.std.proofs.Common.{◌≡◌, ℕ, ◌+◌, ◌-◌, List, [], ◌∷◌, ◌++◌, length, Bool, true, false, refl, ◌⊎◌, inl, inr, ap, sym, subst}
use Rattle.std.specs.Prelude.{slice_set}
use Rattle.fir_base.specs.Ticks.{Tick}
use Rattle.trace_text.specs.declared.fault.Cause.{Cause}
use Rattle.trace_text.specs.declared.fault.TraceFault.{TraceFault}
use Rattle.trace_text.specs.Lines.{IsSkipped, AreTraceLines, bytes_behind, AreAllLines}
use Rattle.trace_text.specs.Shapes.{TraceShape}
use Rattle.trace_text.specs.SpelledLines.{IsInitLine, IsTickLine}
use Rattle.trace_text.specs.LineFaults.{line_faults}
use Rattle.trace_text.specs.TraceSpells.{zeros}
use Rattle.trace_text.specs.BadLine.{BadLine}
use Rattle.trace_text.specs.working.Laws.{TraceIsSpelledOrBad}
use Rattle.trace_text.proofs.JudgedLines.{Spelled, line_judged}
use Rattle.trace_text.proofs.ReadLines.{AreRead, read_spelled}
use Rattle.trace_text.proofs.OneReading.{follows, behind_a_tick, before_all}
use Rattle.trace_text.proofs.LineFronts.{all_lines, front_lines}

abbrev WholeRead : TraceShape → Bool → List (List ℕ) → List ℕ → Type 0
WholeRead shape after lines before = (init : List ℕ) × (ticks : List Tick) × AreRead shape after lines before init ticks

-- the lines before a bad one are read
record BadBehind (shape : TraceShape) (after : Bool) (lines : List (List ℕ)) (before : List ℕ) : Type 0 where
  front : List (List ℕ)
  bad : List ℕ
  back : List (List ℕ)
  lines_are : lines ≡ (front ++ bad ∷ []) ++ back
  init : List ℕ
  ticks : List Tick
  read : AreRead shape after front before init ticks
  cause : Cause
  later : List Cause
  first : line_faults shape (follows after ticks) bad ≡ cause ∷ later

abbrev Judged : TraceShape → Bool → List (List ℕ) → List ℕ → Type 0
Judged shape after lines before = WholeRead shape after lines before ⊎ BadBehind shape after lines before

module _ (shape : TraceShape) (line : List ℕ) (lines : List (List ℕ)) where
  skipped_judged : (after : Bool) (before : List ℕ) → IsSkipped line → Judged shape after lines before → Judged shape after (line ∷ lines) before
  skipped_judged after before s (inl r) = inl (r.0, r.1, inl (s, r.2))
  skipped_judged after before s (inr b) = inr (record {
    front = line ∷ b.front;
    bad = b.bad;
    back = b.back;
    lines_are = ap (λ ls. line ∷ ls) b.lines_are;
    init = b.init;
    ticks = b.ticks;
    read = inl (s, b.read);
    cause = b.cause;
    later = b.later;
    first = b.first;
  })

  init_judged : (before : List ℕ) (place value : ℕ) → IsInitLine shape line place value → Judged shape false lines (slice_set before place value) → Judged shape false (line ∷ lines) before
  init_judged before place value i (inl r) = inl (r.0, r.1, inr (inl (refl, place, value, i, r.2)))
  init_judged before place value i (inr b) = inr (record {
    front = line ∷ b.front;
    bad = b.bad;
    back = b.back;
    lines_are = ap (λ ls. line ∷ ls) b.lines_are;
    init = b.init;
    ticks = b.ticks;
    read = inr (inl (refl, place, value, i, b.read));
    cause = b.cause;
    later = b.later;
    first = b.first;
  })

  tick_judged : (after : Bool) (before : List ℕ) (tick : Tick) → IsTickLine shape line tick → Judged shape true lines before → Judged shape after (line ∷ lines) before
  tick_judged after before tick i (inl r) = inl (r.0, tick ∷ r.1, inr (inr (tick, r.1, refl, i, r.2)))
  tick_judged after before tick i (inr b) = inr (record {
    front = line ∷ b.front;
    bad = b.bad;
    back = b.back;
    lines_are = ap (λ ls. line ∷ ls) b.lines_are;
    init = b.init;
    ticks = tick ∷ b.ticks;
    read = inr (inr (tick, b.ticks, refl, i, b.read));
    cause = b.cause;
    later = b.later;
    first = subst (λ a. line_faults shape a b.bad ≡ b.cause ∷ b.later) (behind_a_tick b.ticks) b.first;
  })

  bad_judged : (after : Bool) (before : List ℕ) (cause : Cause) (later : List Cause) → line_faults shape after line ≡ cause ∷ later → Judged shape after (line ∷ lines) before
  bad_judged after before cause later h = inr (record {
    front = [];
    bad = line;
    back = lines;
    lines_are = refl;
    init = before;
    ticks = [];
    read = (refl, refl);
    cause = cause;
    later = later;
    first = h;
  })

  spelled_judged : (after : Bool) (before : List ℕ) → Spelled shape after line → ((then_after : Bool) (state : List ℕ) → Judged shape then_after lines state) → Judged shape after (line ∷ lines) before
  spelled_judged after before (inl s) rest = skipped_judged after before s (rest after before)
  spelled_judged after before (inr (inl i)) rest =
      let j = init_judged before i.1.0 i.1.1 i.1.2 (rest false (slice_set before i.1.0 i.1.1)) in
      subst (λ a. Judged shape a (line ∷ lines) before) (sym i.0) j
  spelled_judged after before (inr (inr t)) rest = tick_judged after before t.0 t.1 (rest true before)

  line_judges : (after : Bool) (before : List ℕ) (faults : List Cause) → line_faults shape after line ≡ faults → ((then_after : Bool) (state : List ℕ) → Judged shape then_after lines state) → Judged shape after (line ∷ lines) before
  line_judges after before [] h rest = spelled_judged after before ((line_judged shape after line).0 h) rest
  line_judges after before (cause ∷ later) h rest = bad_judged after before cause later h

lines_judged : (shape : TraceShape) (lines : List (List ℕ)) (after : Bool) (before : List ℕ) → Judged shape after lines before
lines_judged shape [] after before = inl (before, [], (refl, refl))
lines_judged shape (line ∷ lines) after before =
    line_judges shape line lines after before (line_faults shape after line) refl (λ a state. lines_judged shape lines a state)

module _ (bytes : List ℕ) (shape : TraceShape) (lines : List (List ℕ)) (all : AreAllLines bytes lines) where
  abbrev told : BadBehind shape false lines (zeros shape) → TraceFault
  told b = record { line = length b.front + 1; start = length bytes - length (bytes_behind bytes b.front); cause = b.cause }

  shown : (b : BadBehind shape false lines (zeros shape)) → BadLine bytes shape b.init b.ticks (told b)
  shown b = record {
    before = b.front;
    bad = b.bad;
    lines = front_lines bytes (b.front ++ b.bad ∷ []) b.back (subst (AreTraceLines bytes) b.lines_are all.lines_are);
    spelled = read_spelled shape b.front b.init b.ticks b.read;
    later = b.later;
    first = subst (λ a. line_faults shape a b.bad ≡ b.cause ∷ b.later) (before_all b.ticks) b.first;
    number = refl;
    start = refl;
  }

pub spelled_or_bad : TraceIsSpelledOrBad
spelled_or_bad bytes shape =
    let all = all_lines bytes in
    elim (lines_judged shape all.0 false (zeros shape)) [
      | inl r ↦ inl (r.0, r.1, record { lines = all.0; all = all.1; spelled = read_spelled shape all.0 r.0 r.1 r.2 })
      | inr b ↦ inr (b.init, b.ticks, told bytes shape all.0 all.1 b, shown bytes shape all.0 all.1 b)
    ]
