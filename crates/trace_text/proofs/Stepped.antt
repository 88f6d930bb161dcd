-- The steps of the readers make the whole trace, or its first bad line.
use Rattle.std.proofs.Common.{◌≡◌, ℕ, List, [], ◌∷◌, ◌++◌, drop, Bool, true, false, refl, ap, sym, ◌∙◌, subst, arith, append_assoc}
use Rattle.std.specs.List.{AllByRecursion}
use Rattle.fir_base.specs.Ticks.{Tick}
use Rattle.trace_text.specs.declared.fault.TraceFault.{TraceFault}
use Rattle.trace_text.specs.Lines.{words_of, AreTraceLines, bytes_behind, IsSkipped}
use Rattle.trace_text.specs.Shapes.{TraceShape}
use Rattle.trace_text.specs.LineFaults.{word_faults, line_faults}
use Rattle.trace_text.specs.TraceSpells.{LinesSpell, TraceSpells}
use Rattle.trace_text.specs.BadLine.{are_some, BadLine}
use Rattle.trace_text.specs.working.Readings.{IsPlace, InitsStop, InitsRead, InitIsBad, TickRead, NoTick, TickIsBad, IsBad, begins_with_init, is_init_line}
use Rattle.trace_text.specs.working.Steps.{IsReadTo, TraceReadsInSteps}
use Rattle.fir_base.proofs.Empty.{empty_right}
use Rattle.trace_text.proofs.LineFronts.{front_lines, last_there}
use Rattle.trace_text.proofs.JoinedLines.{lines_behind, behind-append, spelled_tick, spelled_skipped, spelled_inits}
use Rattle.trace_text.proofs.PlacedLines.{place_is, newlines_before}

-- a line that does not begin with `init` is judged alike in each place
words_alike : (shape : TraceShape) (words : List (List ℕ)) → begins_with_init words ≡ false → word_faults shape true words ≡ word_faults shape false words
words_alike shape [] h = refl
words_alike shape (w ∷ ws) h = rw h refl

judged_alike : (shape : TraceShape) (line : List ℕ) → is_init_line line ≡ false → line_faults shape false line ≡ line_faults shape true line
judged_alike shape line h = rw (words_alike shape (words_of line) h) refl

-- the first line of the next ones is neither skipped nor begins with `init`, so it is the bad one
bad_no_init : (rest : List ℕ) (skipped : List (List ℕ)) (bad : List ℕ) → InitsStop rest → AreTraceLines rest (skipped ++ bad ∷ [])
    → AllByRecursion IsSkipped skipped → is_init_line bad ≡ false
bad_no_init rest [] bad stops lines are_skipped = subst (λ l. is_init_line l ≡ false) (sym lines.1) (stops lines.0).0
bad_no_init rest (line ∷ skipped) bad stops lines are_skipped = absurd ((stops lines.0).1 (subst IsSkipped lines.1 are_skipped.0))

-- behind ticks each line is judged as one that is behind a tick
alike_behind : (shape : TraceShape) (ticks : List Tick) (line : List ℕ) → (ticks ≡ [] → is_init_line line ≡ false)
    → line_faults shape (are_some ticks) line ≡ line_faults shape true line
alike_behind shape [] line no_init = judged_alike shape line (no_init refl)
alike_behind shape (tick ∷ ticks) line no_init = refl

some_tick : (ticks : List Tick) (tick : Tick) → ticks ++ tick ∷ [] ≡ [] → ⊥
some_tick ticks tick none = let e : tick ∷ [] ≡ [] = empty_right ticks (tick ∷ []) none in cc

module _ (bytes : List ℕ) (shape : TraceShape) where
  bad_behind : (init : List ℕ) (ticks : List Tick) (fault : TraceFault) (after : Bool) (before : List (List ℕ)) (bad : List ℕ) (place : ℕ)
      → AreTraceLines bytes (before ++ bad ∷ []) → LinesSpell shape before init ticks → IsPlace bytes place (bytes_behind bytes before) → IsBad bytes shape after bad place fault
      → line_faults shape (are_some ticks) bad ≡ line_faults shape after bad → BadLine bytes shape init ticks fault
  bad_behind init ticks fault after before bad place lines spelled rest is alike =
      let newlines = newlines_before bytes place before (front_lines bytes before (bad ∷ []) lines) (last_there bytes before bad lines) rest in record {
        before = before;
        bad = bad;
        lines = lines;
        spelled = spelled;
        later = is.later;
        first = alike ∙ is.first;
        number = let n = is.number in omega arith;
        start = is.start ∙ place_is bytes place (bytes_behind bytes before) rest;
      }

  begun : (init : List ℕ) (place : ℕ) → InitsRead bytes shape init place → IsReadTo bytes shape init [] place
  begun init place r = record {
    lines = r.lines;
    lines_are = r.lines_are;
    spelled = spelled_inits shape r.lines init r.spelled;
    rest = r.rest;
    stops = λ none. r.stops;
  }

  init_bad : (fault : TraceFault) → InitIsBad bytes shape fault → (init : List ℕ) × BadLine bytes shape init [] fault
  init_bad fault b = (b.init, bad_behind b.init [] fault false b.lines b.bad b.place b.lines_are (spelled_inits shape b.lines b.init b.spelled) b.rest b.is_bad refl)

  module _ (init : List ℕ) (ticks : List Tick) (from : ℕ) (r : IsReadTo bytes shape init ticks from) where
    -- lines from the place on stand behind the lines that are read
    next_lines : (more : List (List ℕ)) → AreTraceLines (drop from bytes) more → AreTraceLines bytes (r.lines ++ more)
    next_lines more h = lines_behind bytes r.lines more r.lines_are (subst (λ bs. AreTraceLines bs more) r.rest.left h)

    next_behind : (more : List (List ℕ)) → bytes_behind (drop from bytes) more ≡ bytes_behind bytes (r.lines ++ more)
    next_behind more = ap (λ bs. bytes_behind bs more) r.rest.left ∙ sym (behind-append bytes r.lines more)

    gone_on : (to : ℕ) (tick : Tick) → TickRead bytes shape from to tick → IsReadTo bytes shape init (ticks ++ tick ∷ []) to
    gone_on to tick t =
        let more = t.skipped ++ t.line ∷ [] in record {
          lines = r.lines ++ more;
          lines_are = next_lines more t.lines_are;
          spelled = spelled_tick shape r.lines t.skipped t.line init ticks tick r.spelled t.are_skipped t.spelled;
          rest = subst (IsPlace bytes to) (next_behind more) t.rest;
          stops = λ none. absurd (some_tick ticks tick none);
        }

    ended : (to : ℕ) → NoTick bytes from to → TraceSpells bytes shape init ticks
    ended to n = record {
      lines = r.lines ++ n.skipped;
      all = record { lines_are = next_lines n.skipped n.lines_are; whole = sym (next_behind n.skipped) ∙ n.whole };
      spelled = spelled_skipped shape r.lines n.skipped init ticks r.spelled n.are_skipped;
    }

    tick_bad : (to : ℕ) (fault : TraceFault) → TickIsBad bytes shape from to fault → BadLine bytes shape init ticks fault
    tick_bad to fault b =
        let more = b.skipped ++ b.bad ∷ [] in
        let lines = subst (AreTraceLines bytes) (sym (append_assoc r.lines b.skipped (b.bad ∷ []))) (next_lines more b.lines_are) in
        let spelled = spelled_skipped shape r.lines b.skipped init ticks r.spelled b.are_skipped in
        let front = subst (λ bs. AreTraceLines bs more) r.rest.left b.lines_are in
        let no_init = λ (none : ticks ≡ []). bad_no_init (bytes_behind bytes r.lines) b.skipped b.bad (r.stops none) front b.are_skipped in
        let rest = subst (IsPlace bytes to) (next_behind b.skipped) b.rest in
        bad_behind init ticks fault true (r.lines ++ b.skipped) b.bad to lines spelled rest b.is_bad (alike_behind shape ticks b.bad no_init)

pub reads_in_steps : TraceReadsInSteps
reads_in_steps bytes shape = record {
  begins = begun bytes shape;
  goes_on = λ init ticks from to tick r t. gone_on bytes shape init ticks from r to tick t;
  ends = λ init ticks from to r n. ended bytes shape init ticks from r to n;
  is_bad = λ init ticks from to fault r b. tick_bad bytes shape init ticks from r to fault b;
  init_is_bad = init_bad bytes shape;
}
