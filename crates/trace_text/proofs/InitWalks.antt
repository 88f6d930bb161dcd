-- What the init lines at the front of a trace show.
-- Each line that is taken moves the place behind it, and the line that is not taken stops the walk or is the bad one.
use Rattle.std.proofs.Common.{◌≡◌, ℕ, ◌<◌, List, [], ◌∷◌, ◌++◌, length, drop, Bool, true, false, nat_lt, ◌&&◌, ◌||◌, Some, Err, refl, sym, ap, ◌∙◌, ◌⊎◌, inl, inr, subst, arith}
use Rattle.std.specs.Prelude.{slice_set}
use Rattle.std.proofs.lemmas.Bool.{ltb-false}
use Rattle.fir_base.specs.declared.refused.Refused.{Refused}
use Rattle.fir_base.specs.declared.refused.Refused.TheVariants.{Fault, Memory}
use Rattle.trace_text.specs.declared.fault.Cause.{Cause}
use Rattle.trace_text.specs.declared.lines.Line.{Line}
use Rattle.trace_text.specs.Lines.{AreTraceLines, bytes_behind, first_line, later_lines}
use Rattle.trace_text.specs.Shapes.{TraceShape}
use Rattle.trace_text.specs.LineFaults.{line_faults}
use Rattle.trace_text.specs.TraceSpells.{AreInits, zeros}
use Rattle.trace_text.specs.working.Readings.{IsPlace, is_skipped, is_init_line, first_cause, InitsStop, InitsRead, InitIsBad, ReadsInit}
use Rattle.trace_text.specs.working.Walks.{InitsTo, IsLine, is_before_ticks, goes_on, TakesLine, fault_at, refused_at}
use Rattle.trace_text.proofs.LineSteps.{skipped_is, lines_grow, behind_grows, filled_at, empty_at, place_moves, bad_at}

one_false : (a b : Bool) → (a && b) ≡ false → (a ≡ false) ⊎ (b ≡ false)
one_false true b h = inr h
one_false false b h = inl refl

both_false : (a b : Bool) → (a || b) ≡ false → (a ≡ false) × (b ≡ false)
both_false true b h = cc
both_false false b h = (refl, h)

-- one list of init lines behind the other
inits_join : (shape : TraceShape) (xs ys : List (List ℕ)) (before between after : List ℕ) → AreInits shape xs before between → AreInits shape ys between after → AreInits shape (xs ++ ys) before after
inits_join shape [] ys before between after h k = subst (λ state. AreInits shape ys state after) (sym h) k
inits_join shape (x ∷ xs) ys before between after (inl s) k = inl (s.0, inits_join shape xs ys before between after s.1 k)
inits_join shape (x ∷ xs) ys before between after (inr i) k = inr (i.0, i.1, i.2, inits_join shape xs ys (slice_set before i.0 i.1) between after i.3 k)

module _ (bytes : List ℕ) (shape : TraceShape) (place : ℕ) (words : List ℕ) (to : InitsTo bytes shape place words) where
  module _ (line : Line) (here : IsLine bytes line) (at : line.place ≡ place) where
    abbrev text : List ℕ
    text = line.text.now

    left : drop line.place bytes ≡ bytes_behind bytes to.lines
    left = ap (λ n. drop n bytes) at ∙ to.rest.left

    reached : AreTraceLines bytes (to.lines ++ text ∷ [])
    reached =
        let before : place < length bytes = let b = here.before in omega arith in
        lines_grow bytes to.lines text to.lines_are (filled_at bytes place (bytes_behind bytes to.lines) to.rest before) (here.text ∙ ap first_line left)

    left_behind : IsPlace bytes line.behind (bytes_behind bytes (to.lines ++ text ∷ []))
    left_behind =
        place_moves bytes line.behind (later_lines (drop line.place bytes)) here.rest (bytes_behind bytes (to.lines ++ text ∷ [])) (ap later_lines left ∙ sym (behind_grows bytes to.lines text))

    -- a line more
    pub one_taken : (new : List ℕ) → AreInits shape (text ∷ []) words new → length new ≡ length words → InitsTo bytes shape line.behind new
    one_taken new inits same = record {
      lines = to.lines ++ text ∷ [];
      lines_are = reached;
      spelled = inits_join shape to.lines (text ∷ []) (zeros shape) words new to.spelled inits;
      rest = left_behind;
      room = same ∙ to.room;
    }

    init_is_bad : (cause : Cause) → is_init_line text ≡ true → first_cause (line_faults shape false text) ≡ Some cause → InitIsBad bytes shape (fault_at bytes place cause)
    init_is_bad cause begins first = record {
      lines = to.lines;
      init = words;
      bad = text;
      place = place;
      lines_are = reached;
      spelled = to.spelled;
      begins = begins;
      rest = to.rest;
      is_bad = bad_at bytes shape false text place cause first;
    }

    pub init_refused : (new : List ℕ) (refused : Refused Cause) → TakesLine shape text words new (Err refused) → ReadsInit bytes shape (Err (refused_at bytes place refused))
    init_refused new (Fault cause) h = init_is_bad cause h.0 h.1
    init_refused new Memory h = tt

  stops_at : goes_on bytes place ≡ false → InitsStop (bytes_behind bytes to.lines)
  stops_at stops filled =
      elim (one_false (nat_lt place (length bytes)) (is_before_ticks (first_line (drop place bytes))) stops) [
        | inl end ↦ absurd (filled (empty_at bytes place (bytes_behind bytes to.lines) to.rest (ltb-false place (length bytes) end)))
        | inr line ↦
            let first = first_line (bytes_behind bytes to.lines) in
            let none : is_before_ticks first ≡ false = ap (λ rest. is_before_ticks (first_line rest)) (sym to.rest.left) ∙ line in
            let p = both_false (is_skipped first) (is_init_line first) none in
            (p.1, λ s. let e = skipped_is first s in let f = p.0 in cc)
      ]

  pub inits_read : goes_on bytes place ≡ false → InitsRead bytes shape words place
  inits_read stops = record {
    lines = to.lines;
    lines_are = to.lines_are;
    spelled = to.spelled;
    rest = to.rest;
    stops = stops_at stops;
  }
