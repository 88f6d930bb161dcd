-- One line more at the front of bytes.
-- The place in the bytes tells whether a line stands there, and what it is.
use Rattle.std.proofs.Common.{◌≡◌, ◌≢◌, ℕ, ◌<◌, ◌≤◌, List, [], ◌∷◌, ◌++◌, length, drop, length-drop, Bool, true, false, nat_le, ◌&&◌, refl, sym, ap, ◌∙◌, arith, Some}
use Rattle.std.specs.List.{AllByRecursion}
use Rattle.std.proofs.lemmas.Bool.{leb-true, le-leb}
use Rattle.std.proofs.lemmas.List.{drop_all}
use Rattle.trace_text.specs.Lines.{line_limit, AreTraceLines, bytes_behind, first_line, later_lines, is_remark, IsSkipped}
use Rattle.trace_text.specs.working.Readings.{IsPlace, is_skipped, first_cause, IsBad}
use Rattle.trace_text.specs.declared.fault.Cause.{Cause}
use Rattle.trace_text.specs.Shapes.{TraceShape}
use Rattle.trace_text.specs.LineFaults.{line_faults}
use Rattle.trace_text.specs.working.Walks.{fault_at}
use Rattle.fir_base.proofs.Tests.{both}

pub skipped_so : (line : List ℕ) → is_skipped line ≡ true → IsSkipped line
skipped_so line h = let p = both (nat_le (length line) line_limit) (is_remark line) h in record { short = leb-true (length line) line_limit p.0; remark = p.1 }

both_true : (a b : Bool) → a ≡ true → b ≡ true → (a && b) ≡ true
both_true true b h k = k
both_true false b h k = cc

pub skipped_is : (line : List ℕ) → IsSkipped line → is_skipped line ≡ true
skipped_is line s = both_true (nat_le (length line) line_limit) (is_remark line) (le-leb (length line) line_limit s.short) s.remark

pub lines_grow : (bytes : List ℕ) (xs : List (List ℕ)) (line : List ℕ) → AreTraceLines bytes xs → bytes_behind bytes xs ≢ [] → line ≡ first_line (bytes_behind bytes xs) → AreTraceLines bytes (xs ++ line ∷ [])
lines_grow bytes [] line h filled first = (filled, first, tt)
lines_grow bytes (x ∷ xs) line h filled first = (h.0, h.1, lines_grow (later_lines bytes) xs line h.2 filled first)

pub behind_grows : (bytes : List ℕ) (xs : List (List ℕ)) (line : List ℕ) → bytes_behind bytes (xs ++ line ∷ []) ≡ later_lines (bytes_behind bytes xs)
behind_grows bytes [] line = refl
behind_grows bytes (x ∷ xs) line = behind_grows (later_lines bytes) xs line

pub all_grow : (P : List ℕ → Type 0) (xs : List (List ℕ)) (line : List ℕ) → AllByRecursion P xs → P line → AllByRecursion P (xs ++ line ∷ [])
all_grow P [] line h k = (k, tt)
all_grow P (x ∷ xs) line h k = (h.0, all_grow P xs line h.1 k)

module _ (bytes : List ℕ) (place : ℕ) (rest : List ℕ) (here : IsPlace bytes place rest) where
  -- before the end a line stands there
  pub filled_at : place < length bytes → rest ≢ []
  filled_at before e =
      let none : drop place bytes ≡ [] = here.left ∙ e in
      let m : length (drop place bytes) ≡ 0 = ap length none in
      omega (arith, length-drop place bytes)

  pub empty_at : length bytes ≤ place → rest ≡ []
  empty_at end = sym here.left ∙ drop_all place bytes end

  -- the place, where the bytes behind it are these
  pub place_moves : (other : List ℕ) → rest ≡ other → IsPlace bytes place other
  place_moves other e = record { within = here.within; left = here.left ∙ e }

-- what is told of a line is the first of what is wrong with it
told_first : (causes : List Cause) (cause : Cause) → first_cause causes ≡ Some cause → (later : List Cause) × (causes ≡ cause ∷ later)
told_first [] cause h = cc
told_first (c ∷ later) cause h = (later, (cc))

pub bad_at : (bytes : List ℕ) (shape : TraceShape) (after : Bool) (line : List ℕ) (place : ℕ) (cause : Cause) → first_cause (line_faults shape after line) ≡ Some cause
    → IsBad bytes shape after line place (fault_at bytes place cause)
bad_at bytes shape after line place cause h =
    let told = told_first (line_faults shape after line) cause h in
    record { later = told.0; first = told.1; start = refl; number = refl }
