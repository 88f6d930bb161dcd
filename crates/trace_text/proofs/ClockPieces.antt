-- The pieces of a clock list, judged one by one.
use Rattle.std.proofs.Common.{◌≡◌, ℕ, ◌+◌, List, [], ◌∷◌, map, Option, Some, None, Bool, true, false, ◌&&◌, nat_le, nat_lt, refl, sym, ap, ◌∙◌, add-one, arith}
use Rattle.std.specs.Prelude.{MatchOption}
use Rattle.std.specs.List.{list_all}
use Rattle.std.proofs.lemmas.Bool.{and_left, and_right, le-leb}
use Rattle.trace_text.specs.declared.clock_list.Clock.{Clock}
use Rattle.trace_text.specs.Spelling.{is_decimal, decimal_of, are_rising}

-- the least number that may stand behind a piece
abbrev pub low_behind : Option Clock → ℕ
low_behind None = 0
low_behind (Some before) = decimal_of before.digits.now + 1

-- whether these are the pieces of rising clocks from a number on
abbrev pub rise_from : ℕ → List (List ℕ) → Bool
rise_from low pieces = list_all is_decimal pieces && are_rising low (map decimal_of pieces)

module _ (low : ℕ) (left rest : List (List ℕ)) (piece : List ℕ) (whole : Bool) (ahead : left ≡ piece ∷ rest) (decides : rise_from low left ≡ whole) where
  first_decides : rise_from low (piece ∷ rest) ≡ whole
  first_decides = ap (rise_from low) (sym ahead) ∙ decides

  -- a piece that is no number
  pub misspelled : is_decimal piece ≡ false → false ≡ whole
  misspelled h = sym (and_left (list_all is_decimal (piece ∷ rest)) _ (and_left (is_decimal piece) _ h)) ∙ first_decides

  -- a piece that does not rise
  pub falling : nat_le low (decimal_of piece) ≡ false → false ≡ whole
  falling h = sym (and_right (list_all is_decimal (piece ∷ rest)) _ (and_left (nat_le low (decimal_of piece)) _ h)) ∙ first_decides

  -- a number that rises
  pub rising : is_decimal piece ≡ true → nat_le low (decimal_of piece) ≡ true → rise_from (decimal_of piece + 1) rest ≡ whole
  rising h k = sym (rw (h, k) refl) ∙ first_decides

pub none_left : (low : ℕ) (left : List (List ℕ)) (whole : Bool) → left ≡ [] → rise_from low left ≡ whole → true ≡ whole
none_left low left whole none decides = sym (ap (rise_from low) none) ∙ decides

-- what the test of a piece against the one before it tells
pub low_is : (before : Option Clock) (piece : List ℕ) (rises : Bool)
    → MatchOption before (rises ≡ true) (λ w. rises ≡ nat_lt (decimal_of w.digits.now) (decimal_of piece)) → nat_le (low_behind before) (decimal_of piece) ≡ rises
low_is None piece rises h = le-leb 0 (decimal_of piece) (omega arith) ∙ sym h
low_is (Some w) piece rises h = rw add-one (sym h)
