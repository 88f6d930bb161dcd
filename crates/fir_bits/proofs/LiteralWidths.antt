-- The widths that hold the number of a literal, and the search for the least of them.
use Rattle.std.proofs.Common.{◌≡◌, ℕ, zero, suc, ◌+◌, ◌^◌, ◌<◌, ◌≤◌, Bool, true, false, inl, inr, arith, refl}
use Rattle.std.proofs.lemmas.Bool.{cases_Bool, cases_lt}
use Rattle.std.proofs.lemmas.Bool.Decides.{nat_tests}
use Rattle.fir_bits.proofs.Powers.{pow_le}
use Rattle.fir_bits.specs.Literals.{holds_number, first_holding, least_width}
use Rattle.fir_bits.specs.working.Laws.{IsLeastWidth}

-- more than 128 bits hold each magnitude of 128
pub holds_number-wide : (signed : Bool) (w : ℕ) (negative : Bool) (m : ℕ) → 128 < w → m < 2 ^ 128 → true ≡ holds_number signed w negative m
holds_number-wide false w negative m wide below = let power = pow_le 129 w wide in grind (arith, nat_tests)
holds_number-wide true w false m wide below = let power = pow_le 129 w wide in grind (arith, nat_tests)
holds_number-wide true w true m wide below = let power = pow_le 129 w wide in grind (arith, nat_tests)

-- a search is done where the first of its widths holds the number
pub first_holding-found : (signed negative : Bool) (m n w : ℕ) → 0 < n → holds_number signed w negative m ≡ true → first_holding signed negative m n w ≡ w
first_holding-found signed negative m zero w some holds = absurd (omega arith)
first_holding-found signed negative m (suc n) w some holds = rw holds refl

-- and goes on from the next where it does not
pub first_holding-next : (signed negative : Bool) (m n k w : ℕ) → n ≡ suc k → holds_number signed w negative m ≡ false
    → first_holding signed negative m n w ≡ first_holding signed negative m k (w + 1)
first_holding-next signed negative m n k w is not = rw (is, not) refl

-- what the first of n widths from w on is that holds the number, or the width behind them
record IsFirst (signed negative : Bool) (m n w f : ℕ) : Type 0 where
  pub low : w ≤ f
  pub high : f ≤ w + n
  pub holds : f < w + n → holds_number signed f negative m ≡ true
  pub least : (v : ℕ) → w ≤ v → holds_number signed v negative m ≡ true → f ≤ v

first_holding-is_first : (signed negative : Bool) (m n w : ℕ) → IsFirst signed negative m n w (first_holding signed negative m n w)
first_holding-is_first signed negative m zero w = record {
  low = omega arith;
  high = omega arith;
  holds = λ h. absurd (omega arith);
  least = λ v h k. h;
}
first_holding-is_first signed negative m (suc n) w =
    let rest = first_holding-is_first signed negative m n (w + 1) in
    elim (cases_Bool (holds_number signed w negative m)) [
      | inl is ↦ rw is (record {
        low = omega arith;
        high = omega arith;
        holds = λ h. is;
        least = λ v h k. h;
      })
      | inr is ↦ rw is (record {
        low = omega (arith, rest.low);
        high = omega (arith, rest.high);
        holds = λ h. rest.holds (omega arith);
        least = λ v h k. rest.least v (elim (cases_lt w v) [ inl above ↦ omega arith | inr at_most ↦ absurd (same v (omega arith) k is) ]) k;
      })
    ]
  where
    same : (v : ℕ) → v ≡ w → holds_number signed v negative m ≡ true → holds_number signed w negative m ≡ false → ⊥
    same v e k is = cc

-- and so with the widths from 1 to 128
pub least_width-is_least : (signed negative : Bool) (m : ℕ) → IsLeastWidth signed negative m (least_width signed negative m)
unfolding least_width
least_width-is_least signed negative m =
    let first = first_holding-is_first signed negative m 128 1 in
    record {
      low = first.low;
      high = first.high;
      holds = λ h. first.holds (omega arith);
      least = first.least;
    }
