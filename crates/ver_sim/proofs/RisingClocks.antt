-- Clocks that are named in rising order.
use Rattle.std.proofs.Common.{◌≡◌, ℕ, zero, suc, ◌+◌, ◌<◌, ◌≤◌, List, [], ◌∷◌, length, get_or, sym, arith, false, eqb, Result, Ok, Err, MatchResult, eq-eqb}
use Rattle.std.specs.Result.{is_ok}
use Rattle.std.proofs.lemmas.List.Folds.{list_any_at, list_any_none}
use Rattle.std.proofs.lemmas.List.Elements.{All-from_get_or}
use Rattle.std.proofs.lemmas.Bool.Decides.{nat_tests}
use Rattle.fir_base.specs.Ticks.{AreClocks, rises}
use Rattle.ver_sim.specs.working.Blocks.{IsRising}

above : (low count : ℕ) (ks : List ℕ) → AreClocks low count ks → (i : ℕ) → i < length ks → low ≤ get_or ks i 0
above low count [] h i lt = absurd (omega arith)
above low count (k ∷ ks) h zero lt = h.0
above low count (k ∷ ks) h (suc i) lt = let rest = above (k + 1) count ks h.2 i (omega arith) in let first = h.0 in omega arith

pub clocks_rise : (low count : ℕ) (ks : List ℕ) → AreClocks low count ks → IsRising ks
clocks_rise low count [] h i j le lt = absurd (omega arith)
clocks_rise low count (k ∷ ks) h zero zero le lt = omega arith
clocks_rise low count (k ∷ ks) h zero (suc j) le lt = let rest = above (k + 1) count ks h.2 j (omega arith) in omega arith
clocks_rise low count (k ∷ ks) h (suc i) zero le lt = absurd (omega arith)
clocks_rise low count (k ∷ ks) h (suc i) (suc j) le lt = clocks_rise (k + 1) count ks h.2 i j (omega arith) (omega arith)

-- what a search found is what some element is
pub search_rises : (ks : List ℕ) (k : ℕ) (r : Result ℕ ℕ)
    → MatchResult r (λ i. (i < length ks) × (get_or ks i 0 ≡ k)) (λ i. (i ≤ length ks) × ((j : ℕ) → j < i → get_or ks j 0 < k) × ((j : ℕ) → i ≤ j → j < length ks → k < get_or ks j 0))
    → is_ok r ≡ rises ks k
search_rises ks k (Ok i) h = sym (list_any_at (eqb k) ks i 0 h.0 (eq-eqb k (get_or ks i 0) (sym h.1)))
search_rises ks k (Err i) h = sym (list_any_none (eqb k) ks (All-from_get_or (λ (x : ℕ). eqb k x ≡ false) ks 0 (λ j lt. other j lt)))
  where
    other : (j : ℕ) → j < length ks → eqb k (get_or ks j 0) ≡ false
    other j lt =
        let low = h.1 j in
        let high = h.2 j in
        grind (arith, nat_tests)
