-- Numbers that fit widths, and numbers that rise, by their places.
use Rattle.std.proofs.Common.{◌≡◌, ℕ, zero, suc, ◌+◌, ◌^◌, ◌<◌, ◌≤◌, List, [], ◌∷◌, length, get_or, map, refl, ap, ◌∙◌, sym, arith, false, eqb, Result, Ok, Err, MatchResult, eq-eqb}
use Rattle.std.specs.Result.{is_ok}
use Rattle.std.proofs.lemmas.List.{length-map}
use Rattle.std.proofs.lemmas.List.Folds.{list_any_at, list_any_none}
use Rattle.std.proofs.lemmas.List.Elements.{All-from_get_or}
use Rattle.std.proofs.lemmas.Bool.Decides.{nat_tests}
use Rattle.std.specs.List.{AllByRecursion}
use Rattle.fir_base.specs.Ticks.{FitEach, AreClocks, rises}
use Rattle.fir_bits.specs.Values.{IsBitVector}
use Rattle.fir_tick.specs.working.Passes.{values_of}

pub fit_long : (ws vs : List ℕ) → FitEach ws vs → length vs ≡ length ws
fit_long [] [] h = refl
fit_long [] (v ∷ vs) h = absurd h
fit_long (w ∷ ws) [] h = absurd h
fit_long (w ∷ ws) (v ∷ vs) h = ap suc (fit_long ws vs h.1)

pub fit_at : (ws vs : List ℕ) → FitEach ws vs → (i : ℕ) → i < length ws → get_or vs i 0 < 2 ^ get_or ws i 0
fit_at [] vs h i lt = absurd (omega arith)
fit_at (w ∷ ws) [] h i lt = absurd h
fit_at (w ∷ ws) (v ∷ vs) h zero lt = h.0
fit_at (w ∷ ws) (v ∷ vs) h (suc i) lt = fit_at ws vs h.1 i (omega arith)

-- numbers that fit narrow widths are values at them
pub values_whole : (ws ns : List ℕ) → FitEach ws ns → AllByRecursion (λ w. w ≤ 128) ws → AllByRecursion IsBitVector (values_of ws ns)
values_whole [] [] h narrow = tt
values_whole [] (n ∷ ns) h narrow = absurd h
values_whole (w ∷ ws) [] h narrow = absurd h
values_whole (w ∷ ws) (n ∷ ns) h narrow = (record { narrow = narrow.0; below = h.0 }, values_whole ws ns h.1 narrow.1)

pub fit_count : {P : Type 0} → (width : P → ℕ) (ps : List P) (vs : List ℕ) → FitEach (map width ps) vs → length vs ≡ length ps
fit_count width ps vs h = fit_long (map width ps) vs h ∙ length-map ps width

above : (low count : ℕ) (ks : List ℕ) → AreClocks low count ks → (i : ℕ) → i < length ks → low ≤ get_or ks i 0
above low count [] h i lt = absurd (omega arith)
above low count (k ∷ ks) h zero lt = h.0
above low count (k ∷ ks) h (suc i) lt = let rest = above (k + 1) count ks h.2 i (omega arith) in let first = h.0 in omega arith

pub clocks_rise : (low count : ℕ) (ks : List ℕ) → AreClocks low count ks → (i j : ℕ) → i ≤ j → j < length ks → get_or ks i 0 ≤ get_or ks j 0
clocks_rise low count [] h i j le lt = absurd (omega arith)
clocks_rise low count (k ∷ ks) h zero zero le lt = omega arith
clocks_rise low count (k ∷ ks) h zero (suc j) le lt = let rest = above (k + 1) count ks h.2 j (omega arith) in omega arith
clocks_rise low count (k ∷ ks) h (suc i) zero le lt = absurd (omega arith)
clocks_rise low count (k ∷ ks) h (suc i) (suc j) le lt = clocks_rise (k + 1) count ks h.2 i j (omega arith) (omega arith)

-- what a search found is what some element is
pub search_rises : (ks : List ℕ) (k : ℕ) (r : Result ℕ ℕ)
    → MatchResult r (λ i. (i < length ks) × (get_or ks i 0 ≡ k)) (λ i. (i ≤ length ks) × ((j : ℕ) → j < i → get_or ks j 0 < k) × ((j : ℕ) → i ≤ j → j < length ks → k < get_or ks j 0))
    → is_ok r ≡ rises ks k
search_rises ks k (Ok i) h = sym (list_any_at (eqb k) ks i 0 h.0 (eq-eqb k (get_or ks i 0) (sym h.1)))
search_rises ks k (Err i) h = sym (list_any_none (eqb k) ks (All-from_get_or (λ (x : ℕ). eqb k x ≡ false) ks 0 (λ j lt. other j lt)))
  where
    other : (j : ℕ) → j < length ks → eqb k (get_or ks j 0) ≡ false
    other j lt =
        let low = h.1 j in
        let high = h.2 j in
        grind (arith, nat_tests)
