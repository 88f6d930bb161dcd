-- The first leaf whose condition is met is the one that the indices pick.
use Rattle.std.proofs.Common.{◌≡◌, ℕ, zero, suc, ◌+◌, ◌*◌, ◌<◌, ◌≤◌, List, [], ◌∷◌, ◌++◌, map, flat_map, Bool, true, false, nat_lt, if◌then◌else◌, Option, Some, None, option_map, refl, ap, ◌∙◌, inl, inr, arith}
use Rattle.std.proofs.lemmas.Bool.{ltb-true, ltb-false}
use Rattle.fir_base.specs.Lists.{In}
use Rattle.fir_meaning.specs.Values.{is_high}
use Rattle.fir_meaning.specs.working.TermReads.{multiples}
use Rattle.fir_meaning.specs.working.TermValues.{Holds, picked}
use Rattle.fir_connect.specs.working.NetTerms.{NetTerm}
use Rattle.fir_connect.specs.working.NetValues.{term_value}
use Rattle.fir_connect.specs.working.Lowered.{numbers_from}

module _ (holds : Holds) (numbers : ℕ → ℕ) where
  -- whether a condition is met; where there is none, it is
  abbrev pub is_met : Option NetTerm → Bool
  is_met None = true
  is_met (Some c) = is_high (term_value holds numbers c ∷ [])

  -- of leaves and their conditions the first that is met
  abbrev pub first_of : List ℕ → List (Option NetTerm) → Option ℕ
  first_of (x ∷ xs) (c ∷ cs) = if is_met c then Some x else first_of xs cs
  first_of _ _ = None

  without_conditions : (xs : List ℕ) → first_of xs [] ≡ None
  without_conditions [] = refl
  without_conditions (x ∷ xs) = refl

  -- elements of which none is picked
  none_of : (x n each k : ℕ) (f : ℕ → Option NetTerm) (xs : List ℕ) (cs : List (Option NetTerm)) → ((j : ℕ) → j < k + n → is_met (f j) ≡ false)
      → first_of (multiples x n each ++ xs) (map f (numbers_from k n) ++ cs) ≡ first_of xs cs
  unfolding multiples
  none_of x zero each k f xs cs unmet = refl
  none_of x (suc n) each k f xs cs unmet = rw (unmet k (omega arith)) (none_of (x + each) n each (suc k) f xs cs (λ j below. unmet j (omega arith)))

  -- elements of which one is picked
  one_of : (x n each k d : ℕ) (f : ℕ → Option NetTerm) (xs : List ℕ) (cs : List (Option NetTerm)) → d < n → is_met (f (k + d)) ≡ true
      → ((j : ℕ) → j < k + d → is_met (f j) ≡ false)
      → first_of (multiples x n each ++ xs) (map f (numbers_from k n) ++ cs) ≡ Some (x + d * each)
  unfolding multiples
  one_of x zero each k d f xs cs lt met unmet = absurd (omega arith)
  one_of x (suc n) each k zero f xs cs lt met unmet =
      let here : is_met (f k) ≡ true = (let e : k ≡ k + 0 = omega arith in ap (λ j. is_met (f j)) e ∙ met) in
      rw here (ap Some (omega arith))
  one_of x (suc n) each k (suc d) f xs cs lt met unmet =
      let e : suc k + d ≡ k + suc d = omega arith in
      rw (unmet k (omega arith))
      (one_of (x + each) n each (suc k) d f xs cs (omega arith) (ap (λ j. is_met (f j)) e ∙ met) (λ j below. unmet j (omega arith)) ∙ ap Some (grind arith))

  -- what the conditions of elements say: that the earlier condition is met and the index is the element's number
  pub record Tells (v : ℕ) (earlier : Option NetTerm) (f : ℕ → Option NetTerm) : Type 0 where
    pub unmet : is_met earlier ≡ false → (j : ℕ) → is_met (f j) ≡ false
    pub met : is_met earlier ≡ true → is_met (f v) ≡ true
    pub others : (j : ℕ) → (j ≡ v → ⊥) → is_met (f j) ≡ false

  module _ (v n each : ℕ) (f : Option NetTerm → ℕ → Option NetTerm) where
    abbrev leaves : List ℕ → List ℕ
    leaves xs = flat_map (λ k. multiples k n each) xs

    abbrev all_conditions : List (Option NetTerm) → List (Option NetTerm)
    all_conditions cs = flat_map (λ c. map (f c) (numbers_from 0 n)) cs

    out_of_range : (xs : List ℕ) (cs : List (Option NetTerm)) → ((c : Option NetTerm) → In cs c → Tells v c (f c)) → n ≤ v
        → first_of (leaves xs) (all_conditions cs) ≡ None
    out_of_range [] cs tells out = refl
    out_of_range (x ∷ xs) [] tells out = without_conditions (leaves (x ∷ xs))
    out_of_range (x ∷ xs) (c ∷ cs) tells out =
        none_of x n each 0 (f c) (leaves xs) (all_conditions cs) (λ j below. (tells c (inl refl)).others j (λ e. absurd (omega (arith, e))))
        ∙ out_of_range xs cs (λ d m. tells d (inr m)) out

    in_range : (xs : List ℕ) (cs : List (Option NetTerm)) → ((c : Option NetTerm) → In cs c → Tells v c (f c)) → v < n
        → first_of (leaves xs) (all_conditions cs) ≡ option_map (λ k. k + v * each) (first_of xs cs)
    in_range [] cs tells lt = refl
    in_range (x ∷ xs) [] tells lt = without_conditions (leaves (x ∷ xs))
    in_range (x ∷ xs) (c ∷ cs) tells lt = go (is_met c) refl (in_range xs cs (λ d m. tells d (inr m)) lt)
      where
        told : Tells v c (f c)
        told = tells c (inl refl)

        go : (b : Bool) → is_met c ≡ b → first_of (leaves xs) (all_conditions cs) ≡ option_map (λ k. k + v * each) (first_of xs cs)
            → first_of (leaves (x ∷ xs)) (all_conditions (c ∷ cs)) ≡ option_map (λ k. k + v * each) (if b then Some x else first_of xs cs)
        go true e rest =
            let here : is_met (f c (0 + v)) ≡ true = (let z : 0 + v ≡ v = omega arith in ap (λ j. is_met (f c j)) z ∙ told.met e) in
            one_of x n each 0 v (f c) (leaves xs) (all_conditions cs) lt here (λ j below. told.others j (λ same. absurd (omega (arith, same))))
        go false e rest = none_of x n each 0 (f c) (leaves xs) (all_conditions cs) (λ j below. told.unmet e j) ∙ rest

    pub first_is_picked : (xs : List ℕ) (cs : List (Option NetTerm)) → ((c : Option NetTerm) → In cs c → Tells v c (f c))
        → first_of (leaves xs) (all_conditions cs) ≡ picked v n each (first_of xs cs)
    first_is_picked xs cs tells = go (nat_lt v n) refl
      where
        go : (b : Bool) → nat_lt v n ≡ b → first_of (leaves xs) (all_conditions cs) ≡ (if b then option_map (λ k. k + v * each) (first_of xs cs) else None)
        go true e = in_range xs cs tells (ltb-true v n e)
        go false e = out_of_range xs cs tells (ltb-false v n e)
