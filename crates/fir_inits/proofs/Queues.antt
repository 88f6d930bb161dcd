-- Those that are to be looked at, in two lists: one more, and one less.
use Rattle.std.proofs.Common.{◌≡◌, ℕ, suc, ◌+◌, List, [], ◌∷◌, ◌++◌, length, length-append, refl, inl, inr, ◌⊎◌, ⊎_elim, arith}
use Rattle.fir_base.specs.Lists.{In}
use Rattle.fir_base.proofs.Members.{in_left, in_right, in_either}

abbrev pub InEither : List ℕ → List ℕ → ℕ → Type 0
InEither near far i = In near i ⊎ In far i

-- all of some and one more
pub record IsMore (near far more_near more_far : List ℕ) (i : ℕ) : Type 0 where
  pub here : InEither more_near more_far i
  pub stays : (j : ℕ) → InEither near far j → InEither more_near more_far j
  pub from : (j : ℕ) → InEither more_near more_far j → InEither near far j ⊎ (i ≡ j)
  pub count : length more_near + length more_far ≡ suc (length near + length far)

more_last : (xs : List ℕ) (i j : ℕ) → In (xs ++ i ∷ []) j → In xs j ⊎ (i ≡ j)
more_last xs i j h = ⊎_elim (λ (m : In xs j). inl m) (λ (m : (i ≡ j) ⊎ ⊥). ⊎_elim (λ (e : i ≡ j). inr e) (λ (n : ⊥). absurd n) m) (in_either xs (i ∷ []) j h)

longer : (xs : List ℕ) (i : ℕ) → length (xs ++ i ∷ []) ≡ suc (length xs)
longer xs i = simp length-append (omega arith)

pub near_more : (near far : List ℕ) (i : ℕ) → IsMore near far (near ++ i ∷ []) far i
near_more near far i = record {
  here = inl (in_right near (i ∷ []) i (inl refl));
  stays = λ j h. ⊎_elim (λ (m : In near j). inl (in_left near (i ∷ []) j m)) (λ (m : In far j). inr m) h;
  from = λ j h.
      ⊎_elim
      (λ (m : In (near ++ i ∷ []) j). ⊎_elim (λ (n : In near j). inl (inl n)) (λ (e : i ≡ j). inr e) (more_last near i j m))
      (λ (m : In far j). inl (inr m)) h;
  count = omega (arith, longer near i);
}

pub far_more : (near far : List ℕ) (i : ℕ) → IsMore near far near (far ++ i ∷ []) i
far_more near far i = record {
  here = inr (in_right far (i ∷ []) i (inl refl));
  stays = λ j h. ⊎_elim (λ (m : In near j). inl m) (λ (m : In far j). inr (in_left far (i ∷ []) j m)) h;
  from = λ j h.
      ⊎_elim
      (λ (m : In near j). inl (inl m))
      (λ (m : In (far ++ i ∷ []) j). ⊎_elim (λ (n : In far j). inl (inr n)) (λ (e : i ≡ j). inr e) (more_last far i j m)) h;
  count = omega (arith, longer far i);
}

-- the far ones in place of the near ones
pub swapped_more : (rest : List ℕ) (i : ℕ) → IsMore rest [] [] (rest ++ i ∷ []) i
swapped_more rest i = record {
  here = inr (in_right rest (i ∷ []) i (inl refl));
  stays = λ j h. ⊎_elim (λ (m : In rest j). inr (in_left rest (i ∷ []) j m)) (λ (m : ⊥). absurd m) h;
  from = λ j h.
      ⊎_elim
      (λ (m : ⊥). absurd m)
      (λ (m : In (rest ++ i ∷ []) j). ⊎_elim (λ (n : In rest j). inl (inl n)) (λ (e : i ≡ j). inr e) (more_last rest i j m)) h;
  count = omega (arith, longer rest i);
}
