-- Lists whose elements stand one after another, from a number on, among what has numbers.
use Rattle.std.proofs.Common.{◌≡◌, ℕ, ◌+◌, List, ◌∷◌, ◌++◌, map, length, slice_get, Option, Some, None, option_map, refl, sym, ap, ◌∙◌, arith}
use Rattle.std.specs.Prelude.{slice_index_or}
use Rattle.std.proofs.lemmas.Option.{get_or_from_slice_get, same_Some, slice_get-map}
use Rattle.fir_leaf.proofs.LeafPlaces.{get_left, get_mapped, get_right}

-- at each of these numbers is what the element gives
pub record Stands {A B : Type 0} (at : ℕ → B) (g : A → B) (first : ℕ) (xs : List A) : Type 0 where
  pub each : (k : ℕ) (x : A) → slice_get xs k ≡ Some x → at (first + k) ≡ g x

-- in the middle of a list
pub stands_among : {A B : Type 0} → (f : A → B) (none : A) (front xs back whole : List A) (first : ℕ)
    → front ++ (xs ++ back) ≡ whole → length front ≡ first → Stands (λ x. f (slice_index_or whole x none)) f first xs
stands_among f none front xs back whole first is long = record {
  each = λ k x e.
      ap f
      (get_or_from_slice_get whole (first + k) x none
      (ap (λ ys. slice_get ys (first + k)) (sym is) ∙ get_right front (xs ++ back) first k long ∙ get_left xs back k x e));
}

module _ {A B : Type 0} (at : ℕ → B) (g : A → B) (first : ℕ) where
  pub stands_first : (x : A) (xs : List A) → Stands at g first (x ∷ xs) → at first ≡ g x
  stands_first x xs h = let none : first + 0 ≡ first = omega arith in rw none at (h.each 0 x refl)

  pub stands_left : (xs ys : List A) → Stands at g first (xs ++ ys) → Stands at g first xs
  stands_left xs ys h = record { each = λ k x e. h.each k x (get_left xs ys k x e) }

  pub stands_right : (n : ℕ) (xs ys : List A) → length xs ≡ n → Stands at g first (xs ++ ys) → Stands at g (first + n) ys
  stands_right n xs ys long h = record {
    each = λ k x e. let same : first + n + k ≡ first + (n + k) = omega arith in rw same (h.each (n + k) x (get_right xs ys n k long ∙ e));
  }

  pub stands_unmapped : {C : Type 0} → (f : C → A) (xs : List C) → Stands at g first (map f xs) → Stands at (λ x. g (f x)) first xs
  stands_unmapped f xs h = record { each = λ k x e. h.each k (f x) (get_mapped f xs k x e) }

  pub stands_mapped : {C : Type 0} → (f : C → A) (xs : List C) → Stands at (λ x. g (f x)) first xs → Stands at g first (map f xs)
  stands_mapped {C} f xs h = record { each = λ k y e. by k y (slice_get xs k) refl (sym (slice_get-map f xs k) ∙ e) }
    where
      by : (k : ℕ) (y : A) (o : Option C) → slice_get xs k ≡ o → option_map f o ≡ Some y → at (first + k) ≡ g y
      by k y None e i = absurd (cc)
      by k y (Some x) e i = h.each k x e ∙ ap g (same_Some (f x) y i)
