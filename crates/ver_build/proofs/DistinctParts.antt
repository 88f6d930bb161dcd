-- Lists joined of the parts that elements give: no element of them stands twice where each part is such a list and no two elements give the same.
use Rattle.std.proofs.Common.{◌≡◌, ℕ, zero, suc, List, [], ◌∷◌, flat_map, refl, sym, ap, inl, inr, subst, arith, Some}
use Rattle.std.specs.Prelude.{slice_get}
use Rattle.fir_base.specs.Lists.{In, Distinct}
use Rattle.fir_base.proofs.Elements.{number_of, get_in}
use Rattle.fir_base.proofs.Members.{in_flat_map, in_flat_map_from}
use Rattle.fir_base.proofs.Twins.{apart, distinct_left, distinct_right, distinct_joined}

-- no two places give the same
pub record AreApart {A B : Type 0} (f : A → List B) (xs : List A) : Type 0 where
  pub each : (i j : ℕ) (x y : A) (b : B) → slice_get xs i ≡ Some x → slice_get xs j ≡ Some y → In (f x) b → In (f y) b → i ≡ j

pub parts_distinct : {A B : Type 0} → (f : A → List B) (xs : List A) → AreApart f xs → ((x : A) → In xs x → Distinct (f x)) → Distinct (flat_map f xs)
parts_distinct f [] apart_all once = tt
parts_distinct f (x ∷ xs) apart_all once =
    distinct_joined (f x) (flat_map f xs) (once x (inl refl))
    (parts_distinct f xs
    (record { each = λ i j y z b at other m n. let e : suc i ≡ suc j = apart_all.each (suc i) (suc j) y z b at other m n in omega arith })
    (λ y m. once y (inr m)))
    (λ b m n.
    let from = in_flat_map_from f xs b n in
    let place = number_of xs from.0 from.1 in
    let e : 0 ≡ suc place.0 = apart_all.each 0 (suc place.0) x from.0 b refl place.1 m from.2 in
    absurd (omega arith))

pub part_distinct : {A B : Type 0} → (f : A → List B) (xs : List A) → Distinct (flat_map f xs) → (x : A) → In xs x → Distinct (f x)
part_distinct f [] d x m = absurd m
part_distinct f (y ∷ xs) d x (inl e) = subst (λ z. Distinct (f z)) e (distinct_left (f y) (flat_map f xs) d)
part_distinct f (y ∷ xs) d x (inr m) = part_distinct f xs (distinct_right (f y) (flat_map f xs) d) x m

pub parts_apart : {A B : Type 0} → (f : A → List B) (xs : List A) → Distinct (flat_map f xs) → AreApart f xs
parts_apart f xs d = record { each = λ i j x y b at other m n. same f xs d i j x y b at other m n }
  where
    same : {A B : Type 0} → (f : A → List B) (xs : List A) → Distinct (flat_map f xs) → (i j : ℕ) (x y : A) (b : B) → slice_get xs i ≡ Some x
        → slice_get xs j ≡ Some y → In (f x) b → In (f y) b → i ≡ j
    same f [] d i j x y b at other m n = absurd (cc)
    same f (z ∷ xs) d zero zero x y b at other m n = refl
    same f (z ∷ xs) d zero (suc j) x y b at other m n =
        let first : z ≡ x = cc in
        absurd (apart (f z) (flat_map f xs) d b (subst (λ w. In (f w) b) (sym first) m) (in_flat_map f xs y b (get_in xs j y other) n))
    same f (z ∷ xs) d (suc i) zero x y b at other m n =
        let first : z ≡ y = cc in
        absurd (apart (f z) (flat_map f xs) d b (subst (λ w. In (f w) b) (sym first) n) (in_flat_map f xs x b (get_in xs i x at) m))
    same f (z ∷ xs) d (suc i) (suc j) x y b at other m n = ap suc (same f xs (distinct_right (f z) (flat_map f xs) d) i j x y b at other m n)
