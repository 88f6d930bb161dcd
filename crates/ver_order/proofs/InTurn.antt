-- Lists one after the other: that is one way to take them side by side.
use Rattle.std.proofs.Common.{◌≡◌, List, [], ◌∷◌, ◌++◌, map, refl, ap, ◌∙◌, subst}
use Rattle.std.specs.Prelude.{flat_map}
use Rattle.std.proofs.lemmas.List.{map-append}
use Rattle.ver_order.specs.working.Arranged.{IsRearranged, IsInterleaved}

abbrev pub joined : {A : Type 0} → List (List A) → List A
joined lists = flat_map (λ list. list) lists

pub joined_parts : {A B : Type 0} → (f : A → List B) (xs : List A) → joined (map f xs) ≡ flat_map f xs
joined_parts f [] = refl
joined_parts f (x ∷ xs) = ap (λ ys. f x ++ ys) (joined_parts f xs)

with_empty : {A : Type 0} → (xs : List A) (lists : List (List A)) → IsInterleaved xs lists → IsInterleaved xs ([] ∷ lists)
with_empty [] lists h = (refl, h)
with_empty (x ∷ xs) lists h = ([] ∷ h.0, h.1, h.2, ap (λ ls. [] ∷ ls) h.3, with_empty xs (h.0 ++ h.1 ∷ h.2) h.4)

first_in_turn : {A : Type 0} → (xs : List A) (lists : List (List A)) → IsInterleaved (joined lists) lists → IsInterleaved (xs ++ joined lists) (xs ∷ lists)
first_in_turn [] lists h = with_empty (joined lists) lists h
first_in_turn (x ∷ xs) lists h = ([], xs, lists, refl, first_in_turn xs lists h)

pub in_turn : {A : Type 0} → (lists : List (List A)) → IsInterleaved (joined lists) lists
in_turn [] = tt
in_turn (xs ∷ lists) = first_in_turn xs lists (in_turn lists)

pub unmoved : {A : Type 0} → (xs : List A) → IsRearranged xs xs
unmoved [] = refl
unmoved (x ∷ xs) = ([], xs, refl, unmoved xs)

pub rearranged_parts : {A B : Type 0} → (f : A → B) (xs ys : List A) → IsRearranged xs ys → IsRearranged (map f xs) (map f ys)
rearranged_parts f [] ys h = ap (map f) h
rearranged_parts {A} {B} f (x ∷ xs) ys h =
    let rest : IsRearranged (map f xs) (map f h.0 ++ map f h.1) =
    subst (λ (zs : List B). IsRearranged (map f xs) zs) (map-append f h.0 h.1) (rearranged_parts f xs (h.0 ++ h.1) h.3) in
    (map f h.0, map f h.1, ap (map f) h.2 ∙ map-append f h.0 (x ∷ h.1), rest)
