-- The elements of a list in another order: each stands once, anywhere.
-- The elements of several lists side by side: each stands once, those of one list in its order.
use Rattle.std.specs.Prelude.{◌≡◌, List, [], ◌∷◌, ◌++◌}
use Rattle.std.specs.List.{AllByRecursion}

-- the elements of the second list, in any order
abbrev pub IsRearranged : {A : Type 0} → List A → List A → Type 0
IsRearranged [] ys = ys ≡ []
IsRearranged {A} (x ∷ xs) ys = (front : List A) × (back : List A) × (ys ≡ front ++ x ∷ back) × IsRearranged xs (front ++ back)

-- the elements of the lists: each is the first that is left of one of them
abbrev pub IsInterleaved : {A : Type 0} → List A → List (List A) → Type 0
IsInterleaved [] lists = AllByRecursion (λ list. list ≡ []) lists
IsInterleaved {A} (x ∷ xs) lists =
    (front : List (List A)) × (left : List A) × (back : List (List A)) × (lists ≡ front ++ (x ∷ left) ∷ back) × IsInterleaved xs (front ++ left ∷ back)
