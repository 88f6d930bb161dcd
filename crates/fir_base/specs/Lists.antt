-- Membership, by recursion on the list.
-- std's words go by index; these go by cases, which suits laws by induction.
use Rattle.std.specs.Prelude.{◌≡◌, List, [], ◌∷◌, ◌⊎◌}

-- x is one of the list
abbrev pub In : {A : Type 0} → List A → A → Type 0
In [] x = ⊥
In (y ∷ ys) x = (y ≡ x) ⊎ In ys x

-- no element stands twice
abbrev pub Distinct : {A : Type 0} → List A → Type 0
Distinct [] = Unit {0}
Distinct (x ∷ xs) = (In xs x → ⊥) × Distinct xs

-- each of the first list is one of the second
abbrev pub EachIn : {A : Type 0} → List A → List A → Type 0
EachIn [] ys = Unit {0}
EachIn (x ∷ xs) ys = In ys x × EachIn xs ys
