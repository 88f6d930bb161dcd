-- Lists whose elements stand beside each other in pairs.
use Rattle.std.specs.Prelude.{◌≡◌, List, [], ◌∷◌, ◌++◌}

-- as many, and each two are such a pair
abbrev pub EachPair : {A B : Type 0} → (A → B → Type 0) → List A → List B → Type 0
EachPair R [] [] = Unit {0}
EachPair R (x ∷ xs) (y ∷ ys) = R x y × EachPair R xs ys
EachPair R _ _ = ⊥

-- behind the old ones stand those that pair with the list
pub record Appends {A B : Type 0} (R : A → B → Type 0) (old new : List A) (ys : List B) : Type 0 where
  pub more : List A
  pub is : new ≡ old ++ more
  pub each : EachPair R more ys
