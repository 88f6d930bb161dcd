-- Lists of three or more.
use Rattle.std.proofs.Common.{◌≡◌, ◌≤◌, List, [], ◌∷◌, ◌++◌, length, refl, ap, arith}

last_apart : {A : Type 0} → (x : A) (xs : List A) → (ys : List A) × (y : A) × (x ∷ xs ≡ ys ++ y ∷ [])
last_apart x [] = ([], x, refl)
last_apart x (z ∷ zs) = let r = last_apart z zs in (x ∷ r.0, r.1, ap (λ ys. x ∷ ys) r.2)

-- a first, a second, some others, and a last
pub record Parts {A : Type 0} (xs : List A) : Type 0 where
  pub first : A
  pub second : A
  pub others : List A
  pub last : A
  pub is : xs ≡ first ∷ second ∷ others ++ last ∷ []

pub parts : {A : Type 0} → (xs : List A) → 3 ≤ length xs → Parts xs
parts [] h = absurd (omega (arith, h))
parts (a ∷ []) h = absurd (omega (arith, h))
parts (a ∷ b ∷ []) h = absurd (omega (arith, h))
parts (a ∷ b ∷ c ∷ xs) h = let r = last_apart c xs in record { first = a; second = b; others = r.0; last = r.1; is = ap (λ ys. a ∷ b ∷ ys) r.2 }
