-- Ranges of so many numbers, of which each begins where the one before ends, do not meet.
use Rattle.std.proofs.Common.{◌≡◌, ℕ, zero, suc, ◌+◌, ◌<◌, List, [], ◌∷◌, Some, refl, ap, arith}
use Rattle.std.specs.Prelude.{slice_get}
use Rattle.std.proofs.lemmas.Option.{same_Some, none-some}

abbrev pub total : List ℕ → ℕ
total [] = 0
total (c ∷ cs) = c + total cs

-- the sum of the first so many
abbrev pub sum_before : List ℕ → ℕ → ℕ
sum_before [] n = 0
sum_before (c ∷ cs) zero = 0
sum_before (c ∷ cs) (suc n) = c + sum_before cs n

-- an offset within the range of that place
pub record Within (cs : List ℕ) (place offset : ℕ) : Type 0 where
  pub count : ℕ
  pub there : slice_get cs place ≡ Some count
  pub less : offset < count

within_later : (c : ℕ) (cs : List ℕ) (i a : ℕ) → Within (c ∷ cs) (suc i) a → Within cs i a
within_later c cs i a w = record { count = w.count; there = w.there; less = w.less }

pub within_total : (cs : List ℕ) (i a : ℕ) → Within cs i a → sum_before cs i + a < total cs
within_total [] i a w = absurd (none-some w.count w.there)
within_total (c ∷ cs) zero a w = let same : c ≡ w.count = same_Some c w.count w.there in omega (arith, same, w.less)
within_total (c ∷ cs) (suc i) a w = omega (arith, within_total cs i a (within_later c cs i a w))

-- a number is in one range alone
pub one_range : (cs : List ℕ) (i j a b : ℕ) → Within cs i a → Within cs j b → sum_before cs i + a ≡ sum_before cs j + b → (i ≡ j) × (a ≡ b)
one_range [] i j a b v w h = absurd (none-some v.count v.there)
one_range (c ∷ cs) zero zero a b v w h = (refl, omega (arith, h))
one_range (c ∷ cs) zero (suc j) a b v w h = let same : c ≡ v.count = same_Some c v.count v.there in absurd (omega (arith, same, v.less, h))
one_range (c ∷ cs) (suc i) zero a b v w h = let same : c ≡ w.count = same_Some c w.count w.there in absurd (omega (arith, same, w.less, h))
one_range (c ∷ cs) (suc i) (suc j) a b v w h =
    let rest : sum_before cs i + a ≡ sum_before cs j + b = omega (arith, h) in
    let r = one_range cs i j a b (within_later c cs i a v) (within_later c cs j b w) rest in
    (ap suc r.0, r.1)
