-- The marked items of a list, and the numbers that they have among themselves.
use Rattle.std.specs.Prelude.{◌≡◌, ℕ, zero, suc, ◌<◌, ◌≤◌, List, [], ◌∷◌, length, slice_get, Bool, true, false, Some}

-- the marked items, in their order
abbrev pub kept_of : {A : Type 0} → List Bool → List A → List A
kept_of [] xs = []
kept_of (m ∷ ms) [] = []
kept_of (true ∷ ms) (x ∷ xs) = x ∷ kept_of ms xs
kept_of (false ∷ ms) (x ∷ xs) = kept_of ms xs

-- how many are marked before an item, which is the number of that item among the marked ones
abbrev pub place : List Bool → ℕ → ℕ
place [] k = 0
place (m ∷ ms) zero = 0
place (true ∷ ms) (suc k) = suc (place ms k)
place (false ∷ ms) (suc k) = place ms k

-- the number that the marked item of a number has among all
abbrev pub number : List Bool → ℕ → ℕ
number [] j = 0
number (true ∷ ms) zero = 0
number (true ∷ ms) (suc j) = suc (number ms j)
number (false ∷ ms) j = suc (number ms j)

-- the places of so many first items, and how many of these are marked
pub record ArePlaces (marks : List Bool) (so_far count : ℕ) (places : List ℕ) : Type 0 where
  pub long : length places ≡ so_far
  pub few : count ≤ so_far
  pub all : count ≡ place marks so_far
  pub each : (k : ℕ) → k < so_far → slice_get places k ≡ Some (place marks k)
