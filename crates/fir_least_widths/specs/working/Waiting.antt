-- Which bounds wait to be looked at: a mark for each, and a stack of those that are marked.
use Rattle.std.specs.Prelude.{◌≡◌, ℕ, ◌+◌, ◌<◌, ◌≤◌, List, [], ◌∷◌, Bool, true, false, length, Some, slice_get, slice_set}

abbrev pub Waits : List Bool → ℕ → Type 0
Waits waits place = slice_get waits place ≡ Some true

-- the stack has each that waits, no other, and none twice
pub record IsStackOf (waits : List Bool) (stack : List ℕ) : Type 0 where
  pub each : (place : ℕ) → Waits waits place → (i : ℕ) × (slice_get stack i ≡ Some place)
  pub only : (i place : ℕ) → slice_get stack i ≡ Some place → Waits waits place
  pub once : (i j place : ℕ) → slice_get stack i ≡ Some place → slice_get stack j ≡ Some place → i ≡ j

pub record NoneWaits (waits : List Bool) : Type 0 where
  pub none : (place : ℕ) → Waits waits place → ⊥

-- one that waited waits no longer
pub record Takes (old new : List Bool) (place : ℕ) : Type 0 where
  pub waited : Waits old place
  pub set : new ≡ slice_set old place false

pub record PlacesWithin (places : List ℕ) (n : ℕ) : Type 0 where
  pub each : (i place : ℕ) → slice_get places i ≡ Some place → place < n

-- how many wait
abbrev pub waiting_count : List Bool → ℕ
waiting_count [] = 0
waiting_count (true ∷ ws) = 1 + waiting_count ws
waiting_count (false ∷ ws) = waiting_count ws

-- the first n of the places wait, too
pub record AllWait (old new : List Bool) (places : List ℕ) (n : ℕ) : Type 0 where
  pub long : length new ≡ length old
  pub keeps : (place : ℕ) → Waits old place → Waits new place
  pub has : (i place : ℕ) → i < n → slice_get places i ≡ Some place → Waits new place
  pub room : waiting_count new ≤ waiting_count old + n
