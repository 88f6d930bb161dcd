-- Which bounds read an unknown: for each unknown, the places of the bounds whose terms read it.
use Rattle.std.specs.Prelude.{◌≡◌, ◌⊎◌, ℕ, ◌<◌, List, length, Some, slice_get}
use Rattle.std.specs.declared.vec.Vec.{Vec}
use Rattle.std.specs.declared.alloc.Global.{Global}
use Rattle.fir_base.specs.Lists.{In}
use Rattle.fir_least_widths.specs.declared.bound.Bound.{Bound}
use Rattle.fir_least_widths.specs.working.Bounds.{reads}

-- the place stands in the unknown's list
pub record IsReader (readers : List (Vec ℕ Global)) (unknown place : ℕ) : Type 0 where
  pub list : Vec ℕ Global
  pub at : slice_get readers unknown ≡ Some list
  pub index : ℕ
  pub is : slice_get list.items index ≡ Some place

-- the place was noted at these unknowns
pub record Notes (old new : List (Vec ℕ Global)) (unknowns : List ℕ) (place : ℕ) : Type 0 where
  pub long : length new ≡ length old
  pub keeps : (unknown earlier : ℕ) → IsReader old unknown earlier → IsReader new unknown earlier
  pub has : (unknown : ℕ) → In unknowns unknown → IsReader new unknown place
  pub only : (unknown noted : ℕ) → IsReader new unknown noted → IsReader old unknown noted ⊎ (noted ≡ place)

-- the first n bounds are noted at all unknowns that they read
pub record AllRead (bounds : List Bound) (readers : List (Vec ℕ Global)) (n : ℕ) : Type 0 where
  pub each : (i : ℕ) (b : Bound) (unknown : ℕ) → i < n → slice_get bounds i ≡ Some b → In (reads b.term) unknown → IsReader readers unknown i

-- and no others
pub record ReadersWithin (readers : List (Vec ℕ Global)) (n : ℕ) : Type 0 where
  pub each : (unknown place : ℕ) → IsReader readers unknown place → place < n
