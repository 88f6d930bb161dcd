-- How far a search with a work list has come: each bound is met or waits, and no width is above that of any solution.
use Rattle.std.specs.Prelude.{◌≡◌, ℕ, ◌+◌, ◌-◌, ◌*◌, ◌⊎◌, List, [], ◌∷◌, Bool, length, Some, slice_get}
use Rattle.std.specs.declared.vec.Vec.{Vec}
use Rattle.std.specs.declared.alloc.Global.{Global}
use Rattle.fir_least_widths.specs.declared.bound.Bound.{Bound}
use Rattle.fir_least_widths.specs.working.Bounds.{Holds, IsBelowAll}
use Rattle.fir_meaning.specs.working.AssignedWidths.{assigned}
use Rattle.fir_least_widths.specs.working.Waiting.{Waits}

pub record Solving (bounds : List Bound) (unknowns : ℕ) (widths : List ℕ) (waits : List Bool) : Type 0 where
  pub long : length widths ≡ unknowns
  pub covers : length waits ≡ length bounds
  pub below : IsBelowAll bounds (assigned widths)
  pub settled : (i : ℕ) (b : Bound) → slice_get bounds i ≡ Some b → Holds b (assigned widths) ⊎ Waits waits i

-- the looks that rises can still make needed: an unknown rises to 129 at most, and with each rise its readers wait
abbrev pub rises_left : List ℕ → List (Vec ℕ Global) → ℕ
rises_left [] readers = 0
rises_left (w ∷ ws) [] = 0
rises_left (w ∷ ws) (r ∷ rs) = (129 - w) * (length r.items + 1) + rises_left ws rs
