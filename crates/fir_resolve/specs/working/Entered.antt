-- The code's hierarchy as a graph.
use Rattle.std.specs.Prelude.{ℕ, List, [], map, length, nat_lt, if◌then◌else◌, Option, Some, None, slice_get, Vec}
use Rattle.std.specs.declared.alloc.Global.{Global}
use Rattle.fir_resolve.specs.declared.hierarchy.Hierarchy.{Hierarchy}

-- a number that is no module's counts as 0
abbrev pub within : ℕ → ℕ → ℕ
within size number = if nat_lt number size then number else 0

abbrev pub items_of : Option (Vec ℕ Global) → List ℕ
items_of None = []
items_of (Some v) = v.items

abbrev pub targets_of : Hierarchy → ℕ → List ℕ
targets_of h v = map (within (length h.instances.items)) (items_of (slice_get h.instances.items v))
