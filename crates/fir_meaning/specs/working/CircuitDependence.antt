-- What a leaf of a whole design depends on within a tick, and walks of dependence (FIRRTL spec, "Last Connect Semantics", "Registers", "Memories").
-- A leaf depends on what one of its role does in a module. On a walk each leaf depends on the one behind it.
use Rattle.std.specs.Prelude.{◌≡◌, ℕ, List, [], ◌∷◌}
use Rattle.fir_meaning.specs.working.LeafCircuits.{LeafCircuit, depth_of, role_of}
use Rattle.fir_meaning.specs.working.Dependence.{RoleDepends}

abbrev pub CircuitDepends : LeafCircuit → ℕ → ℕ → Type 0
CircuitDepends c x y = RoleDepends c.body (depth_of c x) x (role_of c x) y

-- from a leaf through these, of which the last one is named
abbrev pub IsWalk : LeafCircuit → ℕ → List ℕ → ℕ → Type 0
IsWalk c x [] final = x ≡ final
IsWalk c x (y ∷ ys) final = CircuitDepends c x y × IsWalk c y ys final
