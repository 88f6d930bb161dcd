-- Inputs that take their values, by number.
use Rattle.std.specs.Prelude.{◌≡◌, ℕ, List, [], ◌∷◌, drop, slice_index, slice_set}
use Rattle.ver_ast.specs.declared.tree.Verilog.{Verilog}
use Rattle.ver_ast.specs.Nets.{SizedNet}
use Rattle.ver_sim.specs.working.Valued.{place_among, valued}

-- each of these nets takes its value
unfoldable pub inputs_put : List ℕ → List ℕ → List ℕ → List ℕ
inputs_put [] inputs values = values
inputs_put (p ∷ ps) inputs values = inputs_put ps (drop 1 inputs) (slice_set values p (slice_index inputs 0))

-- the place of a net
abbrev pub IsPlaceOf : Verilog → ℕ → SizedNet → Type 0
IsPlaceOf v k n = k ≡ place_among (valued v) n.0
