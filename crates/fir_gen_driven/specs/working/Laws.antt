-- Laws about the circuit `Gen`.
use Rattle.std.specs.Prelude.{◌≡◌, ℕ, ◌+◌, ◌≤◌, [], ◌∷◌, replicate}
use Rattle.fir_ast.specs.declared.place.Place.{Place}
use Rattle.fir_pass.specs.Groups.{of_drivers, of_loops}
use Rattle.fir_pass.specs.Law.{AreClear}
use Rattle.fir_meaning.specs.Elaborated.{IsSourceOf}
use Rattle.fir_meaning.specs.LeafTypes.{has_bits}
use Rattle.fir_meaning.specs.SourceCircuits.{is_sink_role, ports_where, source_shape, widths_of_leaves}
use Rattle.fir_meaning.specs.SourceDesigns.{SourceDesign}
use Rattle.fir_meaning.specs.SourceMeaning.{circuit_meaning, source_counts}
use Rattle.fir_gen.specs.working.GenTree.{gen_tree}

-- each leaf of the circuit is driven, its clocks are one, its inits are constants, and no leaf depends on itself, wherever its parts stand
abbrev pub GenIsDriven : Type 0
GenIsDriven = (at : ℕ → ℕ → Place) (n : ℕ) → 1 ≤ n → n ≤ 4096 → AreClear of_drivers of_loops (circuit_meaning (gen_tree at n))

-- one clock; the inputs `reset` and `x`, the output `y`, and a word of the state for each register; four ports
pub record IsGenSource (n : ℕ) (t : SourceDesign) : Type 0 where
  pub shape : source_shape t ≡ record { inputs = 1 ∷ 16 ∷ []; clocks = 1; state = replicate n 16 }
  pub outputs : widths_of_leaves (ports_where is_sink_role has_bits t) ≡ 16 ∷ []
  pub counts : source_counts t ≡ record { leaves = n + 4; registers = n; memories = 0 }

-- so is any source of the circuit
abbrev pub GenHasSource : Type 0
GenHasSource = (at : ℕ → ℕ → Place) (n : ℕ) → 1 ≤ n → n ≤ 4096 → (t : SourceDesign) → IsSourceOf (gen_tree at n) t → IsGenSource n t
