-- A law about the definitions.
use Rattle.std.specs.Prelude.{ℕ, ◌≤◌}
use Rattle.fir_ast.specs.declared.place.Place.{Place}
use Rattle.fir_pass.specs.Groups.{of_text, of_cost}
use Rattle.fir_pass.specs.Law.{AreClear}
use Rattle.fir_meaning.specs.SourceMeaning.{circuit_meaning}
use Rattle.fir_gen.specs.working.GenTree.{gen_tree}

-- no fault of names, types, resets, widths or cost stands in the circuit, wherever its parts stand
abbrev pub GenIsChecked : Type 0
GenIsChecked = (at : ℕ → ℕ → Place) (n : ℕ) → 1 ≤ n → n ≤ 4096 → AreClear of_text of_cost (circuit_meaning (gen_tree at n))
