-- A law about the definitions.
use Rattle.std.specs.Prelude.{ℕ, ◌≤◌}
use Rattle.fir_ast.specs.declared.place.Place.{Place}
use Rattle.fir_parse.specs.Spells.{Spells}
use Rattle.fir_gen.specs.GenText.{gen_text}
use Rattle.fir_gen.specs.working.GenTree.{gen_tree}

-- the text of so many registers spells their tree, wherever its parts then stand
abbrev pub GenIsSpelled : Type 0
GenIsSpelled = (n : ℕ) → 1 ≤ n → n ≤ 4096 → (at : ℕ → ℕ → Place) × Spells (gen_text n) (gen_tree at n)
