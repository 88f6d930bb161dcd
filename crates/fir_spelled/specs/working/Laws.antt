-- A law about the definitions.
use Rattle.std.specs.Prelude.{ℕ, List}
use Rattle.fir_ast.specs.Circuits.{CircuitTree}
use Rattle.fir_parse.specs.Spells.{Spells}
use Rattle.fir_flatten.specs.working.Words.{HasWords}

-- the names in the circuit of a text are words, and those of its fields have the bytes of words
abbrev pub SpelledNamesAreWords : Type 0
SpelledNamesAreWords = (bytes : List ℕ) (c : CircuitTree) → Spells bytes c → HasWords c
