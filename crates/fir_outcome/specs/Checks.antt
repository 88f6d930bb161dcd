-- What `check` writes for what bytes.
-- The read bytes spell exactly one circuit, which shows no fault; the written line tells how many ground leaves it has with all its instances in place, a port and
-- what an instance has of it counted once, how many registers are declared, and how many arrays its memories are.
use Rattle.std.specs.Prelude.{◌≡◌, ℕ, List, ◌++◌, codes, decimal}
use Rattle.fir_ast.specs.Circuits.{CircuitTree}
use Rattle.fir_parse.specs.Spells.{Spells}
use Rattle.fir_pass.specs.Meaning.{Counts}
use Rattle.fir_meaning.specs.Elaborated.{IsSourceOf}
use Rattle.fir_meaning.specs.SourceDesigns.{SourceDesign}
use Rattle.fir_meaning.specs.SourceMeaning.{source_counts}
use Rattle.fir_outcome.specs.Emits.{Takes}

abbrev pub counts_line : Counts → List ℕ
counts_line n =
    codes "ok leaves " ++ decimal n.leaves ++ codes " registers " ++ decimal n.registers ++ codes " memories " ++ decimal n.memories ++ codes "\n"

pub record Checks (read written : List ℕ) : Type 0 where
  pub circuit : CircuitTree
  pub taken : Takes read circuit
  pub only_circuit : (other : CircuitTree) → Spells read other → other ≡ circuit
  -- the circuit has a source, and whichever it is, these are its counts
  pub source : SourceDesign
  pub is_source : IsSourceOf circuit source
  pub each : (t : SourceDesign) → IsSourceOf circuit t → written ≡ counts_line (source_counts t)
