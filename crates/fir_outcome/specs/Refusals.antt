-- Why a text is refused: a fault of the text; else the first fault of its circuit.
use Rattle.std.specs.Prelude.{◌≡◌, ℕ, List, ◌⊎◌}
use Rattle.fir_ast.specs.Faults.{Fault, fault_line}
use Rattle.fir_ast.specs.Circuits.{CircuitTree}
use Rattle.fir_parse.specs.Spells.{Spells}
use Rattle.fir_parse.specs.TextFaults.{TextFault}
use Rattle.fir_outcome.specs.CircuitFaults.{IsFirstFault}

-- of the faults in the circuit of the text (E08 to E28), this one is told
pub record ShowsFault (bytes : List ℕ) (f : Fault) : Type 0 where
  pub circuit : CircuitTree
  pub spelled : Spells bytes circuit
  pub first : IsFirstFault circuit f

abbrev pub RefusedFor : List ℕ → Fault → Type 0
RefusedFor bytes f = TextFault bytes f ⊎ ShowsFault bytes f

-- the line of that fault
abbrev pub Refuses : List ℕ → List ℕ → Type 0
Refuses bytes line = (f : Fault) × RefusedFor bytes f × (line ≡ fault_line f)
