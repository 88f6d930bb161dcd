-- What comes of a text for which its leaves, registers and memories are counted.
use Rattle.std.specs.Prelude.{◌≡◌, ℕ, List, Result, Ok, Err}
use Rattle.fir_base.specs.declared.refused.Refused.{Refused}
use Rattle.fir_base.specs.declared.refused.Refused.TheVariants as refused
use Rattle.fir_ast.specs.declared.fault.FirFault.{FirFault}
use Rattle.fir_ast.specs.working.CodeFaults.{fault_of}
use Rattle.fir_pass.specs.Meaning.{Counts}
use Rattle.fir_meaning.specs.Elaborated.{IsSourceOf}
use Rattle.fir_meaning.specs.SourceDesigns.{SourceDesign}
use Rattle.fir_meaning.specs.SourceMeaning.{source_counts}
use Rattle.fir_net.specs.declared.net.FlatNet.{FlatNet}
use Rattle.fir_net.specs.declared.totals.Counts.{Counts as CountsOfCode}
use Rattle.fir_flatten.specs.working.FlattensTo.{net_counts}
use Rattle.fir_compile.specs.declared.ordered.OrderedNet.{OrderedNet}
use Rattle.fir_compile.specs.working.Readings.{CompilesText}
use Rattle.fir_outcome.specs.Checks.{Checks}
use Rattle.fir_outcome.specs.Refusals.{RefusedFor}

abbrev pub counts_of : CountsOfCode → Counts
counts_of n = record { leaves = n.leaves; registers = n.registers; memories = n.memories }

-- the net of the text's circuit, which has its counts
pub record CountsText (bytes : List ℕ) (net : FlatNet) : Type 0 where
  pub compiles : CompilesText bytes net
  pub counted : (t : SourceDesign) → IsSourceOf compiles.circuit t → source_counts t ≡ net_counts net

abbrev pub IsCounted : List ℕ → Result OrderedNet (Refused FirFault) → Type 0
IsCounted bytes (Ok ordered) = CountsText bytes ordered.net
IsCounted bytes (Err (refused.Fault f)) = RefusedFor bytes (fault_of f)
IsCounted bytes (Err refused.Memory) = Unit {0}

-- the line that `check` writes for the text, or the fault for which it is refused
abbrev pub IsChecked : List ℕ → {A : Type 0} → (A → List ℕ) → Result A (Refused FirFault) → Type 0
IsChecked bytes view (Ok line) = Checks bytes (view line)
IsChecked bytes view (Err (refused.Fault f)) = RefusedFor bytes (fault_of f)
IsChecked bytes view (Err refused.Memory) = Unit {0}
