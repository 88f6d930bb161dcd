-- The stages of a circuit that have its tree: what a pass says of them.
use Rattle.std.specs.Prelude.{◌≡◌, ℕ}
use Rattle.fir_ast.specs.Circuits.{CircuitTree}
use Rattle.fir_ast.specs.Faults.{Fault}
use Rattle.fir_ast.specs.declared.circuit.Circuit.{Circuit}
use Rattle.fir_ast.specs.working.Views.{circuit_of}
use Rattle.fir_pass.specs.Law.{AreClear, IsFirst}
use Rattle.fir_meaning.specs.SourceMeaning.{circuit_meaning}

-- a stage with this tree is one of the circuit that it is
abbrev pub IsTreeOf : CircuitTree → Circuit → Type 0
IsTreeOf c t = circuit_of t ≡ c

-- no fault of these groups stands in the circuit, and which is the first of them
abbrev pub IsClearOf : ℕ → ℕ → CircuitTree → Type 0
IsClearOf from upto c = AreClear from upto (circuit_meaning c)

abbrev pub IsFirstOf : ℕ → ℕ → CircuitTree → Fault → Type 0
IsFirstOf from upto c f = IsFirst from upto (circuit_meaning c) f
