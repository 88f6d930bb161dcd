-- The faults of a circuit, in the groups in which they are looked for: none at all, or which fault is the first.
use Rattle.fir_ast.specs.Faults.{Fault}
use Rattle.fir_ast.specs.Circuits.{CircuitTree}
use Rattle.fir_pass.specs.Groups.{of_loops, of_names, of_text}
use Rattle.fir_pass.specs.Law.{AreClear, IsFirst}
use Rattle.fir_meaning.specs.SourceMeaning.{circuit_meaning}

-- none of any group, from the first to the last
abbrev pub ShowsNone : CircuitTree → Type 0
ShowsNone c = AreClear of_text of_loops (circuit_meaning c)

-- the first of all groups
abbrev pub IsFirstFault : CircuitTree → Fault → Type 0
IsFirstFault c f = IsFirst of_names of_loops (circuit_meaning c) f
