use Rattle.fir_ast.specs.working.Views.{circuit_of}
use Rattle.fir_type_table.specs.working.Tables.{types_of}
use Rattle.fir_infer_widths.specs.working.Circuits.{WalkedSoFar}
use Rattle.fir_infer_widths.proofs.circuit.in_circuit.Given as goal

abbrev pub invariant-loop-number : goal.invariant-loop-number
invariant-loop-number l = WalkedSoFar (circuit_of l.named) (types_of l.findings.table) l.number l.walk
