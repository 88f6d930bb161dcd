use Rattle.fir_ast.specs.working.Views.{circuit_of}
use Rattle.fir_type_table.specs.working.Tables.{types_of}
use Rattle.fir_infer_resets.proofs.ModulesMet.{MetSoFar}
use Rattle.fir_infer_resets.proofs.circuit.meets_of.Given as goal

abbrev pub invariant-loop-number : goal.invariant-loop-number
invariant-loop-number l = MetSoFar (circuit_of l.named) (types_of l.findings.table) l.number l.meets.items
