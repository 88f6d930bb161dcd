use Rattle.std.proofs.Common.{◌≡◌, drop, map}
use Rattle.fir_ast.specs.working.Views.{circuit_of, module_of}
use Rattle.fir_meaning.specs.ResetJoins.{numbered_module}
use Rattle.fir_flatten.proofs.main_number.main_number.Given as goal

abbrev pub invariant-loop-number : goal.invariant-loop-number
invariant-loop-number l =
    numbered_module l.number (map module_of (drop l.number l.part-items)) l.circuit.ident.name
    ≡ numbered_module 0 (circuit_of l.circuit).modules l.circuit.ident.name
