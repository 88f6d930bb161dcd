use Rattle.std.proofs.Common.{map, take}
use Rattle.fir_ast.specs.working.Views.{circuit_of, module_of}
use Rattle.fir_check.proofs.CircuitWalks.{ModulesTyped}
use Rattle.fir_check.proofs.modules.in_modules.Given as goal

abbrev pub invariant-loop-number : goal.invariant-loop-number
invariant-loop-number l =
    ModulesTyped (circuit_of l.named).modules (map module_of (take l.number l.named.modules.items)) l.bundles.items l.table l.declared.items l.notes.items
