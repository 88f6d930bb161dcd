use Rattle.std.proofs.Common.{List, map, drop}
use Rattle.fir_ast.specs.Statements.{PlacedName}
use Rattle.fir_ast.specs.working.Views.{module_of}
use Rattle.fir_names.specs.working.Numbered.{HasNumbers}
use Rattle.fir_resolve.proofs.WalkedModules.{AtModules}
use Rattle.fir_resolve.proofs.modules.in_modules.Given as goal

abbrev pub invariant-loop-part : goal.invariant-loop-part
invariant-loop-part l =
    (names : List PlacedName) → HasNumbers l.numbers names
    → AtModules names l.namespace l.tables.items (map module_of l.modules) (map module_of (drop l.part-index l.modules))
