use Rattle.std.proofs.Common.{List}
use Rattle.fir_ast.specs.Statements.{PlacedName}
use Rattle.fir_names.proofs.InstanceNumbers.{Modules}
use Rattle.fir_resolve.proofs.hierarchy.Hierarchy.new.Given as goal

abbrev pub invariant-loop-table : goal.invariant-loop-table
invariant-loop-table l = (names : List PlacedName) → Modules names l.tables l.table-index l.instances.items
