use Rattle.std.proofs.Common.{List}
use Rattle.fir_ast.specs.Statements.{PlacedName}
use Rattle.fir_names.proofs.InstanceNumbers.{Numbers}
use Rattle.fir_resolve.proofs.hierarchy.instances_in.Given as goal

abbrev pub invariant-loop-position : goal.invariant-loop-position
invariant-loop-position l = (modules : List PlacedName) → Numbers modules l.table l.position l.numbers.items
