use Rattle.std.proofs.Common.{◌≡◌, map, take}
use Rattle.fir_ast.specs.working.TypeViews.{type_of}
use Rattle.fir_type_table.specs.working.Tables.{types_of}
use Rattle.fir_types.specs.working.Seen.{found_type}
use Rattle.fir_check.proofs.faults.kinds_of.Given as goal

abbrev pub invariant-loop-found : goal.invariant-loop-found
invariant-loop-found l = map type_of l.types.items ≡ map (found_type (types_of l.table)) (take l.found-index l.operands)
