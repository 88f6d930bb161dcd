use Rattle.std.proofs.Common.{map, take}
use Rattle.fir_ast.specs.working.Views.{module_of}
use Rattle.fir_type_table.specs.working.Tables.{types_of}
use Rattle.fir_types.specs.working.Walked.{HoldsBundles}
use Rattle.fir_check.proofs.bundles.add_bundles.Given as goal

abbrev pub invariant-loop-part : goal.invariant-loop-part
invariant-loop-part l = HoldsBundles (types_of l.table) l.bundles.items (map module_of (take l.part-index l.modules))
