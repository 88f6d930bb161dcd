use Rattle.std.proofs.Common.{◌≡◌, map, drop, ◌++◌}
use Rattle.std.specs.Prelude.{option_map}
use Rattle.fir_meaning.specs.OperationTypes.{operand_kinds}
use Rattle.fir_type_table.specs.working.Tables.{types_of}
use Rattle.fir_types.specs.working.Seen.{found_type}
use Rattle.fir_check.proofs.operations.operand_kinds.Given as goal

abbrev pub invariant-loop-found : goal.invariant-loop-found
invariant-loop-found l =
    operand_kinds l.resets (map (found_type (types_of l.table)) l.operands)
    ≡ option_map (λ rest. l.kinds.items ++ rest) (operand_kinds l.resets (map (found_type (types_of l.table)) (drop l.found-index l.operands)))
