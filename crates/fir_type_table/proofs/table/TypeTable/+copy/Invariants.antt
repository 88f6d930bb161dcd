use Rattle.std.proofs.Common.{◌≡◌, ◌+◌, ◌*◌, map, take}
use Rattle.fir_ast.specs.working.BundleText.{field_of}
use Rattle.fir_type_table.specs.working.Tables.{types_of}
use Rattle.fir_type_table.proofs.CopiedFields.{shown_member}
use Rattle.fir_type_table.proofs.table.TypeTable.+copy.Given as goal

abbrev pub decreases-ty : goal.decreases-ty
decreases-ty l = 2 * l.id.number + 1

abbrev pub decreases-written_fields : goal.decreases-written_fields
decreases-written_fields l = 2 * l.id.number

abbrev pub invariant-written_fields-loop-member : goal.invariant-written_fields-loop-member
invariant-written_fields-loop-member l =
    map field_of l.copies.items ≡ map (shown_member l.bare (types_of l.self)) (take l.member-index l.member-items)
