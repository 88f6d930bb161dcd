use Rattle.std.proofs.Common.{◌≡◌, ◌+◌, take}
use Rattle.fir_type_table.specs.working.Tables.{types_of}
use Rattle.fir_leaf_text.proofs.FieldsOfLeaves.{leaves_of_members}
use Rattle.fir_leaf_text.proofs.bundle_field.counted_field.Given as goal

abbrev pub invariant-loop-member : goal.invariant-loop-member
invariant-loop-member l = leaves_of_members (types_of l.table) (take l.member-index l.member-items) + l.number ≡ l.leaf
