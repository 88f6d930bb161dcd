use Rattle.std.proofs.Common.{map, take}
use Rattle.fir_ast.specs.working.BundleText.{field_of}
use Rattle.fir_type_table.proofs.AddedParts.{AddsMapped}
use Rattle.fir_type_table.proofs.add.+add.Given as goal

abbrev pub invariant-add_fields-loop-field : goal.invariant-add_fields-loop-field
invariant-add_fields-loop-field l = AddsMapped l.initial.table l.table l.parts.items (map field_of (take l.field-index l.fields))
