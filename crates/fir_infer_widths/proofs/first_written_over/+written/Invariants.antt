use Rattle.std.proofs.Common.{◌≡◌, map}
use Rattle.fir_ast.specs.View.{fields_of}
use Rattle.fir_ast.specs.working.BundleText.{field_of}
use Rattle.fir_infer_widths.specs.working.FirstLeaves.{first_where, leaf_says_over}
use Rattle.fir_infer_widths.specs.working.NumberedLeaves.{numbered_field_leaves}
use Rattle.fir_infer_widths.proofs.FieldsLeft.{fields_from}
use Rattle.fir_infer_widths.proofs.first_written_over.+written.Given as goal

abbrev pub invariant-find_in_fields-loop-field : goal.invariant-find_in_fields-loop-field
invariant-find_in_fields-loop-field l = record {
  path_is : l.path.items ≡ l.initial.path.items;
  left :
      first_where leaf_says_over (numbered_field_leaves 0 (fields_of (map field_of l.fields))) ≡
      first_where leaf_says_over (numbered_field_leaves 0 (fields_from l.fields l.field-index));
}
