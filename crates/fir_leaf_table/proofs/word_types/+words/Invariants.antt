use Rattle.std.proofs.Common.{◌≡◌, ◌++◌, drop}
use Rattle.fir_meaning.specs.WidthExpressions.{Widths}
use Rattle.fir_leaf_table.specs.working.TypedLeaves.{types_seen}
use Rattle.fir_leaf_table.proofs.WordLeaves.{fields_held}
use Rattle.fir_leaf_table.proofs.word_types.+words.Given as goal

abbrev pub invariant-put_fields-loop-field : goal.invariant-put_fields-loop-field
invariant-put_fields-loop-field l =
    (w : Widths)
    → types_seen l.types.items ++ fields_held w (drop l.field-index l.fields) ≡ types_seen l.initial.types.items ++ fields_held w l.fields
