use Rattle.std.proofs.Common.{[], map, drop}
use Rattle.fir_ast.specs.View.{fields_of}
use Rattle.fir_ast.specs.working.BundleText.{field_of}
use Rattle.fir_meaning.specs.Mentions.{field_mentions}
use Rattle.fir_resolve.proofs.WalkedNames.{At}
use Rattle.fir_resolve.proofs.fields.+types.Given as goal

abbrev pub invariant-in_fields-loop-field : goal.invariant-in_fields-loop-field
invariant-in_fields-loop-field l = At field_mentions l.namespace [] (fields_of (map field_of l.fields)) (fields_of (map field_of (drop l.field-index l.fields)))
