use Rattle.std.proofs.Common.{map}
use Rattle.fir_ast.specs.View.{fields_of}
use Rattle.fir_ast.specs.working.BundleText.{field_of}
use Rattle.fir_meaning.specs.TypeLeaves.{field_count}
use Rattle.fir_expand.proofs.SaturatedSums.{SumSoFar}
use Rattle.fir_expand.proofs.written_leaves.+leaves.Given as goal

abbrev pub invariant-leaves_of_fields-loop-field : goal.invariant-leaves_of_fields-loop-field
invariant-leaves_of_fields-loop-field l = SumSoFar (λ fs. field_count (fields_of (map field_of fs))) l.fields l.field-index l.sum
