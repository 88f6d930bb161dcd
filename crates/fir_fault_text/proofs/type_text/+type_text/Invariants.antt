use Rattle.std.proofs.Common.{◌≡◌, ◌++◌, map, take}
use Rattle.fir_ast.specs.working.BundleText.{bundle_text, field_of}
use Rattle.fir_ast.specs.View.{fields_of}
use Rattle.fir_fault_text.proofs.type_text.+type_text.Given as goal

abbrev pub invariant-put_fields-loop-i : goal.invariant-put_fields-loop-i
invariant-put_fields-loop-i l = l.out.items ≡ l.initial.out.items ++ bundle_text (fields_of (map field_of (take l.i l.fields)))
