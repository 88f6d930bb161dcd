-- Each call has fewer tokens left, or passes the same ones to a later method of the cycle.
use Rattle.std.proofs.Common.{◌≡◌, ◌+◌, ◌*◌, ◌≤◌, map}
use Rattle.fir_ast.specs.working.BundleText.{field_of}
use Rattle.fir_ast.specs.View.{fields_of}
use Rattle.fir_ast.specs.declared.place.Place.{Place}
use Rattle.fir_parse.specs.working.BundlePlans.{some_fields, before}
use Rattle.fir_parse.specs.Heights.{fields_height}
use Rattle.fir_parse.specs.working.Reading.{read_on}
use Rattle.fir_parse.specs.working.Reads.{left, rest}
use Rattle.fir_parse.specs.working.States.{State}
use Rattle.fir_parse.specs.working.Symbols.{FieldsTree}
use Rattle.fir_parse.proofs.parser.Parser.+types.Given as goal
use Rattle.fir_parse.specs.Limits.{everywhere}

abbrev pub decreases-ty : goal.decreases-ty
decreases-ty l = 4 * left l.self.now + 2

abbrev pub decreases-type_at_hand : goal.decreases-type_at_hand
decreases-type_at_hand l = 4 * left l.self.now + 1

abbrev pub decreases-bundle : goal.decreases-bundle
decreases-bundle l = 4 * left l.self.now

abbrev pub decreases-fields : goal.decreases-fields
decreases-fields l = 4 * left l.self.now + 3

abbrev pub decreases-some_fields : goal.decreases-some_fields
decreases-some_fields l = 4 * left l.self.now + 2

abbrev pub decreases-field : goal.decreases-field
decreases-field l = 4 * left l.self.now + 1

abbrev pub decreases-flipped_field : goal.decreases-flipped_field
decreases-flipped_field l = 4 * left l.self.now

abbrev pub decreases-field_behind : goal.decreases-field_behind
decreases-field_behind l = 4 * left l.self.now

-- reading on behind the fields so far is reading on as at the start
abbrev pub invariant-some_fields-loop-fields : goal.invariant-some_fields-loop-fields
invariant-some_fields-loop-fields l = record {
  reads : (end : Place) (k : FieldsTree → State) → read_on everywhere end (some_fields l.depth k) (rest l.fn.self) ≡ read_on everywhere end (some_fields l.depth (λ fs. k (before (map field_of l.fields.items) fs))) (rest l.self);
  high : (l.height ≡ fields_height (fields_of (map field_of l.fields.items))) × (l.height ≤ 256);
  nearer : left l.self ≤ left l.fn.self;
}

abbrev pub decreases-some_fields-loop-fields : goal.decreases-some_fields-loop-fields
decreases-some_fields-loop-fields l = left l.self
