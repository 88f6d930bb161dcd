-- Types, bundles and their fields.
use Rattle.std.proofs.Common.{false, refl, sym, ap, ◌∙◌, ◌+◌, codes, map, rules, arith}
use Rattle.std.specs.Str.{bytes_eq}
use Rattle.fir_ast.specs.Types.{bundle}
use Rattle.fir_ast.specs.Statements.{PlacedName}
use Rattle.fir_ast.specs.working.BundleText.{field_of}
use Rattle.fir_ast.specs.View.{fields_of}
use Rattle.fir_parse.specs.declared.lexeme.Lexeme.TheVariants.{Word, Mark}
use Rattle.fir_parse.specs.declared.lexeme.Mark.TheVariants.{OpenCurly, CloseCurly, Colon}
use Rattle.fir_parse.specs.working.BundlePlans.{some_fields, behind_field, before}
use Rattle.fir_parse.specs.Lexemes.{mark, word}
use Rattle.fir_parse.specs.working.Reading.{read_on}
use Rattle.fir_parse.specs.working.Reads.{rest}
use Rattle.fir_parse.specs.working.States.{wants, opens}
use Rattle.fir_parse.specs.working.Symbols.{a_type, a_field, behind_flip, fields, more_fields, dimensions}
use Rattle.fir_parse.specs.working.Trees.{tall_type, tall_field, bundle_fields}
use Rattle.fir_parse.specs.working.TypeRules.{type_at, field_rest, with_field}
use Rattle.fir_parse.proofs.Plans.{found, takes_first, refused, exits_behind, reads_behind, reads_mapped, opened, opened_too_many}
use Rattle.fir_parse.proofs.TypeReads.{begins_bundle, open_bundle, closed_bundle, ended_at, too_tall_at, same_dimensions, begins_with_name, begins_with_field, flips_name, names_flip, is_flip, is_no_flip, not_type}
use Rattle.fir_parse.proofs.TypeViews.{bundle_view}
use Rattle.fir_parse.proofs.BundleTrees.{none_before, none_high, last_field, taller, high_with_last, behind_one_more}
use Rattle.fir_parse.proofs.parser.Parser.+types.Goals as goal
use Rattle.fir_parse.proofs.parser.Parser.+types.Goals.{field-in_default-via-in-Word+else-eq, field-in_default-via-in_default, flipped_field-in_default-via-in-Mark+in_default, flipped_field-in_default-via-in_default, type_at_hand-in_default-via-in-Mark+in_default, type_at_hand-in_default-via-in_default, fields-in_default-via-in-Mark+in_default, fields-in_default-via-in_default}
use Rattle.fir_parse.specs.Limits.{everywhere}

-- a type

pub ty-type_at_hand-requires : goal.ty-type_at_hand-requires
ty-type_at_hand-requires t c = (omega arith, (c.requires, c.peek-next.ensures))

pub type_at_hand-returns-in_default-clause-reads : goal.type_at_hand-returns-in_default-clause-reads
type_at_hand-returns-in_default-clause-reads t c =
    refused (a_type c.args.depth) _ c.args.next.lexeme _ _ c.requires.at_hand c.refused.ensures
    (not_type c.args.depth c.args.next.lexeme c.args.next.place
    (elim c.in_default.branch [ type_at_hand-in_default-via-in-Mark+in_default w ↦ w.in_default.not-Word | type_at_hand-in_default-via-in_default w ↦ w.in_default.not-Word ])
    (elim c.in_default.branch [ type_at_hand-in_default-via-in-Mark+in_default w ↦ λ h. search rules | type_at_hand-in_default-via-in_default w ↦ λ h. search rules ]))

pub type_at_hand-bundle-requires : goal.type_at_hand-bundle-requires
type_at_hand-bundle-requires t c = (omega arith, (c.requires.depth, found _ c.args.next (Mark OpenCurly) c.requires.at_hand (search rules)))

-- a bundle

pub bundle-returns-in_err-open_one-clause-reads : goal.bundle-returns-in_err-open_one-clause-reads
bundle-returns-in_err-open_one-clause-reads t c =
    exits_behind _ (λ k. opens c.args.depth c.args.place (open_bundle c.args.depth k)) _ _ _ _ c.from_residual.result _ _ c.from_residual.ensures.1
    (begins_bundle c.args.depth _ _ _ c.requires.at_hand c.pass.ensures.rest)
    (opened_too_many c.args.depth c.args.place (open_bundle c.args.depth) _ _ c.in_err-open_one.ensures.opens)

pub bundle-fields-requires : goal.bundle-fields-requires
bundle-fields-requires t c = (omega (arith, c.pass.ensures.nearer), omega (arith, c.in_ok-open_one.ensures.opens))

pub bundle-returns-in_err-fields-clause-reads : goal.bundle-returns-in_err-fields-clause-reads
bundle-returns-in_err-fields-clause-reads t c =
    exits_behind _ _ _ _ _ _ c.from_residual-in_err-fields.result _ _ c.from_residual-in_err-fields.ensures.1
    (λ end k.
    begins_bundle c.args.depth _ _ _ c.requires.at_hand c.pass.ensures.rest end k
    ∙ opened c.args.depth c.args.place _ end _ c.in_ok-open_one.ensures.opens)
    c.in_err-fields.ensures.reads

pub bundle-returns-in_err-end_form-clause-reads : goal.bundle-returns-in_err-end_form-clause-reads
bundle-returns-in_err-end_form-clause-reads t c =
    exits_behind _ (closed_bundle c.args.depth (bundle_fields c.in_ok-fields.fields)) _ _ _ _ c.from_residual-in_err-end_form.result _ (λ k t. k (type_at c.args.place t)) c.from_residual-in_err-end_form.ensures.1
    (λ end k.
    begins_bundle c.args.depth _ _ _ c.requires.at_hand c.pass.ensures.rest end k
    ∙ opened c.args.depth c.args.place _ end _ c.in_ok-open_one.ensures.opens
    ∙ c.in_ok-fields.ensures.reads end _)
    (too_tall_at (c.in_ok-fields.fields.height + 1) _ (ap (λ n. n + 1) c.in_ok-fields.ensures.high.0) c.in_ok-fields.fields.close (λ k. wants (dimensions c.args.depth (bundle (bundle_fields c.in_ok-fields.fields).fields)) k) _ _ c.in_err-end_form.ensures.ends)

pub bundle-returns-clause-reads : goal.bundle-returns-clause-reads
bundle-returns-clause-reads t c =
    reads_mapped _ _ (type_at c.args.place) tall_type _ _ (rest c.dimensions.new.self) c.dimensions.result
    (λ end k.
    begins_bundle c.args.depth _ _ _ c.requires.at_hand c.pass.ensures.rest end k
    ∙ opened c.args.depth c.args.place _ end _ c.in_ok-open_one.ensures.opens
    ∙ c.in_ok-fields.ensures.reads end _
    ∙ ended_at (c.in_ok-fields.fields.height + 1) _ (ap (λ n. n + 1) c.in_ok-fields.ensures.high.0) c.in_ok-fields.fields.close _ end _ c.in_ok-end_form.ensures.ends
    ∙ same_dimensions c.args.depth _ _ (sym (bundle_view c.in_ok-fields.fields.fields)) end _ _)
    c.dimensions.ensures.reads

-- the fields of a bundle

pub fields-some_fields-requires : goal.fields-some_fields-requires
fields-some_fields-requires t c = (omega arith, c.requires)

pub fields-returns-in-Mark-CloseCurly-clause-reads : goal.fields-returns-in-Mark-CloseCurly-clause-reads
fields-returns-in-Mark-CloseCurly-clause-reads t c = λ end k.
    takes_first (fields c.args.depth) _ (mark CloseCurly) _ _ _ (found _ c.peek-next.result (Mark CloseCurly) c.peek-next.ensures (search rules)) c.pass.ensures.rest refl end k
    ∙ ap (λ xs. read_on everywhere end (k (record { fields = fields_of (map field_of xs); close = c.peek-next.result.place })) (rest c.pass.new.self)) (sym c.new.ensures.items)

pub fields-returns-in_default-clause-reads : goal.fields-returns-in_default-clause-reads
fields-returns-in_default-clause-reads t c =
    reads_behind _ _ bundle_fields _ _ (rest c.some_fields.new.self) c.some_fields.result
    (begins_with_field c.args.depth _ c.peek-next.result.lexeme c.peek-next.result.place c.peek-next.ensures
    (elim c.in_default.branch [ fields-in_default-via-in-Mark+in_default w ↦ λ h. search rules | fields-in_default-via-in_default w ↦ λ h. search rules ]))
    c.some_fields.ensures.reads

-- a field and those behind it

pub some_fields-loop-fields-init : goal.some_fields-loop-fields-init
some_fields-loop-fields-init t c = record {
  reads = λ end k. none_before c.new-fields.result.items c.new-fields.ensures.items c.args.depth end k _;
  high = (none_high c.new-fields.result.items c.new-fields.ensures.items, omega arith);
  nearer = omega arith;
}

pub some_fields-field-requires : goal.some_fields-field-requires
some_fields-field-requires t c = (omega (arith, c.loop-fields.invariant.nearer), c.requires)

pub some_fields-returns-in_err-field-clause-reads : goal.some_fields-returns-in_err-field-clause-reads
some_fields-returns-in_err-field-clause-reads t c =
    exits_behind _ (wants (a_field c.args.depth)) _ _ _ _ c.from_residual.result _
    (λ k f. wants (more_fields c.args.depth) (λ fs. k (before (map field_of c.loop-fields.fields.items) (with_field f fs)))) c.from_residual.ensures.1
    c.loop-fields.invariant.reads c.in_err-field.ensures.reads

pub some_fields-returns-in_err-close-clause-reads : goal.some_fields-returns-in_err-close-clause-reads
some_fields-returns-in_err-close-clause-reads t c =
    exits_behind _ (wants (more_fields c.args.depth)) _ _ _ _ c.from_residual-in_err-close.result _
    (λ k fs. k (before (map field_of c.loop-fields.fields.items) (with_field (tall_field c.in_ok-field.field) fs))) c.from_residual-in_err-close.ensures.1
    (λ end k. c.loop-fields.invariant.reads end k ∙ c.in_ok-field.ensures.reads end _)
    (c.in_err-close.ensures.reads c.args.depth)

pub some_fields-returns-in-Some-clause-reads : goal.some_fields-returns-in-Some-clause-reads
some_fields-returns-in-Some-clause-reads t c = λ end k.
    c.loop-fields.invariant.reads end k
    ∙ c.in_ok-field.ensures.reads end _
    ∙ c.in_ok-close.ensures.reads c.args.depth end _
    ∙ ap (λ o. read_on everywhere end (behind_field c.args.depth o (λ fs. k (before (map field_of c.loop-fields.fields.items) (with_field (tall_field c.in_ok-field.field) fs)))) (rest c.behind_field.new.self)) c.in-Some.is
    ∙ ap (λ fs. read_on everywhere end (k fs) (rest c.behind_field.new.self)) (last_field c.loop-fields.fields.items c.push.new.self.items c.in_ok-field.field.tree c.in_ok-push.ensures.items c.in-Some.close)

pub some_fields-returns-in-Some-clause-high : goal.some_fields-returns-in-Some-clause-high
some_fields-returns-in-Some-clause-high t c =
    high_with_last c.loop-fields.fields.items c.push.new.self.items c.in_ok-field.field.tree _ _ _ c.in_ok-push.ensures.items (c.max-height.ensures ∙ taller _ _) c.loop-fields.invariant.high c.in_ok-field.ensures.high

pub some_fields-returns-in-Some-clause-nearer : goal.some_fields-returns-in-Some-clause-nearer
some_fields-returns-in-Some-clause-nearer t c = omega (arith, c.loop-fields.invariant.nearer, c.in_ok-field.ensures.nearer, c.in_ok-close.ensures.nearer)

pub some_fields-loop-fields-smaller : goal.some_fields-loop-fields-smaller
some_fields-loop-fields-smaller t c = omega (arith, c.in_ok-field.ensures.nearer, c.in_ok-close.ensures.nearer)

pub some_fields-loop-fields-preserved : goal.some_fields-loop-fields-preserved
some_fields-loop-fields-preserved t c = record {
  reads = λ end k.
      c.loop-fields.invariant.reads end k
      ∙ c.in_ok-field.ensures.reads end _
      ∙ c.in_ok-close.ensures.reads c.args.depth end _
      ∙ ap (λ o. read_on everywhere end (behind_field c.args.depth o (λ fs. k (before (map field_of c.loop-fields.fields.items) (with_field (tall_field c.in_ok-field.field) fs)))) (rest c.behind_field.new.self)) c.in_default.is
      ∙ ap (λ m. read_on everywhere end (some_fields c.args.depth m) (rest c.behind_field.new.self)) (behind_one_more c.loop-fields.fields.items c.push.new.self.items c.in_ok-field.field.tree c.in_ok-push.ensures.items k);
  high = high_with_last c.loop-fields.fields.items c.push.new.self.items c.in_ok-field.field.tree _ _ _ c.in_ok-push.ensures.items (c.max-height.ensures ∙ taller _ _) c.loop-fields.invariant.high c.in_ok-field.ensures.high;
  nearer = omega (arith, c.loop-fields.invariant.nearer, c.in_ok-field.ensures.nearer, c.in_ok-close.ensures.nearer);
}

-- one field

pub field-flipped_field-requires : goal.field-flipped_field-requires
field-flipped_field-requires t c = (
  omega arith,
  (
    c.requires,
    is_flip c.in-Word.word.now _ _ (found _ c.peek-next.result (Word c.in-Word.word) c.peek-next.ensures c.in-Word.is)
        (ap (bytes_eq c.in-Word.word.now) (sym c.as_slice.ensures) ∙ ap (λ x. bytes_eq x.now c.as_slice.result.now) (sym c.in-Word.word-is) ∙ sym c.eq.ensures ∙ c.if-eq.true),
  ),
)

pub field-returns-in_err-name-in_default-clause-reads : goal.field-returns-in_err-name-in_default-clause-reads
field-returns-in_err-name-in_default-clause-reads t c =
    exits_behind _ _ _ _ _ _ c.from_residual.result _ _ c.from_residual.ensures.1
    (begins_with_name c.args.depth _ c.peek-next.result.lexeme c.peek-next.result.place c.peek-next.ensures
    (elim c.in_default.branch [
      | field-in_default-via-in-Word+else-eq w ↦ λ x h. is_no_flip _ x w.in-Word.word h w.in-Word.is
          (ap (bytes_eq w.in-Word.word.now) (sym w.as_slice.ensures) ∙ ap (λ y. bytes_eq y.now w.as_slice.result.now) (sym w.in-Word.word-is) ∙ sym w.eq.ensures ∙ w.if-eq.false)
      | field-in_default-via-in_default w ↦ λ x h. absurd (w.in_default.not-Word x h)
    ]))
    c.in_err-name-in_default.ensures.reads

pub field-field_behind-requires : goal.field-field_behind-requires
field-field_behind-requires t c = (omega (arith, c.in_ok-name-in_default.ensures.nearer), c.requires)

pub field-returns-in_ok-name-in_default-clause-reads : goal.field-returns-in_ok-name-in_default-clause-reads
field-returns-in_ok-name-in_default-clause-reads t c =
    reads_behind _ _ tall_field _ _ (rest c.field_behind.new.self) c.field_behind.result
    (λ end k.
    begins_with_name c.args.depth _ c.peek-next.result.lexeme c.peek-next.result.place c.peek-next.ensures
    (elim c.in_default.branch [
      | field-in_default-via-in-Word+else-eq w ↦ λ x h. is_no_flip _ x w.in-Word.word h w.in-Word.is
          (ap (bytes_eq w.in-Word.word.now) (sym w.as_slice.ensures) ∙ ap (λ y. bytes_eq y.now w.as_slice.result.now) (sym w.in-Word.word-is) ∙ sym w.eq.ensures ∙ w.if-eq.false)
      | field-in_default-via-in_default w ↦ λ x h. absurd (w.in_default.not-Word x h)
    ]) end k
    ∙ c.in_ok-name-in_default.ensures.reads end _)
    c.field_behind.ensures.reads

pub flipped_field-field_behind-requires : goal.flipped_field-field_behind-requires
flipped_field-field_behind-requires t c = (omega (arith, c.pass.ensures.nearer), c.requires.depth)

pub flipped_field-returns-in_ok-name-in-Mark-Colon-clause-reads : goal.flipped_field-returns-in_ok-name-in-Mark-Colon-clause-reads
flipped_field-returns-in_ok-name-in-Mark-Colon-clause-reads t c =
    reads_behind _ _ tall_field _ _ (rest c.field_behind.new.self) c.field_behind.result
    (λ end k.
    takes_first (a_field c.args.depth) (wants (behind_flip c.args.depth c.args.place)) (word (codes "flip")) c.args.place _ _ c.requires.at_hand c.pass.ensures.rest refl end k
    ∙ names_flip c.args.depth c.args.place _ _ (found _ c.peek-next.result (Mark Colon) c.peek-next.ensures (search rules)) end k
    ∙ ap (λ (n : PlacedName). read_on everywhere end (field_rest c.args.depth n.place false n.name k) (rest c.pass.new.self)) (sym c.in_ok-name-in-Mark-Colon.ensures))
    c.field_behind.ensures.reads

pub flipped_field-returns-in_err-name-in_default-clause-reads : goal.flipped_field-returns-in_err-name-in_default-clause-reads
flipped_field-returns-in_err-name-in_default-clause-reads t c =
    exits_behind _ _ _ _ _ _ c.from_residual-in_err-name-in_default.result _ _ c.from_residual-in_err-name-in_default.ensures.1
    (λ end k.
    takes_first (a_field c.args.depth) (wants (behind_flip c.args.depth c.args.place)) (word (codes "flip")) c.args.place _ _ c.requires.at_hand c.pass.ensures.rest refl end k
    ∙ flips_name c.args.depth c.args.place _ c.peek-next.result.lexeme c.peek-next.result.place c.peek-next.ensures
    (elim c.in_default.branch [ flipped_field-in_default-via-in-Mark+in_default w ↦ λ h. search rules | flipped_field-in_default-via-in_default w ↦ λ h. search rules ]) end k)
    c.in_err-name-in_default.ensures.reads

pub flipped_field-field_behind-requires-in_default : goal.flipped_field-field_behind-requires-in_default
flipped_field-field_behind-requires-in_default t c = (omega (arith, c.pass.ensures.nearer, c.in_ok-name-in_default.ensures.nearer), c.requires.depth)

pub flipped_field-returns-in_ok-name-in_default-clause-reads : goal.flipped_field-returns-in_ok-name-in_default-clause-reads
flipped_field-returns-in_ok-name-in_default-clause-reads t c =
    reads_behind _ _ tall_field _ _ (rest c.field_behind-in_default.new.self) c.field_behind-in_default.result
    (λ end k.
    takes_first (a_field c.args.depth) (wants (behind_flip c.args.depth c.args.place)) (word (codes "flip")) c.args.place _ _ c.requires.at_hand c.pass.ensures.rest refl end k
    ∙ flips_name c.args.depth c.args.place _ c.peek-next.result.lexeme c.peek-next.result.place c.peek-next.ensures
    (elim c.in_default.branch [ flipped_field-in_default-via-in-Mark+in_default w ↦ λ h. search rules | flipped_field-in_default-via-in_default w ↦ λ h. search rules ]) end k
    ∙ c.in_ok-name-in_default.ensures.reads end _)
    c.field_behind-in_default.ensures.reads

-- the colon and the type

pub field_behind-ty-requires : goal.field_behind-ty-requires
field_behind-ty-requires t c = (omega (arith, c.in_ok-mark.ensures.nearer), c.requires)
