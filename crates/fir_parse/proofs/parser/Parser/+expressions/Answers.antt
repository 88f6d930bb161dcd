use Rattle.std.proofs.Common.{◌≡◌, ◌+◌, true, false, None, refl, sym, ap, ◌∙◌, le_trans, le_of_lt, rules}
use Rattle.fir_ast.specs.Expressions.{Parts, no_parts, reference}
use Rattle.fir_ast.specs.Statements.{SinkReference}
use Rattle.fir_parse.specs.working.AtHand.{stop_at}
use Rattle.fir_parse.specs.declared.lexeme.Lexeme.TheVariants.{Word, End}
use Rattle.fir_parse.specs.declared.stop.Stop.TheVariants as stop
use Rattle.fir_parse.specs.Heights.{height_with}
use Rattle.fir_parse.specs.declared.lexeme.Mark.TheVariants.{OpenRound, OpenSquare}
use Rattle.fir_parse.specs.declared.words.Applied.{Applied}
use Rattle.fir_parse.specs.declared.words.Applied.TheVariants as applied
use Rattle.fir_parse.specs.working.ExpressionRules.{applied_rest, operator_rest, mux_rest, validif_rest, literal_rest, index_rest, reference_rest}
use Rattle.fir_parse.specs.Lexemes.{mark, word}
use Rattle.fir_parse.specs.working.Reading.{read_on}
use Rattle.fir_parse.specs.working.Reads.{rest}
use Rattle.fir_parse.specs.working.States.{State, wants}
use Rattle.fir_parse.specs.working.Symbols.{behind_word, an_expression, parts}
use Rattle.fir_parse.specs.working.Trees.{tall_expression, sink_height, index_tree, part_of}
use Rattle.fir_parse.proofs.BehindWords.{form_not_opened, form_opened, name_reads, begins_reference, other_expression}
use Rattle.fir_parse.proofs.IndexReads.{computed_first, plain_first, height_added, height_behind_index, index_ends, index_too_tall}
use Rattle.fir_parse.proofs.Plans.{takes_first, stays_before, unsupported_there, found, reads_behind, exits_behind, refused, opened, opened_too_many, ends_here, stands_there, exits_before}
use Rattle.fir_parse.proofs.ReferenceReads.{part_behind, height_behind, sink_of_parts, not_part}
use Rattle.fir_parse.proofs.parser.Parser.+expressions.Goals as goal
use Rattle.fir_parse.proofs.parser.Parser.+expressions.Goals.{behind_word-in_default-via-in-Mark+in_default, behind_word-in_default-via-in_default, reference-in_default-via-in-Mark+in_default, reference-in_default-via-in_default}
use Rattle.fir_parse.specs.Limits.{everywhere}

pub applied-returns-in_err-open_one-in-Operator-clause-reads : goal.applied-returns-in_err-open_one-in-Operator-clause-reads
applied-returns-in_err-open_one-in-Operator-clause-reads t c =
    form_not_opened c.args.depth c.args.place c.args.word.now c.args.bracket (applied.Operator c.in-Operator.op) (operator_rest (c.args.depth + 1) c.args.place c.in-Operator.op) tall_expression _ _ _ c.from_residual.result _
    c.requires.at_hand c.pass.ensures.rest c.in-Operator.ensures refl c.from_residual.ensures.1 c.in_err-open_one-in-Operator.ensures.opens

pub applied-returns-in_ok-open_one-in-Operator-clause-reads : goal.applied-returns-in_ok-open_one-in-Operator-clause-reads
applied-returns-in_ok-open_one-in-Operator-clause-reads t c =
    form_opened c.args.depth c.args.place c.args.word.now c.args.bracket (applied.Operator c.in-Operator.op) (operator_rest (c.args.depth + 1) c.args.place c.in-Operator.op) tall_expression _ _ _ c.operation.result
    c.requires.at_hand c.pass.ensures.rest c.in-Operator.ensures refl c.in_ok-open_one-in-Operator.ensures.opens c.operation.ensures.reads

pub applied-returns-in_err-open_one-in-Mux-clause-reads : goal.applied-returns-in_err-open_one-in-Mux-clause-reads
applied-returns-in_err-open_one-in-Mux-clause-reads t c =
    form_not_opened c.args.depth c.args.place c.args.word.now c.args.bracket applied.Mux (mux_rest (c.args.depth + 1) c.args.place) tall_expression _ _ _ c.from_residual-in_err-open_one-in-Mux.result _
    c.requires.at_hand c.pass-in-Mux.ensures.rest c.in-Mux.ensures refl c.from_residual-in_err-open_one-in-Mux.ensures.1 c.in_err-open_one-in-Mux.ensures.opens

pub applied-returns-in_ok-open_one-in-Mux-clause-reads : goal.applied-returns-in_ok-open_one-in-Mux-clause-reads
applied-returns-in_ok-open_one-in-Mux-clause-reads t c =
    form_opened c.args.depth c.args.place c.args.word.now c.args.bracket applied.Mux (mux_rest (c.args.depth + 1) c.args.place) tall_expression _ _ _ c.mux.result
    c.requires.at_hand c.pass-in-Mux.ensures.rest c.in-Mux.ensures refl c.in_ok-open_one-in-Mux.ensures.opens c.mux.ensures.reads

pub applied-returns-in_err-open_one-in-Validif-clause-reads : goal.applied-returns-in_err-open_one-in-Validif-clause-reads
applied-returns-in_err-open_one-in-Validif-clause-reads t c =
    form_not_opened c.args.depth c.args.place c.args.word.now c.args.bracket applied.Validif (validif_rest (c.args.depth + 1) c.args.place) tall_expression _ _ _ c.from_residual-in_err-open_one-in-Validif.result _
    c.requires.at_hand c.pass-in-Validif.ensures.rest c.in-Validif.ensures refl c.from_residual-in_err-open_one-in-Validif.ensures.1 c.in_err-open_one-in-Validif.ensures.opens

pub applied-returns-in_ok-open_one-in-Validif-clause-reads : goal.applied-returns-in_ok-open_one-in-Validif-clause-reads
applied-returns-in_ok-open_one-in-Validif-clause-reads t c =
    form_opened c.args.depth c.args.place c.args.word.now c.args.bracket applied.Validif (validif_rest (c.args.depth + 1) c.args.place) tall_expression _ _ _ c.validif.result
    c.requires.at_hand c.pass-in-Validif.ensures.rest c.in-Validif.ensures refl c.in_ok-open_one-in-Validif.ensures.opens c.validif.ensures.reads

pub applied-returns-in_err-open_one-in-UInt-clause-reads : goal.applied-returns-in_err-open_one-in-UInt-clause-reads
applied-returns-in_err-open_one-in-UInt-clause-reads t c =
    form_not_opened c.args.depth c.args.place c.args.word.now c.args.bracket applied.UInt (literal_rest c.args.place false None) tall_expression _ _ _ c.from_residual-in_err-open_one-in-UInt.result _
    c.requires.at_hand c.pass-in-UInt.ensures.rest c.in-UInt.ensures refl c.from_residual-in_err-open_one-in-UInt.ensures.1 c.in_err-open_one-in-UInt.ensures.opens

pub applied-returns-in_ok-open_one-in-UInt-clause-reads : goal.applied-returns-in_ok-open_one-in-UInt-clause-reads
applied-returns-in_ok-open_one-in-UInt-clause-reads t c =
    form_opened c.args.depth c.args.place c.args.word.now c.args.bracket applied.UInt (literal_rest c.args.place false None) tall_expression _ _ _ c.unsized_literal.result
    c.requires.at_hand c.pass-in-UInt.ensures.rest c.in-UInt.ensures refl c.in_ok-open_one-in-UInt.ensures.opens c.unsized_literal.ensures.reads

pub applied-returns-in_err-open_one-in-SInt-clause-reads : goal.applied-returns-in_err-open_one-in-SInt-clause-reads
applied-returns-in_err-open_one-in-SInt-clause-reads t c =
    form_not_opened c.args.depth c.args.place c.args.word.now c.args.bracket applied.SInt (literal_rest c.args.place true None) tall_expression _ _ _ c.from_residual-in_err-open_one-in-SInt.result _
    c.requires.at_hand c.pass-in-SInt.ensures.rest c.in-SInt.ensures refl c.from_residual-in_err-open_one-in-SInt.ensures.1 c.in_err-open_one-in-SInt.ensures.opens

pub applied-returns-in_ok-open_one-in-SInt-clause-reads : goal.applied-returns-in_ok-open_one-in-SInt-clause-reads
applied-returns-in_ok-open_one-in-SInt-clause-reads t c =
    form_opened c.args.depth c.args.place c.args.word.now c.args.bracket applied.SInt (literal_rest c.args.place true None) tall_expression _ _ _ c.unsized_literal-in-SInt.result
    c.requires.at_hand c.pass-in-SInt.ensures.rest c.in-SInt.ensures refl c.in_ok-open_one-in-SInt.ensures.opens c.unsized_literal-in-SInt.ensures.reads

pub applied-returns-in-Missing-clause-reads : goal.applied-returns-in-Missing-clause-reads
applied-returns-in-Missing-clause-reads t c =
    unsupported_there (behind_word c.args.depth c.args.place c.args.word.now) c.args.place c.args.word.now (mark OpenRound) c.args.bracket _ c.unsupported.result c.requires.at_hand
    (ap (λ (x : Applied). applied_rest x c.args.depth c.args.place c.args.word.now c.args.bracket) (sym c.in-Missing.ensures)) c.unsupported.ensures

pub applied-returns-in-Name-clause-reads : goal.applied-returns-in-Name-clause-reads
applied-returns-in-Name-clause-reads t c =
    name_reads c.args.depth c.args.place c.args.word.now _ c.named.result
    (stays_before (behind_word c.args.depth c.args.place c.args.word.now) _ (mark OpenRound) c.args.bracket _ c.requires.at_hand
    (ap (λ (x : Applied). applied_rest x c.args.depth c.args.place c.args.word.now c.args.bracket) (sym c.in-Name.ensures)))
    c.named.ensures.named c.named.ensures.why

pub behind_word-returns-in_default-clause-reads : goal.behind_word-returns-in_default-clause-reads
behind_word-returns-in_default-clause-reads t c =
    reads_behind _ (λ k. reference_rest c.args.depth c.args.place c.args.word.now (λ s. k (reference s.place s.name s.parts))) tall_expression _ _ _ c.referred.result
    (begins_reference c.args.depth c.args.place c.args.word.now c.peek-next.result.lexeme c.peek-next.result.place _ c.peek-next.ensures
    (elim c.in_default.branch [ behind_word-in_default-via-in-Mark+in_default w ↦ λ h. search rules | behind_word-in_default-via-in_default w ↦ λ h. search rules ])
    (elim c.in_default.branch [ behind_word-in_default-via-in-Mark+in_default w ↦ λ h. search rules | behind_word-in_default-via-in_default w ↦ λ h. search rules ]))
    c.referred.ensures.reads

pub expression-returns-in-Word-clause-reads : goal.expression-returns-in-Word-clause-reads
expression-returns-in-Word-clause-reads t c =
    reads_behind _ (wants (behind_word c.args.depth c.peek-next.result.place c.in-Word.word.now)) tall_expression _ _ _ c.behind_word.result
    (takes_first (an_expression c.args.depth) (wants (behind_word c.args.depth c.peek-next.result.place c.in-Word.word.now)) (word c.in-Word.word.now) c.peek-next.result.place _ _
    (found _ c.peek-next.result (Word c.in-Word.word) c.peek-next.ensures c.in-Word.is) c.pass.ensures.rest refl)
    c.behind_word.ensures.reads

pub expression-returns-in_default-clause-reads : goal.expression-returns-in_default-clause-reads
expression-returns-in_default-clause-reads t c =
    refused (an_expression c.args.depth) _ c.peek-next.result.lexeme c.peek-next.result.place _ c.peek-next.ensures c.refused.ensures
    (other_expression c.args.depth c.peek-next.result.lexeme c.peek-next.result.place c.in_default.not-Word)

pub index-returns-in_err-expr-in-Word-clause-reads : goal.index-returns-in_err-expr-in-Word-clause-reads
index-returns-in_err-expr-in-Word-clause-reads t c =
    exits_behind _ _ _ _ _ _ c.from_residual.result _ _ c.from_residual.ensures.1
    (computed_first c.args.depth c.in-Word.field-0.now c.peek-next.result.place _ (found _ c.peek-next.result (Word c.in-Word.field-0) c.peek-next.ensures c.in-Word.is))
    c.in_err-expr-in-Word.ensures.reads

pub index-returns-in_ok-expr-in-Word-clause-reads : goal.index-returns-in_ok-expr-in-Word-clause-reads
index-returns-in_ok-expr-in-Word-clause-reads t c = λ end k.
    computed_first c.args.depth c.in-Word.field-0.now c.peek-next.result.place _ (found _ c.peek-next.result (Word c.in-Word.field-0) c.peek-next.ensures c.in-Word.is) end k
    ∙ c.in_ok-expr-in-Word.ensures.reads end _

pub index-returns-in_err-number-in_default-clause-reads : goal.index-returns-in_err-number-in_default-clause-reads
index-returns-in_err-number-in_default-clause-reads t c =
    exits_behind _ _ _ _ _ _ c.from_residual-in_err-number-in_default.result _ _ c.from_residual-in_err-number-in_default.ensures.1
    (plain_first c.args.depth c.peek-next.result.lexeme c.peek-next.result.place _ c.peek-next.ensures c.in_default.not-Word)
    c.in_err-number-in_default.ensures.reads

pub index-returns-in_ok-number-in_default-clause-reads : goal.index-returns-in_ok-number-in_default-clause-reads
index-returns-in_ok-number-in_default-clause-reads t c = λ end k.
    plain_first c.args.depth c.peek-next.result.lexeme c.peek-next.result.place _ c.peek-next.ensures c.in_default.not-Word end k
    ∙ c.in_ok-number-in_default.ensures.reads end _

pub reference-loop-parts-preserved-in-Dot-1 : goal.reference-loop-parts-preserved-in-Dot-1
reference-loop-parts-preserved-in-Dot-1 t c = record {
  leads = part_behind c.args.depth c.loop-parts.height (c.loop-parts.height + 1) c.loop-parts.parts.items c.in_ok-subfield-in-Mark-Dot.field-0 c.push.new.self.items _ _ _ c.loop-parts.invariant.leads c.in_ok-subfield-in-Mark-Dot.ensures.reads c.in_ok-push-in-Mark-Dot.ensures.items;
  high = height_behind c.loop-parts.height (c.loop-parts.height + 1) c.loop-parts.parts.items c.in_ok-subfield-in-Mark-Dot.field-0 c.push.new.self.items c.loop-parts.invariant.high c.in_ok-subfield-in-Mark-Dot.ensures.high c.in_ok-push-in-Mark-Dot.ensures.items;
  low = c.in_ok-subfield-in-Mark-Dot.ensures.low;
  nearer = le_trans (le_of_lt c.in_ok-subfield-in-Mark-Dot.ensures.nearer) c.loop-parts.invariant.nearer;
}

pub reference-loop-parts-preserved : goal.reference-loop-parts-preserved
reference-loop-parts-preserved t c = record {
  leads = part_behind c.args.depth c.loop-parts.height c.in_ok-part-in-Mark-OpenSquare.part.height c.loop-parts.parts.items c.in_ok-part-in-Mark-OpenSquare.part.tree c.push-in-Mark-OpenSquare.new.self.items _ _ _ c.loop-parts.invariant.leads c.in_ok-part-in-Mark-OpenSquare.ensures.reads c.in_ok-push-in-Mark-OpenSquare.ensures.items;
  high = height_behind c.loop-parts.height c.in_ok-part-in-Mark-OpenSquare.part.height c.loop-parts.parts.items c.in_ok-part-in-Mark-OpenSquare.part.tree c.push-in-Mark-OpenSquare.new.self.items c.loop-parts.invariant.high c.in_ok-part-in-Mark-OpenSquare.ensures.high c.in_ok-push-in-Mark-OpenSquare.ensures.items;
  low = c.in_ok-part-in-Mark-OpenSquare.ensures.low;
  nearer = le_trans (le_of_lt c.in_ok-part-in-Mark-OpenSquare.ensures.nearer) c.loop-parts.invariant.nearer;
}

pub reference-returns-in-End-clause-reads : goal.reference-returns-in-End-clause-reads
reference-returns-in-End-clause-reads t c =
    let is : c.refused.result ≡ stop.AtEnd = c.refused.ensures ∙ ap (λ l. stop_at l c.peek-next.result.place) c.in-End.is in
    rw is (λ end k. c.loop-parts.invariant.leads end _ ∙ ends_here (parts c.args.depth c.loop-parts.height) _ (found _ c.peek-next.result End c.peek-next.ensures c.in-End.is) end _)

pub reference-returns-in_default-clause-reads : goal.reference-returns-in_default-clause-reads
reference-returns-in_default-clause-reads t c = λ end k.
    c.loop-parts.invariant.leads end _
    ∙ stays_before (parts c.args.depth c.loop-parts.height) no_parts _ _ _
    (stands_there _ c.peek-next.result.lexeme c.peek-next.result.place c.peek-next.ensures (elim c.in_default.branch [ reference-in_default-via-in-Mark+in_default w ↦ w.in_default.not-End | reference-in_default-via-in_default w ↦ w.in_default.not-End ]))
    (not_part c.args.depth c.loop-parts.height c.peek-next.result.lexeme c.peek-next.result.place
    (elim c.in_default.branch [ reference-in_default-via-in-Mark+in_default w ↦ λ h. search rules | reference-in_default-via-in_default w ↦ λ h. search rules ])
    (elim c.in_default.branch [ reference-in_default-via-in-Mark+in_default w ↦ λ h. search rules | reference-in_default-via-in_default w ↦ λ h. search rules ]))
    end _
    ∙ ap (λ (s : SinkReference). read_on everywhere end (k s) (rest c.loop-parts.self)) (sym (sink_of_parts c.args.place c.in_ok-name.name c.args.name.now c.loop-parts.parts c.in_ok-name.ensures))

pub reference-returns-in_default-clause-high : goal.reference-returns-in_default-clause-high
reference-returns-in_default-clause-high t c =
    (sym (ap sink_height (sink_of_parts c.args.place c.in_ok-name.name c.args.name.now c.loop-parts.parts c.in_ok-name.ensures) ∙ c.loop-parts.invariant.high no_parts), c.loop-parts.invariant.low)

pub subindex-returns-in_err-open_one-clause-reads : goal.subindex-returns-in_err-open_one-clause-reads
subindex-returns-in_err-open_one-clause-reads t c =
    exits_before _ _ _ _ _ _ c.from_residual.result _ (λ (k : Parts → State). k) c.from_residual.ensures.1
    (takes_first (parts c.args.depth c.args.height) (index_rest c.args.depth c.args.height c.args.bracket) (mark OpenSquare) _ _ _ c.requires.at_hand c.pass.ensures.rest refl)
    (opened_too_many c.args.depth c.args.bracket _ _ _ c.in_err-open_one.ensures.opens)

pub subindex-returns-in_err-index-clause-reads : goal.subindex-returns-in_err-index-clause-reads
subindex-returns-in_err-index-clause-reads t c =
    exits_before _ _ _ _ _ _ c.from_residual-in_err-index.result _ _ c.from_residual-in_err-index.ensures.1
    (λ end k. takes_first (parts c.args.depth c.args.height) (index_rest c.args.depth c.args.height c.args.bracket) (mark OpenSquare) _ _ _ c.requires.at_hand c.pass.ensures.rest refl end k
    ∙ opened c.args.depth c.args.bracket _ end _ c.in_ok-open_one.ensures.opens)
    c.in_err-index.ensures.reads

pub subindex-returns-in_err-close-clause-reads : goal.subindex-returns-in_err-close-clause-reads
subindex-returns-in_err-close-clause-reads t c =
    exits_before _ _ _ _ _ _ c.from_residual-in_err-close.result _ _ c.from_residual-in_err-close.ensures.1
    (λ end k. takes_first (parts c.args.depth c.args.height) (index_rest c.args.depth c.args.height c.args.bracket) (mark OpenSquare) _ _ _ c.requires.at_hand c.pass.ensures.rest refl end k
    ∙ opened c.args.depth c.args.bracket _ end _ c.in_ok-open_one.ensures.opens ∙ c.in_ok-index.ensures.reads end _)
    c.in_err-close.ensures.reads

pub subindex-returns-in_err-end_form-clause-reads : goal.subindex-returns-in_err-end_form-clause-reads
subindex-returns-in_err-end_form-clause-reads t c =
    exits_before _ _ _ _ _ _ c.from_residual-in_err-end_form.result _ (λ (k : Parts → State). k) c.from_residual-in_err-end_form.ensures.1
    (λ end k. takes_first (parts c.args.depth c.args.height) (index_rest c.args.depth c.args.height c.args.bracket) (mark OpenSquare) _ _ _ c.requires.at_hand c.pass.ensures.rest refl end k
    ∙ opened c.args.depth c.args.bracket _ end _ c.in_ok-open_one.ensures.opens ∙ c.in_ok-index.ensures.reads end _ ∙ c.in_ok-close.ensures.reads end _)
    (index_too_tall c.args.depth c.args.height (c.max-height.result + 1) c.args.bracket (index_tree c.in_ok-index.index.tree) c.in_ok-close.close _ _
    (height_added c.args.height _ _ _ c.max-height.ensures c.in_ok-index.ensures.high.0) c.in_err-end_form.ensures.ends)

pub subindex-returns-clause-reads : goal.subindex-returns-clause-reads
subindex-returns-clause-reads t c = λ end k.
    takes_first (parts c.args.depth c.args.height) (index_rest c.args.depth c.args.height c.args.bracket) (mark OpenSquare) _ _ _ c.requires.at_hand c.pass.ensures.rest refl end k
    ∙ opened c.args.depth c.args.bracket _ end _ c.in_ok-open_one.ensures.opens ∙ c.in_ok-index.ensures.reads end _ ∙ c.in_ok-close.ensures.reads end _
    ∙ index_ends c.args.depth c.args.height (c.max-height.result + 1) c.args.bracket (index_tree c.in_ok-index.index.tree) (part_of c.in_ok-tree.tree) c.in_ok-close.close _
    (height_added c.args.height _ _ _ c.max-height.ensures c.in_ok-index.ensures.high.0) c.in_ok-tree.ensures.part c.in_ok-end_form.ensures.ends end k

pub subindex-returns-clause-high : goal.subindex-returns-clause-high
subindex-returns-clause-high t c = λ ps.
    ap (λ (f : Parts → Parts). height_with (f ps) c.args.height) c.in_ok-tree.ensures.part
    ∙ height_behind_index c.args.height c.args.bracket (index_tree c.in_ok-index.index.tree) ps
    ∙ ap (λ n. height_with ps n) (sym (height_added c.args.height _ _ (index_tree c.in_ok-index.index.tree) c.max-height.ensures c.in_ok-index.ensures.high.0))
