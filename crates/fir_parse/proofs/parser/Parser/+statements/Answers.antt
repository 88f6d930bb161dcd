use Rattle.std.proofs.Common.{◌≡◌, ℕ, ◌+◌, Bor, List, [], map, codes, rules, true, false, refl, sym, ap, subst, ◌∙◌}
use Rattle.std.proofs.lemmas.List.{length-map}
use Rattle.std.proofs.lemmas.Bool.{eqb-true}
use Rattle.std.specs.Str.{bytes_eq}
use Rattle.fir_ast.specs.Statements.{done, invalid}
use Rattle.fir_ast.specs.working.Views.{block_of, expr_of, stmt_of}
use Rattle.fir_parse.specs.declared.lexeme.Lexeme.{Lexeme}
use Rattle.fir_parse.specs.declared.lexeme.Lexeme.TheVariants.{Word, Mark, LevelOpens, LevelCloses, End}
use Rattle.fir_parse.specs.declared.lexeme.Mark.TheVariants.{Colon}
use Rattle.fir_parse.specs.declared.words.Lead.TheVariants as lead
use Rattle.fir_parse.specs.Lexemes.{word, mark, level_opens, level_closes}
use Rattle.fir_parse.specs.working.Seen.{seen}
use Rattle.fir_parse.specs.working.PartPlans.{block_behind_plan}
use Rattle.fir_parse.specs.working.Reading.{read_on}
use Rattle.fir_parse.specs.working.Reads.{rest}
use Rattle.fir_parse.specs.working.States.{wants}
use Rattle.fir_parse.specs.working.StatementRules.{begun, behind_otherwise, behind_statement, closed_before, declared, is_named, may_be_else, ref_rest}
use Rattle.fir_parse.specs.working.StatementTrees.{begun_of, done_of, more_statements, open_when_of, opens_of, otherwise_of, statements_before, DeepensElse}
use Rattle.fir_parse.specs.working.Symbols.{an_indented_block, behind_else, behind_first, behind_is, else_when, no_else, statement, statements}
use Rattle.fir_parse.proofs.Plans.{ends_here, exits_behind, found, reads_behind, refused, refuses_one, stands_there, stays_before, stops_behind, takes_first, unsupported_there, exits_before}
use Rattle.fir_parse.proofs.Sequences.{before_done, behind_alike, closed_all, no_else_word, no_whens, none_left, some_open, starts}
use Rattle.fir_parse.proofs.StatementViews.{invalid_view}
use Rattle.fir_parse.proofs.StatementReads.{alike, begins_reference, behind_is_declares, behind_is_refuses, by_second_word, declared_at_end, declares_nothing, else_word, first_word, invalid_behind_is, no_block, no_else_behind, no_port_of_memory, other_statement, port_of_memory, second_is_is, when_behind_else, GoesOn}
use Rattle.fir_parse.proofs.parser.Parser.+statements.Goals as goal
use Rattle.fir_parse.proofs.parser.Parser.+statements.Goals.{behind_is-in_default-via-in-Word+else-eq, behind_is-in_default-via-in_default, behind_else-in_default-via-in-Mark+in_default, behind_else-in_default-via-in-Word+else-eq, behind_else-in_default-via-in_default, next_statement-else-eq-via-then-eq+else-not-is_empty, next_statement-else-eq-via-else-eq}
use Rattle.fir_parse.specs.Limits.{everywhere}

-- a word at hand is one word
same_word : (x y : Bor (List ℕ)) (l : Lexeme) (w : List ℕ) → l ≡ Word x → l ≡ Word y → bytes_eq x.now w ≡ false → bytes_eq y.now w ≡ false
same_word x y l w e h f = let same : x ≡ y = cc in ap (λ z. bytes_eq z.now w) (sym same) ∙ f

pub begun-returns-in-Mark-Connect-clause-reads : goal.begun-returns-in-Mark-Connect-clause-reads
begun-returns-in-Mark-Connect-clause-reads t c =
    let goes : GoesOn c.peek-next.result.lexeme = search rules in
    reads_behind (wants (behind_first c.args.depth c.args.place c.args.name.now)) (λ k. ref_rest c.args.depth c.args.place c.args.name.now (begun k)) begun_of _ _ _ c.ref_statement.result
    (λ end k. alike _ _ c.peek-next.result.lexeme c.peek-next.result.place _ end c.peek-next.ensures refl (begins_reference c.args.depth c.args.place c.args.name.now k _ _ goes))
    c.ref_statement.ensures.reads

pub two_words-returns-then-eq-clause-reads : goal.two_words-returns-then-eq-clause-reads
two_words-returns-then-eq-clause-reads t c =
    let same : bytes_eq c.args.second.now (codes "is") ≡ true = search rules in
    reads_behind (wants (behind_first c.args.depth c.args.place c.args.name.now)) (wants (behind_is c.args.depth c.args.place c.args.name.now c.args.second_place)) begun_of _ _ _ c.behind_is.result
    (takes_first (behind_first c.args.depth c.args.place c.args.name.now) _ (word c.args.second.now) c.args.second_place _ _ c.requires.at_hand c.pass.ensures.rest (second_is_is c.args.depth c.args.place c.args.name.now c.args.second.now c.args.second_place same))
    c.behind_is.ensures.reads

pub two_words-returns-in-Missing-clause-reads : goal.two_words-returns-in-Missing-clause-reads
two_words-returns-in-Missing-clause-reads t c =
    let other : bytes_eq c.args.second.now (codes "is") ≡ false = search rules in
    unsupported_there (behind_first c.args.depth c.args.place c.args.name.now) _ _ (word c.args.second.now) c.args.second_place _ c.unsupported.result c.requires.at_hand
    (by_second_word c.args.depth c.args.place c.args.name.now c.args.second.now c.args.second_place lead.Missing other (sym c.in-Missing.is ∙ c.of.ensures))
    c.unsupported.ensures

pub two_words-returns-then-eq-2-clause-reads : goal.two_words-returns-then-eq-2-clause-reads
two_words-returns-then-eq-2-clause-reads t c =
    let other : bytes_eq c.args.second.now (codes "is") ≡ false = search rules in
    let same : bytes_eq c.args.second.now (codes "mport") ≡ true = search rules in
    unsupported_there (behind_first c.args.depth c.args.place c.args.name.now) _ _ (word c.args.second.now) c.args.second_place _ c.unsupported-then-eq-2.result c.requires.at_hand
    (by_second_word c.args.depth c.args.place c.args.name.now c.args.second.now c.args.second_place lead.MissingPort other (sym c.in-MissingPort.is ∙ c.of.ensures) ∙ port_of_memory c.args.depth c.args.place c.args.name.now c.args.second.now c.args.second_place same)
    c.unsupported-then-eq-2.ensures

pub two_words-returns-else-eq-2-clause-reads : goal.two_words-returns-else-eq-2-clause-reads
two_words-returns-else-eq-2-clause-reads t c =
    let other : bytes_eq c.args.second.now (codes "is") ≡ false = search rules in
    let apart : bytes_eq c.args.second.now (codes "mport") ≡ false = search rules in
    refuses_one (behind_first c.args.depth c.args.place c.args.name.now) (word c.args.second.now) c.args.second_place _ c.requires.at_hand
    (by_second_word c.args.depth c.args.place c.args.name.now c.args.second.now c.args.second_place lead.MissingPort other (sym c.in-MissingPort.is ∙ c.of.ensures) ∙ no_port_of_memory c.args.depth c.args.place c.args.name.now c.args.second.now c.args.second_place apart)

pub two_words-returns-in-Declares-clause-reads : goal.two_words-returns-in-Declares-clause-reads
two_words-returns-in-Declares-clause-reads t c =
    let other : bytes_eq c.args.second.now (codes "is") ≡ false = search rules in
    reads_behind (wants (behind_first c.args.depth c.args.place c.args.name.now)) (λ k. declared c.in-Declares.what c.args.depth c.args.place (record { place = c.args.second_place; name = c.args.second.now }) k) begun_of _ _ _ c.declared.result
    (takes_first (behind_first c.args.depth c.args.place c.args.name.now) _ (word c.args.second.now) c.args.second_place _ _ c.requires.at_hand c.pass-in-Declares.ensures.rest
    (by_second_word c.args.depth c.args.place c.args.name.now c.args.second.now c.args.second_place (lead.Declares c.in-Declares.what) other (sym c.in-Declares.is ∙ c.of.ensures)))
    c.declared.ensures.reads

pub two_words-returns-in_default-clause-reads : goal.two_words-returns-in_default-clause-reads
two_words-returns-in_default-clause-reads t c =
    let other : bytes_eq c.args.second.now (codes "is") ≡ false = search rules in
    refuses_one (behind_first c.args.depth c.args.place c.args.name.now) (word c.args.second.now) c.args.second_place _ c.requires.at_hand
    (by_second_word c.args.depth c.args.place c.args.name.now c.args.second.now c.args.second_place c.of.result other c.of.ensures
    ∙ declares_nothing c.of.result c.args.depth c.args.place c.args.name.now c.args.second.now c.args.second_place c.in_default.not-Declares c.in_default.not-Missing c.in_default.not-MissingPort)

pub behind_is-returns-in_err-line_end-in-Word-clause-reads : goal.behind_is-returns-in_err-line_end-in-Word-clause-reads
behind_is-returns-in_err-line_end-in-Word-clause-reads t c =
    let same : bytes_eq c.in-Word.third.now (codes "invalid") ≡ true = search rules in
    exits_behind _ _ _ _ _ _ c.from_residual.result _ _ c.from_residual.ensures.1
    (takes_first (behind_is c.args.depth c.args.place c.args.name.now c.args.is_place) _ (word c.in-Word.third.now) c.peek-next.result.place _ _ (found _ c.peek-next.result (Word c.in-Word.third) c.peek-next.ensures c.in-Word.is) c.pass.ensures.rest (invalid_behind_is c.args.depth c.args.place c.args.name.now c.in-Word.third.now c.args.is_place c.peek-next.result.place same))
    c.in_err-line_end-in-Word.ensures.reads

pub behind_is-returns-in_ok-sink-in-Word-clause-reads : goal.behind_is-returns-in_ok-sink-in-Word-clause-reads
behind_is-returns-in_ok-sink-in-Word-clause-reads t c =
    let same : bytes_eq c.in-Word.third.now (codes "invalid") ≡ true = search rules in
    λ end k.
    takes_first (behind_is c.args.depth c.args.place c.args.name.now c.args.is_place) _ (word c.in-Word.third.now) c.peek-next.result.place _ _ (found _ c.peek-next.result (Word c.in-Word.third) c.peek-next.ensures c.in-Word.is) c.pass.ensures.rest (invalid_behind_is c.args.depth c.args.place c.args.name.now c.in-Word.third.now c.args.is_place c.peek-next.result.place same) end k
    ∙ c.in_ok-line_end-in-Word.ensures.reads end _
    ∙ ap (λ s. read_on everywhere end (k (statement s)) (rest c.line_end.new.self)) (ap (invalid c.args.place) (sym c.in_ok-sink-in-Word.ensures) ∙ sym (invalid_view c.args.place c.in_ok-sink-in-Word.sink))

pub behind_is-returns-in-Declares-clause-reads : goal.behind_is-returns-in-Declares-clause-reads
behind_is-returns-in-Declares-clause-reads t c =
    let other : (x : Bor (List ℕ)) → c.peek-next.result.lexeme ≡ Word x → bytes_eq x.now (codes "invalid") ≡ false =
    elim c.in_default.branch [
      | behind_is-in_default-via-in-Word+else-eq w ↦ λ x e. let apart : bytes_eq w.in-Word.third.now (codes "invalid") ≡ false = search rules in same_word w.in-Word.third x _ (codes "invalid") w.in-Word.is e apart
      | behind_is-in_default-via-in_default w ↦ λ x e. absurd (w.in_default.not-Word x e)
    ] in
    reads_behind (wants (behind_is c.args.depth c.args.place c.args.name.now c.args.is_place)) (λ k. declared c.in-Declares.what c.args.depth c.args.place (is_named c.args.is_place) k) begun_of _ _ _ c.declared.result
    (λ end k. alike _ _ c.peek-next.result.lexeme c.peek-next.result.place _ end c.peek-next.ensures (sym (declared_at_end c.in-Declares.what c.args.depth c.args.place (is_named c.args.is_place) k end))
    (behind_is_declares c.in-Declares.what c.args.depth c.args.place c.args.name.now c.args.is_place k _ _ (sym c.in-Declares.is ∙ c.of.ensures) other))
    c.declared.ensures.reads

pub behind_is-returns-in_default-of-clause-reads : goal.behind_is-returns-in_default-of-clause-reads
behind_is-returns-in_default-of-clause-reads t c =
    let other : (x : Bor (List ℕ)) → c.peek-next.result.lexeme ≡ Word x → bytes_eq x.now (codes "invalid") ≡ false =
    elim c.in_default.branch [
      | behind_is-in_default-via-in-Word+else-eq w ↦ λ x e. let apart : bytes_eq w.in-Word.third.now (codes "invalid") ≡ false = search rules in same_word w.in-Word.third x _ (codes "invalid") w.in-Word.is e apart
      | behind_is-in_default-via-in_default w ↦ λ x e. absurd (w.in_default.not-Word x e)
    ] in
    refused (behind_is c.args.depth c.args.place c.args.name.now c.args.is_place) _ c.peek-next.result.lexeme c.peek-next.result.place _ c.peek-next.ensures c.refused.ensures
    (behind_is_refuses c.args.depth c.args.place c.args.name.now c.args.is_place c.peek-next.result.lexeme c.peek-next.result.place (λ what e. c.in_default-of.not-Declares what (c.of.ensures ∙ e)) other)

pub indented_block-returns-in-LevelOpens-clause-reads : goal.indented_block-returns-in-LevelOpens-clause-reads
indented_block-returns-in-LevelOpens-clause-reads t c =
    reads_behind (wants (an_indented_block c.args.depth)) (wants (statements c.args.depth [])) (λ b. block_of (map stmt_of b.items)) _ _ _ c.statements.result
    (takes_first (an_indented_block c.args.depth) _ level_opens c.peek-next.result.place _ _ (found _ c.peek-next.result LevelOpens c.peek-next.ensures c.in-LevelOpens.is) c.pass.ensures.rest refl)
    c.statements.ensures.reads

pub indented_block-returns-in-End-clause-reads : goal.indented_block-returns-in-End-clause-reads
indented_block-returns-in-End-clause-reads t c = rw (c.refused.ensures, c.in-End.is) (ends_here (an_indented_block c.args.depth) _ (found _ c.peek-next.result End c.peek-next.ensures c.in-End.is))

pub indented_block-returns-in_default-clause-reads : goal.indented_block-returns-in_default-clause-reads
indented_block-returns-in_default-clause-reads t c = λ end k.
    stays_before (an_indented_block c.args.depth) done (seen c.peek-next.result.lexeme) c.peek-next.result.place _ (stands_there _ c.peek-next.result.lexeme c.peek-next.result.place c.peek-next.ensures c.in_default.not-End) (no_block c.args.depth c.peek-next.result.lexeme c.peek-next.result.place c.in_default.not-LevelOpens) end k
    ∙ ap (λ l. read_on everywhere end (k (block_of (map stmt_of l))) (rest c.args.self.now)) (sym c.new.ensures.items)

pub when_behind-returns-in_err-block-clause-reads : goal.when_behind-returns-in_err-block-clause-reads
when_behind-returns-in_err-block-clause-reads t c =
    exits_behind _ (λ k. block_behind_plan c.args.depth k) _ _ _ _ c.from_residual.result _ (λ k b. k (record { place = c.args.place; condition = expr_of c.args.condition; block = b })) c.from_residual.ensures.1
    (λ end k. refl) c.in_err-block.ensures.reads

pub when_behind-returns-clause-reads : goal.when_behind-returns-clause-reads
when_behind-returns-clause-reads t c = λ end k. c.in_ok-block.ensures.reads end (λ b. k (record { place = c.args.place; condition = expr_of c.args.condition; block = b }))

pub behind_else-returns-in_err-line_end-in-Mark-Colon-clause-reads : goal.behind_else-returns-in_err-line_end-in-Mark-Colon-clause-reads
behind_else-returns-in_err-line_end-in-Mark-Colon-clause-reads t c =
    exits_behind _ _ _ _ _ _ c.from_residual.result _ _ c.from_residual.ensures.1
    (takes_first (behind_else c.args.depth c.args.whens c.args.place) _ (mark Colon) c.peek-next.result.place _ _ (found _ c.peek-next.result (Mark Colon) c.peek-next.ensures (search rules)) c.pass.ensures.rest refl)
    c.in_err-line_end-in-Mark-Colon.ensures.reads

pub behind_else-returns-in_err-indented_block-in-Mark-Colon-clause-reads : goal.behind_else-returns-in_err-indented_block-in-Mark-Colon-clause-reads
behind_else-returns-in_err-indented_block-in-Mark-Colon-clause-reads t c =
    exits_behind _ _ _ _ _ _ c.from_residual-in_err-indented_block-in-Mark-Colon.result _ _ c.from_residual-in_err-indented_block-in-Mark-Colon.ensures.1
    (λ end k. takes_first (behind_else c.args.depth c.args.whens c.args.place) _ (mark Colon) c.peek-next.result.place _ _ (found _ c.peek-next.result (Mark Colon) c.peek-next.ensures (search rules)) c.pass.ensures.rest refl end k
    ∙ c.in_ok-line_end-in-Mark-Colon.ensures.reads end _)
    c.in_err-indented_block-in-Mark-Colon.ensures.reads

pub behind_else-returns-in_ok-indented_block-in-Mark-Colon-clause-reads : goal.behind_else-returns-in_ok-indented_block-in-Mark-Colon-clause-reads
behind_else-returns-in_ok-indented_block-in-Mark-Colon-clause-reads t c = λ end k.
    takes_first (behind_else c.args.depth c.args.whens c.args.place) _ (mark Colon) c.peek-next.result.place _ _ (found _ c.peek-next.result (Mark Colon) c.peek-next.ensures (search rules)) c.pass.ensures.rest refl end k
    ∙ c.in_ok-line_end-in-Mark-Colon.ensures.reads end _
    ∙ c.in_ok-indented_block-in-Mark-Colon.ensures.reads end _

pub behind_else-returns-in_err-condition-in-Word-clause-reads : goal.behind_else-returns-in_err-condition-in-Word-clause-reads
behind_else-returns-in_err-condition-in-Word-clause-reads t c =
    let same : bytes_eq c.in-Word.word.now (codes "when") ≡ true = search rules in
    exits_behind _ _ _ _ _ _ c.from_residual-in_err-condition-in-Word.result _ _ c.from_residual-in_err-condition-in-Word.ensures.1
    (takes_first (behind_else c.args.depth c.args.whens c.args.place) _ (word c.in-Word.word.now) c.peek-next.result.place _ _ (found _ c.peek-next.result (Word c.in-Word.word) c.peek-next.ensures c.in-Word.is) c.pass-in-Word.ensures.rest (when_behind_else c.args.depth c.args.whens c.args.place c.in-Word.word.now c.peek-next.result.place same))
    c.in_err-condition-in-Word.ensures.reads

pub behind_else-returns-in_err-when-in-Word-clause-reads : goal.behind_else-returns-in_err-when-in-Word-clause-reads
behind_else-returns-in_err-when-in-Word-clause-reads t c =
    let same : bytes_eq c.in-Word.word.now (codes "when") ≡ true = search rules in
    exits_behind _ _ _ _ _ _ c.from_residual-in_err-when-in-Word.result _ (λ k s. k (else_when s)) c.from_residual-in_err-when-in-Word.ensures.1
    (λ end k. takes_first (behind_else c.args.depth c.args.whens c.args.place) _ (word c.in-Word.word.now) c.peek-next.result.place _ _ (found _ c.peek-next.result (Word c.in-Word.word) c.peek-next.ensures c.in-Word.is) c.pass-in-Word.ensures.rest (when_behind_else c.args.depth c.args.whens c.args.place c.in-Word.word.now c.peek-next.result.place same) end k
    ∙ c.in_ok-condition-in-Word.ensures.reads end _)
    c.in_err-when-in-Word.ensures.reads

pub behind_else-returns-in_ok-when-in-Word-clause-reads : goal.behind_else-returns-in_ok-when-in-Word-clause-reads
behind_else-returns-in_ok-when-in-Word-clause-reads t c =
    let same : bytes_eq c.in-Word.word.now (codes "when") ≡ true = search rules in
    λ end k.
    takes_first (behind_else c.args.depth c.args.whens c.args.place) _ (word c.in-Word.word.now) c.peek-next.result.place _ _ (found _ c.peek-next.result (Word c.in-Word.word) c.peek-next.ensures c.in-Word.is) c.pass-in-Word.ensures.rest (when_behind_else c.args.depth c.args.whens c.args.place c.in-Word.word.now c.peek-next.result.place same) end k
    ∙ c.in_ok-condition-in-Word.ensures.reads end _
    ∙ c.in_ok-when-in-Word.ensures.reads end (λ s. k (else_when s))

pub behind_else-returns-in_default-clause-reads : goal.behind_else-returns-in_default-clause-reads
behind_else-returns-in_default-clause-reads t c =
    let no_colon : c.peek-next.result.lexeme ≡ Mark Colon → ⊥ =
    elim c.in_default.branch [
      | behind_else-in_default-via-in-Mark+in_default w ↦ λ h. search rules
      | behind_else-in_default-via-in-Word+else-eq w ↦ λ h. search rules
      | behind_else-in_default-via-in_default w ↦ λ h. search rules
    ] in
    let other : (x : Bor (List ℕ)) → c.peek-next.result.lexeme ≡ Word x → bytes_eq x.now (codes "when") ≡ false =
    elim c.in_default.branch [
      | behind_else-in_default-via-in-Mark+in_default w ↦ λ x e. absurd (search rules)
      | behind_else-in_default-via-in-Word+else-eq w ↦ λ x e. let apart : bytes_eq w.in-Word.word.now (codes "when") ≡ false = search rules in same_word w.in-Word.word x _ (codes "when") w.in-Word.is e apart
      | behind_else-in_default-via-in_default w ↦ λ x e. absurd (w.in_default.not-Word x e)
    ] in
    reads_behind (wants (behind_else c.args.depth c.args.whens c.args.place)) (λ k. ref_rest c.args.depth c.args.place (codes "else") (λ s. k (no_else s))) otherwise_of _ _ _ c.no_else.result
    (λ end k. alike _ _ c.peek-next.result.lexeme c.peek-next.result.place _ end c.peek-next.ensures refl (no_else_behind c.args.depth c.args.whens c.args.place k _ _ no_colon other))
    c.no_else.ensures.reads

pub behind_else-returns-in_default-clause-deep : goal.behind_else-returns-in_default-clause-deep
behind_else-returns-in_default-clause-deep t c = c.no_else.ensures.deep (c.args.depth + c.args.whens)

pub statements-returns-clause-reads : goal.statements-returns-clause-reads
statements-returns-clause-reads t c =
    reads_behind (wants (statements c.args.depth [])) (λ k. more_statements c.args.depth c.new-sequence.result k) (λ b. block_of (map stmt_of b.items)) _ _ _ c.more_statements.result
    (λ end k. ap (λ s. read_on everywhere end s (rest c.args.self.now)) (starts c.args.depth c.new-sequence.result.done.items c.new-sequence.result.pending.items k c.new-sequence.ensures.done c.new-sequence.ensures.none))
    c.more_statements.ensures.reads

pub more_statements-returns-in-LevelCloses-clause-reads : goal.more_statements-returns-in-LevelCloses-clause-reads
more_statements-returns-in-LevelCloses-clause-reads t c = λ end k.
    c.loop-self.invariant.0 end k
    ∙ takes_first (statements c.args.depth (opens_of c.loop-self.sequence)) _ level_closes c.peek-next.result.place _ _ (found _ c.peek-next.result LevelCloses c.peek-next.ensures c.in-LevelCloses.is) c.pass.ensures.rest refl end (λ behind. k (statements_before (done_of c.loop-self.sequence) behind))
    ∙ ap (λ b. read_on everywhere end (k b) (rest c.pass.new.self)) (closed_all (done_of c.loop-self.sequence) (done_of c.close.new.self) (opens_of c.loop-self.sequence) c.new.result.items done c.new.ensures.items (c.in_ok-close-in-LevelCloses.ensures.closed done) ∙ before_done (done_of c.close.new.self))

pub more_statements-returns-in_default-clause-reads : goal.more_statements-returns-in_default-clause-reads
more_statements-returns-in_default-clause-reads t c =
    stops_behind (λ k. more_statements c.args.depth c.args.sequence k) (wants (statements c.args.depth (opens_of c.loop-self.sequence))) _ _ _ (λ k behind. k (statements_before (done_of c.loop-self.sequence) behind))
    c.loop-self.invariant.0
    (refused (statements c.args.depth (opens_of c.loop-self.sequence)) _ c.peek-next.result.lexeme c.peek-next.result.place _ c.peek-next.ensures c.refused.ensures (other_statement c.args.depth (opens_of c.loop-self.sequence) c.peek-next.result.lexeme c.peek-next.result.place c.in_default.not-Word c.in_default.not-LevelCloses))

pub next_else-returns-in_err-otherwise-clause-reads : goal.next_else-returns-in_err-otherwise-clause-reads
next_else-returns-in_err-otherwise-clause-reads t c =
    exits_before (λ k. more_statements c.args.depth c.args.sequence k) (wants (behind_else c.args.depth c.len-whens.result c.args.place)) (λ s k. more_statements c.args.depth s k) _ _ _ c.from_residual.result _ (λ k x. behind_otherwise c.args.depth (opens_of c.args.sequence) x (λ behind. k (statements_before (done_of c.args.sequence) behind))) c.from_residual.ensures.1
    (λ end k. takes_first (statements c.args.depth (opens_of c.args.sequence)) _ (word (codes "else")) c.args.place _ _ c.requires.at_hand c.pass.ensures.rest (else_word c.args.depth (opens_of c.args.sequence) c.args.place (some_open c.args.sequence.pending.items c.requires.some)) end (λ behind. k (statements_before (done_of c.args.sequence) behind))
    ∙ ap (λ n. read_on everywhere end (wants (behind_else c.args.depth n c.args.place) (λ x. behind_otherwise c.args.depth (opens_of c.args.sequence) x (λ behind. k (statements_before (done_of c.args.sequence) behind)))) (rest c.pass.new.self)) (length-map c.args.sequence.pending.items open_when_of ∙ sym (c.len-whens.ensures ∙ c.args.sequence.pending.ok.0)))
    c.in_err-otherwise.ensures.reads

pub next_else-returns-clause-reads : goal.next_else-returns-clause-reads
next_else-returns-clause-reads t c = λ end k.
    takes_first (statements c.args.depth (opens_of c.args.sequence)) _ (word (codes "else")) c.args.place _ _ c.requires.at_hand c.pass.ensures.rest (else_word c.args.depth (opens_of c.args.sequence) c.args.place (some_open c.args.sequence.pending.items c.requires.some)) end (λ behind. k (statements_before (done_of c.args.sequence) behind))
    ∙ ap (λ n. read_on everywhere end (wants (behind_else c.args.depth n c.args.place) (λ x. behind_otherwise c.args.depth (opens_of c.args.sequence) x (λ behind. k (statements_before (done_of c.args.sequence) behind)))) (rest c.pass.new.self)) (length-map c.args.sequence.pending.items open_when_of ∙ sym (c.len-whens.ensures ∙ c.args.sequence.pending.ok.0))
    ∙ c.in_ok-otherwise.ensures.reads end (λ x. behind_otherwise c.args.depth (opens_of c.args.sequence) x (λ behind. k (statements_before (done_of c.args.sequence) behind)))
    ∙ ap (λ s. read_on everywhere end s (rest c.behind_else.new.self)) (c.in_ok-add_else.ensures.goes_on c.args.depth k)

pub next_else-returns-clause-within : goal.next_else-returns-clause-within
next_else-returns-clause-within t c =
    let P : ℕ → Type 0 = λ n. DeepensElse (c.args.depth + n) c.in_ok-otherwise.otherwise in
    c.in_ok-add_else.ensures.within c.args.depth c.requires.depth (subst P (c.len-whens.ensures ∙ c.args.sequence.pending.ok.0) c.in_ok-otherwise.ensures.deep)

pub next_statement-returns-in_err-begun-clause-reads : goal.next_statement-returns-in_err-begun-clause-reads
next_statement-returns-in_err-begun-clause-reads t c =
    let no_else_here : may_be_else (opens_of c.args.sequence) c.args.name.now ≡ false =
    elim c.else-eq.branch [
      | next_statement-else-eq-via-then-eq+else-not-is_empty w ↦ no_whens c.args.sequence.pending.items c.args.name.now (none_left c.args.sequence.pending.items (sym c.args.sequence.pending.ok.0 ∙ eqb-true _ _ (sym w.is_empty.ensures ∙ w.if-not-is_empty.false)))
      | next_statement-else-eq-via-else-eq w ↦ let apart : bytes_eq c.args.name.now (codes "else") ≡ false = search rules in no_else_word (opens_of c.args.sequence) c.args.name.now apart
    ] in
    exits_before (λ k. more_statements c.args.depth c.args.sequence k) (wants (behind_first c.args.depth c.args.place c.args.name.now)) (λ s k. more_statements c.args.depth s k) _ _ _ c.from_residual-in_err-begun.result _ (λ k s. behind_statement c.args.depth s (λ behind. k (statements_before (done_of c.args.sequence) (closed_before (opens_of c.args.sequence) done behind)))) c.from_residual-in_err-begun.ensures.1
    (λ end k. takes_first (statements c.args.depth (opens_of c.args.sequence)) _ (word c.args.name.now) c.args.place _ _ c.requires.at_hand c.pass.ensures.rest (first_word c.args.depth (opens_of c.args.sequence) c.args.name.now c.args.place no_else_here) end (λ behind. k (statements_before (done_of c.args.sequence) behind)))
    c.in_err-begun.ensures.reads

pub next_statement-returns-clause-reads : goal.next_statement-returns-clause-reads
next_statement-returns-clause-reads t c =
    let no_else_here : may_be_else (opens_of c.args.sequence) c.args.name.now ≡ false =
    elim c.else-eq.branch [
      | next_statement-else-eq-via-then-eq+else-not-is_empty w ↦ no_whens c.args.sequence.pending.items c.args.name.now (none_left c.args.sequence.pending.items (sym c.args.sequence.pending.ok.0 ∙ eqb-true _ _ (sym w.is_empty.ensures ∙ w.if-not-is_empty.false)))
      | next_statement-else-eq-via-else-eq w ↦ let apart : bytes_eq c.args.name.now (codes "else") ≡ false = search rules in no_else_word (opens_of c.args.sequence) c.args.name.now apart
    ] in
    λ end k.
    takes_first (statements c.args.depth (opens_of c.args.sequence)) _ (word c.args.name.now) c.args.place _ _ c.requires.at_hand c.pass.ensures.rest (first_word c.args.depth (opens_of c.args.sequence) c.args.name.now c.args.place no_else_here) end (λ behind. k (statements_before (done_of c.args.sequence) behind))
    ∙ c.in_ok-begun.ensures.reads end (λ s. behind_statement c.args.depth s (λ behind. k (statements_before (done_of c.args.sequence) (closed_before (opens_of c.args.sequence) done behind))))
    ∙ ap (λ m. read_on everywhere end (behind_statement c.args.depth (begun_of c.in_ok-begun.begun) m) (rest c.begun.new.self))
    (behind_alike (λ behind. statements_before (done_of c.args.sequence) (closed_before (opens_of c.args.sequence) done behind)) (statements_before (done_of c.close.new.self)) k
    (λ behind. closed_all (done_of c.args.sequence) (done_of c.close.new.self) (opens_of c.args.sequence) c.new.result.items behind c.new.ensures.items (c.in_ok-close.ensures.closed behind)))
    ∙ ap (λ s. read_on everywhere end s (rest c.begun.new.self)) (c.in_ok-add.ensures.goes_on c.args.depth k)

pub next_statement-returns-clause-within : goal.next_statement-returns-clause-within
next_statement-returns-clause-within t c = c.in_ok-add.ensures.within c.args.depth c.requires.depth c.in_ok-begun.ensures.deep
