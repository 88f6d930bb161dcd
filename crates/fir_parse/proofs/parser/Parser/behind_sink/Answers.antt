use Rattle.std.proofs.Common.{◌≡◌, codes, rules, refl}
use Rattle.fir_ast.specs.working.Views.{sink_of, stmt_of}
use Rattle.fir_ast.specs.Statements.{invalid}
use Rattle.fir_parse.specs.declared.lexeme.Lexeme.TheVariants.{Mark}
use Rattle.fir_parse.specs.declared.lexeme.Mark.TheVariants.{Connect, PartialConnect}
use Rattle.fir_parse.specs.Lexemes.{mark}
use Rattle.fir_parse.specs.working.StatementRules.{connect_rest, partial_connect_rest, ends_line}
use Rattle.fir_parse.specs.working.States.{wants}
use Rattle.fir_parse.specs.working.Symbols.{a_word, behind_sink}
use Rattle.fir_parse.proofs.Plans.{found, takes_first, reads_behind}
use Rattle.fir_parse.proofs.StatementReads.{alike, is_behind_sink}
use Rattle.fir_parse.proofs.parser.Parser.behind_sink.Goals as goal
use Rattle.fir_parse.proofs.parser.Parser.behind_sink.Goals.{in_default-via-in-Mark+in_default, in_default-via-in_default}

pub returns-in-Mark-Connect-clause-reads : goal.returns-in-Mark-Connect-clause-reads
returns-in-Mark-Connect-clause-reads c =
    reads_behind (wants (behind_sink c.args.depth (sink_of c.args.sink))) (λ k. connect_rest c.args.depth (sink_of c.args.sink) k) stmt_of _ _ _ c.connect.result
    (takes_first (behind_sink c.args.depth (sink_of c.args.sink)) _ (mark Connect) _ _ _ (found _ c.peek-next.result (Mark Connect) c.peek-next.ensures (search rules)) c.pass.ensures.rest refl)
    c.connect.ensures.reads

pub returns-in-Mark-PartialConnect-clause-reads : goal.returns-in-Mark-PartialConnect-clause-reads
returns-in-Mark-PartialConnect-clause-reads c =
    reads_behind (wants (behind_sink c.args.depth (sink_of c.args.sink))) (λ k. partial_connect_rest c.args.depth (sink_of c.args.sink) k) stmt_of _ _ _ c.partial_connect.result
    (takes_first (behind_sink c.args.depth (sink_of c.args.sink)) _ (mark PartialConnect) _ _ _ (found _ c.peek-next.result (Mark PartialConnect) c.peek-next.ensures (search rules)) c.pass-in-Mark-PartialConnect.ensures.rest refl)
    c.partial_connect.ensures.reads

pub returns-in_default-clause-reads : goal.returns-in_default-clause-reads
returns-in_default-clause-reads c =
    let no_connect : c.peek-next.result.lexeme ≡ Mark Connect → ⊥ = elim c.in_default.branch [ in_default-via-in-Mark+in_default w ↦ λ h. search rules | in_default-via-in_default w ↦ λ h. search rules ] in
    let no_partial_connect : c.peek-next.result.lexeme ≡ Mark PartialConnect → ⊥ = elim c.in_default.branch [ in_default-via-in-Mark+in_default w ↦ λ h. search rules | in_default-via-in_default w ↦ λ h. search rules ] in
    reads_behind (wants (behind_sink c.args.depth (sink_of c.args.sink))) (λ k. wants (a_word (codes "is")) (λ p. wants (a_word (codes "invalid")) (λ q. ends_line (invalid (sink_of c.args.sink).place (sink_of c.args.sink)) k))) stmt_of _ _ _ c.invalid.result
    (λ end k. alike _ _ c.peek-next.result.lexeme c.peek-next.result.place _ end c.peek-next.ensures refl (is_behind_sink c.args.depth (sink_of c.args.sink) k _ _ no_connect no_partial_connect))
    c.invalid.ensures.reads
