use Rattle.std.proofs.Common.{◌+◌, refl, ◌∙◌}
use Rattle.fir_ast.specs.Statements.{Reset}
use Rattle.fir_ast.specs.working.Views.{reset_of}
use Rattle.fir_parse.specs.declared.lexeme.Mark.TheVariants.{CloseRound}
use Rattle.fir_parse.specs.working.Reads.{rest, Plan}
use Rattle.fir_parse.specs.working.States.{opens, wants}
use Rattle.fir_parse.specs.working.StatementRules.{ends_line, reset_rest}
use Rattle.fir_parse.specs.working.Symbols.{a_line_end, a_mark}
use Rattle.fir_parse.proofs.Plans.{exits_behind, opened, opened_too_many}
use Rattle.fir_parse.proofs.parser.Parser.reset_in_round.Goals as goal

pub returns-in_err-open_one-clause-reads : goal.returns-in_err-open_one-clause-reads
returns-in_err-open_one-clause-reads c =
    let inside : Plan Reset = λ k. reset_rest (c.args.depth + 1) c.args.with (λ r. wants (a_mark CloseRound) (λ q. ends_line r k)) in
    exits_behind _ (λ k. opens c.args.depth c.args.place (inside k)) reset_of _ _ _ c.from_residual.result _ (λ k. k) c.from_residual.ensures.1
    (λ end k. refl)
    (opened_too_many c.args.depth c.args.place inside _ _ c.in_err-open_one.ensures.opens)

pub returns-in_err-reset-clause-reads : goal.returns-in_err-reset-clause-reads
returns-in_err-reset-clause-reads c =
    exits_behind _ (λ k. reset_rest (c.args.depth + 1) c.args.with k) reset_of _ _ (rest c.reset_pair.new.self) c.from_residual-in_err-reset.result _ (λ k r. wants (a_mark CloseRound) (λ q. ends_line r k)) c.from_residual-in_err-reset.ensures.1
    (λ end k. opened c.args.depth c.args.place _ end _ c.in_ok-open_one.ensures.opens)
    c.in_err-reset.ensures.reads

pub returns-in_err-close_line-clause-reads : goal.returns-in_err-close_line-clause-reads
returns-in_err-close_line-clause-reads c =
    exits_behind _ (λ k. wants (a_mark CloseRound) (λ q. wants a_line_end k)) _ _ _ _ c.from_residual-in_err-close_line.result _ (λ k p. k (reset_of c.in_ok-reset.reset)) c.from_residual-in_err-close_line.ensures.1
    (λ end k. opened c.args.depth c.args.place _ end _ c.in_ok-open_one.ensures.opens ∙ c.in_ok-reset.ensures.reads end (λ r. wants (a_mark CloseRound) (λ q. ends_line r k)))
    c.in_err-close_line.ensures.reads

pub returns-clause-reads : goal.returns-clause-reads
returns-clause-reads c = λ end k.
    opened c.args.depth c.args.place _ end _ c.in_ok-open_one.ensures.opens ∙ c.in_ok-reset.ensures.reads end (λ r. wants (a_mark CloseRound) (λ q. ends_line r k)) ∙ c.in_ok-close_line.ensures.reads end (λ p. k (reset_of c.in_ok-reset.reset))
