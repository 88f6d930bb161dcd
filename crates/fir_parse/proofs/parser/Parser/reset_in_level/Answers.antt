use Rattle.std.proofs.Common.{◌∙◌}
use Rattle.fir_ast.specs.working.Views.{reset_of}
use Rattle.fir_parse.specs.working.StatementRules.{ends_line}
use Rattle.fir_parse.specs.working.States.{wants}
use Rattle.fir_parse.specs.working.Symbols.{a_closing, a_line_end}
use Rattle.fir_parse.proofs.Plans.{exits_behind}
use Rattle.fir_parse.proofs.parser.Parser.reset_in_level.Goals as goal

pub returns-in_err-close_level-clause-reads : goal.returns-in_err-close_level-clause-reads
returns-in_err-close_level-clause-reads c =
    exits_behind _ (λ k. wants a_line_end (λ q. wants a_closing k)) _ _ _ _ c.from_residual-in_err-close_level.result _ (λ k p. k (reset_of c.in_ok-reset.reset)) c.from_residual-in_err-close_level.ensures.1
    (λ end k. c.in_ok-line_end.ensures.reads end _ ∙ c.in_ok-opening.ensures.reads end _ ∙ c.in_ok-reset.ensures.reads end (λ r. ends_line r (λ s. wants a_closing (λ t. k s))))
    c.in_err-close_level.ensures.reads

pub returns-clause-reads : goal.returns-clause-reads
returns-clause-reads c = λ end k.
    c.in_ok-line_end.ensures.reads end _ ∙ c.in_ok-opening.ensures.reads end _ ∙ c.in_ok-reset.ensures.reads end (λ r. ends_line r (λ s. wants a_closing (λ t. k s))) ∙ c.in_ok-close_level.ensures.reads end (λ p. k (reset_of c.in_ok-reset.reset))
