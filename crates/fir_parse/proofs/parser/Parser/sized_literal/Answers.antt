use Rattle.std.proofs.Common.{Some, ◌∙◌}
use Rattle.fir_ast.specs.Expressions.{literal}
use Rattle.fir_parse.specs.working.ExpressionRules.{literal_rest}
use Rattle.fir_parse.specs.working.Plans.{sized_plan}
use Rattle.fir_parse.specs.working.States.{opens}
use Rattle.fir_parse.proofs.Plans.{exits_behind, opened, opened_too_many, reads_behind}
use Rattle.fir_parse.proofs.parser.Parser.sized_literal.Goals as goal

pub returns-in_err-open_one-clause-reads : goal.returns-in_err-open_one-clause-reads
returns-in_err-open_one-clause-reads c =
    exits_behind _ (λ k. opens c.args.depth c.in_ok-open.open (literal_rest c.args.place c.args.signed (Some c.in_ok-width.width.number) k)) _ _ _ _ c.from_residual-in_err-open_one.result _ (λ k. k) c.from_residual-in_err-open_one.ensures.1
    (λ end k. c.in_ok-mark.ensures.reads end _ ∙ c.in_ok-width.ensures.reads end _ ∙ c.in_ok-mark-2.ensures.reads end _ ∙ c.in_ok-open.ensures.reads end _)
    (opened_too_many c.args.depth c.in_ok-open.open (λ k. literal_rest c.args.place c.args.signed (Some c.in_ok-width.width.number) k) _ _ c.in_err-open_one.ensures.opens)

pub returns-clause-reads : goal.returns-clause-reads
returns-clause-reads c =
    reads_behind (sized_plan c.args.signed c.args.depth c.args.place) (λ k. literal_rest c.args.place c.args.signed (Some c.in_ok-width.width.number) k) (λ l. literal l) _ _ _ c.literal_behind.result
    (λ end k. c.in_ok-mark.ensures.reads end _ ∙ c.in_ok-width.ensures.reads end _ ∙ c.in_ok-mark-2.ensures.reads end _ ∙ c.in_ok-open.ensures.reads end _ ∙ opened c.args.depth c.in_ok-open.open _ end _ c.in_ok-open_one.ensures.opens)
    c.literal_behind.ensures.reads
