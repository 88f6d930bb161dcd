use Rattle.std.proofs.Common.{◌+◌, ◌∙◌}
use Rattle.fir_ast.specs.working.Views.{reset_of}
use Rattle.fir_parse.specs.working.PartPlans.{reset_behind_plan}
use Rattle.fir_parse.specs.working.StatementRules.{reset_rest}
use Rattle.fir_parse.specs.working.States.{opens}
use Rattle.fir_parse.proofs.Plans.{exits_behind, opened, opened_too_many, reads_behind}
use Rattle.fir_parse.proofs.parser.Parser.reset_pair.Goals as goal

pub returns-in_err-open_one-clause-reads : goal.returns-in_err-open_one-clause-reads
returns-in_err-open_one-clause-reads c =
    exits_behind _ (λ k. opens c.args.depth c.in_ok-open.open (reset_behind_plan (c.args.depth + 1) c.args.with k)) _ _ _ _ c.from_residual-in_err-open_one.result _ (λ k. k) c.from_residual-in_err-open_one.ensures.1
    (λ end k. c.in_ok-word.ensures.reads end _ ∙ c.in_ok-mark.ensures.reads end _ ∙ c.in_ok-open.ensures.reads end _)
    (opened_too_many c.args.depth c.in_ok-open.open (reset_behind_plan (c.args.depth + 1) c.args.with) _ _ c.in_err-open_one.ensures.opens)

pub returns-clause-reads : goal.returns-clause-reads
returns-clause-reads c =
    reads_behind (λ k. reset_rest c.args.depth c.args.with k) (λ k. reset_behind_plan (c.args.depth + 1) c.args.with k) reset_of _ _ _ c.reset_behind.result
    (λ end k. c.in_ok-word.ensures.reads end _ ∙ c.in_ok-mark.ensures.reads end _ ∙ c.in_ok-open.ensures.reads end _ ∙ opened c.args.depth c.in_ok-open.open _ end _ c.in_ok-open_one.ensures.opens)
    c.reset_behind.ensures.reads
