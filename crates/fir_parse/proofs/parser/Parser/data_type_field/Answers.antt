use Rattle.std.proofs.Common.{◌∙◌}
use Rattle.fir_ast.specs.Statements.{data_type}
use Rattle.fir_parse.specs.working.States.{wants}
use Rattle.fir_parse.specs.working.StatementRules.{ends_line}
use Rattle.fir_parse.specs.working.Symbols.{a_type}
use Rattle.fir_parse.proofs.Plans.{exits_behind}
use Rattle.fir_parse.proofs.parser.Parser.data_type_field.Goals as goal

pub returns-in_err-ty-clause-reads : goal.returns-in_err-ty-clause-reads
returns-in_err-ty-clause-reads c =
    exits_behind _ (λ k. wants (a_type c.args.depth) (λ t. ends_line t k)) _ _ _ _ c.from_residual-in_err-ty.result _ (λ k t. k (data_type c.args.place t.place t.data_type)) c.from_residual-in_err-ty.ensures.1
    (λ end k. c.in_ok-mark.ensures.reads end _)
    c.in_err-ty.ensures.reads

pub returns-clause-reads : goal.returns-clause-reads
returns-clause-reads c = λ end k. c.in_ok-mark.ensures.reads end _ ∙ c.in_ok-ty.ensures.reads end (λ t. k (data_type c.args.place t.place t.data_type))
