use Rattle.std.proofs.Common.{sym, ap, ◌∙◌}
use Rattle.fir_ast.specs.Statements.{node}
use Rattle.fir_ast.specs.working.Views.{expr_of}
use Rattle.fir_parse.specs.Limits.{everywhere}
use Rattle.fir_parse.specs.working.Reading.{read_on}
use Rattle.fir_parse.specs.working.Reads.{rest}
use Rattle.fir_parse.specs.working.States.{wants}
use Rattle.fir_parse.specs.working.StatementRules.{begun, ends_line}
use Rattle.fir_parse.specs.working.Symbols.{an_expression}
use Rattle.fir_parse.proofs.Plans.{exits_behind}
use Rattle.fir_parse.proofs.StatementViews.{node_view}
use Rattle.fir_parse.proofs.parser.Parser.node.Goals as goal

pub returns-in_err-value-clause-reads : goal.returns-in_err-value-clause-reads
returns-in_err-value-clause-reads c =
    exits_behind _ (λ k. wants (an_expression c.args.depth) (λ e. ends_line e k)) _ _ _ _ c.from_residual-in_err-value.result _
    (λ k e. begun k (node c.args.place (record { place = c.args.name_place; name = c.args.name.now }) e))
    c.from_residual-in_err-value.ensures.1 (λ end k. c.in_ok-mark.ensures.reads end _) c.in_err-value.ensures.reads

pub returns-clause-reads : goal.returns-clause-reads
returns-clause-reads c = λ end k.
    c.in_ok-mark.ensures.reads end _
    ∙ c.in_ok-value.ensures.reads end (λ e. begun k (node c.args.place (record { place = c.args.name_place; name = c.args.name.now }) e))
    ∙ ap (λ s. read_on everywhere end (begun k s) (rest c.expression_line.new.self))
    (ap (λ n. node c.args.place n (expr_of c.in_ok-value.value)) (sym c.in_ok-ident.ensures) ∙ sym (node_view c.args.place c.in_ok-ident.ident c.in_ok-value.value))
