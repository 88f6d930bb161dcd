use Rattle.std.proofs.Common.{refl, sym, ap, ◌∙◌}
use Rattle.fir_ast.specs.Statements.{SinkReference, connect}
use Rattle.fir_ast.specs.working.Views.{expr_of, sink_of}
use Rattle.fir_parse.specs.Limits.{everywhere}
use Rattle.fir_parse.specs.working.Reading.{read_on}
use Rattle.fir_parse.specs.working.Reads.{rest}
use Rattle.fir_parse.specs.working.States.{wants}
use Rattle.fir_parse.specs.working.StatementRules.{ends_line}
use Rattle.fir_parse.specs.working.Symbols.{an_expression}
use Rattle.fir_parse.proofs.ExpressionViews.{sink_view}
use Rattle.fir_parse.proofs.Plans.{exits_behind}
use Rattle.fir_parse.proofs.StatementViews.{connect_view}
use Rattle.fir_parse.proofs.parser.Parser.connect.Goals as goal

pub returns-in_err-source-clause-reads : goal.returns-in_err-source-clause-reads
returns-in_err-source-clause-reads c =
    exits_behind _ (λ k. wants (an_expression c.args.depth) (λ e. ends_line e k)) _ _ _ _ c.from_residual.result _ (λ k e. k (connect (sink_of c.args.sink).place (sink_of c.args.sink) e)) c.from_residual.ensures.1
    (λ end k. refl) c.in_err-source.ensures.reads

pub returns-clause-reads : goal.returns-clause-reads
returns-clause-reads c = λ end k.
    c.in_ok-source.ensures.reads end (λ e. k (connect (sink_of c.args.sink).place (sink_of c.args.sink) e))
    ∙ ap (λ s. read_on everywhere end (k s) (rest c.expression_line.new.self))
    (ap (λ (s : SinkReference). connect s.place (sink_of c.args.sink) (expr_of c.in_ok-source.source)) (sink_view c.args.sink) ∙ sym (connect_view c.args.sink.place c.args.sink c.in_ok-source.source))
