use Rattle.std.proofs.Common.{sym, ap, ◌∙◌}
use Rattle.fir_ast.specs.Statements.{wire}
use Rattle.fir_ast.specs.working.TypeViews.{type_of}
use Rattle.fir_parse.specs.Limits.{everywhere}
use Rattle.fir_parse.specs.working.Reading.{read_on}
use Rattle.fir_parse.specs.working.Reads.{rest}
use Rattle.fir_parse.specs.working.States.{wants}
use Rattle.fir_parse.specs.working.StatementRules.{begun, ends_line}
use Rattle.fir_parse.specs.working.Symbols.{a_type}
use Rattle.fir_parse.proofs.Plans.{exits_behind}
use Rattle.fir_parse.proofs.StatementViews.{wire_view}
use Rattle.fir_parse.proofs.parser.Parser.wire.Goals as goal

pub returns-in_err-ty-clause-reads : goal.returns-in_err-ty-clause-reads
returns-in_err-ty-clause-reads c =
    exits_behind _ (λ k. wants (a_type c.args.depth) (λ t. ends_line t k)) _ _ _ _ c.from_residual-in_err-ty.result _
    (λ k t. begun k (wire c.args.place (record { place = c.args.name_place; name = c.args.name.now }) t.place t.data_type))
    c.from_residual-in_err-ty.ensures.1 (λ end k. c.in_ok-mark.ensures.reads end _) c.in_err-ty.ensures.reads

pub returns-clause-reads : goal.returns-clause-reads
returns-clause-reads c = λ end k.
    c.in_ok-mark.ensures.reads end _
    ∙ c.in_ok-ty.ensures.reads end (λ t. begun k (wire c.args.place (record { place = c.args.name_place; name = c.args.name.now }) t.place t.data_type))
    ∙ ap (λ s. read_on everywhere end (begun k s) (rest c.type_line.new.self))
    (ap (λ n. wire c.args.place n c.in_ok-ty.ty.place (type_of c.in_ok-ty.ty.ty)) (sym c.in_ok-ident.ensures) ∙ sym (wire_view c.args.place c.in_ok-ident.ident c.in_ok-ty.ty.place c.in_ok-ty.ty.ty))
