use Rattle.std.proofs.Common.{refl}
use Rattle.fir_ast.specs.working.Views.{named_of}
use Rattle.fir_parse.specs.working.States.{wants}
use Rattle.fir_parse.specs.working.StatementRules.{ends_line}
use Rattle.fir_parse.specs.working.Symbols.{a_type, port}
use Rattle.fir_parse.proofs.Plans.{exits_behind}
use Rattle.fir_parse.proofs.parser.Parser.port_behind.Goals as goal

pub returns-in_err-ty-clause-reads : goal.returns-in_err-ty-clause-reads
returns-in_err-ty-clause-reads c =
    exits_behind _ (λ k. wants (a_type 0) (λ t. ends_line t k)) _ _ _ _ c.from_residual.result _
    (λ k t. k (port (record { direction = c.args.direction; named = named_of c.args.ident; type_place = t.place; data_type = t.data_type })))
    c.from_residual.ensures.1 (λ end k. refl) c.in_err-ty.ensures.reads

pub returns-clause-reads : goal.returns-clause-reads
returns-clause-reads c = λ end k. c.in_ok-ty.ensures.reads end (λ t. k (port (record { direction = c.args.direction; named = named_of c.args.ident; type_place = t.place; data_type = t.data_type })))
