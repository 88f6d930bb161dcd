use Rattle.std.proofs.Common.{sym, ap, ◌∙◌}
use Rattle.fir_ast.specs.working.Views.{named_of}
use Rattle.fir_parse.specs.declared.lexeme.Mark.TheVariants.{Colon}
use Rattle.fir_parse.specs.working.Reading.{read_on}
use Rattle.fir_parse.specs.working.Reads.{rest}
use Rattle.fir_parse.specs.working.States.{wants}
use Rattle.fir_parse.specs.working.StatementRules.{begun, memory_rest}
use Rattle.fir_parse.specs.working.Symbols.{a_mark}
use Rattle.fir_parse.proofs.Plans.{exits_behind}
use Rattle.fir_parse.proofs.parser.Parser.memory_named.Goals as goal
use Rattle.fir_parse.specs.Limits.{everywhere}

pub returns-in_err-memory-clause-reads : goal.returns-in_err-memory-clause-reads
returns-in_err-memory-clause-reads c =
    exits_behind _ (λ k. wants (a_mark Colon) (λ r. memory_rest c.args.depth c.args.place (named_of c.in_ok-ident.ident) k)) _ _ _ _ c.from_residual-in_err-memory.result _ begun c.from_residual-in_err-memory.ensures.1
    (λ end k. ap (λ n. read_on everywhere end (wants (a_mark Colon) (λ r. memory_rest c.args.depth c.args.place n (begun k))) (rest c.args.self.now)) (sym c.in_ok-ident.ensures))
    c.in_err-memory.ensures.reads

pub returns-clause-reads : goal.returns-clause-reads
returns-clause-reads c = λ end k.
    ap (λ n. read_on everywhere end (wants (a_mark Colon) (λ r. memory_rest c.args.depth c.args.place n (begun k))) (rest c.args.self.now)) (sym c.in_ok-ident.ensures)
    ∙ c.in_ok-memory.ensures.reads end (begun k)
