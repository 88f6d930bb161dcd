use Rattle.std.proofs.Common.{map, sym, ap, ◌∙◌}
use Rattle.fir_ast.specs.working.Views.{block_of, stmt_of}
use Rattle.fir_parse.specs.working.Reading.{read_on}
use Rattle.fir_parse.specs.working.Reads.{rest}
use Rattle.fir_parse.specs.working.StatementRules.{behind_statement}
use Rattle.fir_parse.specs.working.StatementTrees.{begun_of, done_of, more_statements, statements_before}
use Rattle.fir_parse.proofs.Plans.{reads_behind}
use Rattle.fir_parse.proofs.Sequences.{behind_alike}
use Rattle.fir_parse.proofs.parser.Parser.statements_behind.Goals as goal
use Rattle.fir_parse.specs.Limits.{everywhere}

pub more_statements-requires-clause-within : goal.more_statements-requires-clause-within
more_statements-requires-clause-within c = c.in_ok-add.ensures.within c.args.depth c.requires.depth c.requires.deep

pub returns-clause-reads : goal.returns-clause-reads
returns-clause-reads c =
    reads_behind (λ k. behind_statement c.args.depth (begun_of c.args.first) k) (λ k. more_statements c.args.depth c.add.new.self k) (λ b. block_of (map stmt_of b.items)) _ _ _ c.more_statements.result
    (λ end k. ap (λ s. read_on everywhere end s (rest c.args.self.now))
    (ap (behind_statement c.args.depth (begun_of c.args.first)) (behind_alike (λ behind. behind) (statements_before (done_of c.new-sequence.result)) k (λ behind. ap (λ l. statements_before (map stmt_of l) behind) (sym c.new-sequence.ensures.done)))
    ∙ c.in_ok-add.ensures.goes_on c.args.depth k))
    c.more_statements.ensures.reads
