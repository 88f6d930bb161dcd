use Rattle.std.proofs.Common.{[], map, sym, ap, ◌∙◌}
use Rattle.fir_ast.specs.Statements.{then}
use Rattle.fir_ast.specs.working.Views.{stmt_of}
use Rattle.fir_parse.specs.working.StatementRules.{behind_statement}
use Rattle.fir_parse.specs.working.StatementTrees.{begun_of, done_of, open_when_of, statements_before}
use Rattle.fir_parse.proofs.Sequences.{done_longer, level_alike, no_opens}
use Rattle.fir_parse.proofs.statements.Sequence.add.Goals as goal

pub returns-in_ok-push-in-Statement-clause-goes_on : goal.returns-in_ok-push-in-Statement-clause-goes_on
returns-in_ok-push-in-Statement-clause-goes_on c = λ d k.
    ap (λ b. behind_statement d (begun_of b) (λ behind. k (statements_before (done_of c.args.self.now) behind))) c.in-Statement.is
    ∙ level_alike d [] (map open_when_of c.args.self.now.pending.items) (λ rest. statements_before (done_of c.args.self.now) ((then) (stmt_of c.in-Statement.statement) rest)) (statements_before (map stmt_of c.push.new.self.items)) k
    (no_opens _ c.requires) (λ rest. sym (done_longer c.args.self.now.done.items c.push.new.self.items c.in-Statement.statement rest c.in_ok-push-in-Statement.ensures.items))
