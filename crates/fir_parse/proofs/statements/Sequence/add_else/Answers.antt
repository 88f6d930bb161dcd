use Rattle.std.proofs.Common.{ap, ◌∙◌}
use Rattle.std.proofs.lemmas.Result.{on_ok_weaker}
use Rattle.fir_parse.specs.working.StatementRules.{behind_otherwise}
use Rattle.fir_parse.specs.working.StatementTrees.{otherwise_of, done_of, opens_of, statements_before}
use Rattle.fir_parse.proofs.statements.Sequence.add_else.Goals as goal

pub returns-in-Statement-clause-goes_on : goal.returns-in-Statement-clause-goes_on
returns-in-Statement-clause-goes_on c =
    on_ok_weaker c.close_before.result
    (λ on d k. ap (λ o. behind_otherwise d (opens_of c.args.self.now) (otherwise_of o) (λ behind. k (statements_before (done_of c.args.self.now) behind))) c.in-Statement.is ∙ on d k)
    c.close_before.ensures.goes_on

pub returns-in-Statement-clause-within : goal.returns-in-Statement-clause-within
returns-in-Statement-clause-within c = on_ok_weaker c.close_before.result (λ within d low deep. within d low) c.close_before.ensures.within
