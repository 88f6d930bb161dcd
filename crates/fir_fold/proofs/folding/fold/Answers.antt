use Rattle.fir_fold.proofs.Given.{equivalent_by}
use Rattle.fir_fold.proofs.folding.fold.Goals as goal

pub returns-clause-equivalent : goal.returns-clause-equivalent
returns-clause-equivalent c =
    equivalent_by c.rewritten_is_equivalent.ensures c.args.net c.args.order c.requires.whole c.requires.ordered c.rewritten.result c.rewritten.ensures.rewrites c.rewritten.ensures.ordered
