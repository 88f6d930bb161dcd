use Rattle.fir_fold_rules.proofs.Standing.{stands_next}
use Rattle.fir_fold_rules.proofs.simplifying.+simplest.Goals as goal

pub returns-in-Some-clause-stands : goal.returns-in-Some-clause-stands
returns-in-Some-clause-stands t c =
    let leaves = c.args.leaves.now in
    let nodes = c.args.nodes.now.keys in
    stands_next leaves nodes c.args.ty c.args.term.now c.folded-term.result c.simplest.result c.folded-term.ensures.stands
    (stands_next leaves nodes c.args.ty c.folded-term.result c.in-Some.next c.simplest.result c.in-Some.ensures c.simplest.ensures.stands)
