use Rattle.fir_merge.specs.working.NodeTerms.{terms}
use Rattle.fir_flatten.proofs.UnclearReads.{term_there}
use Rattle.fir_flatten.proofs.clock_evidence.is_choice.Goals as goal

pub returns-in-Some : goal.returns-in-Some
returns-in-Some c = λ before below.
    let nodes = c.args.nodes.now in
    let at = rw c.number.ensures at c.in-Some.ensures.lookup.3 in
    let node = c.in-Some.node.now in
    rw (c.in-Node.is, term_there nodes before c.in-Node.node node at.0 (at.1 node)) (c.is_computed.ensures (terms nodes))
