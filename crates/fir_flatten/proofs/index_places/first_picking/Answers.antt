use Rattle.std.proofs.Common.{subst}
use Rattle.fir_flatten.specs.working.FirstIndices.{IsFirstOf}
use Rattle.fir_flatten.proofs.PickingNodes.{other_places, past_places, picked_places}
use Rattle.fir_flatten.proofs.index_places.first_picking.Goals as goal

pub returns-in_err-picks : goal.returns-in_err-picks
returns-in_err-picks c = rw c.from_residual.ensures (past_places c.args.nodes.now c.args.node c.in_err-picks.ensures.lookup.3)

pub returns-in_default : goal.returns-in_default
returns-in_default c =
    let there = c.in_ok-picks.ensures.lookup.3 in
    let node = c.in_ok-picks.field-0.now in
    other_places c.args.nodes.now c.args.node node there.0 (there.1 node) c.in_default.not-Read c.in_default.not-Absent

pub returns-in-Read : goal.returns-in-Read
returns-in-Read c =
    let there = c.in_ok-picks.ensures.lookup.3 in
    let node = c.in_ok-picks.field-0.now in
    subst (λ ps. IsFirstOf ps c.first_index.result)
    (picked_places c.args.nodes.now c.args.node node there.0 (there.1 node) c.in-Read.picks c.in-Read.is)
    (rw c.earlier_node.ensures at c.first_index.ensures)
