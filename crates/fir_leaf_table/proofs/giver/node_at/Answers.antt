use Rattle.std.proofs.Common.{◌≡◌, ap, ◌∙◌, rules}
use Rattle.std.specs.Prelude.{slice_index_or}
use Rattle.fir_leaf.specs.working.Nodes.{node_term}
use Rattle.fir_leaf_table.proofs.NoNodes.{node_there}
use Rattle.fir_leaf_table.proofs.giver.node_at.Goals as goal

pub returns : goal.returns
returns c = λ nodes none.
    let same : c.unwrap_or.result ≡ slice_index_or c.args.ids.now c.args.k c.args.no_node = search rules in
    ap (node_term nodes) same ∙ node_there nodes c.args.ids.now c.args.k c.args.no_node none
