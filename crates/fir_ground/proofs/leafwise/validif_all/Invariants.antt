use Rattle.std.proofs.Common.{◌<◌, length, map, take}
use Rattle.fir_leaf.specs.working.Nodes.{AllBelow, Gives, node_term}
use Rattle.fir_meaning.specs.working.Terms.{validif}
use Rattle.fir_ground.proofs.leafwise.validif_all.Given as goal

abbrev pub invariant-loop-value : goal.invariant-loop-value
invariant-loop-value l =
    l.condition < length l.fn.nodes.items → AllBelow (length l.fn.nodes.items) l.values
    → Gives l.fn.nodes.items l.nodes.items l.ids.items
    (map (validif (node_term l.fn.nodes.items l.condition)) (map (node_term l.fn.nodes.items) (take l.value-index l.values)))
