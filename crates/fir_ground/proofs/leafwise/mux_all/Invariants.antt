use Rattle.std.proofs.Common.{◌<◌, length, map, take}
use Rattle.fir_meaning.specs.working.Leafed.{muxes}
use Rattle.fir_leaf.specs.working.Nodes.{AllBelow, Gives, node_term}
use Rattle.fir_ground.proofs.leafwise.mux_all.Given as goal

abbrev pub invariant-loop-one : goal.invariant-loop-one
invariant-loop-one l =
    l.condition < length l.fn.nodes.items → AllBelow (length l.fn.nodes.items) l.ones → AllBelow (length l.fn.nodes.items) l.others
    → Gives l.fn.nodes.items l.nodes.items l.ids.items
    (muxes (node_term l.fn.nodes.items l.condition) (map (node_term l.fn.nodes.items) (take (length l.yielded) l.ones)) (map (node_term l.fn.nodes.items) (take (length l.yielded) l.others)))
