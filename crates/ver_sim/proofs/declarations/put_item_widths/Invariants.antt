use Rattle.std.proofs.Common.{◌≡◌, ◌++◌, flat_map, drop}
use Rattle.ver_ast.specs.Nets.{item_net, widths_of}
use Rattle.ver_sim.proofs.declarations.put_item_widths.Given as goal

abbrev pub invariant-loop-item : goal.invariant-loop-item
invariant-loop-item l =
    l.widths.items ++ widths_of (flat_map item_net (drop l.item-index l.item-items)) ≡ l.initial.widths.items ++ widths_of (flat_map item_net l.v.items)
