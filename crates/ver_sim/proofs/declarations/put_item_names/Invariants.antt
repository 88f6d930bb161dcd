use Rattle.std.proofs.Common.{◌≡◌, ◌++◌, map, flat_map, drop}
use Rattle.ver_ast.specs.Nets.{item_net, names_of}
use Rattle.ver_sim.proofs.declarations.put_item_names.Given as goal

abbrev pub invariant-loop-item : goal.invariant-loop-item
invariant-loop-item l = map (λ n. n.now) l.names.items ++ names_of (flat_map item_net (drop l.item-index l.item-items)) ≡ map (λ n. n.now) l.initial.names.items ++ names_of (flat_map item_net l.v.items)
