use Rattle.std.proofs.Common.{◌≡◌, ◌++◌, map, flat_map, drop}
use Rattle.ver_ast.specs.Nets.{item_array, arrays, variable_names}
use Rattle.ver_sim.proofs.declarations.put_array_names.Given as goal

abbrev pub invariant-loop-item : goal.invariant-loop-item
invariant-loop-item l = map (λ n. n.now) l.names.items ++ variable_names (flat_map item_array (drop l.item-index l.item-items)) ≡ map (λ n. n.now) l.initial.names.items ++ variable_names (arrays l.v)
