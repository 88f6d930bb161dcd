use Rattle.std.proofs.Common.{◌≡◌, ◌++◌, map, flat_map, drop}
use Rattle.ver_ast.specs.Nets.{item_assign, assigns, output_clocks}
use Rattle.ver_valid.proofs.processes.assigns_of_nets.Given as goal

abbrev pub invariant-loop-item : goal.invariant-loop-item
invariant-loop-item l = map (λ a. a.now) l.found.items ++ flat_map (item_assign (output_clocks l.v)) (drop l.item-index l.item-items) ≡ assigns l.v
