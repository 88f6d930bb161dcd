use Rattle.std.proofs.Common.{◌≡◌, ◌++◌, map, flat_map, drop}
use Rattle.ver_ast.specs.Nets.{reg_net, regs, reg_variable, variable_names}
use Rattle.ver_sim.proofs.declarations.put_register_names.Given as goal

abbrev pub invariant-loop-item : goal.invariant-loop-item
invariant-loop-item l = map (λ n. n.now) l.names.items ++ variable_names (map reg_variable (flat_map reg_net (drop l.item-index l.item-items))) ≡ map (λ n. n.now) l.initial.names.items ++ variable_names (map reg_variable (regs l.v))
