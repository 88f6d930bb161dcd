use Rattle.std.proofs.Common.{◌≡◌, ◌++◌, map, flat_map, drop}
use Rattle.ver_ast.specs.Nets.{reg_net, regs, names_of}
use Rattle.ver_valid.proofs.processes.register_names.Given as goal

abbrev pub invariant-loop-item : goal.invariant-loop-item
invariant-loop-item l = map (λ n. n.now) l.names.items ++ names_of (flat_map reg_net (drop l.item-index l.item-items)) ≡ names_of (regs l.v)
