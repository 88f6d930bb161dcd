use Rattle.std.proofs.Common.{◌≡◌, ◌++◌, length, map, flat_map, drop}
use Rattle.ver_ast.specs.Nets.{reg_net, regs, reg_variable}
use Rattle.ver_sim.specs.working.Spans.{spans_from}
use Rattle.ver_sim.proofs.declarations.put_register_spans.Given as goal

abbrev pub invariant-loop-item : goal.invariant-loop-item
invariant-loop-item l =
    l.found.items ++ spans_from (length l.found.items) (map reg_variable (flat_map reg_net (drop l.item-index l.item-items)))
    ≡ l.initial.found.items ++ spans_from (length l.initial.found.items) (map reg_variable (regs l.v))
