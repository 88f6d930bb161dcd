use Rattle.std.proofs.Common.{◌≡◌, ◌+◌, ◌++◌, length, flat_map, drop}
use Rattle.std.specs.Prelude.{sum_by}
use Rattle.ver_ast.specs.Nets.{item_array, arrays}
use Rattle.ver_sim.specs.working.Spans.{spans_from}
use Rattle.ver_sim.proofs.declarations.put_array_spans.Given as goal

abbrev pub invariant-loop-item : goal.invariant-loop-item
invariant-loop-item l = record {
  spans : l.found.items ++ spans_from l.base (flat_map item_array (drop l.item-index l.item-items)) ≡ l.initial.found.items ++ spans_from (length l.initial.found.items) (arrays l.v);
  left : l.base + sum_by (λ k. k.depth) (flat_map item_array (drop l.item-index l.item-items)) ≡ length l.initial.found.items + sum_by (λ k. k.depth) (arrays l.v);
}
