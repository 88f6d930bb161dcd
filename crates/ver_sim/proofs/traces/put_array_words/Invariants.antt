use Rattle.std.proofs.Common.{◌≡◌, ◌≤◌, ◌++◌, flat_map, drop}
use Rattle.std.specs.Prelude.{sum_by}
use Rattle.ver_ast.specs.Nets.{item_array}
use Rattle.ver_sim.specs.TraceShapes.{array_word}
use Rattle.ver_sim.proofs.traces.put_array_words.Given as goal

abbrev pub invariant-loop-item : goal.invariant-loop-item
invariant-loop-item l = record {
  put : l.words.items ++ flat_map array_word (drop l.item-index l.item-items) ≡ l.initial.words.items ++ flat_map array_word l.v.items;
  few : sum_by (λ k. k.depth) (flat_map item_array (drop l.item-index l.item-items)) ≤ 4194304;
}
