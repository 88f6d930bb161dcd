use Rattle.std.proofs.Common.{◌≡◌, ◌++◌, flat_map, drop}
use Rattle.ver_sim.specs.TraceShapes.{reg_word}
use Rattle.ver_sim.proofs.traces.put_register_words.Given as goal

abbrev pub invariant-loop-item : goal.invariant-loop-item
invariant-loop-item l = l.words.items ++ flat_map reg_word (drop l.item-index l.item-items) ≡ l.initial.words.items ++ flat_map reg_word l.v.items
