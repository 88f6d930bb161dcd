use Rattle.std.proofs.Common.{◌≡◌, ◌≤◌, take, map}
use Rattle.std.specs.List.{AllByRecursion}
use Rattle.fir_net.specs.working.Values.{leaf_width}
use Rattle.fir_tick.proofs.start.register_widths.Given as goal

abbrev pub invariant-loop-word : goal.invariant-loop-word
invariant-loop-word l = record {
  widths : l.widths.items ≡ map (leaf_width l.net.leaves) (take l.word-index l.net.state);
  narrow : AllByRecursion (λ w. w ≤ 128) l.widths.items;
}
