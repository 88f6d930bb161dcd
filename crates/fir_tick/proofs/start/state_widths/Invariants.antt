use Rattle.std.proofs.Common.{◌≡◌, ◌++◌, ◌≤◌, take, map}
use Rattle.std.specs.Prelude.{flat_map}
use Rattle.std.specs.List.{AllByRecursion}
use Rattle.fir_net.specs.working.Arrays.{widths_of}
use Rattle.fir_net.specs.working.Values.{leaf_width}
use Rattle.fir_tick.proofs.start.state_widths.Given as goal

abbrev pub invariant-loop-number : goal.invariant-loop-number
invariant-loop-number l = record {
  widths : l.widths.items ≡ map (leaf_width l.net.leaves) l.net.state ++ flat_map (widths_of l.net) (take l.number-index l.net.array_order);
  narrow : AllByRecursion (λ w. w ≤ 128) l.widths.items;
}
