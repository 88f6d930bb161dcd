use Rattle.std.proofs.Common.{◌≡◌, length, map, take}
use Rattle.std.specs.Prelude.{slice_index}
use Rattle.ver_sim.proofs.outputs.show_values.Given as goal

abbrev pub invariant-loop-i : goal.invariant-loop-i
invariant-loop-i l = record {
  long : length l.outputs ≡ length l.places;
  done : take l.i l.outputs ≡ map (slice_index l.values) (take l.i l.places);
}
