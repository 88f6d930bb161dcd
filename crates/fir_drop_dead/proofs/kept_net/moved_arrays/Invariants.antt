use Rattle.std.proofs.Common.{◌≡◌, map}
use Rattle.fir_drop_dead.specs.working.Moved.{moved_array}
use Rattle.fir_drop_dead.proofs.kept_net.moved_arrays.Given as goal

abbrev pub invariant-loop-array : goal.invariant-loop-array
invariant-loop-array l = l.moved.items ≡ map (moved_array l.kept) l.yielded
