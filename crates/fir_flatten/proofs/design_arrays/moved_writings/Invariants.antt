use Rattle.std.proofs.Common.{◌≡◌, map, take}
use Rattle.fir_flatten.specs.working.MovedNets.{writing_moved}
use Rattle.fir_flatten.proofs.design_arrays.moved_writings.Given as goal

abbrev pub invariant-loop-writing : goal.invariant-loop-writing
invariant-loop-writing l = l.moved.items ≡ map (writing_moved l.at) (take l.writing-index l.writings)
