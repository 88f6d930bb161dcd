use Rattle.std.proofs.Common.{◌≡◌, map, take}
use Rattle.fir_merge.specs.working.Entries.{value_in}
use Rattle.fir_merge.proofs.lower.values_at.Given as goal

abbrev pub invariant-loop-place : goal.invariant-loop-place
invariant-loop-place l = l.values.items ≡ map (value_in l.nodes l.bounds l.nothing) (take l.place-index l.places)
