use Rattle.std.proofs.Common.{◌≡◌, drop, map}
use Rattle.fir_leaf_pairs.specs.working.Drives.{is_any_flipped}
use Rattle.fir_leaf_pairs.specs.working.Pairing.{pair_seen}
use Rattle.fir_ground.proofs.connects.is_any_flipped.Given as goal

abbrev pub invariant-loop-pair : goal.invariant-loop-pair
invariant-loop-pair l = is_any_flipped (map pair_seen (drop l.pair-index l.pairs)) ≡ is_any_flipped (map pair_seen l.pairs)
