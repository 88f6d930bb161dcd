use Rattle.std.proofs.Common.{◌≡◌, drop, map}
use Rattle.fir_types.specs.working.Noted.{pick_seen}
use Rattle.fir_ground.specs.working.ResetKinds.{all_there}
use Rattle.fir_ground.proofs.reset_kind.all_there.Given as goal

abbrev pub invariant-loop-pick : goal.invariant-loop-pick
invariant-loop-pick l = all_there (map pick_seen (drop l.pick-index l.picks)) ≡ all_there (map pick_seen l.picks)
