use Rattle.std.proofs.Common.{◌≤◌, refl, rules}
use Rattle.fir_merge.proofs.GrownEntries.{indices_below_later}
use Rattle.fir_merge.proofs.StandingReads.{absent_narrow}
use Rattle.fir_merge.proofs.reads.add_absent.Goals as goal

pub add_chosen-requires-clause-indices : goal.add_chosen-requires-clause-indices
add_chosen-requires-clause-indices c =
    indices_below_later c.args.net.now c.add_zero.new.net c.args.indices.now c.in_ok-zero.ensures.grown.grows c.requires.indices

pub returns-clause-stands : goal.returns-clause-stands
returns-clause-stands c =
    let narrow : c.args.width ≤ 128 = search rules in
    absent_narrow c.args.net.now c.add_zero.new.net c.add_chosen.new.net c.args.signed c.args.width _ c.args.indices.now c.args.nothing.now c.in_ok-zero.zero
    c.in_ok-add_chosen.field-0 narrow refl c.in_ok-zero.ensures.grown.grows c.in_ok-zero.ensures.stands c.in_ok-add_chosen.ensures.stands
