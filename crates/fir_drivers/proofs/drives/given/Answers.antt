use Rattle.std.proofs.Common.{sym, ◌∙◌}
use Rattle.std.proofs.lemmas.Result.{IfOk-weaker}
use Rattle.fir_merge.proofs.GrownTerms.{grows_none}
use Rattle.fir_drivers.proofs.LeafDrives.{value_given, zeros_given}
use Rattle.fir_drivers.proofs.StandingNodes.{value_is_below}
use Rattle.fir_drivers.proofs.drives.given.Goals as goal

pub returns-then-is_zeros-clause-stands : goal.returns-then-is_zeros-clause-stands
returns-then-is_zeros-clause-stands c =
    IfOk-weaker c.zero_of.result _ _
    (λ r stands. zeros_given c.args.setting.now c.args.net.now c.zero_of.new.net c.args.drive.now r (sym c.if-is_zeros.true ∙ c.is_zeros.ensures) stands)
    c.zero_of.ensures.stands

pub returns-clause-grown : goal.returns-clause-grown
returns-clause-grown c = record {
  grows = grows_none c.args.net.now;
  below =
      let s = c.args.setting.now in
      rw c.value_at.ensures (value_is_below _ s.nodes.now s.bounds.now s.nothing.now c.args.drive.now.given c.requires.0 c.requires.1);
}

pub returns-clause-stands : goal.returns-clause-stands
returns-clause-stands c =
    value_given c.args.setting.now c.args.net.now c.args.drive.now c.value_at.result (sym c.if-is_zeros.false ∙ c.is_zeros.ensures) c.value_at.ensures
