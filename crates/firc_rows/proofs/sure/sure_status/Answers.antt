use Rattle.std.proofs.Common.{refl, sym, subst}
use Rattle.fir_words.specs.Commands.{asked_by}
use Rattle.firc_rows.specs.working.Left.{IsLeft}
use Rattle.firc_rows.proofs.LeftStatuses.{sure_left}
use Rattle.firc_rows.proofs.sure.sure_status.Goals as goal

pub returns : goal.returns
returns c =
    let h = c.run.ensures.headline in
    let asked = asked_by c.args.words.now.items in
    subst (IsLeft asked) (sym h.1) (sure_left asked _ _ h.0 h.2 refl refl refl refl refl refl)
