use Rattle.std.proofs.Common.{◌∙◌, refl, sym, ap}
use Rattle.fir_ground.specs.working.ResetKinds.{kind_seen}
use Rattle.fir_leaf_table.proofs.ToldResets.{frame_told}
use Rattle.fir_leaf_table.proofs.resets.is_async.Goals as goal

pub returns-in-Synchronous : goal.returns-in-Synchronous
returns-in-Synchronous c = λ d s before e frames begins is.
    frame_told c.args.frame.now d s before frames begins e _ (sym (ap kind_seen c.in-Synchronous.is) ∙ is) _ refl

pub returns-in-Inferred : goal.returns-in-Inferred
returns-in-Inferred c = λ d s before e frames begins is.
    frame_told c.args.frame.now d s before frames begins e _ (sym (ap kind_seen c.in-Inferred.is) ∙ is) _
    (λ x first offset leaf resets is_first is_offset number_is.
    c.is_inferred.ensures d s x first offset frames leaf resets is_first is_offset number_is)
