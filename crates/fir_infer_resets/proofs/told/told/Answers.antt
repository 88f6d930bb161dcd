use Rattle.std.proofs.Common.{slice_index_or}
use Rattle.std.proofs.lemmas.Option.{slice_get-get_or}
use Rattle.fir_infer_resets.proofs.StepTexts.{told_fault}
use Rattle.fir_infer_resets.proofs.told.told.Goals as goal

pub returns : goal.returns
returns c = λ es f are tells.
    told_fault c.args.ends.now es c.args.walk.now f (slice_index_or c.args.walk.now 1 0) c.index-ends-first.result c.from_vec.result are tells
    (slice_get-get_or c.args.walk.now 1 0 c.requires.long) (rw c.from_vec.ensures c.in_ok-steps.ensures)
