use Rattle.ver_emit.specs.Layout.{layout}
use Rattle.ver_emit.proofs.Slashes.{no_comment}
use Rattle.ver_emit.proofs.Spaces.{layout_spaced}
use Rattle.ver_emit.proofs.laws.layout_has_no_comment.Goals as goal

pub returns : goal.returns
returns c = λ v named. no_comment (layout v) (layout_spaced v named)
