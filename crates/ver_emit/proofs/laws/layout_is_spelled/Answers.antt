use Rattle.ver_emit.proofs.Spelled.{layout_spells}
use Rattle.ver_emit.proofs.laws.layout_is_spelled.Goals as goal

pub returns : goal.returns
returns c = λ v valid named. layout_spells v valid named c.tokens_are_read_step_by_step.ensures
