use Rattle.trace_text.proofs.TraceFronts.{front_spells_first as spelled_first}
use Rattle.trace_text.proofs.laws.front_spells_first.Goals as goal

pub returns : goal.returns
returns c = spelled_first
