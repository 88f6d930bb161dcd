use Rattle.fir_leaf.proofs.ShownStates.{words_show}
use Rattle.fir_leaf.proofs.design_laws.words_show_state.Goals as goal

pub returns : goal.returns
returns c = words_show
