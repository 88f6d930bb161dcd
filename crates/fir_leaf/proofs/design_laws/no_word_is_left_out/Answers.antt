use Rattle.fir_leaf.proofs.WholeStates.{words_are_all}
use Rattle.fir_leaf.proofs.design_laws.no_word_is_left_out.Goals as goal

pub returns : goal.returns
returns c = words_are_all
