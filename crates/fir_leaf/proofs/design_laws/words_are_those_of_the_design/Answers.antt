use Rattle.fir_leaf.proofs.FlatOrders.{same_words}
use Rattle.fir_leaf.proofs.design_laws.words_are_those_of_the_design.Goals as goal

pub returns : goal.returns
returns c = same_words
