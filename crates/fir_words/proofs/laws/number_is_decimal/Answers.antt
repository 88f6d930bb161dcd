use Rattle.fir_words.proofs.Numbers.{number_is_decimal}
use Rattle.fir_words.proofs.laws.number_is_decimal.Goals as goal

pub returns : goal.returns
returns c = number_is_decimal
