use Rattle.fir_words.proofs.PlainNames.{plain_name_is_taken}
use Rattle.fir_words.proofs.laws.plain_name_is_taken.Goals as goal

pub returns : goal.returns
returns c = plain_name_is_taken
