use Rattle.fir_words.proofs.PlainNames.{plain_names_are_taken}
use Rattle.fir_words.proofs.laws.plain_names_are_taken.Goals as goal

pub returns : goal.returns
returns c = plain_names_are_taken
