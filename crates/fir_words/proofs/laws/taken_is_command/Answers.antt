use Rattle.fir_words.proofs.TakenWords.{taken_is_command}
use Rattle.fir_words.proofs.laws.taken_is_command.Goals as goal

pub returns : goal.returns
returns c = taken_is_command
