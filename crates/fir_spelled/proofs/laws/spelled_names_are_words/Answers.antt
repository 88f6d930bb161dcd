use Rattle.fir_parse.specs.Spells.{terminals}
use Rattle.fir_spelled.proofs.CircuitWords.{circuit_words}
use Rattle.fir_spelled.proofs.LexedWords.{tokens_well}
use Rattle.fir_spelled.proofs.laws.spelled_names_are_words.Goals as goal

pub returns : goal.returns
returns k bytes c (ts, p, r) = circuit_words c (terminals ts) r (tokens_well bytes ts ((k.lexed_form_by_form.ensures bytes ts).1 p))
