use Rattle.fir_lex.proofs.LexedText.{lexed_is_spelled}
use Rattle.fir_lex.proofs.SpelledLines.{spelled_is_lexed}
use Rattle.fir_lex.proofs.laws.lexed_form_by_form.Goals as goal

pub returns : goal.returns
returns c bytes ts = (lexed_is_spelled bytes ts, spelled_is_lexed bytes ts)
