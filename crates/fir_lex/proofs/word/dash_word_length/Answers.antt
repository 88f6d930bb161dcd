use Rattle.fir_lex.proofs.Words.{dash_second, dash_third, dash_fourth}
use Rattle.fir_lex.proofs.word.dash_word_length.Goals as goal

pub returns-then-starts_with-2-clause-word : goal.returns-then-starts_with-2-clause-word
returns-then-starts_with-2-clause-word c = dash_second c.args.bytes.now (cc) (cc)

pub returns-then-starts_with-3-clause-word : goal.returns-then-starts_with-3-clause-word
returns-then-starts_with-3-clause-word c = dash_third c.args.bytes.now (cc) (cc) (cc)

pub returns-then-starts_with-4-clause-word : goal.returns-then-starts_with-4-clause-word
returns-then-starts_with-4-clause-word c = dash_fourth c.args.bytes.now (cc) (cc) (cc) (cc)
