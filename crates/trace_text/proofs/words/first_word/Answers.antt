use Rattle.std.proofs.Common.{sym, ◌∙◌, arith}
use Rattle.std.proofs.lemmas.Grind.{common_steps}
use Rattle.trace_text.proofs.FirstWords.{first_of_more, only_word}
use Rattle.trace_text.proofs.words.first_word.Goals as goal

pub returns-in-Some : goal.returns-in-Some
returns-in-Some c = let e = first_of_more c.args.text.now c.in-Some.end (sym c.first_space.ensures ∙ c.in-Some.is) in grind (arith, common_steps)

pub returns-in-None : goal.returns-in-None
returns-in-None c = only_word c.args.text.now (sym c.first_space.ensures ∙ c.in-None.is)
