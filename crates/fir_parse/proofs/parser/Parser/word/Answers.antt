use Rattle.std.proofs.Common.{sym, ap, ◌∙◌}
use Rattle.std.specs.Str.{bytes_eq}
use Rattle.fir_parse.specs.declared.lexeme.Lexeme.TheVariants.{Word}
use Rattle.fir_parse.specs.Lexemes.{word}
use Rattle.fir_parse.specs.working.Symbols.{a_word}
use Rattle.fir_parse.proofs.Plans.{found, takes_one, refused}
use Rattle.fir_parse.proofs.Others.{other_word, unequal_word, equal_word}
use Rattle.fir_parse.proofs.parser.Parser.word.Goals as goal
use Rattle.fir_parse.proofs.parser.Parser.word.Goals.{in_default-via-in-Word+else-eq, in_default-via-in_default}

pub returns-in-Word-clause-reads : goal.returns-in-Word-clause-reads
returns-in-Word-clause-reads c =
    takes_one (a_word c.args.word.now) _ (word c.in-Word.found.now) _ _ _ (found _ c.peek-next.result (Word c.in-Word.found) c.peek-next.ensures c.in-Word.is) c.pass.ensures.rest
    (equal_word c.args.word.now c.in-Word.found.now _ (ap (λ x. bytes_eq x.now c.args.word.now) (sym c.in-Word.found-is) ∙ sym c.eq.ensures ∙ c.if-eq.true))

pub returns-in_default-clause-reads : goal.returns-in_default-clause-reads
returns-in_default-clause-reads c =
    refused (a_word c.args.word.now) _ c.peek-next.result.lexeme _ _ c.peek-next.ensures c.refused.ensures
    (elim c.in_default.branch [
      | in_default-via-in-Word+else-eq w ↦ unequal_word c.args.word.now w.in-Word.found _ _ w.in-Word.is (ap (λ x. bytes_eq x.now c.args.word.now) (sym w.in-Word.found-is) ∙ sym w.eq.ensures ∙ w.if-eq.false)
      | in_default-via-in_default w ↦ other_word _ _ _ w.in_default.not-Word
    ])
