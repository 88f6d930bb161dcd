use Rattle.std.proofs.Common.{sym, ap, ◌∙◌}
use Rattle.fir_parse.specs.declared.lexeme.Lexeme.TheVariants.{Word, Integer}
use Rattle.fir_parse.specs.Lexemes.{word, integer}
use Rattle.fir_parse.specs.working.Symbols.{a_field_name}
use Rattle.fir_parse.specs.working.States.{takes}
use Rattle.fir_parse.proofs.Plans.{found, takes_one, refused}
use Rattle.fir_parse.proofs.Others.{other_field_name, signed_field_name, digits_field_name}
use Rattle.fir_parse.proofs.parser.Parser.field_name.Goals as goal
use Rattle.fir_parse.proofs.parser.Parser.field_name.Goals.{in_default-via-in-Integer+else-not-has_sign, in_default-via-in_default}

pub returns-in_ok-ident-in-Word-clause-reads : goal.returns-in_ok-ident-in-Word-clause-reads
returns-in_ok-ident-in-Word-clause-reads c =
    takes_one a_field_name _ (word c.in-Word.word.now) _ _ _ (found _ c.peek-next.result (Word c.in-Word.word) c.peek-next.ensures c.in-Word.is) c.pass.ensures.rest
    (ap (λ n. takes (λ k. k n)) (sym c.in_ok-ident-in-Word.ensures))

pub returns-in_ok-ident-in-Integer-clause-reads : goal.returns-in_ok-ident-in-Integer-clause-reads
returns-in_ok-ident-in-Integer-clause-reads c =
    takes_one a_field_name _ (integer c.in-Integer.integer.spelling.now) _ _ _ (found _ c.peek-next.result (Integer c.in-Integer.integer) c.peek-next.ensures c.in-Integer.is) c.pass-in-Integer.ensures.rest
    (digits_field_name _ _ (sym c.has_sign.ensures ∙ c.if-not-has_sign.true) ∙ ap (λ n. takes (λ k. k n)) (sym c.in_ok-ident-in-Integer.ensures))

pub returns-in_default-clause-reads : goal.returns-in_default-clause-reads
returns-in_default-clause-reads c =
    refused a_field_name _ c.peek-next.result.lexeme _ _ c.peek-next.ensures c.refused.ensures
    (elim c.in_default.branch [
      | in_default-via-in-Integer+else-not-has_sign w ↦ signed_field_name w.in-Integer.integer _ _ w.in-Integer.is (sym w.has_sign.ensures ∙ w.if-not-has_sign.false)
      | in_default-via-in_default w ↦ other_field_name _ _ w.in_default.not-Word w.in_default.not-Integer
    ])
