use Rattle.std.proofs.Common.{sym, ap, ◌∙◌}
use denote.Enum.Bare.{sameb}
use Rattle.fir_parse.specs.contracts.lexeme.Mark.{the_type}
use Rattle.fir_parse.specs.declared.lexeme.Lexeme.TheVariants.{Mark}
use Rattle.fir_parse.specs.Lexemes.{mark}
use Rattle.fir_parse.specs.working.Symbols.{a_mark}
use Rattle.fir_parse.proofs.Plans.{found, takes_one, refused}
use Rattle.fir_parse.proofs.Others.{other_mark, unequal_mark, equal_mark}
use Rattle.fir_parse.proofs.SameMarks.{same_by_code}
use Rattle.fir_parse.proofs.parser.Parser.mark.Goals as goal
use Rattle.fir_parse.proofs.parser.Parser.mark.Goals.{in_default-via-in-Mark+else-eq, in_default-via-in_default}

pub returns-in-Mark-clause-reads : goal.returns-in-Mark-clause-reads
returns-in-Mark-clause-reads c =
    takes_one (a_mark c.args.mark) _ (mark c.in-Mark.found) _ _ _ (found _ c.peek-next.result (Mark c.in-Mark.found) c.peek-next.ensures c.in-Mark.is) c.pass.ensures.rest
    (equal_mark c.args.mark c.in-Mark.found _ (sym (same_by_code c.args.mark c.in-Mark.found) ∙ ap (λ x. sameb the_type x c.args.mark) (sym c.in-Mark.found-is) ∙ sym c.eq.ensures ∙ c.if-eq.true))

pub returns-in_default-clause-reads : goal.returns-in_default-clause-reads
returns-in_default-clause-reads c =
    refused (a_mark c.args.mark) _ c.peek-next.result.lexeme _ _ c.peek-next.ensures c.refused.ensures
    (elim c.in_default.branch [
      | in_default-via-in-Mark+else-eq w ↦ unequal_mark c.args.mark w.in-Mark.found _ _ w.in-Mark.is (sym (same_by_code c.args.mark w.in-Mark.found) ∙ ap (λ x. sameb the_type x c.args.mark) (sym w.in-Mark.found-is) ∙ sym w.eq.ensures ∙ w.if-eq.false)
      | in_default-via-in_default w ↦ other_mark _ _ _ w.in_default.not-Mark
    ])
