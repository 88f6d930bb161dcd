use Rattle.std.proofs.Common.{sym, ap, ◌∙◌, not}
use Rattle.std.proofs.lemmas.Bool.{lt-ltb}
use Rattle.fir_parse.specs.declared.lexeme.Lexeme.TheVariants.{Integer}
use Rattle.fir_parse.specs.Lexemes.{integer}
use Rattle.fir_parse.specs.Numbers.{is_in_range}
use Rattle.fir_parse.specs.working.Symbols.{a_natural}
use Rattle.fir_parse.specs.working.States.{number_at}
use Rattle.fir_parse.specs.working.Reading.{read_on}
use Rattle.fir_parse.specs.working.Reads.{rest}
use Rattle.fir_parse.specs.working.Trees.{natural_of}
use Rattle.fir_parse.proofs.Plans.{found, takes_first, limit_kept, refused}
use Rattle.fir_parse.proofs.Others.{other_natural, signed_natural, integer_natural}
use Rattle.fir_parse.proofs.parser.Parser.natural.Goals as goal
use Rattle.fir_parse.proofs.parser.Parser.natural.Goals.{in_default-via-in-Integer+else-not-has_sign, in_default-via-in_default}
use Rattle.fir_parse.specs.Limits.{everywhere}

pub returns-in-Integer-clause-reads : goal.returns-in-Integer-clause-reads
returns-in-Integer-clause-reads c = λ end k.
    takes_first a_natural _ (integer c.in-Integer.integer.spelling.now) _ _ _ (found _ c.peek-next.result (Integer c.in-Integer.integer) c.peek-next.ensures c.in-Integer.is) c.pass.ensures.rest
    (integer_natural c.in-Integer.integer c.peek-next.result.place (sym c.has_sign.ensures ∙ c.if-not-has_sign.true)) end k
    ∙ limit_kept (not (is_in_range c.in-Integer.integer.number)) (number_at c.peek-next.result.place) _ end _ (ap not (lt-ltb _ _ c.new.ensures.in_range))
    ∙ ap (λ n. read_on everywhere end (k (natural_of n)) (rest c.pass.new.self)) (sym c.new.ensures.parts)

pub returns-in_default-clause-reads : goal.returns-in_default-clause-reads
returns-in_default-clause-reads c =
    refused a_natural _ c.peek-next.result.lexeme _ _ c.peek-next.ensures c.refused.ensures
    (elim c.in_default.branch [
      | in_default-via-in-Integer+else-not-has_sign w ↦ signed_natural w.in-Integer.integer _ _ w.in-Integer.is (sym w.has_sign.ensures ∙ w.if-not-has_sign.false)
      | in_default-via-in_default w ↦ other_natural _ _ w.in_default.not-Integer
    ])
