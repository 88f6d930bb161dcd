use Rattle.std.proofs.Common.{refl, Some}
use Rattle.fir_parse.specs.declared.lexeme.Lexeme.TheVariants.{Integer, Text}
use Rattle.fir_parse.specs.Lexemes.{integer, text}
use Rattle.fir_parse.specs.Numbers.{integer_value, text_value}
use Rattle.fir_parse.specs.working.Symbols.{a_literal}
use Rattle.fir_parse.proofs.Plans.{found, refused}
use Rattle.fir_parse.proofs.LiteralNumbers.{other_literal, numbered_as_spelled, reads_numeral}
use Rattle.fir_parse.proofs.parser.Parser.literal.Goals as goal

pub returns-in-Integer-clause-reads : goal.returns-in-Integer-clause-reads
returns-in-Integer-clause-reads c =
    reads_numeral c.args.place c.args.signed c.args.width (Some (integer_value c.in-Integer.integer.spelling.now)) (integer c.in-Integer.integer.spelling.now) c.peek-next.result.place _ _ c.numbered.result
    (found _ c.peek-next.result (Integer c.in-Integer.integer) c.peek-next.ensures c.in-Integer.is) c.pass.ensures.rest refl
    (rw c.integer_numeral-numeral.ensures at c.numbered.ensures)

pub returns-in-Text-clause-reads : goal.returns-in-Text-clause-reads
returns-in-Text-clause-reads c =
    reads_numeral c.args.place c.args.signed c.args.width (text_value c.in-Text.spelling.now) (text c.in-Text.spelling.now) c.peek-next.result.place _ _ c.numbered-in-Text.result
    (found _ c.peek-next.result (Text c.in-Text.spelling) c.peek-next.ensures c.in-Text.is) c.pass-in-Text.ensures.rest refl
    (numbered_as_spelled c.args.place c.args.signed c.args.width (text_value c.in-Text.spelling.now) c.peek-next.result.place c.numbered-in-Text.result (rw c.text_numeral.ensures at c.numbered-in-Text.ensures))

pub returns-in_default-clause-reads : goal.returns-in_default-clause-reads
returns-in_default-clause-reads c =
    refused (a_literal c.args.place c.args.signed c.args.width) _ c.peek-next.result.lexeme _ _ c.peek-next.ensures c.refused.ensures
    (other_literal c.args.place c.args.signed c.args.width c.peek-next.result.lexeme _ c.in_default.not-Integer c.in_default.not-Text)
