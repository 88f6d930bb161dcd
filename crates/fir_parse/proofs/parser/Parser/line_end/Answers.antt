use Rattle.std.proofs.Common.{refl}
use Rattle.fir_parse.specs.declared.lexeme.Lexeme.TheVariants.{LineEnd}
use Rattle.fir_parse.specs.Lexemes.{line_end}
use Rattle.fir_parse.specs.working.Symbols.{a_line_end}
use Rattle.fir_parse.proofs.Plans.{found, takes_one, refused}
use Rattle.fir_parse.proofs.Others.{other_line_end}
use Rattle.fir_parse.proofs.parser.Parser.line_end.Goals as goal

pub returns-in-LineEnd-clause-reads : goal.returns-in-LineEnd-clause-reads
returns-in-LineEnd-clause-reads c = takes_one a_line_end _ line_end _ _ _ (found _ c.peek-next.result LineEnd c.peek-next.ensures c.in-LineEnd.is) c.pass.ensures.rest refl

pub returns-in_default-clause-reads : goal.returns-in_default-clause-reads
returns-in_default-clause-reads c = refused a_line_end _ c.peek-next.result.lexeme _ _ c.peek-next.ensures c.refused.ensures (other_line_end _ _ c.in_default.not-LineEnd)
