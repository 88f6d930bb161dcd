use Rattle.std.proofs.Common.{refl}
use Rattle.fir_parse.specs.declared.lexeme.Lexeme.TheVariants.{LevelCloses}
use Rattle.fir_parse.specs.Lexemes.{level_closes}
use Rattle.fir_parse.specs.working.Symbols.{a_closing}
use Rattle.fir_parse.proofs.Plans.{found, takes_one, refused}
use Rattle.fir_parse.proofs.Others.{other_closing}
use Rattle.fir_parse.proofs.parser.Parser.closing.Goals as goal

pub returns-in-LevelCloses-clause-reads : goal.returns-in-LevelCloses-clause-reads
returns-in-LevelCloses-clause-reads c = takes_one a_closing _ level_closes _ _ _ (found _ c.peek-next.result LevelCloses c.peek-next.ensures c.in-LevelCloses.is) c.pass.ensures.rest refl

pub returns-in_default-clause-reads : goal.returns-in_default-clause-reads
returns-in_default-clause-reads c = refused a_closing _ c.peek-next.result.lexeme _ _ c.peek-next.ensures c.refused.ensures (other_closing _ _ c.in_default.not-LevelCloses)
