use Rattle.std.proofs.Common.{refl}
use Rattle.fir_parse.specs.declared.lexeme.Lexeme.TheVariants.{LevelOpens}
use Rattle.fir_parse.specs.Lexemes.{level_opens}
use Rattle.fir_parse.specs.working.Symbols.{an_opening}
use Rattle.fir_parse.proofs.Plans.{found, takes_one, refused}
use Rattle.fir_parse.proofs.Others.{other_opening}
use Rattle.fir_parse.proofs.parser.Parser.opening.Goals as goal

pub returns-in-LevelOpens-clause-reads : goal.returns-in-LevelOpens-clause-reads
returns-in-LevelOpens-clause-reads c = takes_one an_opening _ level_opens _ _ _ (found _ c.peek-next.result LevelOpens c.peek-next.ensures c.in-LevelOpens.is) c.pass.ensures.rest refl

pub returns-in_default-clause-reads : goal.returns-in_default-clause-reads
returns-in_default-clause-reads c = refused an_opening _ c.peek-next.result.lexeme _ _ c.peek-next.ensures c.refused.ensures (other_opening _ _ c.in_default.not-LevelOpens)
