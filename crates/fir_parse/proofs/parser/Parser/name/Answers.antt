use Rattle.std.proofs.Common.{sym, ap}
use Rattle.fir_parse.specs.declared.lexeme.Lexeme.TheVariants.{Word}
use Rattle.fir_parse.specs.Lexemes.{word}
use Rattle.fir_parse.specs.working.Symbols.{a_name}
use Rattle.fir_parse.specs.working.States.{takes}
use Rattle.fir_parse.proofs.Plans.{found, takes_one, refused}
use Rattle.fir_parse.proofs.Others.{other_name}
use Rattle.fir_parse.proofs.parser.Parser.name.Goals as goal

pub returns-in_ok-ident-in-Word-clause-reads : goal.returns-in_ok-ident-in-Word-clause-reads
returns-in_ok-ident-in-Word-clause-reads c =
    takes_one a_name _ (word c.in-Word.word.now) _ _ _ (found _ c.peek-next.result (Word c.in-Word.word) c.peek-next.ensures c.in-Word.is) c.pass.ensures.rest
    (ap (λ n. takes (λ k. k n)) (sym c.in_ok-ident-in-Word.ensures))

pub returns-in_default-clause-reads : goal.returns-in_default-clause-reads
returns-in_default-clause-reads c = refused a_name _ c.peek-next.result.lexeme _ _ c.peek-next.ensures c.refused.ensures (other_name _ _ c.in_default.not-Word)
