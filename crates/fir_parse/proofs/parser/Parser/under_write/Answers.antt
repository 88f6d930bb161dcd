use Rattle.std.proofs.Common.{◌≡◌, ℕ, List, None, refl, sym, ap, Bor}
use Rattle.fir_ast.specs.declared.place.Place.{Place}
use Rattle.fir_parse.specs.declared.lexeme.Lexeme.{Lexeme}
use Rattle.fir_parse.specs.declared.lexeme.Lexeme.TheVariants.{Word}
use Rattle.fir_parse.specs.Lexemes.{word}
use Rattle.fir_parse.specs.working.Seen.{seen}
use Rattle.fir_parse.specs.working.MemoryRules.{under_write}
use Rattle.fir_parse.specs.working.Reading.{step}
use Rattle.fir_parse.specs.working.States.{refuses}
use Rattle.fir_parse.specs.working.Symbols.{an_under_write}
use Rattle.fir_parse.specs.working.Words.{under_write_of}
use Rattle.fir_parse.proofs.Plans.{found, refused, takes_one}
use Rattle.fir_parse.proofs.parser.Parser.under_write.Goals as goal

pub returns-in-Some-clause-reads : goal.returns-in-Some-clause-reads
returns-in-Some-clause-reads c =
    takes_one an_under_write c.in-Some.which (word c.in-Word.word.now) _ _ _ (found _ c.peek-next.result (Word c.in-Word.word) c.peek-next.ensures c.in-Word.is) c.pass.ensures.rest
    (ap under_write (sym c.in-Some.ensures))

names_none : (l : Lexeme) (p : Place) (w : Bor (List ℕ)) → l ≡ Word w → None ≡ under_write_of w.now → step an_under_write (seen l) p ≡ refuses
names_none l p w e h = rw e (ap under_write (sym h))

pub returns-in-None-clause-reads : goal.returns-in-None-clause-reads
returns-in-None-clause-reads c =
    refused an_under_write _ c.peek-next.result.lexeme _ _ c.peek-next.ensures c.refused.ensures (names_none _ c.peek-next.result.place c.in-Word.word c.in-Word.is c.in-None.ensures)

no_word : (l : Lexeme) (p : Place) → ((w : Bor (List ℕ)) → l ≡ Word w → ⊥) → step an_under_write (seen l) p ≡ refuses
no_word (Word w) p h = absurd (h w refl)
no_word _ p h = refl

pub returns-in_default-clause-reads : goal.returns-in_default-clause-reads
returns-in_default-clause-reads c =
    refused an_under_write _ c.peek-next.result.lexeme _ _ c.peek-next.ensures c.refused-in_default.ensures (no_word _ c.peek-next.result.place c.in_default.not-Word)
