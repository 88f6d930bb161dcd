use Rattle.std.proofs.Common.{◌≡◌, ℕ, List, ◌∷◌, refl, sym, ap, Bor}
use Rattle.fir_ast.specs.declared.place.Place.{Place}
use Rattle.fir_ast.specs.working.Views.{module_of}
use Rattle.fir_parse.specs.declared.lexeme.Lexeme.{Lexeme}
use Rattle.fir_parse.specs.declared.lexeme.Lexeme.TheVariants.{Word}
use Rattle.fir_parse.specs.declared.words.ModuleWord.TheVariants.{Name}
use Rattle.fir_parse.specs.working.CircuitRules.{by_module_word, one_module}
use Rattle.fir_parse.specs.Lexemes.{word}
use Rattle.fir_parse.specs.working.Seen.{seen}
use Rattle.fir_parse.specs.working.Reading.{step}
use Rattle.fir_parse.specs.working.States.{refuses, wants}
use Rattle.fir_parse.specs.working.Symbols.{first_module, more_modules}
use Rattle.fir_parse.specs.working.Words.{module_word_of}
use Rattle.fir_parse.proofs.LoopReads.{leads_behind}
use Rattle.fir_parse.proofs.Plans.{found, refused, takes_first, unsupported_there}
use Rattle.fir_parse.proofs.parser.Parser.module.Goals as goal

pub returns-in-Module-clause-reads : goal.returns-in-Module-clause-reads
returns-in-Module-clause-reads c =
    leads_behind (wants first_module) (λ m k. wants more_modules (λ ms. k (module_of m ∷ ms))) (λ k. one_module c.peek-next.result.place k) module_of _ _ _ c.module_behind.result
    (λ k m. wants more_modules (λ ms. k (m ∷ ms))) (λ x k. refl)
    (takes_first first_module _ (word c.in-Word.word.now) c.peek-next.result.place _ _ (found _ c.peek-next.result (Word c.in-Word.word) c.peek-next.ensures c.in-Word.is) c.pass.ensures.rest (ap (λ m. by_module_word m c.peek-next.result.place c.in-Word.word.now) (sym c.in-Module.ensures)))
    c.module_behind.ensures.reads

pub returns-in-Missing-clause-reads : goal.returns-in-Missing-clause-reads
returns-in-Missing-clause-reads c =
    unsupported_there first_module c.peek-next.result.place c.in-Word.word.now (word c.in-Word.word.now) c.peek-next.result.place _ _ (found _ c.peek-next.result (Word c.in-Word.word) c.peek-next.ensures c.in-Word.is)
    (ap (λ m. by_module_word m c.peek-next.result.place c.in-Word.word.now) (sym c.in-Missing.ensures)) c.unsupported.ensures

no_module : (l : Lexeme) (p : Place) (w : Bor (List ℕ)) → l ≡ Word w → Name ≡ module_word_of w.now → step first_module (seen l) p ≡ refuses
no_module l p w e h = rw e (ap (λ m. by_module_word m p w.now) (sym h))

pub returns-in-Name-clause-reads : goal.returns-in-Name-clause-reads
returns-in-Name-clause-reads c =
    refused first_module _ c.peek-next.result.lexeme _ _ c.peek-next.ensures c.refused.ensures (no_module c.peek-next.result.lexeme c.peek-next.result.place c.in-Word.word c.in-Word.is c.in-Name.ensures)

no_word : (l : Lexeme) (p : Place) → ((w : Bor (List ℕ)) → l ≡ Word w → ⊥) → step first_module (seen l) p ≡ refuses
no_word (Word w) p h = absurd (h w refl)
no_word _ p h = refl

pub returns-in_default-clause-reads : goal.returns-in_default-clause-reads
returns-in_default-clause-reads c =
    refused first_module _ c.peek-next.result.lexeme _ _ c.peek-next.ensures c.refused-in_default.ensures (no_word c.peek-next.result.lexeme c.peek-next.result.place c.in_default.not-Word)
