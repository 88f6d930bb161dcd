use Rattle.std.proofs.Common.{◌≡◌, ℕ, List, true, false, codes, refl, sym, ap, ◌∙◌, Bor}
use Rattle.std.specs.Str.{bytes_eq}
use Rattle.fir_ast.specs.working.Views.{circuit_of}
use Rattle.fir_parse.specs.declared.lexeme.Lexeme.{Lexeme}
use Rattle.fir_parse.specs.declared.lexeme.Lexeme.TheVariants.{Word}
use Rattle.fir_parse.specs.working.CircuitRules.{version_rest}
use Rattle.fir_parse.specs.Lexemes.{word}
use Rattle.fir_parse.specs.working.PartPlans.{circuit_plan}
use Rattle.fir_parse.specs.working.States.{wants}
use Rattle.fir_parse.specs.working.Symbols.{a_text}
use Rattle.fir_parse.proofs.Plans.{found, reads_behind, takes_first}
use Rattle.fir_parse.proofs.ReadAlike.{text_by_word}
use Rattle.fir_parse.proofs.parser.Parser.text.Goals as goal
use Rattle.fir_parse.proofs.parser.Parser.text.Goals.{in_default-via-in-Word+else-eq, in_default-via-in_default}

pub returns-in-Word : goal.returns-in-Word
returns-in-Word c =
    let e : bytes_eq c.in-Word.word.now (codes "FIRRTL") ≡ true =
    ap (λ s. bytes_eq c.in-Word.word.now s) (sym c.as_slice.ensures) ∙ ap (λ x. bytes_eq x.now c.as_slice.result.now) (sym c.in-Word.word-is) ∙ sym c.eq.ensures ∙ c.if-eq.true in
    reads_behind (wants a_text) (λ k. version_rest k) circuit_of _ _ _ c.versioned.result
    (takes_first a_text _ (word c.in-Word.word.now) _ _ _ (found _ c.peek-next.result (Word c.in-Word.word) c.peek-next.ensures c.in-Word.is) c.pass.ensures.rest (rw e refl))
    c.versioned.ensures

same_word : (l : Lexeme) (w x : Bor (List ℕ)) → l ≡ Word w → bytes_eq w.now (codes "FIRRTL") ≡ false → l ≡ Word x → bytes_eq x.now (codes "FIRRTL") ≡ false
same_word l w x e h f = let g : x ≡ w = cc in rw g h

pub returns-in_default : goal.returns-in_default
returns-in_default c =
    reads_behind (wants a_text) (λ k. circuit_plan k) circuit_of _ _ _ c.unversioned.result
    (text_by_word _ c.peek-next.result.lexeme c.peek-next.result.place c.peek-next.ensures
    (elim c.in_default.branch [
      | in_default-via-in-Word+else-eq w ↦ λ x f. same_word c.peek-next.result.lexeme w.in-Word.word x w.in-Word.is
          (ap (λ s. bytes_eq w.in-Word.word.now s) (sym w.as_slice.ensures) ∙ ap (λ y. bytes_eq y.now w.as_slice.result.now) (sym w.in-Word.word-is) ∙ sym w.eq.ensures ∙ w.if-eq.false) f
      | in_default-via-in_default w ↦ λ x f. absurd (w.in_default.not-Word x f)
    ]))
    c.unversioned.ensures
