-- What a memory's field reads, by its word.
use Rattle.std.proofs.Common.{◌≡◌, ℕ, List, drop, sym, ap, ◌∙◌}
use Rattle.fir_ast.specs.declared.place.Place.{Place}
use Rattle.fir_ast.specs.Statements.{MemoryPart}
use Rattle.fir_parse.specs.declared.lexeme.Lexeme.{Lexeme}
use Rattle.fir_parse.specs.declared.lexeme.Lexeme.TheVariants.{End}
use Rattle.fir_parse.specs.declared.parser.Next.{Next}
use Rattle.fir_parse.specs.declared.stop.Stop.{Stop}
use Rattle.fir_parse.specs.declared.words.FieldWord.{FieldWord}
use Rattle.fir_parse.specs.declared.words.FieldWord.TheVariants.{Name}
use Rattle.fir_parse.specs.working.AtHand.{IsAtHand, stop_at}
use Rattle.fir_parse.specs.Lexemes.{Terminal}
use Rattle.fir_parse.specs.working.Seen.{seen}
use Rattle.fir_parse.specs.working.MemoryRules.{by_field_word}
use Rattle.fir_parse.specs.working.Reading.{read_on}
use Rattle.fir_parse.specs.working.Reads.{Plan, Stops}
use Rattle.fir_parse.specs.working.States.{State, wants, takes}
use Rattle.fir_parse.specs.working.Symbols.{a_memory_field}
use Rattle.fir_parse.specs.working.Words.{field_word_of}
use Rattle.fir_parse.proofs.Plans.{refused, stands_there, takes_first}
use Rattle.fir_parse.specs.Limits.{everywhere}

end_is_name : (l : Lexeme) → l ≡ End → field_word_of (seen l) ≡ Name
end_is_name l e = ap (λ x. field_word_of (seen x)) e

no_end : (d : ℕ) (w : FieldWord) (g : Plan MemoryPart) (l : Lexeme) (p : Place) → w ≡ field_word_of (seen l) → by_field_word w d p ≡ takes g → l ≡ End → ⊥
no_end d w g l p e f h =
    let i : w ≡ Name = e ∙ end_is_name l h in
    let j = ap (λ v. by_field_word v d p) (sym i) ∙ f in
    cc

-- the word of a field is taken
pub field_taken : (d : ℕ) (w : FieldWord) (g : Plan MemoryPart) (a b : List Terminal) (n : Next) → IsAtHand a n → w ≡ field_word_of (seen n.lexeme) → by_field_word w d n.place ≡ takes g → b ≡ drop 1 a → (end : Place) (k : MemoryPart → State) → read_on everywhere end (wants (a_memory_field d) k) a ≡ read_on everywhere end (g k) b
field_taken d w g a b n h e f r =
    takes_first (a_memory_field d) g (seen n.lexeme) n.place a b (stands_there a n.lexeme n.place h (no_end d w g n.lexeme n.place e f)) r
    (ap (λ v. by_field_word v d n.place) (sym e) ∙ f)

-- no word of a field is at hand
pub no_field : (d : ℕ) (a : List Terminal) (n : Next) (e : Stop) → IsAtHand a n → Name ≡ field_word_of (seen n.lexeme) → e ≡ stop_at n.lexeme n.place → Stops (wants (a_memory_field d)) a e
no_field d a n e h f g = refused (a_memory_field d) a n.lexeme n.place e h g (ap (λ v. by_field_word v d n.place) (sym f))
