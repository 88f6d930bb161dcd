-- Tokens that are not expected where one token is.
use Rattle.std.proofs.Common.{◌≡◌, ℕ, List, [], ◌∷◌, true, false, not, refl, sym, ap, ◌∙◌, Bor}
use Rattle.std.specs.Str.{bytes_eq}
use Rattle.fir_ast.specs.declared.place.Place.{Place}
use Rattle.fir_parse.specs.declared.integer.Integer.{Integer}
use Rattle.fir_parse.specs.declared.lexeme.Mark.{Mark}
use Rattle.fir_parse.specs.declared.lexeme.Lexeme.{Lexeme}
use Rattle.fir_parse.specs.declared.lexeme.Lexeme.TheVariants as code
use Rattle.fir_lex.specs.working.Numbers.{digits_of}
use Rattle.fir_parse.specs.Lexemes.{word, integer, mark}
use Rattle.fir_parse.specs.working.Seen.{seen}
use Rattle.fir_parse.specs.working.Marks.{same_mark}
use Rattle.fir_base.specs.Digits.{decimal_value}
use Rattle.fir_parse.specs.Numbers.{has_sign, is_in_range}
use Rattle.fir_parse.specs.working.Symbols.{a_mark, a_word, a_name, a_field_name, a_natural, a_line_end, an_opening, a_closing}
use Rattle.fir_parse.specs.working.States.{limit, number_at, takes, refuses}
use Rattle.fir_parse.specs.working.Reading.{step}

pub other_line_end : (l : Lexeme) (p : Place) → (l ≡ code.LineEnd → ⊥) → step a_line_end (seen l) p ≡ refuses
other_line_end code.LineEnd p h = absurd (h refl)
other_line_end _ p h = refl

pub other_opening : (l : Lexeme) (p : Place) → (l ≡ code.LevelOpens → ⊥) → step an_opening (seen l) p ≡ refuses
other_opening code.LevelOpens p h = absurd (h refl)
other_opening _ p h = refl

pub other_closing : (l : Lexeme) (p : Place) → (l ≡ code.LevelCloses → ⊥) → step a_closing (seen l) p ≡ refuses
other_closing code.LevelCloses p h = absurd (h refl)
other_closing _ p h = refl

pub other_mark : (m : Mark) (l : Lexeme) (p : Place) → ((n : Mark) → l ≡ code.Mark n → ⊥) → step (a_mark m) (seen l) p ≡ refuses
other_mark m (code.Mark n) p h = absurd (h n refl)
other_mark m _ p h = refl

pub unequal_mark : (m n : Mark) (l : Lexeme) (p : Place) → l ≡ code.Mark n → same_mark m n ≡ false → step (a_mark m) (seen l) p ≡ refuses
unequal_mark m n l p e h = rw e (rw h refl)

pub equal_mark : (m n : Mark) (p : Place) → same_mark m n ≡ true → step (a_mark m) (mark n) p ≡ takes (λ k. k p)
equal_mark m n p h = rw h refl

pub other_word : (w : List ℕ) (l : Lexeme) (p : Place) → ((x : Bor (List ℕ)) → l ≡ code.Word x → ⊥) → step (a_word w) (seen l) p ≡ refuses
other_word w (code.Word x) p h = absurd (h x refl)
other_word w _ p h = refl

pub unequal_word : (w : List ℕ) (x : Bor (List ℕ)) (l : Lexeme) (p : Place) → l ≡ code.Word x → bytes_eq x.now w ≡ false → step (a_word w) (seen l) p ≡ refuses
unequal_word w x l p e h = rw e (rw h refl)

pub equal_word : (w x : List ℕ) (p : Place) → bytes_eq x w ≡ true → step (a_word w) (word x) p ≡ takes (λ k. k p)
equal_word w x p h = rw h refl

pub other_name : (l : Lexeme) (p : Place) → ((x : Bor (List ℕ)) → l ≡ code.Word x → ⊥) → step a_name (seen l) p ≡ refuses
other_name (code.Word x) p h = absurd (h x refl)
other_name _ p h = refl

pub other_field_name : (l : Lexeme) (p : Place) → ((x : Bor (List ℕ)) → l ≡ code.Word x → ⊥) → ((x : Integer) → l ≡ code.Integer x → ⊥) → step a_field_name (seen l) p ≡ refuses
other_field_name (code.Word x) p h g = absurd (h x refl)
other_field_name (code.Integer x) p h g = absurd (g x refl)
other_field_name _ p h g = refl

pub signed_field_name : (x : Integer) (l : Lexeme) (p : Place) → l ≡ code.Integer x → has_sign x.spelling.now ≡ true → step a_field_name (seen l) p ≡ refuses
signed_field_name x l p e h = rw e (rw h refl)

pub digits_field_name : (s : List ℕ) (p : Place) → has_sign s ≡ false → step a_field_name (integer s) p ≡ takes (λ k. k (record { place = p; name = s }))
digits_field_name s p h = rw h refl

pub other_natural : (l : Lexeme) (p : Place) → ((x : Integer) → l ≡ code.Integer x → ⊥) → step a_natural (seen l) p ≡ refuses
other_natural (code.Integer x) p g = absurd (g x refl)
other_natural _ p g = refl

pub signed_natural : (x : Integer) (l : Lexeme) (p : Place) → l ≡ code.Integer x → has_sign x.spelling.now ≡ true → step a_natural (seen l) p ≡ refuses
signed_natural x l p e h = rw e (rw h refl)

pub digits_natural : (s : List ℕ) (p : Place) → has_sign s ≡ false → step a_natural (integer s) p ≡ takes (λ k. limit (not (is_in_range (decimal_value s))) (number_at p) (k (record { place = p; number = decimal_value s })))
digits_natural s p h = rw h refl

-- an integer without a sign is its digits
unsigned : (s : List ℕ) → has_sign s ≡ false → digits_of s ≡ s
unsigned [] h = refl
unsigned (b ∷ bs) h = rw h refl

pub integer_natural : (i : Integer) (p : Place) → has_sign i.spelling.now ≡ false → step a_natural (integer i.spelling.now) p ≡ takes (λ k. limit (not (is_in_range i.number)) (number_at p) (k (record { place = p; number = i.number })))
integer_natural i p h =
    digits_natural i.spelling.now p h
    ∙ ap (λ n. takes (λ k. limit (not (is_in_range n)) (number_at p) (k (record { place = p; number = n })))) (sym (i.value ∙ ap decimal_value (unsigned i.spelling.now h)))
