-- Pieces of a text. Each is a relation between the tokens that are left before it and those that are left behind it.
use Rattle.std.specs.Prelude.{◌≡◌, ℕ, ◌^◌, ◌<◌, List, [], ◌∷◌, false, ◌⊎◌}
use Rattle.fir_ast.specs.declared.place.Place.{Place}
use Rattle.fir_ast.specs.Statements.{PlacedName}
use Rattle.fir_parse.specs.declared.lexeme.Mark.{Mark}
use Rattle.fir_parse.specs.Lexemes.{Terminal, Lexeme, word, integer, mark, annotations, line_end, level_opens, level_closes}
use Rattle.fir_base.specs.Digits.{decimal_value}
use Rattle.fir_parse.specs.Numbers.{has_sign}
use Rattle.fir_parse.specs.Limits.{Limits, numbers, Within}

-- one piece and then another
infixr 3 ◌▸◌
abbrev pub ◌▸◌ : (List Terminal → List Terminal → Type 0) → (List Terminal → List Terminal → Type 0) → List Terminal → List Terminal → Type 0
(P ▸ Q) before behind = (between : List Terminal) × P before between × Q between behind

-- one of two
abbrev pub Either : (List Terminal → List Terminal → Type 0) → (List Terminal → List Terminal → Type 0) → List Terminal → List Terminal → Type 0
Either P Q before behind = P before behind ⊎ Q before behind

-- no token, where a condition holds
abbrev pub Given : Type 0 → List Terminal → List Terminal → Type 0
Given C before behind = C × (before ≡ behind)

abbrev pub Nothing : List Terminal → List Terminal → Type 0
Nothing before behind = before ≡ behind

-- the next token stands at a place
abbrev pub IsNextAt : Place → List Terminal → Type 0
IsNextAt p [] = ⊥
IsNextAt p (t ∷ ts) = t.place ≡ p

-- no token, where the next one stands at a place
abbrev pub At : Place → List Terminal → List Terminal → Type 0
At p before behind = IsNextAt p before × (before ≡ behind)

-- one token
abbrev pub TokenAt : Lexeme → Place → List Terminal → List Terminal → Type 0
TokenAt l p before behind = before ≡ record { lexeme = l; place = p } ∷ behind

abbrev pub Somewhere : Lexeme → List Terminal → List Terminal → Type 0
Somewhere l before behind = (p : Place) × TokenAt l p before behind

abbrev pub Sign : Mark → List Terminal → List Terminal → Type 0
Sign m = Somewhere (mark m)

abbrev pub WordToken : List ℕ → List Terminal → List Terminal → Type 0
WordToken w = Somewhere (word w)

abbrev pub LineEnd : List Terminal → List Terminal → Type 0
LineEnd = Somewhere line_end

abbrev pub Opens : List Terminal → List Terminal → Type 0
Opens = Somewhere level_opens

abbrev pub Closes : List Terminal → List Terminal → Type 0
Closes = Somewhere level_closes

abbrev pub Annotations : List Terminal → List Terminal → Type 0
Annotations = Somewhere annotations

abbrev pub NameToken : PlacedName → List Terminal → List Terminal → Type 0
NameToken n = TokenAt (word n.name) n.place

-- a word, or a run of digits
abbrev pub FieldName : PlacedName → List Terminal → List Terminal → Type 0
FieldName n = Either (NameToken n) (Given (has_sign n.name ≡ false) ▸ TokenAt (integer n.name) n.place)

-- an integer without a sign
abbrev pub Digits : ℕ → Place → List Terminal → List Terminal → Type 0
Digits n p before behind = (s : List ℕ) × (has_sign s ≡ false) × (decimal_value s ≡ n) × TokenAt (integer s) p before behind

abbrev pub IntAt : Limits → ℕ → Place → List Terminal → List Terminal → Type 0
IntAt limits n p = Digits n p ▸ Within limits numbers (n < 2 ^ 128)

abbrev pub Int : Limits → ℕ → List Terminal → List Terminal → Type 0
Int limits n before behind = (p : Place) × IntAt limits n p before behind
