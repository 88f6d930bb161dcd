-- Tokens of which each word is spelled as a word, and each integer without a sign of the bytes of words; and pieces of a text behind which all are so that were
-- before.
use Rattle.std.proofs.Common.{◌≡◌, ℕ, List, [], ◌∷◌, ◌++◌, Bool, true, false, refl, sym, ap, ◌∙◌, subst, inl, inr, append_assoc}
use Rattle.std.specs.Prelude.{IsTrue, ◌||◌, ◌&&◌}
use Rattle.std.specs.List.{AllByRecursion, list_all}
use Rattle.fir_base.specs.Bytes.{is_digit, is_word_byte, is_word_start}
use Rattle.ver_words.specs.Names.{is_word}
use Rattle.fir_ast.specs.declared.place.Place.{Place}
use Rattle.fir_ast.specs.Statements.{PlacedName}
use Rattle.fir_parse.specs.Lexemes.{Terminal, Lexeme, word, integer}
use Rattle.fir_parse.specs.Numbers.{has_sign}
use Rattle.fir_parse.specs.Pieces.{◌▸◌, At, Either, FieldName, Given, Nothing, TokenAt, Somewhere, NameToken}

abbrev pub IsSpelledWell : Lexeme → Type 0
IsSpelledWell (word w) = IsTrue (is_word w)
IsSpelledWell (integer s) = has_sign s ≡ false → IsTrue (list_all is_word_byte s)
IsSpelledWell _ = Unit {0}

abbrev pub AreSpelledWell : List Terminal → Type 0
AreSpelledWell = AllByRecursion (λ t. IsSpelledWell t.lexeme)

-- tokens behind some that were taken
abbrev pub IsBehind : List Terminal → List Terminal → Type 0
IsBehind a b = (taken : List Terminal) × (a ≡ taken ++ b)

well_behind : (taken b : List Terminal) → AreSpelledWell (taken ++ b) → AreSpelledWell b
well_behind [] b h = h
well_behind (t ∷ ts) b h = well_behind ts b h.1

-- a piece takes tokens from the front
pub record KeepsWords (P : List Terminal → List Terminal → Type 0) : Type 0 where
  pub front : (a b : List Terminal) → P a b → IsBehind a b
  pub behind : (a b : List Terminal) → P a b → AreSpelledWell a → AreSpelledWell b

pub keeps : {P : List Terminal → List Terminal → Type 0} → ((a b : List Terminal) → P a b → IsBehind a b) → KeepsWords P
keeps takes = record {
  front = takes;
  behind = λ a b x h. let taken = takes a b x in well_behind taken.0 b (subst AreSpelledWell taken.1 h);
}

first_of : (t : Terminal) (a b : List Terminal) → a ≡ t ∷ b → AreSpelledWell a → IsSpelledWell t.lexeme
first_of t a b e h = (subst AreSpelledWell e h).0

pub token : {l : Lexeme} {p : Place} → KeepsWords (TokenAt l p)
token {l} {p} = keeps (λ a b e. (record { lexeme = l; place = p } ∷ [], e))

pub somewhere : {l : Lexeme} → KeepsWords (Somewhere l)
somewhere = keeps (λ a b x. (token).front a b x.1)

pub nothing : KeepsWords Nothing
nothing = keeps (λ a b e. ([], e))

pub given : {C : Type 0} → KeepsWords (Given C)
given = keeps (λ a b x. ([], x.1))

pub at : {q : Place} → KeepsWords (At q)
at = keeps (λ a b x. ([], x.1))

behind_both : (a m b : List Terminal) → IsBehind a m → IsBehind m b → IsBehind a b
behind_both a m b x y = (x.0 ++ y.0, x.1 ∙ ap (λ ts. x.0 ++ ts) y.1 ∙ sym (append_assoc x.0 y.0 b))

pub next : {P Q : List Terminal → List Terminal → Type 0} → KeepsWords P → KeepsWords Q → KeepsWords (P ▸ Q)
next p q = keeps (λ a b x. behind_both a x.0 b (p.front a x.0 x.1) (q.front x.0 b x.2))

pub either : {P Q : List Terminal → List Terminal → Type 0} → KeepsWords P → KeepsWords Q → KeepsWords (Either P Q)
either p q = keeps (λ a b x. elim x [ inl y ↦ p.front a b y | inr y ↦ q.front a b y ])

-- a name is a word
pub name_is_word : (n : PlacedName) (a b : List Terminal) → NameToken n a b → AreSpelledWell a → IsTrue (is_word n.name)
name_is_word n a b e h = first_of (record { lexeme = word n.name; place = n.place }) a b e h

-- what begins a word can stand in one
pub start_is_byte : (b : ℕ) → is_word_start b ≡ true → is_word_byte b ≡ true
start_is_byte b e = rw e refl

either_second : (a b : Bool) → b ≡ true → (a || b) ≡ true
either_second true b e = refl
either_second false b e = e

pub digit_is_byte : (b : ℕ) → is_digit b ≡ true → is_word_byte b ≡ true
digit_is_byte b e = either_second (is_word_start b) _ (rw e refl)

both : (a b : Bool) → (a && b) ≡ true → (a ≡ true) × (b ≡ true)
both true b e = (refl, e)
both false b e = cc

word_bytes : (w : List ℕ) → IsTrue (is_word w) → IsTrue (list_all is_word_byte w)
word_bytes [] h = refl
word_bytes (b ∷ bs) h = let parts = both (is_word_start b) (list_all is_word_byte bs) h in rw (start_is_byte b parts.0) parts.1

-- the name of a field is a word or a run of digits
pub field_name_bytes : (n : PlacedName) (a b : List Terminal) → FieldName n a b → AreSpelledWell a → IsTrue (list_all is_word_byte n.name)
field_name_bytes n a b (inl name) h = word_bytes n.name (name_is_word n a b name h)
field_name_bytes n a b (inr (m, (unsigned, same), e)) h =
    first_of (record { lexeme = integer n.name; place = n.place }) m b e (subst AreSpelledWell same h) unsigned
