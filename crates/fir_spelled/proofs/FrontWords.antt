-- A word at the front of a text is spelled as one.
use Rattle.std.proofs.Common.{◌≡◌, ℕ, List, [], ◌∷◌, ◌++◌, Bool, true, false, cond, Option, Some, None, drop, refl, subst}
use Rattle.std.specs.Prelude.{IsTrue, codes, nat_eq, nat_lt, ◌^◌, take_while, if◌then◌else◌, ◌||◌, ◌&&◌}
use Rattle.std.specs.Str.{bytes_eq}
use Rattle.std.specs.List.{list_all}
use Rattle.std.proofs.lemmas.List.Sums.{take_while-cons}
use Rattle.ver_words.specs.Names.{is_word}
use Rattle.fir_lex.specs.working.Bytes.{starts_with_byte, is_blank}
use Rattle.fir_base.specs.Bytes.{is_digit, is_word_start, is_word_byte}
use Rattle.fir_base.specs.working.Bytes.{starts_with_digit}
use Rattle.fir_base.specs.Digits.{decimal_value}
use Rattle.fir_lex.specs.working.Front.{Front, found, dash_word_at, dash_or_word, integer_front, closed_string, string_front, string_length, information_front, information_length, annotations_front, block_length, in_brackets, is_single, front}
use Rattle.fir_parse.specs.Lexemes.{Lexeme, integer, sign_lexeme, lexeme_of}
use Rattle.fir_spelled.proofs.WordPieces.{IsSpelledWell, digit_is_byte}

kept : (q : ℕ → Bool) (x : ℕ) (xs : List ℕ) (c : Bool) → (c ≡ true → q x ≡ true) → IsTrue (list_all q xs) → IsTrue (list_all q (cond c (x ∷ xs) []))
kept q x xs true passes h = rw (passes refl) h
kept q x xs false passes h = refl

-- all that are taken by a test pass another, where that holds of each
all_taken : (p q : ℕ → Bool) → ((x : ℕ) → p x ≡ true → q x ≡ true) → (xs : List ℕ) → IsTrue (list_all q (take_while p xs))
all_taken p q passes [] = refl
all_taken p q passes (x ∷ xs) = rw (take_while-cons p x xs) (kept q x (take_while p xs) (p x) (passes x) (all_taken p q passes xs))

word_whole : (b : ℕ) (bs : List ℕ) → is_word_start b ≡ true → IsTrue (list_all is_word_byte bs) → IsTrue (is_word (b ∷ bs))
word_whole b bs e h = rw e h

word_taken : (b : ℕ) (bs : List ℕ) → is_word_start b ≡ true → IsTrue (is_word (take_while is_word_byte (b ∷ bs)))
word_taken b bs e = rw (take_while-cons is_word_byte b bs, e) (word_whole b (take_while is_word_byte bs) e (all_taken is_word_byte is_word_byte (λ x same. same) bs))

sign_if : (c : Bool) (u v : Lexeme) → IsSpelledWell u → IsSpelledWell v → IsSpelledWell (if c then u else v)
sign_if true u v x y = x
sign_if false u v x y = y

pub sign_well : (s : List ℕ) → IsSpelledWell (sign_lexeme s)
sign_well s =
    sign_if (bytes_eq s (codes "<=")) _ _ tt
    (sign_if (bytes_eq s (codes "<-")) _ _ tt
    (sign_if (bytes_eq s (codes "=>")) _ _ tt
    (sign_if (bytes_eq s (codes "=")) _ _ tt
    (sign_if (bytes_eq s (codes "<")) _ _ tt
    (sign_if (bytes_eq s (codes ">")) _ _ tt
    (sign_if (bytes_eq s (codes "(")) _ _ tt
    (sign_if (bytes_eq s (codes ")")) _ _ tt
    (sign_if (bytes_eq s (codes "[")) _ _ tt
    (sign_if (bytes_eq s (codes "]")) _ _ tt
    (sign_if (bytes_eq s (codes "{")) _ _ tt
    (sign_if (bytes_eq s (codes "}")) _ _ tt
    (sign_if (bytes_eq s (codes ",")) _ _ tt (sign_if (bytes_eq s (codes ":")) _ _ tt (sign_if (bytes_eq s (codes ".")) _ _ tt tt))))))))))))))

abbrev pub IsFrontWell : Front → Type 0
IsFrontWell (found t n) = IsSpelledWell (lexeme_of t)
IsFrontWell _ = Unit {0}

front_if : (c : Bool) (u v : Front) → (c ≡ true → IsFrontWell u) → IsFrontWell v → IsFrontWell (if c then u else v)
front_if true u v x y = x refl
front_if false u v x y = y

word_well : (b : ℕ) (bs : List ℕ) (o : Option (List ℕ)) → is_word_start b ≡ true → IsFrontWell (dash_or_word (b ∷ bs) o)
word_well b bs (Some w) e = tt
word_well b bs None e = word_taken b bs e

integer_well : (sign bytes : List ℕ) → IsSpelledWell (integer (sign ++ take_while is_digit bytes)) → IsFrontWell (integer_front sign bytes)
integer_well sign bytes h = front_if (nat_lt (decimal_value (take_while is_digit bytes)) (2 ^ 128)) _ _ (λ e. h) tt

unsigned_well : (bytes : List ℕ) → IsFrontWell (integer_front [] bytes)
unsigned_well bytes = integer_well [] bytes (λ unsigned. all_taken is_digit is_word_byte digit_is_byte bytes)

signed_well : (b : ℕ) (bs : List ℕ) → ((nat_eq b 43 || nat_eq b 45) && starts_with_digit bs) ≡ true → IsFrontWell (integer_front (b ∷ []) bs)
signed_well b bs e =
    integer_well (b ∷ []) bs
    (λ unsigned. let f : false ≡ true = subst (λ (c : Bool). (c && starts_with_digit bs) ≡ true) unsigned e in absurd cc)

closed_well : (content : List ℕ) (o : Option ℕ) → IsFrontWell (closed_string content o)
closed_well content None = tt
closed_well content (Some k) = tt

string_well : (bytes : List ℕ) (o : Option ℕ) → IsFrontWell (string_front bytes o)
string_well bytes None = tt
string_well bytes (Some n) = closed_well _ _

information_well : (o : Option ℕ) → IsFrontWell (information_front o)
information_well None = tt
information_well (Some n) = tt

annotations_well : (o : Option ℕ) → IsFrontWell (annotations_front o)
annotations_well None = tt
annotations_well (Some n) = tt

pub front_well : (b : ℕ) (bs : List ℕ) → IsFrontWell (front b bs)
front_well b bs =
    front_if (is_blank b) _ _ (λ e. tt)
    (front_if (nat_eq b 59) _ _ (λ e. tt)
    (front_if (is_word_start b) _ _ (word_well b bs (dash_word_at (b ∷ bs)))
    (front_if (is_digit b) _ _ (λ e. unsigned_well (b ∷ bs))
    (front_if ((nat_eq b 43 || nat_eq b 45) && starts_with_digit bs) _ _ (signed_well b bs)
    (front_if (nat_eq b 34) _ _ (λ e. string_well bs (string_length false bs))
    (front_if (nat_eq b 64 && starts_with_byte 91 bs) _ _ (λ e. information_well (information_length false (drop 1 bs)))
    (front_if (nat_eq b 37 && starts_with_byte 91 bs) _ _ (λ e. annotations_well (block_length (in_brackets 1) (drop 1 bs)))
    (front_if (nat_eq b 60 && starts_with_byte 61 bs) _ _ (λ e. sign_well (codes "<="))
    (front_if (nat_eq b 60 && starts_with_byte 45 bs) _ _ (λ e. sign_well (codes "<-"))
    (front_if (nat_eq b 60) _ _ (λ e. sign_well (codes "<"))
    (front_if (nat_eq b 61 && starts_with_byte 62 bs) _ _ (λ e. sign_well (codes "=>"))
    (front_if (nat_eq b 61) _ _ (λ e. sign_well (codes "=")) (front_if (is_single b) _ _ (λ e. sign_well (b ∷ [])) tt)))))))))))))
