-- The parts of a line, and a test by which they are its pieces, each of them the longest that begins there.
-- What a part needs of what stands behind it shows in the first byte there, which for the last one is the newline.
use Rattle.std.proofs.Common.{◌≡◌, ℕ, ◌^◌, ◌<◌, Bool, true, false, not, ◌&&◌, ◌||◌, List, [], ◌∷◌, ◌++◌, map, codes, refl, inl, inr, ◌⊎◌, ⊎_elim, subst, arith}
use Rattle.std.specs.Prelude.{nat_eq, nat_lt, decimal}
use Rattle.std.specs.Str.{bytes_eq}
use Rattle.std.specs.List.{AllByRecursion, list_all, list_any}
use Rattle.std.proofs.lemmas.Bool.{both_ways, not-true, or_parts, or_cases, eq-eqb, ltb-true}
use Rattle.std.proofs.lemmas.List.Elements.{All-from_recursion, recursion_from_All}
use Rattle.std.proofs.lemmas.Slice.Eq.{bytes_eq-Decides}
use Rattle.fir_base.specs.Bytes.{is_digit, is_word_start, is_word_byte}
use Rattle.fir_base.specs.Digits.{decimal_value}
use Rattle.fir_base.specs.Lists.{In}
use Rattle.fir_base.proofs.Tests.{both}
use Rattle.fir_lex.specs.Tokens.{word, integer, sign}
use Rattle.fir_lex.specs.Spelled.{IsDigit, ContinuesWord, IsWord, IsIntegerText, signs}
use Rattle.fir_lex.specs.Pieces.{Piece, blank, spelled, IsPiece, ArePieces, bytes_of_pieces}
use Rattle.fir_lex.proofs.ByteKinds.{digit_decides, begins_word_decides, continues_word_decides}
use Rattle.fir_lex.proofs.Runs.{word_kind, digit_kind}
use Rattle.fir_gen.specs.GenText.{register_name}
use Rattle.fir_gen_spelled.proofs.WordEnds.{all_of_kind, no_dash_word}
use Rattle.fir_gen_spelled.proofs.Decimals.{decimal_text, name_is_word}

-- a space; a word, a sign and an integer by its bytes; the name and the number of a register
pub data Part : Type 0 where
  gap : Part
  a_word : List ℕ → Part
  a_sign : List ℕ → Part
  an_integer : List ℕ → Part
  name : ℕ → Part
  number : ℕ → Part

abbrev pub piece_of : Part → Piece
piece_of gap = blank 32
piece_of (a_word w) = spelled (word w) w
piece_of (a_sign s) = spelled (sign s) s
piece_of (an_integer i) = spelled (integer i) i
piece_of (name k) = spelled (word (register_name k)) (register_name k)
piece_of (number k) = spelled (integer (decimal k)) (decimal k)

abbrev pub pieces_of : List Part → List Piece
pieces_of = map piece_of

-- ---- words

abbrev is_word : List ℕ → Bool
is_word [] = false
is_word (b ∷ bs) = is_word_start b && list_all is_word_byte bs

-- neither a dash nor a byte of a word
abbrev ends_word : ℕ → Bool
ends_word b = not (is_word_byte b || nat_eq b 45)

word_passed : (w : List ℕ) → is_word w ≡ true → IsWord w
word_passed [] h = absurd cc
word_passed (b ∷ bs) h =
    let t = both (is_word_start b) (list_all is_word_byte bs) h in
    ((begins_word_decides b).0 t.0, All-from_recursion ContinuesWord bs (all_of_kind word_kind bs t.1))

all_of_word : (w : List ℕ) → IsWord w → AllByRecursion ContinuesWord w
all_of_word [] h = absurd h
all_of_word (b ∷ bs) h = (inl h.0, recursion_from_All ContinuesWord bs h.1)

word_piece : (w : List ℕ) (b : ℕ) (bs : List ℕ) → IsWord w → ends_word b ≡ true → IsPiece (spelled (word w) w) (b ∷ bs)
word_piece w b bs is h =
    let t = or_parts (is_word_byte b) (nat_eq b 45) (not-true (is_word_byte b || nat_eq b 45) h) in
    let ends : ContinuesWord b → ⊥ = λ c. both_ways (is_word_byte b) t.0 ((continues_word_decides b).1 c) in
    let no_dash : b ≡ 45 → ⊥ = λ e. both_ways (nat_eq b 45) t.1 (eq-eqb b 45 e) in
    ((is, refl), (ends, no_dash_word w b bs (all_of_word w is) ends no_dash))

-- ---- integers

abbrev is_integer : List ℕ → Bool
is_integer [] = false
is_integer (b ∷ bs) = list_all is_digit (b ∷ bs) && nat_lt (decimal_value (b ∷ bs)) (2 ^ 128)

integer_passed : (i : List ℕ) → is_integer i ≡ true → IsIntegerText i
integer_passed [] h = absurd cc
integer_passed (b ∷ bs) h =
    let t = both (list_all is_digit (b ∷ bs)) (nat_lt (decimal_value (b ∷ bs)) (2 ^ 128)) h in
    let digits = All-from_recursion IsDigit (b ∷ bs) (all_of_kind digit_kind (b ∷ bs) t.0) in
    ([], b ∷ bs, refl, inl refl, λ e. cc, digits, ltb-true (decimal_value (b ∷ bs)) (2 ^ 128) t.1)

integer_piece : (i : List ℕ) (b : ℕ) (bs : List ℕ) → IsIntegerText i → not (is_digit b) ≡ true → IsPiece (spelled (integer i) i) (b ∷ bs)
integer_piece i b bs is h = ((is, refl), λ d. both_ways (is_digit b) (not-true (is_digit b) h) ((digit_decides b).1 d))

-- ---- signs

-- any but `=`; behind `<` stands a digit
abbrev is_sign : List ℕ → ℕ → Bool
is_sign s b = list_any (λ x. bytes_eq x s) signs && (not (bytes_eq s (codes "=")) && (not (bytes_eq s (codes "<")) || is_digit b))

in_signs : (s : List ℕ) (xs : List (List ℕ)) → list_any (λ x. bytes_eq x s) xs ≡ true → In xs s
in_signs s [] h = absurd cc
in_signs s (x ∷ xs) h =
    ⊎_elim
    (λ (e : bytes_eq x s ≡ true). inl ((bytes_eq-Decides x s).0 e))
    (λ (e : list_any (λ x. bytes_eq x s) xs ≡ true). inr (in_signs s xs e))
    (or_cases (bytes_eq x s) (list_any (λ x. bytes_eq x s) xs) h)

-- a sign that is another than those bytes
is_other : (s t : List ℕ) → not (bytes_eq s t) ≡ true → s ≡ t → ⊥
is_other s t h e = both_ways (bytes_eq s t) (not-true (bytes_eq s t) h) ((bytes_eq-Decides s t).1 e)

sign_piece : (s : List ℕ) (b : ℕ) (bs : List ℕ) → is_sign s b ≡ true → IsPiece (spelled (sign s) s) (b ∷ bs)
sign_piece s b bs h =
    let t = both (list_any (λ x. bytes_eq x s) signs) (not (bytes_eq s (codes "=")) && (not (bytes_eq s (codes "<")) || is_digit b)) h in
    let u = both (not (bytes_eq s (codes "="))) (not (bytes_eq s (codes "<")) || is_digit b) t.1 in
    let less = or_cases (not (bytes_eq s (codes "<"))) (is_digit b) u.1 in
    ((in_signs s signs t.0, refl), (λ e. behind_less e less, λ e. absurd (is_other s (codes "=") u.0 e)))
  where
    behind_less : s ≡ codes "<" → (not (bytes_eq s (codes "<")) ≡ true) ⊎ (is_digit b ≡ true) → (b ≡ 61) ⊎ (b ≡ 45) → ⊥
    behind_less e (inl h) longer = absurd (is_other s (codes "<") h e)
    behind_less e (inr h) longer = let digit = (digit_decides b).0 h in omega arith

-- ---- parts

-- a part stands well before that byte
abbrev stands : Part → ℕ → Bool
stands gap b = true
stands (a_word w) b = is_word w && ends_word b
stands (a_sign s) b = is_sign s b
stands (an_integer i) b = is_integer i && not (is_digit b)
stands (name k) b = ends_word b
stands (number k) b = not (is_digit b)

-- of bytes before a newline
abbrev first_byte : List ℕ → ℕ
first_byte [] = 10
first_byte (b ∷ bs) = b

abbrev pub all_stand : List Part → Bool
all_stand [] = true
all_stand (p ∷ ps) = stands p (first_byte (bytes_of_pieces (pieces_of ps))) && all_stand ps

-- the numbers of the registers that are named
abbrev pub numbers_in : List Part → List ℕ
numbers_in [] = []
numbers_in (gap ∷ ps) = numbers_in ps
numbers_in (a_word w ∷ ps) = numbers_in ps
numbers_in (a_sign s ∷ ps) = numbers_in ps
numbers_in (an_integer i ∷ ps) = numbers_in ps
numbers_in (name k ∷ ps) = k ∷ numbers_in ps
numbers_in (number k ∷ ps) = k ∷ numbers_in ps

abbrev pub AreSmall : List ℕ → Type 0
AreSmall = AllByRecursion (λ k. k < 2 ^ 64)

part_is_piece : (p : Part) (b : ℕ) (bs : List ℕ) → AreSmall (numbers_in (p ∷ [])) → stands p b ≡ true → IsPiece (piece_of p) (b ∷ bs)
part_is_piece gap b bs small h = inl refl
part_is_piece (a_word w) b bs small h = let t = both (is_word w) (ends_word b) h in word_piece w b bs (word_passed w t.0) t.1
part_is_piece (a_sign s) b bs small h = sign_piece s b bs h
part_is_piece (an_integer i) b bs small h = let t = both (is_integer i) (not (is_digit b)) h in integer_piece i b bs (integer_passed i t.0) t.1
part_is_piece (name k) b bs small h = word_piece (register_name k) b bs (name_is_word k small.0) h
part_is_piece (number k) b bs small h = integer_piece (decimal k) b bs (decimal_text k small.0) h

small_parts : (p : Part) (ps : List Part) → AreSmall (numbers_in (p ∷ ps)) → AreSmall (numbers_in (p ∷ [])) × AreSmall (numbers_in ps)
small_parts gap ps small = (tt, small)
small_parts (a_word w) ps small = (tt, small)
small_parts (a_sign s) ps small = (tt, small)
small_parts (an_integer i) ps small = (tt, small)
small_parts (name k) ps small = ((small.0, tt), small.1)
small_parts (number k) ps small = ((small.0, tt), small.1)

front : (bytes behind : List ℕ) → (rest : List ℕ) × (first_byte bytes ∷ rest ≡ bytes ++ 10 ∷ behind)
front [] behind = (behind, refl)
front (b ∷ bs) behind = (bs ++ 10 ∷ behind, refl)

pub parts_are_pieces : (ps : List Part) (behind : List ℕ) → AreSmall (numbers_in ps) → all_stand ps ≡ true → ArePieces (pieces_of ps) (10 ∷ behind)
parts_are_pieces [] behind small h = tt
parts_are_pieces (p ∷ ps) behind small h =
    let bytes = bytes_of_pieces (pieces_of ps) in
    let t = both (stands p (first_byte bytes)) (all_stand ps) h in
    let s = small_parts p ps small in
    let next = front bytes behind in
    (subst (IsPiece (piece_of p)) next.1 (part_is_piece p (first_byte bytes) next.0 s.0 t.0), parts_are_pieces ps behind s.1 t.1)
