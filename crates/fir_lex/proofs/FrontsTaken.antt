-- A piece of a line is read where it stands at the front of a text.
use Rattle.std.proofs.Common.{◌≡◌, ◌≢◌, ℕ, ◌+◌, ◌^◌, ◌≤◌, ◌<◌, true, false, eqb, leb, List, [], ◌∷◌, ◌++◌, length, take, drop, codes, All, Some, None, position, refl, sym, ap, ◌∙◌, inl, inr, ◌⊎◌, subst, append_assoc, length-append, take_at, arith}
use Rattle.std.specs.List.{AllByRecursion}
use Rattle.std.proofs.lemmas.Bool.{ne_eqb, false_from_ne_true, lt-leb, lt-ltb, or_from, and_left}
use Rattle.std.proofs.lemmas.List.Elements.{recursion_from_All, All-weaker}
use Rattle.fir_base.specs.Lists.{In}
use Rattle.fir_base.proofs.Each.{all_at}
use Rattle.fir_base.specs.working.Bytes.{starts_with_digit}
use Rattle.fir_base.specs.Bytes.{is_word_start}
use Rattle.fir_base.specs.Digits.{decimal_value}
use Rattle.fir_lex.specs.Tokens.{Token, word, dash_word, integer, text, sign, annotations, line_end, level_opens, level_closes}
use Rattle.fir_lex.specs.working.Bytes.{starts_with_byte, ends_line, is_blank}
use Rattle.fir_lex.specs.working.Front.{Front, found, passed, dash_or_word, word_front, integer_front, closed_string, string_front, string_length, information_length, in_brackets, block_length, information_front, annotations_front}
use Rattle.fir_lex.specs.Enclosed.{IsCharacter, AreCharacters, nested_bytes, IsAnnotationBlock}
use Rattle.fir_lex.specs.Spelled.{IsDigit, BeginsWord, ContinuesWord, IsIntegerText, IsOnOneLine, IsString, IsSpelledToken, dash_words, signs}
use Rattle.fir_lex.specs.Longest.{BeginsWithNo, BeginsWithNoDashWord, IsLongest}
use Rattle.fir_lex.specs.Pieces.{IsBlank, IsInformation}
use Rattle.fir_lex.proofs.Way.{front_at}
use Rattle.fir_lex.proofs.ByteKinds.{digit_decides, begins_word_decides}
use Rattle.fir_lex.proofs.Runs.{word_kind, digit_kind, run_taken}
use Rattle.fir_lex.proofs.Positions.{none_found}
use Rattle.fir_lex.proofs.Quoted.{characters_taken}
use Rattle.fir_lex.proofs.Informed.{information_taken, inside_of}
use Rattle.fir_lex.proofs.Bracketed.{block_taken}
use Rattle.fir_lex.proofs.DashWords.{no_dash_found}

-- no line's end stands at the front, and this is read there
abbrev pub Reads : List ℕ → Front → Type 0
Reads bytes f = (ends_line bytes ≡ false) × (front_at bytes ≡ f)

pub blank_read : (b : ℕ) (behind : List ℕ) → IsBlank b → Reads (b ∷ behind) (passed 1)
blank_read b behind (inl e) = subst (λ (x : ℕ). Reads (x ∷ behind) (passed 1)) (sym e) (refl, refl)
blank_read b behind (inr e) = subst (λ (x : ℕ). Reads (x ∷ behind) (passed 1)) (sym e) (refl, refl)

pub information_read : (content behind : List ℕ) → IsInformation content → Reads (((64 ∷ 91 ∷ content) ++ 93 ∷ []) ++ behind) (passed (length content + 3))
information_read content behind h = (
  refl,
  ap information_front (ap (information_length false) (append_assoc content (93 ∷ []) behind)
      ∙ information_taken false content behind (inside_of content h)),
)

-- ---- words and integers

past_blanks : (b : ℕ) (bs : List ℕ) → 33 ≤ b → (ends_line (b ∷ bs) ≡ false) × (is_blank b ≡ false)
past_blanks b bs le = (
  or_from (eqb b 10) _ (ne_eqb b 10 (λ e. absurd (omega arith))) (and_left (eqb b 13) _ (ne_eqb b 13 (λ e. absurd (omega arith)))),
  or_from (eqb b 32) (eqb b 9) (ne_eqb b 32 (λ e. absurd (omega arith))) (ne_eqb b 9 (λ e. absurd (omega arith))),
)

pub at_word : (b : ℕ) (bs : List ℕ) → BeginsWord b → Reads (b ∷ bs) (word_front (b ∷ bs))
at_word b bs h =
    let big : 60 ≤ b = omega arith in
    let past = past_blanks b bs (omega arith) in
    (past.0, rw (past.1, ne_eqb b 59 (λ e. absurd (omega arith)), (begins_word_decides b).1 h) refl)

word_read : (b : ℕ) (bs behind : List ℕ) → BeginsWord b → All ContinuesWord bs → BeginsWithNo ContinuesWord behind
    → BeginsWithNoDashWord ((b ∷ bs) ++ behind) → Reads ((b ∷ bs) ++ behind) (found (word (b ∷ bs)) (length (b ∷ bs)))
word_read b bs behind begins all ends none =
    let reads = at_word b (bs ++ behind) begins in
    let whole = run_taken word_kind (b ∷ bs) behind (inl begins, recursion_from_All ContinuesWord bs all) ends in
    (reads.0, reads.1 ∙ ap (dash_or_word ((b ∷ bs) ++ behind)) (no_dash_found ((b ∷ bs) ++ behind) none) ∙ ap (λ (w : List ℕ). found (word w) (length w)) whole)

abbrev IsRead : (List ℕ → Token) → List ℕ → List ℕ → Type 0
IsRead kind behind w = Reads (w ++ behind) (found (kind w) (length w))

pub dash_read : (w behind : List ℕ) → In dash_words w → Reads (w ++ behind) (found (dash_word w) (length w))
dash_read w behind (inl m) = subst (IsRead dash_word behind) m (refl, refl)
dash_read w behind (inr (inl m)) = subst (IsRead dash_word behind) m (refl, refl)
dash_read w behind (inr (inr (inl m))) = subst (IsRead dash_word behind) m (refl, refl)
dash_read w behind (inr (inr (inr (inl m)))) = subst (IsRead dash_word behind) m (refl, refl)
dash_read w behind (inr (inr (inr (inr m)))) = absurd m

starts : (d : ℕ) (bs : List ℕ) → IsDigit d → starts_with_digit (d ∷ bs) ≡ true
starts d bs h = (digit_decides d).1 h

digits_front : (plus_or_minus digits behind : List ℕ) → All IsDigit digits → decimal_value digits < 2 ^ 128 → BeginsWithNo IsDigit behind
    → integer_front plus_or_minus (digits ++ behind) ≡ found (integer (plus_or_minus ++ digits)) (length (plus_or_minus ++ digits))
digits_front plus_or_minus digits behind all within ends =
    rw (run_taken digit_kind digits behind (recursion_from_All IsDigit digits all) ends, lt-ltb (decimal_value digits) (2 ^ 128) within)
    (ap (found (integer (plus_or_minus ++ digits))) (sym (length-append plus_or_minus digits)))

at_digit : (d : ℕ) (bs : List ℕ) → IsDigit d → Reads (d ∷ bs) (integer_front [] (d ∷ bs))
at_digit d bs h =
    let past = past_blanks d bs (omega arith) in
    let no_word : is_word_start d ≡ false = false_from_ne_true (is_word_start d) (λ e. apart ((begins_word_decides d).0 e)) in
    (past.0, rw (past.1, ne_eqb d 59 (λ e. absurd (omega arith)), no_word, (digit_decides d).1 h) refl)
  where
    apart : BeginsWord d → ⊥
    apart e = omega arith

pub signed_digits : (plus_or_minus : List ℕ) (d : ℕ) (bs : List ℕ) → (plus_or_minus ≡ []) ⊎ ((plus_or_minus ≡ codes "+") ⊎ (plus_or_minus ≡ codes "-"))
    → IsDigit d → Reads (plus_or_minus ++ d ∷ bs) (integer_front plus_or_minus (d ∷ bs))
signed_digits plus_or_minus d bs (inl e) h = subst (λ (s : List ℕ). Reads (s ++ d ∷ bs) (integer_front s (d ∷ bs))) (sym e) (at_digit d bs h)
signed_digits plus_or_minus d bs (inr (inl e)) h =
    subst (λ (s : List ℕ). Reads (s ++ d ∷ bs) (integer_front s (d ∷ bs))) (sym e) (refl, rw (starts d bs h) refl)
signed_digits plus_or_minus d bs (inr (inr e)) h =
    subst (λ (s : List ℕ). Reads (s ++ d ∷ bs) (integer_front s (d ∷ bs))) (sym e) (refl, rw (starts d bs h) refl)

digits_read : (plus_or_minus digits behind : List ℕ) → (plus_or_minus ≡ []) ⊎ ((plus_or_minus ≡ codes "+") ⊎ (plus_or_minus ≡ codes "-")) → digits ≢ []
    → All IsDigit digits → decimal_value digits < 2 ^ 128 → BeginsWithNo IsDigit behind
    → Reads ((plus_or_minus ++ digits) ++ behind) (found (integer (plus_or_minus ++ digits)) (length (plus_or_minus ++ digits)))
digits_read plus_or_minus [] behind is_sign some all within ends = absurd (some refl)
digits_read plus_or_minus (d ∷ ds) behind is_sign some all within ends =
    let reads = signed_digits plus_or_minus d (ds ++ behind) is_sign (recursion_from_All IsDigit (d ∷ ds) all).0 in
    subst (λ (s : List ℕ). Reads s (found (integer (plus_or_minus ++ d ∷ ds)) (length (plus_or_minus ++ d ∷ ds))))
    (sym (append_assoc plus_or_minus (d ∷ ds) behind))
    (reads.0, reads.1 ∙ digits_front plus_or_minus (d ∷ ds) behind all within ends)

integer_read : (i behind : List ℕ) → IsIntegerText i → BeginsWithNo IsDigit behind → Reads (i ++ behind) (found (integer i) (length i))
integer_read i behind h ends = subst (IsRead integer behind) (sym h.2) (digits_read h.0 h.1 behind h.3 h.4 h.5 h.6 ends)

-- ---- strings and annotation blocks

ascii : (content : List ℕ) → All (λ b. b < 128) content → position (λ b. leb 128 b) content ≡ None
ascii content all =
    none_found (λ b. leb 128 b) content
    (recursion_from_All (λ b. leb 128 b ≡ false) content (All-weaker (λ b. b < 128) (λ b. leb 128 b ≡ false) (λ b lt. lt-leb 128 b lt) content all))

-- a string's content stands before the quote that closes it
pub string_long : (content behind : List ℕ) → AreCharacters content → IsOnOneLine content → string_length false (content ++ 34 ∷ behind) ≡ Some (length content)
string_long content behind characters one =
    let cs = characters.0 in
    subst (λ (s : List ℕ). string_length false (s ++ 34 ∷ behind) ≡ Some (length s)) (sym characters.2)
    (characters_taken cs behind (recursion_from_All IsCharacter cs characters.1)
    (subst (AllByRecursion (λ b. b ≢ 10)) characters.2 (recursion_from_All (λ b. b ≢ 10) content one)))

pub string_read : (content behind : List ℕ) → IsString content
    → Reads (((34 ∷ content) ++ 34 ∷ []) ++ behind) (found (text content) (length ((34 ∷ content) ++ 34 ∷ [])))
string_read content behind h =
    let bs = (content ++ 34 ∷ []) ++ behind in
    let whole : bs ≡ content ++ 34 ∷ behind = append_assoc content (34 ∷ []) behind in
    let long = string_long content behind h.0 h.1 in
    let taken : take (length content) bs ≡ content = ap (take (length content)) whole ∙ take_at content (34 ∷ behind) (length content) refl in
    let size : length content + 2 ≡ length ((34 ∷ content) ++ 34 ∷ []) = omega (arith, length-append content (34 ∷ [])) in (
      refl,
      ap (string_front bs) (ap (string_length false) whole ∙ long) ∙ ap (λ (s : List ℕ). closed_string s (position (λ b. leb 128 b) s)) taken
          ∙ ap (closed_string content) (ascii content h.2) ∙ ap (found (text content)) size,
    )

pub annotations_read : (s behind : List ℕ) → IsAnnotationBlock s → Reads (s ++ behind) (found annotations (length s))
annotations_read s behind h =
    subst (λ (x : List ℕ). Reads (x ++ behind) (found annotations (length x))) (sym h.2) (
      refl,
      ap annotations_front (ap (block_length (in_brackets 1)) (append_assoc (nested_bytes h.0) (93 ∷ []) behind) ∙ block_taken h.0 behind h.1)
          ∙ ap (found annotations) size,
    )
  where
    size : length (nested_bytes h.0) + 1 + 2 ≡ length ((37 ∷ 91 ∷ nested_bytes h.0) ++ 93 ∷ [])
    size = omega (arith, length-append (nested_bytes h.0) (93 ∷ []))

-- ---- signs

abbrev SignRead : List ℕ → List ℕ → Type 0
SignRead behind w = IsLongest (sign w) behind → Reads (w ++ behind) (found (sign w) (length w))

pub starts_with_no : (P : ℕ → Type 0) (c : ℕ) (behind : List ℕ) → P c → BeginsWithNo P behind → starts_with_byte c behind ≡ false
starts_with_no P c [] is h = refl
starts_with_no P c (b ∷ bs) is h = ne_eqb b c (λ e. h (subst P (sym e) is))

less_read : (behind : List ℕ) → SignRead behind (codes "<")
less_read behind longest =
    let ends = longest.0 refl in
    (refl, rw (starts_with_no (λ b. (b ≡ 61) ⊎ (b ≡ 45)) 61 behind (inl refl) ends, starts_with_no (λ b. (b ≡ 61) ⊎ (b ≡ 45)) 45 behind (inr refl) ends) refl)

equals_read : (behind : List ℕ) → SignRead behind (codes "=")
equals_read behind longest = (refl, rw (starts_with_no (λ b. b ≡ 62) 62 behind refl (longest.1 refl)) refl)

sign_read : (w behind : List ℕ) → In signs w → SignRead behind w
sign_read w behind (inl m) = subst (SignRead behind) m (λ longest. (refl, refl))
sign_read w behind (inr (inl m)) = subst (SignRead behind) m (λ longest. (refl, refl))
sign_read w behind (inr (inr (inl m))) = subst (SignRead behind) m (λ longest. (refl, refl))
sign_read w behind (inr (inr (inr (inl m)))) = subst (SignRead behind) m (equals_read behind)
sign_read w behind (inr (inr (inr (inr (inl m))))) = subst (SignRead behind) m (less_read behind)
sign_read w behind (inr (inr (inr (inr (inr m))))) = single_read w behind m
  where
    single_read : (w behind : List ℕ) → In (drop 5 signs) w → SignRead behind w
    single_read w behind (inl m) = subst (SignRead behind) m (λ longest. (refl, refl))
    single_read w behind (inr (inl m)) = subst (SignRead behind) m (λ longest. (refl, refl))
    single_read w behind (inr (inr (inl m))) = subst (SignRead behind) m (λ longest. (refl, refl))
    single_read w behind (inr (inr (inr (inl m)))) = subst (SignRead behind) m (λ longest. (refl, refl))
    single_read w behind (inr (inr (inr (inr (inl m))))) = subst (SignRead behind) m (λ longest. (refl, refl))
    single_read w behind (inr (inr (inr (inr (inr (inl m)))))) = subst (SignRead behind) m (λ longest. (refl, refl))
    single_read w behind (inr (inr (inr (inr (inr (inr (inl m))))))) = subst (SignRead behind) m (λ longest. (refl, refl))
    single_read w behind (inr (inr (inr (inr (inr (inr (inr (inl m)))))))) = subst (SignRead behind) m (λ longest. (refl, refl))
    single_read w behind (inr (inr (inr (inr (inr (inr (inr (inr (inl m))))))))) = subst (SignRead behind) m (λ longest. (refl, refl))
    single_read w behind (inr (inr (inr (inr (inr (inr (inr (inr (inr (inl m)))))))))) = subst (SignRead behind) m (λ longest. (refl, refl))
    single_read w behind (inr (inr (inr (inr (inr (inr (inr (inr (inr (inr m)))))))))) = absurd m

-- ---- tokens

pub token_read : (t : Token) (s behind : List ℕ) → IsSpelledToken t s → IsLongest t behind → Reads (s ++ behind) (found t (length s))
token_read (word []) s behind h longest = absurd h.0
token_read (word (b ∷ bs)) s behind h longest =
    subst (λ (x : List ℕ). Reads (x ++ behind) (found (word (b ∷ bs)) (length x))) (sym h.1) (word_read b bs behind h.0.0 h.0.1 longest.0 longest.1)
token_read (dash_word w) s behind h longest = subst (λ (x : List ℕ). Reads (x ++ behind) (found (dash_word w) (length x))) (sym h.1) (dash_read w behind h.0)
token_read (integer i) s behind h longest =
    subst (λ (x : List ℕ). Reads (x ++ behind) (found (integer i) (length x))) (sym h.1) (integer_read i behind h.0 longest)
token_read (text content) s behind h longest =
    subst (λ (x : List ℕ). Reads (x ++ behind) (found (text content) (length x))) (sym h.1) (string_read content behind h.0)
token_read (sign w) s behind h longest = subst (λ (x : List ℕ). Reads (x ++ behind) (found (sign w) (length x))) (sym h.1) (sign_read w behind h.0 longest)
token_read annotations s behind h longest = annotations_read s behind h
token_read line_end s behind h longest = absurd h
token_read level_opens s behind h longest = absurd h
token_read level_closes s behind h longest = absurd h

-- ---- a token has bytes

dash_some : AllByRecursion (λ w. 1 ≤ length w) dash_words
dash_some = omega arith

signs_some : AllByRecursion (λ w. 1 ≤ length w) signs
signs_some = omega arith

digits_some : (plus_or_minus digits : List ℕ) → digits ≢ [] → 1 ≤ length (plus_or_minus ++ digits)
digits_some plus_or_minus [] some = absurd (some refl)
digits_some plus_or_minus (d ∷ ds) some = omega (arith, length-append plus_or_minus (d ∷ ds))

pub token_some : (t : Token) (s : List ℕ) → IsSpelledToken t s → 1 ≤ length s
token_some (word []) s h = absurd h.0
token_some (word (b ∷ bs)) s h = omega (arith, ap length h.1)
token_some (dash_word w) s h = omega (arith, ap length h.1, all_at (λ w. 1 ≤ length w) dash_words dash_some w h.0)
token_some (integer i) s h = omega (arith, ap length h.1, ap length h.0.2, digits_some h.0.0 h.0.1 h.0.4)
token_some (text content) s h = omega (arith, ap length h.1)
token_some (sign w) s h = omega (arith, ap length h.1, all_at (λ w. 1 ≤ length w) signs signs_some w h.0)
token_some annotations s h = omega (arith, ap length h.2)
token_some line_end s h = absurd h
token_some level_opens s h = absurd h
token_some level_closes s h = absurd h
