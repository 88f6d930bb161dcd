-- What is read at the front of a text, within a line, and is no token there: a byte in no token, a byte past 127 in a string, or a literal that is
-- too large or not closed.
use Rattle.std.proofs.Common.{◌≡◌, ◌≢◌, ℕ, ◌+◌, ◌^◌, ◌≤◌, ◌<◌, true, false, ◌||◌, ◌&&◌, eqb, leb, ltb, List, [], ◌∷◌, ◌++◌, length, get_or, take, drop, codes, All, Option, Some, None, position, refl, sym, ap, ◌∙◌, inl, inr, ◌⊎◌, subst, append_assoc, take_at, arith}
use Rattle.std.specs.Prelude.{take_while}
use Rattle.std.proofs.lemmas.Bool.{cond_both, eqb-true, eqb-false, ltb-false, leb-true, leb-false, and_parts}
use Rattle.std.proofs.lemmas.List.Elements.{All-from_recursion, All-weaker}
use Rattle.fir_base.specs.Bytes.{is_digit, is_word_start}
use Rattle.fir_base.specs.working.Bytes.{starts_with_digit}
use Rattle.fir_base.specs.Digits.{decimal_value}
use Rattle.fir_lex.specs.Tokens.{integer}
use Rattle.fir_lex.specs.working.Bytes.{starts_with_byte, is_blank}
use Rattle.fir_lex.specs.working.Front.{Front, found, passed, bad_byte, bad_literal, dash_word_at, dash_or_word, integer_front, closed_string, string_front, string_length, information_length, in_brackets, block_length, information_front, annotations_front, is_single, sign_at, marked_at, front}
use Rattle.fir_lex.specs.Enclosed.{IsCharacter, AreCharacters}
use Rattle.fir_lex.specs.Spelled.{IsDigit, IsOnOneLine}
use Rattle.fir_lex.specs.TokenFaults.{BeginsTooLarge, BeginsUnclosed}
use Rattle.fir_lex.proofs.Runs.{digit_kind, run}
use Rattle.fir_lex.proofs.Quoted.{Quoted, quoted}
use Rattle.fir_lex.proofs.FirstPlaces.{first_at}
use Rattle.fir_lex.proofs.Fronts.{some_digits, is_sign}
use Rattle.fir_lex.proofs.FrontsTaken.{string_long}

-- a byte that stands at the front, and is no quote
pub record Stray (bytes : List ℕ) (k c : ℕ) : Type 0 where
  pub behind : List ℕ
  pub parts : bytes ≡ c ∷ behind
  pub first : k ≡ 0
  pub no_quote : c ≢ 34

-- the first byte past 127 in a string
pub record PastAscii (bytes : List ℕ) (k c : ℕ) : Type 0 where
  pub front : List ℕ
  pub back : List ℕ
  pub behind : List ℕ
  pub parts : bytes ≡ (34 ∷ (front ++ c ∷ back)) ++ 34 ∷ behind
  pub far : k ≡ length front + 1
  pub characters : AreCharacters (front ++ c ∷ back)
  pub one_line : IsOnOneLine (front ++ c ∷ back)
  pub ascii : All (λ b. b < 128) front
  pub past : 128 ≤ c

abbrev pub Wrong : List ℕ → Front → Type 0
Wrong bytes (found t n) = Unit {0}
Wrong bytes (passed n) = Unit {0}
Wrong bytes (bad_byte k c) = Stray bytes k c ⊎ PastAscii bytes k c
Wrong bytes bad_literal = BeginsTooLarge bytes ⊎ BeginsUnclosed bytes

word_wrong : (bytes : List ℕ) (o : Option (List ℕ)) → Wrong bytes (dash_or_word bytes o)
word_wrong bytes (Some w) = tt
word_wrong bytes None = tt

-- ---- integers

integer_wrong : (plus_or_minus digits_on : List ℕ) → (plus_or_minus ≡ []) ⊎ ((plus_or_minus ≡ codes "+") ⊎ (plus_or_minus ≡ codes "-"))
    → starts_with_digit digits_on ≡ true → Wrong (plus_or_minus ++ digits_on) (integer_front plus_or_minus digits_on)
integer_wrong plus_or_minus digits_on sign starts =
    let digits = take_while is_digit digits_on in
    let r = run digit_kind digits_on in
    let parts : plus_or_minus ++ digits_on ≡ (plus_or_minus ++ digits) ++ r.behind =
    ap (λ (x : List ℕ). plus_or_minus ++ x) r.parts ∙ sym (append_assoc plus_or_minus digits r.behind) in
    cond_both (ltb (decimal_value digits) (2 ^ 128)) (found (integer (plus_or_minus ++ digits)) (length plus_or_minus + length digits)) bad_literal
    (Wrong (plus_or_minus ++ digits_on))
    (λ e. tt)
    (λ e.
    inl (
      plus_or_minus,
      digits,
      r.behind,
      parts,
      sign,
      some_digits digits_on starts,
      All-from_recursion IsDigit digits r.all,
      r.ends,
      ltb-false (decimal_value digits) (2 ^ 128) e,
    ))

signed_wrong : (b : ℕ) (bs : List ℕ) → ((eqb b 43 || eqb b 45) && starts_with_digit bs) ≡ true → Wrong (b ∷ bs) (integer_front (b ∷ []) bs)
signed_wrong b bs e = let both = and_parts (eqb b 43 || eqb b 45) _ e in integer_wrong (b ∷ []) bs (inr (is_sign b both.0)) both.1

-- ---- strings

closed_wrong : (bs content behind : List ℕ) (o : Option ℕ) → position (λ b. leb 128 b) content ≡ o → bs ≡ content ++ 34 ∷ behind → IsOnOneLine content
    → AreCharacters content → Wrong (34 ∷ bs) (closed_string content o)
closed_wrong bs content behind None e parts one characters = tt
closed_wrong bs content behind (Some k) e parts one characters =
    let f = first_at (λ b. leb 128 b) content k e in
    inr record {
      front = f.front;
      back = f.back;
      behind = behind;
      parts = ap {B = List ℕ} (λ (x : List ℕ). 34 ∷ x) (parts ∙ ap (λ (x : List ℕ). x ++ 34 ∷ behind) f.parts);
      far = ap (λ (n : ℕ). n + 1) f.long;
      characters = subst AreCharacters f.parts characters;
      one_line = subst IsOnOneLine f.parts one;
      ascii =
          All-weaker (λ b. leb 128 b ≡ false) (λ b. b < 128) (λ b g. leb-false 128 b g) f.front (All-from_recursion (λ b. leb 128 b ≡ false) f.front f.fail);
      past = leb-true 128 (get_or content k 0) f.pass;
    }

string_wrong : (bs : List ℕ) (o : Option ℕ) → string_length false bs ≡ o → Wrong (34 ∷ bs) (string_front bs o)
string_wrong bs None e =
    inr (
      bs,
      refl,
      (λ content behind parts characters one.
          let off : None ≡ Some (length content) = sym e ∙ ap (string_length false) parts ∙ string_long content behind characters one in cc),
    )
string_wrong bs (Some n) e =
    let q : Quoted false bs n = quoted false bs n e in
    let same : take n bs ≡ q.content = ap (take n) q.parts ∙ take_at q.content (34 ∷ q.behind) n (sym q.long) in
    rw same
    (closed_wrong bs q.content q.behind (position (λ b. leb 128 b) q.content) refl q.parts (All-from_recursion (λ b. b ≢ 10) q.content q.one_line)
    (q.characters.0, All-from_recursion IsCharacter q.characters.0 q.characters.1, q.characters.2))

-- ---- all

stray : (b c : ℕ) (bs : List ℕ) → b ≡ c → c ≢ 34 → Stray (b ∷ bs) 0 c
stray b c bs is other = record { behind = bs; parts = ap {B = List ℕ} (λ (x : ℕ). x ∷ bs) is; first = refl; no_quote = other }

information_wrong : (b : ℕ) (bs : List ℕ) (o : Option ℕ) → b ≡ 64 → Wrong (b ∷ bs) (information_front o)
information_wrong b bs None is = inl (stray b 64 bs is (λ e. absurd (omega arith)))
information_wrong b bs (Some n) is = tt

annotations_wrong : (b : ℕ) (bs : List ℕ) (o : Option ℕ) → b ≡ 37 → Wrong (b ∷ bs) (annotations_front o)
annotations_wrong b bs None is = inl (stray b 37 bs is (λ e. absurd (omega arith)))
annotations_wrong b bs (Some n) is = tt

sign_wrong : (b : ℕ) (bs : List ℕ) → b ≢ 34 → Wrong (b ∷ bs) (sign_at b bs)
sign_wrong b bs other =
    cond_both (eqb b 60 && starts_with_byte 61 bs) _ _ (Wrong (b ∷ bs)) (λ e. tt) (λ connect.
    cond_both (eqb b 60 && starts_with_byte 45 bs) _ _ (Wrong (b ∷ bs)) (λ e. tt) (λ partial.
    cond_both (eqb b 60) _ _ (Wrong (b ∷ bs)) (λ e. tt) (λ no_less.
    cond_both (eqb b 61 && starts_with_byte 62 bs) _ _ (Wrong (b ∷ bs)) (λ e. tt) (λ arrow.
    cond_both (eqb b 61) _ _ (Wrong (b ∷ bs)) (λ e. tt) (λ no_equals.
    cond_both (is_single b) _ _ (Wrong (b ∷ bs)) (λ e. tt) (λ none. inl (stray b b bs refl other)))))))

marked_wrong : (b : ℕ) (bs : List ℕ) → Wrong (b ∷ bs) (marked_at b bs)
marked_wrong b bs =
    cond_both (eqb b 34) _ _ (Wrong (b ∷ bs))
    (λ e. subst (λ (x : ℕ). Wrong (x ∷ bs) (string_front bs (string_length false bs))) (sym (eqb-true b 34 e))
    (string_wrong bs (string_length false bs) refl)) (λ no_quote.
    cond_both (eqb b 64 && starts_with_byte 91 bs) _ _ (Wrong (b ∷ bs))
    (λ e. information_wrong b bs (information_length false (drop 1 bs)) (eqb-true b 64 (and_parts (eqb b 64) _ e).0)) (λ no_information.
    cond_both (eqb b 37 && starts_with_byte 91 bs) _ _ (Wrong (b ∷ bs))
    (λ e. annotations_wrong b bs (block_length (in_brackets 1) (drop 1 bs)) (eqb-true b 37 (and_parts (eqb b 37) _ e).0))
    (λ no_annotations. sign_wrong b bs (eqb-false b 34 no_quote))))

pub front_wrong : (b : ℕ) (bs : List ℕ) → Wrong (b ∷ bs) (front b bs)
front_wrong b bs =
    cond_both (is_blank b) _ _ (Wrong (b ∷ bs)) (λ e. tt) (λ no_blank.
    cond_both (eqb b 59) _ _ (Wrong (b ∷ bs)) (λ e. tt) (λ no_comment.
    cond_both (is_word_start b) _ _ (Wrong (b ∷ bs)) (λ e. word_wrong (b ∷ bs) (dash_word_at (b ∷ bs))) (λ no_word.
    cond_both (is_digit b) _ _ (Wrong (b ∷ bs)) (λ e. integer_wrong [] (b ∷ bs) (inl refl) e) (λ no_digit.
    cond_both ((eqb b 43 || eqb b 45) && starts_with_digit bs) _ _ (Wrong (b ∷ bs)) (signed_wrong b bs) (λ no_sign. marked_wrong b bs)))))
