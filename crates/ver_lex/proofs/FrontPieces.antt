-- What is read at the front of bytes stands there.
use Rattle.std.proofs.Common.{◌≡◌, ◌≢◌, ℕ, ◌+◌, ◌≤◌, ◌<◌, Bool, true, false, ◌||◌, ◌&&◌, List, [], ◌∷◌, ◌++◌, length, map, drop, codes, Some, refl, sym, ap, ◌∙◌, subst, append_assoc, length-append, arith}
use Rattle.std.specs.Prelude.{nat_eq, take_while, if◌then◌else◌}
use Rattle.std.specs.List.{AllByRecursion, starts_with}
use Rattle.std.proofs.Math.Seq.{drop-append_seam}
use Rattle.std.proofs.lemmas.Bool.{cond_both, and_parts, both_ways, ne_eqb}
use Rattle.std.proofs.lemmas.List.Sums.{take_while-cons}
use Rattle.fir_base.specs.Bytes.{is_word_start, is_word_byte, is_digit}
use Rattle.fir_base.specs.Digits.{digit_value}
use Rattle.ver_ast.specs.Tokens.{Base, radix, letter, AreDigits, IsConstant}
use Rattle.ver_ast.specs.Pieces.{blank, white_space}
use Rattle.ver_ast.specs.working.TokenSteps.{is_blank, digit_in}
use Rattle.ver_ast.proofs.Reach.{NotNext, in_base, digits_test, digit_is_in}
use Rattle.ver_ast.proofs.TokenPieces.{one_zero, word_piece, constant_piece, signed_word_piece}
use Rattle.ver_ast.proofs.TokensFound.{is_byte}
use Rattle.ver_lex.specs.declared.kind.Kind.TheVariants as kind
use Rattle.ver_lex.specs.declared.piece.Piece.TheVariants as piece
use Rattle.ver_lex.specs.working.Bytes.{starts_with_byte, is_base, radix_of, is_digit_below}
use Rattle.ver_lex.specs.working.Fronts.{word_length, digits_length, digits_below, based_length, number_kind, number_or_constant, number_front, line_length, block_length, block_front, marked_front, front}
use Rattle.ver_lex.specs.working.View.{width_of, value_of}
use Rattle.ver_lex.proofs.Runs.{run}
use Rattle.ver_lex.proofs.Prefixes.{begins}
use Rattle.ver_lex.proofs.NumberPieces.{BeginsBased, number_alone}
use Rattle.ver_lex.proofs.ConstantPieces.{base_of_letter, base_is_one, size_length, constant_made}
use Rattle.ver_lex.proofs.CommentPieces.{line_stands, block_stands}
use Rattle.ver_lex.proofs.SignPieces.{any_in, sign_stands}
use Rattle.ver_lex.proofs.Standing.{Stands, no_tokens, FrontStands, stands_as, token_front, question_front}

-- ---- white space and words

blank_stands : (b : ℕ) (bs : List ℕ) → is_blank b ≡ true → Stands (b ∷ bs) 1 no_tokens
blank_stands b bs h =
    record {
      piece = blank b;
      behind = bs;
      bytes_are = refl;
      is = any_in white_space b (with_end (nat_eq b 32) (nat_eq b 9) (nat_eq b 13) (nat_eq b 10) h);
      count = refl;
      tokens = λ before. refl;
      some = omega arith;
    }
  where
    with_end : (p q r s : Bool) → (p || (q || (r || s))) ≡ true → (p || (q || (r || (s || false)))) ≡ true
    with_end true q r s e = refl
    with_end false true r s e = refl
    with_end false false true s e = refl
    with_end false false false true e = refl
    with_end false false false false e = absurd cc

word_stands : (b : ℕ) (bs : List ℕ) → is_word_start b ≡ true → FrontStands (b ∷ bs) (piece.Token kind.Word (word_length (b ∷ bs)))
word_stands b bs h =
    let inside : is_word_byte b ≡ true = rw h refl in
    let w = take_while is_word_byte bs in
    let taken : take_while is_word_byte (b ∷ bs) ≡ b ∷ take_while is_word_byte bs = take_while-cons is_word_byte b bs ∙ rw inside refl in
    let r = run is_word_byte bs in
    let all = digits_test is_word_byte (take_while is_word_byte bs) r.all in
    token_front (b ∷ bs) (piece.Token kind.Word (word_length (b ∷ bs))) kind.Word (b ∷ take_while is_word_byte bs) r.behind
    (ap {B = List ℕ} (λ (x : List ℕ). b ∷ x) r.parts) (ap (λ (x : List ℕ). piece.Token kind.Word (length x)) taken)
    (word_piece (b ∷ take_while is_word_byte bs) r.behind (rw (h, all) refl) r.ends) (omega arith) (omega arith)

-- ---- numbers and constants

module _ (bytes s behind : List ℕ) (parts : bytes ≡ s ++ behind) (are : AreDigits s) (ends : NotNext is_digit behind) where
  one_digit : (nat_eq (length s) 1 && starts_with_byte 48 bytes) ≡ one_zero s
  one_digit = subst (λ (x : List ℕ). (nat_eq (length s) 1 && starts_with_byte 48 x) ≡ one_zero s) (sym parts) (by_digits s are)
    where
      by_digits : (s : List ℕ) → AreDigits s → (nat_eq (length s) 1 && starts_with_byte 48 (s ++ behind)) ≡ one_zero s
      by_digits [] h = absurd (h.0 refl)
      by_digits (c ∷ []) h = refl
      by_digits (c ∷ d ∷ ds) h =
          let more : nat_eq (length (c ∷ d ∷ ds)) 1 ≡ false = ne_eqb (length (c ∷ d ∷ ds)) 1 (λ e. omega (arith, e)) in
          rw more refl

  some_digits : 1 ≤ length s
  some_digits = at s are.0
    where
      at : (s : List ℕ) → s ≢ [] → 1 ≤ length s
      at [] n = absurd (n refl)
      at (c ∷ cs) n = omega arith

  number_stands : (BeginsBased behind → ⊥) → FrontStands bytes (number_or_constant bytes (length s) 0)
  number_stands alone = by_zero (one_zero s) refl
    where
      kind_is : (z : Bool) → one_zero s ≡ z → (nat_eq (length s) 1 && starts_with_byte 48 bytes) ≡ z
      kind_is z e = one_digit ∙ e

      by_zero : (z : Bool) → one_zero s ≡ z → FrontStands bytes (piece.Token (number_kind bytes (length s)) (length s))
      by_zero true e =
          let k : number_kind bytes (length s) ≡ kind.Zero = rw (kind_is true e) refl in
          token_front bytes (piece.Token (number_kind bytes (length s)) (length s)) kind.Zero s behind parts (ap (λ k. piece.Token k (length s)) k)
          (number_alone s behind are ends alone true (sym e)) some_digits (omega arith)
      by_zero false e =
          let k : number_kind bytes (length s) ≡ kind.Number = rw (kind_is false e) refl in
          token_front bytes (piece.Token (number_kind bytes (length s)) (length s)) kind.Number s behind parts (ap (λ k. piece.Token k (length s)) k)
          (number_alone s behind are ends alone false (sym e)) some_digits (omega arith)

-- a constant, by the bytes behind its width
module _ (bytes s : List ℕ) (l : ℕ) (ds : List ℕ) (parts : bytes ≡ s ++ 39 ∷ l ∷ ds) (are : AreDigits s) (is : is_base l ≡ true) where
  abbrev digits : List ℕ
  digits = take_while (is_digit_below (radix_of l)) ds

  abbrev all_bytes : List ℕ
  all_bytes = s ++ 39 ∷ l ∷ digits

  count_is : length all_bytes ≡ length s + (length digits + 2)
  count_is = omega (arith, length-append s (39 ∷ l ∷ digits))

  whole_is : (behind : List ℕ) → ds ≡ digits ++ behind → bytes ≡ all_bytes ++ behind
  whole_is behind e = parts ∙ ap (λ (x : List ℕ). s ++ 39 ∷ l ∷ x) e ∙ sym (append_assoc s (39 ∷ l ∷ digits) behind)

  rest_is : (behind : List ℕ) → ds ≡ digits ++ behind → drop (length s + (length digits + 2)) bytes ≡ behind
  rest_is behind e =
      ap (λ (n : ℕ). drop n bytes) (sym count_is) ∙ ap (drop (length all_bytes)) (whole_is behind e) ∙ drop-append_seam all_bytes behind

  -- with the bytes behind its digits
  form : (behind : List ℕ) → ds ≡ digits ++ behind → (t : Bool) → starts_with_byte 63 behind ≡ t
      → number_or_constant bytes (length s) (length digits + 2) ≡ (if t then piece.Questioned (length all_bytes) else piece.Token kind.Constant (length all_bytes))
  form behind e t h =
      let some : nat_eq (length digits + 2) 0 ≡ false = ne_eqb (length digits + 2) 0 (λ z. omega (arith, z)) in
      let mark : starts_with_byte 63 (drop (length s + (length digits + 2)) bytes) ≡ t = ap (starts_with_byte 63) (rest_is behind e) ∙ h in
      rw (some, mark) (ap (λ (n : ℕ). if t then piece.Questioned n else piece.Token kind.Constant n) (sym count_is))

  constant_stands : digits ≢ [] → FrontStands bytes (number_or_constant bytes (length s) (length digits + 2))
  constant_stands some =
      let r = run (is_digit_below (radix_of l)) ds in
      let b = base_of_letter l is in
      let made = constant_made s digits l are b some r.all in
      let n = subst (λ radix. NotNext (is_digit_below radix) r.behind) b.radix_is r.ends in
      by_behind r.behind r.parts made.0 (subst (λ base. NotNext (in_base base) r.behind) (sym made.1) n)
    where
      has : digits_length all_bytes + 2 ≤ length all_bytes
      has = omega (arith, size_length s digits l are, count_is)

      by_behind : (behind : List ℕ) → ds ≡ digits ++ behind → (c : IsConstant (width_of all_bytes) (value_of all_bytes) all_bytes)
          → NotNext (in_base c.base) behind
          → FrontStands bytes (number_or_constant bytes (length s) (length digits + 2))
      by_behind [] e c n =
          token_front bytes _ kind.Constant all_bytes [] (whole_is [] e) (form [] e false refl)
          (constant_piece (width_of all_bytes) (value_of all_bytes) all_bytes [] c n tt) (omega (arith, count_is)) has
      by_behind (x ∷ xs) e c n = by_mark (nat_eq x 63) refl
        where
          by_mark : (t : Bool) → nat_eq x 63 ≡ t → FrontStands bytes (number_or_constant bytes (length s) (length digits + 2))
          by_mark true k =
              question_front bytes _ all_bytes xs (whole_is (x ∷ xs) e ∙ ap (λ (y : ℕ). all_bytes ++ y ∷ xs) (is_byte x 63 k)) (form (x ∷ xs) e true k) c has
          by_mark false k =
              token_front bytes _ kind.Constant all_bytes (x ∷ xs) (whole_is (x ∷ xs) e) (form (x ∷ xs) e false k)
              (constant_piece (width_of all_bytes) (value_of all_bytes) all_bytes (x ∷ xs) c n k) (omega (arith, count_is)) has

-- ---- where no constant begins behind a quote

-- the bytes behind a quote and a letter
record IsBased (q l : ℕ) (ds : List ℕ) (h : BeginsBased (q ∷ l ∷ ds)) : Type 0 where
  quote : q ≡ 39
  base : l ≡ letter h.is.base
  digits : ds ≡ h.is.digits ++ h.more

is_based : (q l : ℕ) (ds : List ℕ) (h : BeginsBased (q ∷ l ∷ ds)) → IsBased q l ds h
is_based q l ds h = record { quote = first h.text_is; base = second h.text_is; digits = third h.text_is }
  where
    first : {x : ℕ} {xs : List ℕ} → q ∷ l ∷ ds ≡ 39 ∷ x ∷ xs → q ≡ 39
    first e = cc

    second : {x : ℕ} {xs : List ℕ} → q ∷ l ∷ ds ≡ 39 ∷ x ∷ xs → l ≡ x
    second e = cc

    third : {x : ℕ} {xs : List ℕ} → q ∷ l ∷ ds ≡ 39 ∷ x ∷ xs → ds ≡ xs
    third e = cc

no_base : (q l : ℕ) (ds : List ℕ) → (nat_eq q 39 && is_base l) ≡ false → BeginsBased (q ∷ l ∷ ds) → ⊥
no_base q l ds n h =
    let b = is_based q l ds h in
    let quote : (nat_eq 39 39 && is_base l) ≡ false = subst (λ x. (nat_eq x 39 && is_base l) ≡ false) b.quote n in
    let no : is_base (letter h.is.base) ≡ false = subst (λ x. is_base x ≡ false) b.base quote in
    both_ways (is_base (letter h.is.base)) no (base_is_one h.is.base).0

has_digit : (limit : ℕ) (base : Base) (digits numbers more : List ℕ) → limit ≡ radix base → digits ≢ [] → map digit_value digits ≡ map Some numbers
    → AllByRecursion (λ d. d < radix base) numbers
    → length (take_while (is_digit_below limit) (digits ++ more)) ≢ 0
has_digit limit base [] numbers more r some e h z = some refl
has_digit limit base (d ∷ ds) [] more r some e h z = absurd cc
has_digit limit base (d ∷ ds) (m ∷ ms) more r some e h z =
    let first : digit_value d ≡ Some m = cc in
    let found : digit_in base d ≡ Some m = digit_is_in base d m first h.0 in
    let inside : is_digit_below (radix base) d ≡ true = rw found refl in
    let is : is_digit_below limit d ≡ true = rw r inside in
    let taken : take_while (is_digit_below limit) (d ∷ (ds ++ more)) ≡ d ∷ take_while (is_digit_below limit) (ds ++ more) =
    take_while-cons (is_digit_below limit) d (ds ++ more) ∙ rw is refl in
    omega (arith, z, ap length taken)

no_digits : (q l : ℕ) (ds : List ℕ) → nat_eq (length (take_while (is_digit_below (radix_of l)) ds)) 0 ≡ true → BeginsBased (q ∷ l ∷ ds) → ⊥
no_digits q l ds z h =
    let b = is_based q l ds h in
    let same : radix_of l ≡ radix h.is.base = ap radix_of b.base ∙ (base_is_one h.is.base).1 in
    let none : length (take_while (is_digit_below (radix_of l)) (h.is.digits ++ h.more)) ≡ 0 = subst (λ x. length (take_while (is_digit_below (radix_of l)) x) ≡ 0) b.digits (is_byte _ 0 z) in
    has_digit (radix_of l) h.is.base h.is.digits h.is.numbers h.more same h.is.some h.is.are_digits h.is.below none

-- ---- all numbers

number_at : (bytes s behind : List ℕ) → bytes ≡ s ++ behind → AreDigits s → NotNext is_digit behind
    → FrontStands bytes (number_or_constant bytes (length s) (based_length behind))
number_at bytes s [] parts are ends = number_stands bytes s [] parts are ends (λ h. let no : [] ≡ 39 ∷ letter h.is.base ∷ (h.is.digits ++ h.more) = h.text_is in cc)
number_at bytes s (q ∷ []) parts are ends =
    number_stands bytes s (q ∷ []) parts are ends (λ h. let no : q ∷ [] ≡ 39 ∷ letter h.is.base ∷ (h.is.digits ++ h.more) = h.text_is in cc)
number_at bytes s (q ∷ l ∷ ds) parts are ends =
    cond_both (nat_eq q 39 && is_base l) _ _ Stand
    (λ h. let p = and_parts (nat_eq q 39) (is_base l) h in
    cond_both (nat_eq (digits_below (radix_of l) ds) 0) _ _ Stand (λ z. number_stands bytes s (q ∷ l ∷ ds) parts are ends (no_digits q l ds z))
    (λ some. constant_stands bytes s l ds (parts ∙ ap (λ (x : ℕ). s ++ x ∷ l ∷ ds) (is_byte q 39 p.0)) are p.1 (not_empty (take_while (is_digit_below (radix_of l)) ds) some)))
    (λ h. number_stands bytes s (q ∷ l ∷ ds) parts are ends (no_base q l ds h))
  where
    Stand : ℕ → Type 0
    Stand n = FrontStands bytes (number_or_constant bytes (length s) n)

    not_empty : (x : List ℕ) → nat_eq (length x) 0 ≡ false → x ≢ []
    not_empty x n e = let no : nat_eq (length {A = ℕ} []) 0 ≡ false = subst (λ (y : List ℕ). nat_eq (length y) 0 ≡ false) e n in cc

digits_stand : (b : ℕ) (bs : List ℕ) → is_digit b ≡ true → FrontStands (b ∷ bs) (number_front (b ∷ bs))
digits_stand b bs h =
    let r = run is_digit (b ∷ bs) in
    let taken : take_while is_digit (b ∷ bs) ≡ b ∷ take_while is_digit bs = take_while-cons is_digit b bs ∙ rw h refl in
    let rest : drop (digits_length (b ∷ bs)) (b ∷ bs) ≡ r.behind =
    ap (drop (digits_length (b ∷ bs))) r.parts ∙ drop-append_seam (take_while is_digit (b ∷ bs)) r.behind in
    stands_as (b ∷ bs) (b ∷ bs) _ _ refl (ap (λ (x : List ℕ). number_or_constant (b ∷ bs) (digits_length (b ∷ bs)) (based_length x)) rest)
    (number_at (b ∷ bs) (take_while is_digit (b ∷ bs)) r.behind r.parts ((λ e. let no : b ∷ take_while is_digit bs ≡ [] = sym taken ∙ e in cc), r.all) r.ends)

-- ---- all together

marked_stands : (b : ℕ) (bs : List ℕ) → is_blank b ≡ false → is_word_start b ≡ false → is_digit b ≡ false → FrontStands (b ∷ bs) (marked_front (b ∷ bs))
marked_stands b bs x y z =
    cond_both (starts_with nat_eq (b ∷ bs) (codes "//")) _ _ (FrontStands (b ∷ bs))
    (λ h. stands_as (b ∷ bs) (47 ∷ 47 ∷ drop 2 (b ∷ bs)) (piece.Passed (2 + line_length (drop 2 (b ∷ bs)))) (piece.Passed (2 + line_length (drop 2 (b ∷ bs)))) (begins (b ∷ bs) (codes "//") h) refl (line_stands (drop 2 (b ∷ bs)))) (λ no_line.
    cond_both (starts_with nat_eq (b ∷ bs) (codes "/*")) _ _ (FrontStands (b ∷ bs))
    (λ h. stands_as (b ∷ bs) (47 ∷ 42 ∷ drop 2 (b ∷ bs)) (block_front (block_length (drop 2 (b ∷ bs)))) (block_front (block_length (drop 2 (b ∷ bs)))) (begins (b ∷ bs) (codes "/*") h) refl (block_stands (drop 2 (b ∷ bs)))) (λ no_block.
    cond_both (starts_with nat_eq (b ∷ bs) (codes "$signed")) _ _ (FrontStands (b ∷ bs))
    (λ h. token_front (b ∷ bs) _ kind.SignedWord (codes "$signed") (drop 7 (b ∷ bs)) (begins (b ∷ bs) (codes "$signed") h) refl
    (signed_word_piece (drop 7 (b ∷ bs))) (omega arith) (omega arith)) (λ no_signed.
    sign_stands b bs (record { no_blank = x; no_word = y; no_digit = z; no_line = no_line; no_block = no_block; no_signed = no_signed }))))

pub front_stands : (b : ℕ) (bs : List ℕ) → FrontStands (b ∷ bs) (front (b ∷ bs))
front_stands b bs =
    cond_both (is_blank b) _ _ (FrontStands (b ∷ bs)) (λ h. blank_stands b bs h) (λ x.
    cond_both (is_word_start b) _ _ (FrontStands (b ∷ bs)) (λ h. word_stands b bs h) (λ y.
    cond_both (is_digit b) _ _ (FrontStands (b ∷ bs)) (λ h. digits_stand b bs h) (λ z. marked_stands b bs x y z)))
