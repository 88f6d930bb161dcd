-- What is read at the front of a text, within a line, is a piece of a line.
use Rattle.std.proofs.Common.{◌≡◌, ◌≢◌, ℕ, ◌+◌, ◌^◌, ◌<◌, Bool, true, false, ◌||◌, ◌&&◌, eqb, leb, ltb, List, [], ◌∷◌, ◌++◌, length, take, drop, codes, Option, Some, None, position, refl, sym, ap, ◌∙◌, inl, inr, ◌⊎◌, ⊎_elim, subst, append_assoc, length-append, take_at, All, arith}
use Rattle.std.specs.Prelude.{take_while}
use Rattle.std.proofs.lemmas.Bool.{cond_both, both_ways, eqb-true, eqb-false, leb-false, ltb-true, or_cases, and_parts, or_left}
use Rattle.std.proofs.lemmas.List.Elements.{All-from_recursion, All-weaker}
use Rattle.std.proofs.lemmas.List.Sums.{take_while-cons}
use Rattle.fir_base.specs.Lists.{In}
use Rattle.fir_base.specs.Bytes.{is_digit, is_word_start, is_word_byte}
use Rattle.fir_base.specs.working.Bytes.{starts_with_digit}
use Rattle.fir_base.specs.Digits.{decimal_value}
use Rattle.fir_lex.specs.Tokens.{integer, sign}
use Rattle.fir_lex.specs.working.Bytes.{starts_with_byte, is_blank}
use Rattle.fir_lex.specs.working.Front.{Front, found, passed, bad_byte, bad_literal, dash_word_at, dash_or_word, integer_front, closed_string, string_front, string_length, information_length, in_brackets, block_length, information_front, annotations_front, is_single, sign_at, marked_at, front}
use Rattle.fir_lex.specs.Enclosed.{nested_bytes, IsCharacter, AreCharacters}
use Rattle.fir_lex.specs.Spelled.{IsDigit, ContinuesWord, IsWord, IsOnOneLine, signs}
use Rattle.fir_lex.specs.Longest.{BeginsWithNo, BeginsWithNoDashWord, IsLongest}
use Rattle.fir_lex.specs.Pieces.{Piece, blank, information, spelled, piece_bytes, IsPiece}
use Rattle.fir_lex.proofs.ByteKinds.{begins_word_decides, blank_decides}
use Rattle.fir_lex.proofs.Runs.{word_kind, digit_kind, run}
use Rattle.fir_lex.proofs.Positions.{none_passes}
use Rattle.fir_lex.proofs.Quoted.{Quoted, quoted}
use Rattle.fir_lex.proofs.Informed.{Informed, informed, information_of}
use Rattle.fir_lex.proofs.Layers.{Block, block}
use Rattle.fir_lex.proofs.DashWords.{DashAt, dash_found}

-- a piece stands at the front, of so many bytes
pub record AtFront (bytes : List ℕ) (p : Piece) (n : ℕ) : Type 0 where
  pub behind : List ℕ
  pub parts : bytes ≡ piece_bytes p ++ behind
  pub long : length bytes ≡ n + length behind
  pub piece : IsPiece p behind

-- what is read; a comment, where a semicolon stands, is left out
abbrev pub FrontHas : List ℕ → Front → Type 0
FrontHas bytes (found t n) = (s : List ℕ) × AtFront bytes (spelled t s) n
FrontHas bytes (passed n) = ((b : ℕ) × AtFront bytes (blank b) n) ⊎ ((content : List ℕ) × AtFront bytes (information content) n)
FrontHas bytes (bad_byte k b) = Unit {0}
FrontHas bytes bad_literal = Unit {0}

-- ---- words

lengths : (s behind bytes : List ℕ) → bytes ≡ s ++ behind → length bytes ≡ length s + length behind
lengths s behind bytes e = ap length e ∙ length-append s behind

taken_word : (b : ℕ) (bs : List ℕ) → is_word_start b ≡ true → IsWord (take_while is_word_byte (b ∷ bs))
taken_word b bs e =
    rw (take_while-cons is_word_byte b bs, or_left (is_word_start b) (is_digit b || eqb b 36) e)
    ((begins_word_decides b).0 e, All-from_recursion ContinuesWord (take_while is_word_byte bs) (run word_kind bs).all)

pub some_digits : (bs : List ℕ) → starts_with_digit bs ≡ true → take_while is_digit bs ≢ []
some_digits [] e = absurd (cc)
some_digits (b ∷ bs) e = λ none. let some : b ∷ take_while is_digit bs ≡ [] = sym (take_while-cons is_digit b bs ∙ rw e refl) ∙ none in absurd (cc)

word_has : (b : ℕ) (bs : List ℕ) (o : Option (List ℕ)) → is_word_start b ≡ true → DashAt (b ∷ bs) o → FrontHas (b ∷ bs) (dash_or_word (b ∷ bs) o)
word_has b bs (Some w) e h = (
  w,
  record {
    behind = drop (length w) (b ∷ bs);
    parts = h.1;
    long = lengths w (drop (length w) (b ∷ bs)) (b ∷ bs) h.1;
    piece = ((h.0, refl), tt);
  },
)
word_has b bs None e h =
    let w = take_while is_word_byte (b ∷ bs) in
    let r = run word_kind (b ∷ bs) in (
      w,
      record {
        behind = r.behind;
        parts = r.parts;
        long = lengths w r.behind (b ∷ bs) r.parts;
        piece = ((taken_word b bs e, refl), (r.ends, subst BeginsWithNoDashWord r.parts h));
      },
    )

-- ---- integers

-- digits behind a sign or none
integer_has : (plus_or_minus digits_on : List ℕ) → (plus_or_minus ≡ []) ⊎ ((plus_or_minus ≡ codes "+") ⊎ (plus_or_minus ≡ codes "-"))
    → starts_with_digit digits_on ≡ true → FrontHas (plus_or_minus ++ digits_on) (integer_front plus_or_minus digits_on)
integer_has plus_or_minus digits_on is_sign starts =
    let digits = take_while is_digit digits_on in
    let r = run digit_kind digits_on in
    let parts : plus_or_minus ++ digits_on ≡ (plus_or_minus ++ digits) ++ r.behind =
    ap (λ (x : List ℕ). plus_or_minus ++ x) r.parts ∙ sym (append_assoc plus_or_minus digits r.behind) in
    let long : length (plus_or_minus ++ digits_on) ≡ length plus_or_minus + length digits + length r.behind =
    omega (arith, length-append plus_or_minus digits_on, lengths digits r.behind digits_on r.parts) in
    cond_both (ltb (decimal_value digits) (2 ^ 128)) (found (integer (plus_or_minus ++ digits)) (length plus_or_minus + length digits)) bad_literal
    (FrontHas (plus_or_minus ++ digits_on))
    (λ e. (
      plus_or_minus ++ digits,
      record {
        behind = r.behind;
        parts = parts;
        long = long;
        piece = (
          (
            (
              plus_or_minus,
              digits,
              refl,
              is_sign,
              some_digits digits_on starts,
              All-from_recursion IsDigit digits r.all,
              ltb-true (decimal_value digits) (2 ^ 128) e,
            ),
            refl,
          ),
          r.ends,
        );
      },
    ))
    (λ e. tt)

-- ---- strings, file information, annotation blocks

none_past : (content : List ℕ) → position (λ b. leb 128 b) content ≡ None → All (λ b. b < 128) content
none_past content e =
    All-weaker (λ b. leb 128 b ≡ false) (λ b. b < 128) (λ b f. leb-false 128 b f) content
    (All-from_recursion (λ b. leb 128 b ≡ false) content (none_passes (λ b. leb 128 b) content e))

closed_has : (bs content behind : List ℕ) (n : ℕ) (o : Option ℕ) → position (λ b. leb 128 b) content ≡ o → bs ≡ content ++ 34 ∷ behind → n ≡ length content
    → IsOnOneLine content → AreCharacters content → FrontHas (34 ∷ bs) (closed_string content o)
closed_has bs content behind n (Some k) e parts long one characters = tt
closed_has bs content behind n None e parts long one characters = (
  ((34 ∷ content) ++ 34 ∷ []),
  record {
    behind = behind;
    parts = ap {B = List ℕ} (λ (x : List ℕ). 34 ∷ x) (parts ∙ sym (append_assoc content (34 ∷ []) behind));
    long = omega (arith, lengths content (34 ∷ behind) bs parts);
    piece = (((characters, one, none_past content e), refl), tt);
  },
)

string_has : (bs : List ℕ) (o : Option ℕ) → string_length false bs ≡ o → FrontHas (34 ∷ bs) (string_front bs o)
string_has bs None e = tt
string_has bs (Some n) e =
    let q : Quoted false bs n = quoted false bs n e in
    let same : take n bs ≡ q.content = ap (take n) q.parts ∙ take_at q.content (34 ∷ q.behind) n (sym q.long) in
    rw same
    (closed_has bs q.content q.behind n (position (λ b. leb 128 b) q.content) refl q.parts q.long (All-from_recursion (λ b. b ≢ 10) q.content q.one_line)
    (q.characters.0, All-from_recursion IsCharacter q.characters.0 q.characters.1, q.characters.2))

information_has : (bs : List ℕ) (o : Option ℕ) → information_length false bs ≡ o → FrontHas (64 ∷ 91 ∷ bs) (information_front o)
information_has bs None e = tt
information_has bs (Some n) e =
    let i : Informed false bs n = informed false bs n e in
    inr (
      i.content,
      record {
        behind = i.behind;
        parts = ap {B = List ℕ} (λ (x : List ℕ). 64 ∷ 91 ∷ x) (i.parts ∙ sym (append_assoc i.content (93 ∷ []) i.behind));
        long = omega (arith, lengths i.content (93 ∷ i.behind) bs i.parts, i.long);
        piece = information_of i.content i.inside;
      },
    )

annotations_has : (bs : List ℕ) (o : Option ℕ) → block_length (in_brackets 1) bs ≡ o → FrontHas (37 ∷ 91 ∷ bs) (annotations_front o)
annotations_has bs None e = tt
annotations_has bs (Some n) e =
    let a : Block bs n = block bs n e in (
      ((37 ∷ 91 ∷ nested_bytes a.inner) ++ 93 ∷ []),
      record {
        behind = a.behind;
        parts = ap {B = List ℕ} (λ (x : List ℕ). 37 ∷ 91 ∷ x) (a.parts ∙ sym (append_assoc (nested_bytes a.inner) (93 ∷ []) a.behind));
        long = omega (arith, a.long);
        piece = ((a.inner, a.nested, refl), tt);
      },
    )

-- ---- signs

abbrev singles : List (List ℕ)
singles = drop 5 signs

one_of : (b c : ℕ) (t : Bool) (Rest : Type 0) → (t ≡ true → Rest) → (eqb b c || t) ≡ true → (c ∷ [] ≡ b ∷ []) ⊎ Rest
one_of b c t Rest more e = by_case (or_cases (eqb b c) t e) where
  by_case : (eqb b c ≡ true) ⊎ (t ≡ true) → (c ∷ [] ≡ b ∷ []) ⊎ Rest
  by_case (inl p) = inl (ap {B = List ℕ} (λ (x : ℕ). x ∷ []) (sym (eqb-true b c p)))
  by_case (inr q) = inr (more q)

is_one : (b : ℕ) → is_single b ≡ true → In singles (b ∷ [])
is_one b =
    one_of b 62 _ _ (one_of b 40 _ _ (one_of b 41 _ _ (one_of b 91 _ _ (one_of b 93 _ _ (one_of b 123 _ _ (one_of b 125 _ _ (one_of b 44 _ _ (one_of b 58 _ _
    (λ e. inl (ap {B = List ℕ} (λ (x : ℕ). x ∷ []) (sym (eqb-true b 46 e))))))))))))

sign_has : (s bs : List ℕ) → In signs s → IsLongest (sign s) bs → FrontHas (s ++ bs) (found (sign s) (length s))
sign_has s bs m longest = (s, record { behind = bs; parts = refl; long = length-append s bs; piece = ((m, refl), longest) })

abbrev Has : Front → List ℕ → Type 0
Has f bytes = FrontHas bytes f

-- two bytes that are tested for
two_has : (first second b : ℕ) (bs : List ℕ) (f : Front) → (eqb b first && starts_with_byte second bs) ≡ true
    → ((rest : List ℕ) → FrontHas (first ∷ second ∷ rest) f) → FrontHas (b ∷ bs) f
two_has first second b [] f e has = let off = (and_parts (eqb b first) _ e).1 in absurd (cc)
two_has first second b (c ∷ cs) f e has =
    let parts = and_parts (eqb b first) _ e in
    subst (λ (x : ℕ). FrontHas (x ∷ c ∷ cs) f) (sym (eqb-true b first parts.0))
    (subst (λ (x : ℕ). FrontHas (first ∷ x ∷ cs) f) (sym (eqb-true c second parts.1)) (has cs))

pub not_behind : (x y : Bool) → x ≡ true → (x && y) ≡ false → y ≡ false
not_behind true y e h = h
not_behind false y e h = absurd (cc)

pub begins_with_no : (c : ℕ) (bs : List ℕ) → starts_with_byte c bs ≡ false → BeginsWithNo (λ b. b ≡ c) bs
begins_with_no c [] e = tt
begins_with_no c (b ∷ bs) e = eqb-false b c e

begins_with_neither : (c d : ℕ) (bs : List ℕ) → starts_with_byte c bs ≡ false → starts_with_byte d bs ≡ false → BeginsWithNo (λ b. (b ≡ c) ⊎ (b ≡ d)) bs
begins_with_neither c d [] e f = tt
begins_with_neither c d (b ∷ bs) e f = ⊎_elim (eqb-false b c e) (eqb-false b d f)

sign_at_has : (b : ℕ) (bs : List ℕ) → FrontHas (b ∷ bs) (sign_at b bs)
sign_at_has b bs =
    cond_both (eqb b 60 && starts_with_byte 61 bs) _ _ (FrontHas (b ∷ bs))
    (λ e. two_has 60 61 b bs (found (sign (codes "<=")) 2) e (λ rest. sign_has (codes "<=") rest (inl refl) ((λ e. absurd (cc)), (λ e. absurd (cc)))))
    (λ connect.
    cond_both (eqb b 60 && starts_with_byte 45 bs) _ _ (FrontHas (b ∷ bs))
    (λ e. two_has 60 45 b bs (found (sign (codes "<-")) 2) e (λ rest. sign_has (codes "<-") rest (inr (inl refl)) ((λ e. absurd (cc)), (λ e. absurd (cc)))))
    (λ partial.
    cond_both (eqb b 60) _ _ (FrontHas (b ∷ bs)) (λ e. less e (not_behind (eqb b 60) _ e connect) (not_behind (eqb b 60) _ e partial)) (λ no_less.
    cond_both (eqb b 61 && starts_with_byte 62 bs) _ _ (FrontHas (b ∷ bs))
    (λ e. two_has 61 62 b bs (found (sign (codes "=>")) 2) e
    (λ rest. sign_has (codes "=>") rest (inr (inr (inl refl))) ((λ e. absurd (cc)), (λ e. absurd (cc))))) (λ arrow.
    cond_both (eqb b 61) _ _ (FrontHas (b ∷ bs)) (λ e. equals e (not_behind (eqb b 61) _ e arrow)) (λ no_equals.
    cond_both (is_single b) _ _ (FrontHas (b ∷ bs)) (λ e. single e no_less no_equals) (λ none. tt))))))
  where
    less : eqb b 60 ≡ true → starts_with_byte 61 bs ≡ false → starts_with_byte 45 bs ≡ false → FrontHas (b ∷ bs) (found (sign (codes "<")) 1)
    less e no_equals no_dash =
        subst (λ (x : ℕ). FrontHas (x ∷ bs) (found (sign (codes "<")) 1)) (sym (eqb-true b 60 e))
        (sign_has (codes "<") bs (inr (inr (inr (inr (inl refl)))))
        ((λ same. begins_with_neither 61 45 bs no_equals no_dash), (λ same. absurd (let off : true ≡ false = ap (starts_with_byte 60) same in cc))))

    equals : eqb b 61 ≡ true → starts_with_byte 62 bs ≡ false → FrontHas (b ∷ bs) (found (sign (codes "=")) 1)
    equals e no_greater =
        subst (λ (x : ℕ). FrontHas (x ∷ bs) (found (sign (codes "=")) 1)) (sym (eqb-true b 61 e))
        (sign_has (codes "=") bs (inr (inr (inr (inl refl))))
        ((λ same. absurd (let off : true ≡ false = ap (starts_with_byte 61) same in cc)), (λ same. begins_with_no 62 bs no_greater)))

    single : is_single b ≡ true → eqb b 60 ≡ false → eqb b 61 ≡ false → FrontHas (b ∷ bs) (found (sign (b ∷ [])) 1)
    single e no_less no_equals =
        sign_has (b ∷ []) bs (inr (inr (inr (inr (inr (is_one b e))))))
        ((λ e. absurd (eqb-false b 60 no_less (cc))), (λ e. absurd (eqb-false b 61 no_equals (cc))))

-- ---- all

information_at : (b : ℕ) (bs : List ℕ) → (eqb b 64 && starts_with_byte 91 bs) ≡ true
    → FrontHas (b ∷ bs) (information_front (information_length false (drop 1 bs)))
information_at b [] e = let off = (and_parts (eqb b 64) _ e).1 in absurd (cc)
information_at b (c ∷ cs) e =
    let parts = and_parts (eqb b 64) _ e in
    subst (λ (x : ℕ). FrontHas (x ∷ c ∷ cs) (information_front (information_length false cs))) (sym (eqb-true b 64 parts.0))
    (subst (λ (x : ℕ). FrontHas (64 ∷ x ∷ cs) (information_front (information_length false cs))) (sym (eqb-true c 91 parts.1))
    (information_has cs (information_length false cs) refl))

annotations_at : (b : ℕ) (bs : List ℕ) → (eqb b 37 && starts_with_byte 91 bs) ≡ true
    → FrontHas (b ∷ bs) (annotations_front (block_length (in_brackets 1) (drop 1 bs)))
annotations_at b [] e = let off = (and_parts (eqb b 37) _ e).1 in absurd (cc)
annotations_at b (c ∷ cs) e =
    let parts = and_parts (eqb b 37) _ e in
    subst (λ (x : ℕ). FrontHas (x ∷ c ∷ cs) (annotations_front (block_length (in_brackets 1) cs))) (sym (eqb-true b 37 parts.0))
    (subst (λ (x : ℕ). FrontHas (37 ∷ x ∷ cs) (annotations_front (block_length (in_brackets 1) cs))) (sym (eqb-true c 91 parts.1))
    (annotations_has cs (block_length (in_brackets 1) cs) refl))

marked_has : (b : ℕ) (bs : List ℕ) → FrontHas (b ∷ bs) (marked_at b bs)
marked_has b bs =
    cond_both (eqb b 34) _ _ (FrontHas (b ∷ bs))
    (λ e. subst (λ (x : ℕ). FrontHas (x ∷ bs) (string_front bs (string_length false bs))) (sym (eqb-true b 34 e))
    (string_has bs (string_length false bs) refl)) (λ no_quote.
    cond_both (eqb b 64 && starts_with_byte 91 bs) _ _ (FrontHas (b ∷ bs)) (information_at b bs) (λ no_information.
    cond_both (eqb b 37 && starts_with_byte 91 bs) _ _ (FrontHas (b ∷ bs)) (annotations_at b bs) (λ no_annotations. sign_at_has b bs)))

pub is_sign : (b : ℕ) → (eqb b 43 || eqb b 45) ≡ true → (b ∷ [] ≡ codes "+") ⊎ (b ∷ [] ≡ codes "-")
is_sign b e = by_sign (or_cases (eqb b 43) (eqb b 45) e)
  where
    by_sign : (eqb b 43 ≡ true) ⊎ (eqb b 45 ≡ true) → (b ∷ [] ≡ codes "+") ⊎ (b ∷ [] ≡ codes "-")
    by_sign (inl p) = inl (ap {B = List ℕ} (λ (x : ℕ). x ∷ []) (eqb-true b 43 p))
    by_sign (inr p) = inr (ap {B = List ℕ} (λ (x : ℕ). x ∷ []) (eqb-true b 45 p))

signed_has : (b : ℕ) (bs : List ℕ) → ((eqb b 43 || eqb b 45) && starts_with_digit bs) ≡ true → FrontHas (b ∷ bs) (integer_front (b ∷ []) bs)
signed_has b bs e = let both = and_parts (eqb b 43 || eqb b 45) _ e in integer_has (b ∷ []) bs (inr (is_sign b both.0)) both.1

pub front_has : (b : ℕ) (bs : List ℕ) → eqb b 59 ≡ false → FrontHas (b ∷ bs) (front b bs)
front_has b bs semicolon =
    cond_both (is_blank b) _ _ (FrontHas (b ∷ bs))
    (λ e. inl (b, record { behind = bs; parts = refl; long = length-append (b ∷ []) bs; piece = (blank_decides b).0 e })) (λ no_blank.
    cond_both (eqb b 59) _ _ (FrontHas (b ∷ bs)) (λ e. absurd (both_ways (eqb b 59) semicolon e)) (λ no_comment.
    cond_both (is_word_start b) _ _ (FrontHas (b ∷ bs)) (λ e. word_has b bs (dash_word_at (b ∷ bs)) e (dash_found (b ∷ bs))) (λ no_word.
    cond_both (is_digit b) _ _ (FrontHas (b ∷ bs)) (λ e. integer_has [] (b ∷ bs) (inl refl) e) (λ no_digit.
    cond_both ((eqb b 43 || eqb b 45) && starts_with_digit bs) _ _ (FrontHas (b ∷ bs)) (signed_has b bs) (λ no_sign. marked_has b bs)))))
