-- The tokens that are read of a text byte by byte stand among its pieces.
use Rattle.std.proofs.Common.{◌≡◌, ◌≢◌, ℕ, suc, ◌+◌, ◌*◌, ◌-◌, ◌<◌, Bool, true, false, ◌||◌, ◌&&◌, List, [], ◌∷◌, ◌++◌, length, map, take, codes, Option, Some, None, refl, sym, ap, ◌∙◌, inl, inr, ◌⊎◌, subst, append_assoc, arith}
use Rattle.std.specs.Prelude.{IsTrue, nat_eq, nat_lt, slice_index, option_map, if◌then◌else◌}
use Rattle.std.specs.List.{AllByRecursion, list_all, list_any}
use Rattle.std.proofs.lemmas.Bool.{and_parts}
use Rattle.std.proofs.lemmas.Bool.Decides.{nat_tests}
use Rattle.std.proofs.lemmas.List.Sums.{fold-append}
use Rattle.std.proofs.lemmas.List.Folds.{list_all-append}
use Rattle.std.proofs.lemmas.List.{map-append}
use Rattle.std.proofs.Math.Seq.{take-suc}
use Rattle.fir_base.specs.Lists.{In}
use Rattle.fir_base.specs.Bytes.{is_word_start, is_word_byte, is_digit}
use Rattle.fir_base.specs.Digits.{digit_value, decimal_value}
use Rattle.fir_base.proofs.Each.{all_joined}
use Rattle.ver_words.specs.Names.{is_word}
use Rattle.ver_ast.specs.Tokens.{VToken, word, constant, sign, double, signed_shift, signed_word, Base, binary, decimal, hexadecimal, radix, letter, lone_signs, doubles, AreDigits, IsConstant}
use Rattle.ver_ast.specs.Pieces.{VPiece, blank, line_comment, block_comment, spelled, questioned, bytes_of_piece, PlacedToken, white_space, HasNoEnd, BeginsNoComment, IsVPiece, HasTokens}
use Rattle.ver_ast.specs.working.TokenSteps.{Pending, between, in_word, in_sign, in_shift, in_signed, in_number, at_base, at_digits, in_constant, in_line_comment, in_block_comment, in_block_star, TokenStep, is_sign, is_double, is_start, is_blank, number_token, begin, close_and_begin, base_of, digit_in, digit_below, with_base, with_digit, with_next, with_second, with_signed, signed_bytes, step, last, go_on, tokens_from, tokens}
use Rattle.ver_ast.proofs.Reach.{NotNext, in_base}
use Rattle.ver_ast.proofs.TokenPieces.{plain_tokens, HasPlainTokens, plain_of, with_places, piece_first, no_pieces, no_comment, one_zero, word_piece, number_piece, constant_piece, lone_piece, double_piece, shift_piece, signed_shift_piece, signed_word_piece}

-- `*` is not the last byte
abbrev EndsInNoStar : List ℕ → Type 0
EndsInNoStar content = (front : List ℕ) → content ≢ front ++ 42 ∷ []

abbrev pub IsConstantIn : Base → ℕ → ℕ → List ℕ → Type 0
IsConstantIn base width value s = (c : IsConstant width value s) × (c.base ≡ base)

-- what is pending, by the bytes that were read of it
abbrev IsPending : Pending → List ℕ → Type 0
IsPending between s = s ≡ []
IsPending (in_word w) s = (s ≡ w) × IsTrue (is_word w)
IsPending (in_sign a) s = (s ≡ a ∷ []) × IsTrue (is_start a)
IsPending in_shift s = s ≡ 62 ∷ 62 ∷ []
IsPending (in_signed k) s = (s ≡ take k signed_bytes) × (k < 7)
IsPending (in_number z n) s = AreDigits s × (z ≡ one_zero s) × (n ≡ decimal_value s)
IsPending (at_base width) s = (size : List ℕ) × (s ≡ size ++ 39 ∷ []) × AreDigits size × (width ≡ decimal_value size)
IsPending (at_digits width base) s = (size : List ℕ) × (s ≡ size ++ 39 ∷ letter base ∷ []) × AreDigits size × (width ≡ decimal_value size)
IsPending (in_constant width base value) s = IsConstantIn base width value s
IsPending in_line_comment s = (content : List ℕ) × (s ≡ 47 ∷ 47 ∷ content) × AllByRecursion (λ b. b ≢ 10) content
IsPending in_block_comment s = (content : List ℕ) × (s ≡ 47 ∷ 42 ∷ content) × HasNoEnd content × EndsInNoStar content
IsPending in_block_star s = (content : List ℕ) × (s ≡ 47 ∷ 42 ∷ (content ++ 42 ∷ [])) × HasNoEnd content

-- the rest of a text is read so, whatever is pending
abbrev Reads : List ℕ → Type 0
Reads bs = (p : Pending) (s : List ℕ) (ts : List VToken) → IsPending p s → tokens_from p bs ≡ Some ts → HasPlainTokens (s ++ bs) ts

-- where nothing is
abbrev Begins : List ℕ → Type 0
Begins bs = (ts : List VToken) → tokens bs ≡ Some ts → HasPlainTokens bs ts

abbrev rest_of : List ℕ → Pending → Option (List VToken)
rest_of bs next = tokens_from next bs

-- ---- what a step leaves

by_test : {G : Type 0} (c : Bool) (x y : TokenStep) (rest : Pending → Option (List VToken)) (ts : List VToken) → go_on (if c then x else y) rest ≡ Some ts
    → (c ≡ true → go_on x rest ≡ Some ts → G) → (c ≡ false → go_on y rest ≡ Some ts → G) → G
by_test true x y rest ts e yes_then no_then = yes_then refl e
by_test false x y rest ts e yes_then no_then = no_then refl e

none_closed : (o : Option (List VToken)) (ts : List VToken) → option_map (λ r. [] ++ r) o ≡ Some ts → o ≡ Some ts
none_closed None ts e = absurd cc
none_closed (Some r) ts e = e

some_closed : (us : List VToken) (o : Option (List VToken)) (ts : List VToken) → option_map (λ r. us ++ r) o ≡ Some ts
    → (rest : List VToken) × (o ≡ Some rest) × (ts ≡ us ++ rest)
some_closed us None ts e = absurd cc
some_closed us (Some r) ts e = (r, refl, cc)

one_closed : (t : VToken) (us : List VToken) (o : Option (List VToken)) (ts : List VToken) → option_map (λ r. (t ∷ us) ++ r) o ≡ Some ts
    → (rest : List VToken) × (option_map (λ r. us ++ r) o ≡ Some rest) × (ts ≡ t ∷ rest)
one_closed t us None ts e = absurd cc
one_closed t us (Some r) ts e = (us ++ r, refl, cc)

closed_before : (t : VToken) (s : TokenStep) (rest : Pending → Option (List VToken)) (ts : List VToken) → go_on (option_map (λ p. (t ∷ p.0, p.1)) s) rest ≡ Some ts
    → (more : List VToken) × (go_on s rest ≡ Some more) × (ts ≡ t ∷ more)
closed_before t None rest ts e = absurd cc
closed_before t (Some s) rest ts e = one_closed t s.0 (rest s.1) ts e

-- a byte more of what is pending
further : (next : Pending) (s : List ℕ) (b : ℕ) (bs : List ℕ) (ts : List VToken) → Reads bs → IsPending next (s ++ b ∷ [])
    → go_on (Some ([], next)) (rest_of bs) ≡ Some ts
    → HasPlainTokens (s ++ b ∷ bs) ts
further next s b bs ts ih is e =
    subst (λ x. HasPlainTokens x ts) (append_assoc s (b ∷ []) bs) (ih next (s ++ b ∷ []) ts is (none_closed (tokens_from next bs) ts e))

-- the last byte of a piece
ended : (p : VPiece) (s : List ℕ) (b : ℕ) (bs : List ℕ) (ts : List VToken) → Reads bs → bytes_of_piece p ≡ s ++ b ∷ [] → IsVPiece p bs
    → go_on (Some (plain_tokens p, between)) (rest_of bs) ≡ Some ts
    → HasPlainTokens (s ++ b ∷ bs) ts
ended p s b bs ts ih same is e =
    let o = some_closed (plain_tokens p) (tokens bs) ts e in
    let first = piece_first p bs o.0 is (ih between [] o.0 refl o.1) in
    subst (λ x. HasPlainTokens x ts) (ap (λ x. x ++ bs) same ∙ append_assoc s (b ∷ []) bs) (subst (HasPlainTokens (bytes_of_piece p ++ bs)) (sym o.2) first)

-- a byte behind a token
closed : (t : VToken) (s : List ℕ) (b : ℕ) (bs : List ℕ) (ts : List VToken) → Begins (b ∷ bs) → IsVPiece (spelled t s) (b ∷ bs)
    → go_on (close_and_begin t b) (rest_of bs) ≡ Some ts
    → HasPlainTokens (s ++ b ∷ bs) ts
unfolding tokens_from
closed t s b bs ts begins is e =
    let o = closed_before t (begin b) (rest_of bs) ts e in
    subst (HasPlainTokens (s ++ b ∷ bs)) (sym o.2) (piece_first (spelled t s) (b ∷ bs) o.0 is (begins o.0 o.1))

-- ---- where nothing is pending

pub is_byte : (a c : ℕ) → nat_eq a c ≡ true → a ≡ c
is_byte a c h = grind (arith, nat_tests)

either : (a b : Bool) → (a || b) ≡ true → (a ≡ true) ⊎ (b ≡ true)
either true b h = inl refl
either false b h = inr h

any_in : (xs : List ℕ) (b : ℕ) → list_any (λ c. nat_eq b c) xs ≡ true → In xs b
any_in [] b h = absurd cc
any_in (x ∷ xs) b h = elim (either (nat_eq b x) (list_any (λ c. nat_eq b c) xs) h) [ inl e ↦ inl (sym (is_byte b x e)) | inr e ↦ inr (any_in xs b e) ]

double_starts : (a b : ℕ) → is_start a ≡ false → is_double a b ≡ false
double_starts a b h = grind (arith, nat_tests)

no_double : (a : ℕ) (bs : List ℕ) → is_start a ≡ false → NotNext (is_double a) bs
no_double a [] h = tt
no_double a (b ∷ bs) h = double_starts a b h

start_other : (a : ℕ) → is_start a ≡ false → a ≢ 47
start_other a h e = let k : is_start 47 ≡ false = subst (λ x. is_start x ≡ false) e h in cc

digit_first : (b : ℕ) → is_digit b ≡ true → IsPending (in_number (nat_eq b 48) (b - 48)) (b ∷ [])
digit_first b h = (((λ e. cc), (h, tt)), refl, omega arith)

begins : (b : ℕ) (bs : List ℕ) → Reads bs → Begins (b ∷ bs)
unfolding tokens_from
begins b bs ih ts e =
    by_test (is_word_start b) _ _ (rest_of bs) ts e (λ h f. further (in_word (b ∷ [])) [] b bs ts ih (refl, rw h refl) f)
    (λ h f. by_test (is_digit b) _ _ (rest_of bs) ts f (λ h f. further (in_number (nat_eq b 48) (b - 48)) [] b bs ts ih (digit_first b h) f)
    (λ h f. by_test (is_start b) _ _ (rest_of bs) ts f (λ h f. further (in_sign b) [] b bs ts ih (refl, h) f)
    (λ start f. by_test (is_sign b) _ _ (rest_of bs) ts f
    (λ h f. ended (spelled (sign b) (b ∷ [])) [] b bs ts ih refl
    (lone_piece b bs (any_in lone_signs b h) (no_double b bs start) (no_comment b bs (start_other b start))) f)
    (λ h f. by_test (is_blank b) _ _ (rest_of bs) ts f (λ h f. ended (blank b) [] b bs ts ih refl (any_in white_space b (blank_is b h)) f)
    (λ h f. by_test (nat_eq b 36) _ _ (rest_of bs) ts f (λ h f. further (in_signed 1) [] b bs ts ih (ap (λ x. x ∷ []) (dollar b h), omega arith) f) (λ h f. absurd cc))))))
  where
    blank_is : (b : ℕ) → is_blank b ≡ true → list_any (λ c. nat_eq b c) white_space ≡ true
    blank_is b h = grind (arith, nat_tests)

    dollar : (b : ℕ) → nat_eq b 36 ≡ true → b ≡ 36
    dollar b h = grind (arith, nat_tests)

-- ---- words and signs

pub word_more : (w : List ℕ) (b : ℕ) → IsTrue (is_word w) → is_word_byte b ≡ true → IsTrue (is_word (w ++ b ∷ []))
word_more [] b h k = absurd cc
word_more (c ∷ cs) b h k =
    let p = and_parts (is_word_start c) (list_all is_word_byte cs) h in
    rw (p.0, list_all-append is_word_byte cs (b ∷ []), p.1, k) refl

in_a_word : (w : List ℕ) (b : ℕ) (bs : List ℕ) (ts : List VToken) → Reads bs → Begins (b ∷ bs) → IsTrue (is_word w)
    → go_on (step (in_word w) b) (rest_of bs) ≡ Some ts
    → HasPlainTokens (w ++ b ∷ bs) ts
in_a_word w b bs ts ih begin_here is e =
    by_test (is_word_byte b) _ _ (rest_of bs) ts e (λ h f. further (in_word (w ++ b ∷ [])) w b bs ts ih (refl, word_more w b is h) f)
    (λ h f. closed (word w) w b bs ts begin_here (word_piece w (b ∷ bs) is h) f)

same_double : (a b : ℕ) (d : ℕ × ℕ) → (nat_eq a d.0 && nat_eq b d.1) ≡ true → d ≡ (a, b)
same_double a b (c, d) h =
    let p = and_parts (nat_eq a c) (nat_eq b d) h in
    let first = is_byte a c p.0 in
    let second = is_byte b d p.1 in
    cc

found_in : (a b : ℕ) (ds : List (ℕ × ℕ)) → list_any (λ d. nat_eq a d.0 && nat_eq b d.1) ds ≡ true → In ds (a, b)
found_in a b [] h = absurd cc
found_in a b (d ∷ ds) h =
    elim (either (nat_eq a d.0 && nat_eq b d.1) (list_any (λ d. nat_eq a d.0 && nat_eq b d.1) ds) h) [
      | inl e ↦ inl (same_double a b d e)
      | inr e ↦ inr (found_in a b ds e)
    ]

pub double_in : (a b : ℕ) → is_double a b ≡ true → In doubles (a, b)
double_in a b h = found_in a b doubles h

two_bytes : (a b c d : ℕ) → (nat_eq a c && nat_eq b d) ≡ true → a ∷ b ∷ [] ≡ c ∷ d ∷ []
two_bytes a b c d h =
    let p = and_parts (nat_eq a c) (nat_eq b d) h in
    let first = is_byte a c p.0 in
    let second = is_byte b d p.1 in
    cc

no_comment_here : (a b : ℕ) (bs : List ℕ) → (nat_eq a 47 && nat_eq b 47) ≡ false → (nat_eq a 47 && nat_eq b 42) ≡ false → BeginsNoComment (a ∷ b ∷ bs)
no_comment_here a b bs line block = (
  (λ h. let first : a ≡ 47 = cc in let second : b ≡ 47 = cc in absurd (grind (arith, nat_tests))),
  (λ h. let first : a ≡ 47 = cc in let second : b ≡ 42 = cc in absurd (grind (arith, nat_tests))),
)

nothing_ends : HasNoEnd []
nothing_ends [] back e = cc
nothing_ends (f ∷ fs) back e = cc

no_star_in_none : EndsInNoStar []
no_star_in_none [] e = cc
no_star_in_none (f ∷ fs) e = cc

in_a_sign : (a b : ℕ) (bs : List ℕ) (ts : List VToken) → Reads bs → Begins (b ∷ bs) → go_on (with_second a b) (rest_of bs) ≡ Some ts
    → HasPlainTokens (a ∷ b ∷ bs) ts
in_a_sign a b bs ts ih begin_here e =
    by_test (nat_eq a 62 && nat_eq b 62) _ _ (rest_of bs) ts e (λ h f. further in_shift (a ∷ []) b bs ts ih (two_bytes a b 62 62 h) f)
    (λ whole f. by_test (is_double a b) _ _ (rest_of bs) ts f
    (λ h f. ended (spelled (double a b) (a ∷ b ∷ [])) (a ∷ []) b bs ts ih refl (double_piece a b bs (double_in a b h) whole) f)
    (λ no_double f. by_test (nat_eq a 47 && nat_eq b 47) _ _ (rest_of bs) ts f
    (λ h f. further in_line_comment (a ∷ []) b bs ts ih ([], two_bytes a b 47 47 h, tt) f)
    (λ line f. by_test (nat_eq a 47 && nat_eq b 42) _ _ (rest_of bs) ts f
    (λ h f. further in_block_comment (a ∷ []) b bs ts ih ([], two_bytes a b 47 42 h, nothing_ends, no_star_in_none) f)
    (λ block f. by_test (is_sign a) _ _ (rest_of bs) ts f
    (λ h f. closed (sign a) (a ∷ []) b bs ts begin_here
    (lone_piece a (b ∷ bs) (any_in lone_signs a h) no_double (no_comment_here a b bs line block)) f)
    (λ h f. absurd cc)))))

in_a_shift : (b : ℕ) (bs : List ℕ) (ts : List VToken) → Reads bs → Begins (b ∷ bs) → go_on (step in_shift b) (rest_of bs) ≡ Some ts
    → HasPlainTokens (62 ∷ 62 ∷ b ∷ bs) ts
in_a_shift b bs ts ih begin_here e =
    by_test (nat_eq b 62) _ _ (rest_of bs) ts e
    (λ h f. ended (spelled signed_shift (codes ">>>")) (62 ∷ 62 ∷ []) b bs ts ih (ap (λ x. 62 ∷ 62 ∷ x ∷ []) (sym (is_byte b 62 h))) (signed_shift_piece bs) f)
    (λ h f. closed (double 62 62) (62 ∷ 62 ∷ []) b bs ts begin_here (shift_piece (b ∷ bs) h) f)

one_more : (k b : ℕ) → k < 7 → b ≡ slice_index signed_bytes k → take k signed_bytes ++ b ∷ [] ≡ take (k + 1) signed_bytes
one_more k b h e =
    let one : k + 1 ≡ suc k = omega arith in
    ap (λ x. take k signed_bytes ++ x ∷ []) e ∙ sym (take-suc signed_bytes k 0 h) ∙ ap (λ n. take n signed_bytes) (sym one)

in_signed_bytes : (k b : ℕ) (bs : List ℕ) (ts : List VToken) → Reads bs → k < 7 → go_on (with_signed k b) (rest_of bs) ≡ Some ts
    → HasPlainTokens (take k signed_bytes ++ b ∷ bs) ts
in_signed_bytes k b bs ts ih below e =
    by_test (nat_eq b (slice_index signed_bytes k)) _ _ (rest_of bs) ts e
    (λ h f. by_test (nat_eq (k + 1) (length signed_bytes)) _ _ (rest_of bs) ts f
    (λ last_one f. ended (spelled signed_word (codes "$signed")) (take k signed_bytes) b bs ts ih
    (sym (one_more k b below (is_byte b (slice_index signed_bytes k) h) ∙ ap (λ n. take n signed_bytes) (is_byte (k + 1) 7 last_one))) (signed_word_piece bs) f)
    (λ more f. further (in_signed (k + 1)) (take k signed_bytes) b bs ts ih
    (one_more k b below (is_byte b (slice_index signed_bytes k) h), still k below more) f))
    (λ h f. absurd cc)
  where
    still : (k : ℕ) → k < 7 → nat_eq (k + 1) 7 ≡ false → k + 1 < 7
    still k below more = grind (arith, nat_tests)

-- ---- numbers

not_empty : (s : List ℕ) (b : ℕ) → s ++ b ∷ [] ≢ []
not_empty [] b e = cc
not_empty (c ∷ s) b e = cc

pub digits_more : (s : List ℕ) (b : ℕ) → AreDigits s → is_digit b ≡ true → AreDigits (s ++ b ∷ [])
digits_more s b h k = (not_empty s b, all_joined (λ b. IsTrue (is_digit b)) s (b ∷ []) h.1 (k, tt))

pub no_zero_more : (s : List ℕ) (b : ℕ) → AreDigits s → false ≡ one_zero (s ++ b ∷ [])
no_zero_more [] b h = absurd (h.0 refl)
no_zero_more (c ∷ []) b h = refl
no_zero_more (c ∷ d ∷ s) b h = refl

in_a_number : (z : Bool) (s : List ℕ) (b : ℕ) (bs : List ℕ) (ts : List VToken) → Reads bs → Begins (b ∷ bs) → AreDigits s → z ≡ one_zero s
    → go_on (step (in_number z (decimal_value s)) b) (rest_of bs) ≡ Some ts
    → HasPlainTokens (s ++ b ∷ bs) ts
in_a_number z s b bs ts ih begin_here is zero_is e =
    by_test (is_digit b) _ _ (rest_of bs) ts e
    (λ h f. further (in_number false (10 * decimal_value s + (b - 48))) s b bs ts ih
    (digits_more s b is h, no_zero_more s b is, sym (fold-append (λ n d. 10 * n + (d - 48)) 0 s (b ∷ []))) f)
    (λ no_digit f. by_test (nat_eq b 39) _ _ (rest_of bs) ts f
    (λ h f. further (at_base (decimal_value s)) s b bs ts ih (s, ap (λ x. s ++ x ∷ []) (is_byte b 39 h), is, refl) f)
    (λ no_quote f. closed (number_token z (decimal_value s)) s b bs ts begin_here (number_piece z s (b ∷ bs) is zero_is (rw (no_digit, no_quote) refl)) f))

-- ---- constants

is_letter_of : (b : ℕ) (base : Base) → base_of b ≡ Some base → b ≡ letter base
is_letter_of b base e = by_letter (nat_eq b 104) refl
  where
    last_letter : (l : Bool) → nat_eq b 98 ≡ l → nat_eq b 104 ≡ false → nat_eq b 100 ≡ false → b ≡ letter base
    last_letter true h p q =
        let k : Some binary ≡ Some base = rw (p, q, h) at e in
        let same : binary ≡ base = cc in
        is_byte b 98 h ∙ ap letter same
    last_letter false h p q = let k : None ≡ Some base = rw (p, q, h) at e in absurd cc

    by_second : (l : Bool) → nat_eq b 100 ≡ l → nat_eq b 104 ≡ false → b ≡ letter base
    by_second true h p =
        let k : Some decimal ≡ Some base = rw (p, h) at e in
        let same : decimal ≡ base = cc in
        is_byte b 100 h ∙ ap letter same
    by_second false h p = last_letter (nat_eq b 98) refl p h

    by_letter : (l : Bool) → nat_eq b 104 ≡ l → b ≡ letter base
    by_letter true h =
        let k : Some hexadecimal ≡ Some base = rw h at e in
        let same : hexadecimal ≡ base = cc in
        is_byte b 104 h ∙ ap letter same
    by_letter false h = by_second (nat_eq b 100) refl h

at_a_base : (size : List ℕ) (b : ℕ) (bs : List ℕ) (ts : List VToken) (base : Option Base) → base_of b ≡ base → Reads bs → AreDigits size
    → go_on (with_base (decimal_value size) base) (rest_of bs) ≡ Some ts
    → HasPlainTokens ((size ++ 39 ∷ []) ++ b ∷ bs) ts
at_a_base size b bs ts None h ih is e = absurd cc
at_a_base size b bs ts (Some base) h ih is e =
    further (at_digits (decimal_value size) base) (size ++ 39 ∷ []) b bs ts ih
    (size, append_assoc size (39 ∷ []) (b ∷ []) ∙ ap (λ x. size ++ 39 ∷ x ∷ []) (is_letter_of b base h), is, refl) e

-- a digit has its number, which is below the radix
digit_below_is : (limit : ℕ) (o : Option ℕ) (d : ℕ) → digit_below limit o ≡ Some d → (o ≡ Some d) × (d < limit)
digit_below_is limit None d e = absurd cc
digit_below_is limit (Some n) d e = by_size (nat_lt n limit) refl
  where
    by_size : (t : Bool) → nat_lt n limit ≡ t → (Some n ≡ Some d) × (d < limit)
    by_size true h =
        let k : Some n ≡ Some d = rw h at e in
        let same : n ≡ d = cc in
        (k, grind (arith, nat_tests))
    by_size false h = let k : None ≡ Some d = rw h at e in absurd cc

first_digit : (size : List ℕ) (base : Base) (b d : ℕ) (s : List ℕ) → AreDigits size → digit_in base b ≡ Some d → s ≡ size ++ 39 ∷ letter base ∷ b ∷ []
    → IsConstantIn base (decimal_value size) d s
first_digit size base b d s is e same =
    let digit = digit_below_is (radix base) (digit_value b) d e in (
      record {
        size = size;
        base = base;
        digits = b ∷ [];
        numbers = d ∷ [];
        bytes = same;
        is_size = is;
        width_is = refl;
        some = (λ e. cc);
        are_digits = ap (λ x. x ∷ []) digit.0;
        below = (digit.1, tt);
        value_is = omega arith;
      },
      refl,
    )

at_the_digits : (size : List ℕ) (base : Base) (b : ℕ) (bs : List ℕ) (ts : List VToken) (d : Option ℕ) → digit_in base b ≡ d → Reads bs → AreDigits size
    → go_on (with_digit (decimal_value size) base d) (rest_of bs) ≡ Some ts
    → HasPlainTokens ((size ++ 39 ∷ letter base ∷ []) ++ b ∷ bs) ts
at_the_digits size base b bs ts None h ih is e = absurd cc
at_the_digits size base b bs ts (Some d) h ih is e =
    let grouped = append_assoc size (39 ∷ letter base ∷ []) (b ∷ []) in
    further (in_constant (decimal_value size) base d) (size ++ 39 ∷ letter base ∷ []) b bs ts ih
    (first_digit size base b d ((size ++ 39 ∷ letter base ∷ []) ++ b ∷ []) is h grouped) e

pub next_digit : (width value : ℕ) (s : List ℕ) (b d : ℕ) (c : IsConstant width value s) → digit_in c.base b ≡ Some d
    → IsConstantIn c.base width (radix c.base * value + d) (s ++ b ∷ [])
next_digit width value s b d c e =
    let digit = digit_below_is (radix c.base) (digit_value b) d e in
    let mapped = map-append digit_value c.digits (b ∷ []) ∙ ap (λ x. x ++ digit_value b ∷ []) c.are_digits
    ∙ ap (λ x. map Some c.numbers ++ x ∷ []) digit.0 ∙ sym (map-append Some c.numbers (d ∷ [])) in
    let valued = fold-append (λ n d. radix c.base * n + d) 0 c.numbers (d ∷ []) in (
      record {
        size = c.size;
        base = c.base;
        digits = c.digits ++ b ∷ [];
        numbers = c.numbers ++ d ∷ [];
        bytes = ap (λ x. x ++ b ∷ []) c.bytes ∙ append_assoc c.size (39 ∷ letter c.base ∷ c.digits) (b ∷ []);
        is_size = c.is_size;
        width_is = c.width_is;
        some = not_empty c.digits b;
        are_digits = mapped;
        below = all_joined (λ d. d < radix c.base) c.numbers (d ∷ []) c.below (digit.1, tt);
        value_is = ap (λ n. radix c.base * n + d) c.value_is ∙ sym valued;
      },
      refl,
    )

no_digit_of : (base : Base) (b : ℕ) → digit_in base b ≡ None → in_base base b ≡ false
no_digit_of base b h = rw h refl

in_a_constant : (width value : ℕ) (s : List ℕ) (c : IsConstant width value s) (b : ℕ) (bs : List ℕ) (ts : List VToken) (d : Option ℕ) → digit_in c.base b ≡ d
    → Reads bs → Begins (b ∷ bs)
    → go_on (with_next width c.base value d b) (rest_of bs) ≡ Some ts
    → HasPlainTokens (s ++ b ∷ bs) ts
in_a_constant width value s c b bs ts (Some d) h ih begin_here e =
    further (in_constant width c.base (radix c.base * value + d)) s b bs ts ih (next_digit width value s b d c h) e
in_a_constant width value s c b bs ts None h ih begin_here e =
    by_test (nat_eq b 63) _ _ (rest_of bs) ts e
    (λ q f. ended (questioned width value s) s b bs ts ih (ap (λ x. s ++ x ∷ []) (sym (is_byte b 63 q))) c f)
    (λ q f. closed (constant width value) s b bs ts begin_here (constant_piece width value s (b ∷ bs) c (no_digit_of c.base b h) q) f)

-- ---- comments

line_more : (content : List ℕ) (b : ℕ) (bs : List ℕ) (ts : List VToken) → Reads bs → Begins (b ∷ bs) → AllByRecursion (λ b. b ≢ 10) content
    → go_on (step in_line_comment b) (rest_of bs) ≡ Some ts
    → HasPlainTokens ((47 ∷ 47 ∷ content) ++ b ∷ bs) ts
unfolding tokens_from
line_more content b bs ts ih begin_here is e = by_end (nat_eq b 10) refl
  where
    other : (b : ℕ) → nat_eq b 10 ≡ false → b ≢ 10
    other b h k = grind (arith, nat_tests)

    by_end : (t : Bool) → nat_eq b 10 ≡ t → HasPlainTokens ((47 ∷ 47 ∷ content) ++ b ∷ bs) ts
    by_end false h =
        let f : go_on (Some ([], in_line_comment)) (rest_of bs) ≡ Some ts = rw h at e in
        further in_line_comment (47 ∷ 47 ∷ content) b bs ts ih (content ++ b ∷ [], refl, all_joined (λ b. b ≢ 10) content (b ∷ []) is (other b h, tt)) f
    by_end true h =
        let f : go_on (Some ([], between)) (rest_of bs) ≡ Some ts = rw h at e in
        let newline = is_byte b 10 h in
        let next : tokens (b ∷ bs) ≡ Some ts = rw newline f in
        piece_first (line_comment content) (b ∷ bs) ts (is, inr (bs, ap (λ x. x ∷ bs) newline)) (begin_here ts next)

-- where `*/` stands in bytes with one more
abbrev EndsSplit : List ℕ → List ℕ → List ℕ → ℕ → Type 0
EndsSplit xs front back b = ((xs ≡ front ++ 42 ∷ []) × (b ≡ 47)) ⊎ ((less : List ℕ) × (xs ≡ front ++ 42 ∷ 47 ∷ less))

ends_split : (xs front back : List ℕ) (b : ℕ) → xs ++ b ∷ [] ≡ front ++ 42 ∷ 47 ∷ back → EndsSplit xs front back b
ends_split [] [] back b e = absurd cc
ends_split [] (f ∷ []) back b e = absurd cc
ends_split [] (f ∷ g ∷ fs) back b e = absurd cc
ends_split (x ∷ []) [] back b e = inl (cc, cc)
ends_split (x ∷ y ∷ ys) [] back b e = inr (ys, cc)
ends_split (x ∷ xs) (f ∷ fs) back b e =
    let first : x ≡ f = cc in
    let rest : xs ++ b ∷ [] ≡ fs ++ 42 ∷ 47 ∷ back = cc in
    elim (ends_split xs fs back b rest) [ inl p ↦ inl (let more : xs ≡ fs ++ 42 ∷ [] = p.0 in cc, p.1) | inr p ↦ inr (p.0, let more : xs ≡ fs ++ 42 ∷ 47 ∷ p.0 = p.1 in cc) ]

same_last : (xs ys : List ℕ) (b c : ℕ) → xs ++ b ∷ [] ≡ ys ++ c ∷ [] → b ≡ c
same_last [] [] b c e = cc
same_last [] (y ∷ []) b c e = absurd cc
same_last [] (y ∷ z ∷ ys) b c e = absurd cc
same_last (x ∷ []) [] b c e = absurd cc
same_last (x ∷ z ∷ xs) [] b c e = absurd cc
same_last (x ∷ xs) (y ∷ ys) b c e = let rest : xs ++ b ∷ [] ≡ ys ++ c ∷ [] = cc in same_last xs ys b c rest

no_end_more : (content : List ℕ) (b : ℕ) → HasNoEnd content → (b ≡ 47 → EndsInNoStar content) → HasNoEnd (content ++ b ∷ [])
no_end_more content b none quiet front back e =
    elim (ends_split content front back b e) [ inl p ↦ quiet p.1 front p.0 | inr p ↦ none front p.0 p.1 ]

other_last : (content : List ℕ) (b : ℕ) → nat_eq b 42 ≡ false → EndsInNoStar (content ++ b ∷ [])
other_last content b h front e =
    let same = same_last content front b 42 e in
    absurd (grind (arith, nat_tests))

block_more : (content : List ℕ) (b : ℕ) (bs : List ℕ) (ts : List VToken) → Reads bs → HasNoEnd content → EndsInNoStar content
    → go_on (step in_block_comment b) (rest_of bs) ≡ Some ts
    → HasPlainTokens ((47 ∷ 42 ∷ content) ++ b ∷ bs) ts
block_more content b bs ts ih none quiet e = by_star (nat_eq b 42) refl
  where
    by_star : (t : Bool) → nat_eq b 42 ≡ t → HasPlainTokens ((47 ∷ 42 ∷ content) ++ b ∷ bs) ts
    by_star true h =
        let f : go_on (Some ([], in_block_star)) (rest_of bs) ≡ Some ts = rw h at e in
        further in_block_star (47 ∷ 42 ∷ content) b bs ts ih (content, ap (λ x. 47 ∷ 42 ∷ (content ++ x ∷ [])) (is_byte b 42 h), none) f
    by_star false h =
        let f : go_on (Some ([], in_block_comment)) (rest_of bs) ≡ Some ts = rw h at e in
        further in_block_comment (47 ∷ 42 ∷ content) b bs ts ih
        (content ++ b ∷ [], refl, no_end_more content b none (λ k. quiet), other_last content b h) f

star_is_no_slash : (b : ℕ) → b ≡ 42 → b ≡ 47 → ⊥
star_is_no_slash b star slash = omega arith

star_more : (content : List ℕ) (b : ℕ) (bs : List ℕ) (ts : List VToken) → Reads bs → HasNoEnd content
    → go_on (step in_block_star b) (rest_of bs) ≡ Some ts
    → HasPlainTokens ((47 ∷ 42 ∷ (content ++ 42 ∷ [])) ++ b ∷ bs) ts
star_more content b bs ts ih none e = by_slash (nat_eq b 47) refl
  where
    starred : HasNoEnd (content ++ 42 ∷ [])
    starred = no_end_more content 42 none (λ k. absurd (star_is_no_slash 42 refl k))

    not_slash : (b : ℕ) → nat_eq b 47 ≡ false → b ≡ 47 → ⊥
    not_slash b h k = grind (arith, nat_tests)

    by_star : (t : Bool) → nat_eq b 42 ≡ t → nat_eq b 47 ≡ false → HasPlainTokens ((47 ∷ 42 ∷ (content ++ 42 ∷ [])) ++ b ∷ bs) ts
    by_star true h k =
        let f : go_on (Some ([], in_block_star)) (rest_of bs) ≡ Some ts = rw (k, h) at e in
        further in_block_star (47 ∷ 42 ∷ (content ++ 42 ∷ [])) b bs ts ih
        (content ++ 42 ∷ [], ap (λ x. 47 ∷ 42 ∷ ((content ++ 42 ∷ []) ++ x ∷ [])) (is_byte b 42 h), starred) f
    by_star false h k =
        let f : go_on (Some ([], in_block_comment)) (rest_of bs) ≡ Some ts = rw (k, h) at e in
        further in_block_comment (47 ∷ 42 ∷ (content ++ 42 ∷ [])) b bs ts ih
        ((content ++ 42 ∷ []) ++ b ∷ [], refl, no_end_more (content ++ 42 ∷ []) b starred (λ s. absurd (not_slash b k s)), other_last (content ++ 42 ∷ []) b h) f

    by_slash : (t : Bool) → nat_eq b 47 ≡ t → HasPlainTokens ((47 ∷ 42 ∷ (content ++ 42 ∷ [])) ++ b ∷ bs) ts
    by_slash true h =
        let f : go_on (Some ([], between)) (rest_of bs) ≡ Some ts = rw h at e in
        let same : bytes_of_piece (block_comment content) ≡ (47 ∷ 42 ∷ (content ++ 42 ∷ [])) ++ b ∷ [] =
        rw (is_byte b 47 h) (ap (λ x. 47 ∷ 42 ∷ x) (sym (append_assoc content (42 ∷ []) (47 ∷ [])))) in
        ended (block_comment content) (47 ∷ 42 ∷ (content ++ 42 ∷ [])) b bs ts ih same none f
    by_slash false h = by_star (nat_eq b 42) refl h

-- ---- the end of a text

last_token : (t : VToken) (s : List ℕ) (ts : List VToken) → IsVPiece (spelled t s) [] → Some (t ∷ []) ≡ Some ts → HasPlainTokens (s ++ []) ts
last_token t s ts is e =
    let same : ts ≡ t ∷ [] = cc in
    subst (HasPlainTokens (s ++ [])) (sym same) (piece_first (spelled t s) [] [] is no_pieces)

at_end : (p : Pending) (s : List ℕ) (ts : List VToken) → IsPending p s → last p ≡ Some ts → HasPlainTokens (s ++ []) ts
at_end between s ts is e = let same : ts ≡ [] = cc in rw (is, same) no_pieces
at_end (in_word w) s ts is e = subst (λ x. HasPlainTokens (x ++ []) ts) (sym is.0) (last_token (word w) w ts (word_piece w [] is.1 tt) e)
at_end (in_sign a) s ts is e = subst (λ x. HasPlainTokens (x ++ []) ts) (sym is.0) (by_sign (is_sign a) refl)
  where
    only : (a : ℕ) → BeginsNoComment (a ∷ [])
    only a = ((λ h. absurd cc), (λ h. absurd cc))

    by_sign : (t : Bool) → is_sign a ≡ t → HasPlainTokens (a ∷ []) ts
    by_sign true h =
        let f : Some (sign a ∷ []) ≡ Some ts = rw h at e in
        last_token (sign a) (a ∷ []) ts (lone_piece a [] (any_in lone_signs a h) tt (only a)) f
    by_sign false h = let f : None ≡ Some ts = rw h at e in absurd cc
at_end in_shift s ts is e = subst (λ x. HasPlainTokens (x ++ []) ts) (sym is) (last_token (double 62 62) (62 ∷ 62 ∷ []) ts (shift_piece [] tt) e)
at_end (in_signed k) s ts is e = absurd cc
at_end (in_number z n) s ts is e =
    let f : Some (number_token z (decimal_value s) ∷ []) ≡ Some ts = subst (λ n. Some (number_token z n ∷ []) ≡ Some ts) is.2 e in
    last_token (number_token z (decimal_value s)) s ts (number_piece z s [] is.0 is.1 tt) f
at_end (at_base width) s ts is e = absurd cc
at_end (at_digits width base) s ts is e = absurd cc
at_end (in_constant width base value) s ts is e = last_token (constant width value) s ts (constant_piece width value s [] is.0 tt tt) e
at_end in_line_comment s ts is e =
    let same : ts ≡ [] = cc in
    subst (λ x. HasPlainTokens (x ++ []) ts) (sym is.1) (subst (HasPlainTokens ((47 ∷ 47 ∷ is.0) ++ [])) (sym same) (piece_first (line_comment is.0) [] [] (is.2, inl refl) no_pieces))
at_end in_block_comment s ts is e = absurd cc
at_end in_block_star s ts is e = absurd cc

-- ---- all together

one_byte : (p : Pending) (s : List ℕ) (b : ℕ) (bs : List ℕ) (ts : List VToken) → Reads bs → Begins (b ∷ bs) → IsPending p s
    → go_on (step p b) (rest_of bs) ≡ Some ts → HasPlainTokens (s ++ b ∷ bs) ts
unfolding tokens_from
one_byte between s b bs ts ih begin_here is e = subst (λ x. HasPlainTokens (x ++ b ∷ bs) ts) (sym is) (begin_here ts e)
one_byte (in_word w) s b bs ts ih begin_here is e =
    subst (λ x. HasPlainTokens (x ++ b ∷ bs) ts) (sym is.0) (in_a_word w b bs ts ih begin_here is.1 e)
one_byte (in_sign a) s b bs ts ih begin_here is e = subst (λ x. HasPlainTokens (x ++ b ∷ bs) ts) (sym is.0) (in_a_sign a b bs ts ih begin_here e)
one_byte in_shift s b bs ts ih begin_here is e = subst (λ x. HasPlainTokens (x ++ b ∷ bs) ts) (sym is) (in_a_shift b bs ts ih begin_here e)
one_byte (in_signed k) s b bs ts ih begin_here is e =
    subst (λ x. HasPlainTokens (x ++ b ∷ bs) ts) (sym is.0) (in_signed_bytes k b bs ts ih is.1 e)
one_byte (in_number z n) s b bs ts ih begin_here is e =
    in_a_number z s b bs ts ih begin_here is.0 is.1 (subst (λ n. go_on (step (in_number z n) b) (rest_of bs) ≡ Some ts) is.2 e)
one_byte (at_base width) s b bs ts ih begin_here is e =
    subst (λ x. HasPlainTokens (x ++ b ∷ bs) ts) (sym is.1)
    (at_a_base is.0 b bs ts (base_of b) refl ih is.2 (subst (λ n. go_on (step (at_base n) b) (rest_of bs) ≡ Some ts) is.3 e))
one_byte (at_digits width base) s b bs ts ih begin_here is e =
    subst (λ x. HasPlainTokens (x ++ b ∷ bs) ts) (sym is.1)
    (at_the_digits is.0 base b bs ts (digit_in base b) refl ih is.2 (subst (λ n. go_on (step (at_digits n base) b) (rest_of bs) ≡ Some ts) is.3 e))
one_byte (in_constant width base value) s b bs ts ih begin_here is e =
    in_a_constant width value s is.0 b bs ts (digit_in is.0.base b) refl ih begin_here
    (subst (λ r. go_on (step (in_constant width r value) b) (rest_of bs) ≡ Some ts) (sym is.1) e)
one_byte in_line_comment s b bs ts ih begin_here is e =
    subst (λ x. HasPlainTokens (x ++ b ∷ bs) ts) (sym is.1) (line_more is.0 b bs ts ih begin_here is.2 e)
one_byte in_block_comment s b bs ts ih begin_here is e =
    subst (λ x. HasPlainTokens (x ++ b ∷ bs) ts) (sym is.1) (block_more is.0 b bs ts ih is.2 is.3 e)
one_byte in_block_star s b bs ts ih begin_here is e =
    subst (λ x. HasPlainTokens (x ++ b ∷ bs) ts) (sym is.1) (star_more is.0 b bs ts ih is.2 e)

reads : (bs : List ℕ) → Reads bs
unfolding tokens_from
reads [] p s ts is e = at_end p s ts is e
reads (b ∷ bs) p s ts is e = one_byte p s b bs ts (reads bs) (begins b bs (reads bs)) is e

-- what is read stands there
pub tokens_found : (bytes : List ℕ) (ts : List VToken) → tokens bytes ≡ Some ts → (placed : List PlacedToken) × HasTokens bytes placed × (plain_of placed ≡ ts)
tokens_found bytes ts e = with_places bytes ts (reads bytes between [] ts refl e)
