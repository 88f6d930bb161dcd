-- The tokens that stand among the pieces of a text are read of it byte by byte.
use Rattle.std.proofs.Common.{◌≡◌, ◌≢◌, ℕ, ◌+◌, ◌*◌, ◌-◌, ◌<◌, Bool, true, false, ◌&&◌, List, [], ◌∷◌, ◌++◌, map, codes, Option, Some, None, refl, sym, ap, ◌∙◌, inl, inr, ◌⊎◌, subst, append_assoc, append-nil, length-append, arith}
use Rattle.std.specs.Prelude.{IsTrue, nat_eq, option_map, if◌then◌else◌, fold, flat_map}
use Rattle.std.specs.List.{AllByRecursion, list_all}
use Rattle.std.proofs.lemmas.Bool.{and_parts, or_parts}
use Rattle.std.proofs.lemmas.Bool.Decides.{nat_tests}
use Rattle.fir_base.specs.Lists.{In}
use Rattle.fir_base.specs.Bytes.{is_word_start, is_word_byte, is_digit}
use Rattle.fir_base.specs.Digits.{digit_value, decimal_value}
use Rattle.fir_base.proofs.Each.{all_at}
use Rattle.ver_words.specs.Names.{is_word}
use Rattle.ver_ast.specs.Tokens.{VToken, word, digit_zero, number, constant, sign, double, signed_shift, signed_word, question_digit, Base, binary, decimal, hexadecimal, radix, letter, lone_signs, doubles, AreDigits, IsConstant, IsSpelledAs}
use Rattle.ver_ast.specs.Pieces.{VPiece, blank, line_comment, block_comment, spelled, questioned, bytes_of_piece, PlacedToken, white_space, BeginsWith, HasNoEnd, IsLongestToken, BeginsNoComment, IsVPiece, AreVPieces, HasTokens}
use Rattle.ver_ast.specs.working.TokenSteps.{Pending, between, in_word, in_sign, in_shift, in_number, at_base, at_digits, in_constant, in_line_comment, in_block_comment, in_block_star, TokenStep, is_sign, is_double, is_start, number_token, begin, close_and_begin, digit_in, with_digit, with_next, step, last, go_on, tokens_from, tokens}
use Rattle.ver_ast.proofs.Reach.{NotNext, in_base, digit_is_in, digit_begins_no_word, all_tested, begins_other, sign_begins, not_true}
use Rattle.ver_ast.proofs.TokenPieces.{plain_tokens, plain_of, without_places, one_zero, is_no_zero}
use Rattle.ver_ast.proofs.TokensFound.{word_more, digits_more, no_zero_more, next_digit, double_in, is_byte}

-- ---- behind the longest token nothing goes on with it

too_long : (s : List ℕ) (b : ℕ) (bs : List ℕ) (other : VToken) → IsLongestToken s (b ∷ bs) → IsSpelledAs other (s ++ b ∷ []) → ⊥
too_long s b bs other l is =
    let bound = l other (s ++ b ∷ []) bs is (sym (append_assoc s (b ∷ []) bs)) in
    omega (arith, length-append s (b ∷ []))

word_ends : (w behind : List ℕ) → IsTrue (is_word w) → IsLongestToken w behind → NotNext is_word_byte behind
word_ends w [] h l = tt
word_ends w (b ∷ bs) h l = by_byte (is_word_byte b) refl
  where
    by_byte : (t : Bool) → is_word_byte b ≡ t → is_word_byte b ≡ false
    by_byte true k = absurd (too_long w b bs (word (w ++ b ∷ [])) l (word_more w b h k, refl))
    by_byte false k = k

digits_end : (s behind : List ℕ) → AreDigits s → IsLongestToken s behind → NotNext is_digit behind
digits_end s [] h l = tt
digits_end s (b ∷ bs) h l = by_byte (is_digit b) refl
  where
    by_byte : (t : Bool) → is_digit b ≡ t → is_digit b ≡ false
    by_byte true k =
        absurd (too_long s b bs (number (decimal_value (s ++ b ∷ []))) l
        (digits_more s b h k, is_no_zero (s ++ b ∷ []) (sym (no_zero_more s b h)), refl))
    by_byte false k = k

constant_ends : (width value : ℕ) (s behind : List ℕ) (c : IsConstant width value s) → IsLongestToken s behind → NotNext (λ b. in_base c.base b) behind
constant_ends width value s [] c l = tt
constant_ends width value s (b ∷ bs) c l = by_digit (digit_in c.base b) refl
  where
    by_digit : (d : Option ℕ) → digit_in c.base b ≡ d → in_base c.base b ≡ false
    by_digit (Some d) h = absurd (too_long s b bs (constant width (radix c.base * value + d)) l (next_digit width value s b d c h).0)
    by_digit None h = rw h refl

sign_ends : (a : ℕ) (behind : List ℕ) → IsLongestToken (a ∷ []) behind → NotNext (is_double a) behind
sign_ends a [] l = tt
sign_ends a (b ∷ bs) l = by_byte (is_double a b) refl
  where
    by_byte : (t : Bool) → is_double a b ≡ t → is_double a b ≡ false
    by_byte true k = absurd (too_long (a ∷ []) b bs (double a b) l (double_in a b k, refl))
    by_byte false k = k

shift_ends : (behind : List ℕ) → IsLongestToken (62 ∷ 62 ∷ []) behind → NotNext (λ b. nat_eq b 62) behind
shift_ends [] l = tt
shift_ends (b ∷ bs) l = by_byte (nat_eq b 62) refl
  where
    by_byte : (t : Bool) → nat_eq b 62 ≡ t → nat_eq b 62 ≡ false
    by_byte true k = absurd (too_long (62 ∷ 62 ∷ []) b bs signed_shift l (ap (λ x. 62 ∷ 62 ∷ x ∷ []) (is_byte b 62 k)))
    by_byte false k = k

-- ---- steps

none_before : (o : Option (List VToken)) → option_map (λ ts. [] ++ ts) o ≡ o
none_before None = refl
none_before (Some ts) = refl

-- a step that closes nothing
step_on : (p next : Pending) (b : ℕ) (bs : List ℕ) → step p b ≡ Some ([], next) → tokens_from p (b ∷ bs) ≡ tokens_from next bs
unfolding tokens_from
step_on p next b bs h = ap (λ s. go_on s (λ n. tokens_from n bs)) h ∙ none_before (tokens_from next bs)

-- a step behind which nothing is pending
step_end : (p : Pending) (us : List VToken) (b : ℕ) (bs : List ℕ) (ts : List VToken) → step p b ≡ Some (us, between) → tokens bs ≡ Some ts
    → tokens_from p (b ∷ bs) ≡ Some (us ++ ts)
unfolding tokens_from
step_end p us b bs ts h e = ap (λ s. go_on s (λ n. tokens_from n bs)) h ∙ ap (option_map (λ vs. us ++ vs)) e

one_before : (t : VToken) (us : List VToken) (o : Option (List VToken)) (ts : List VToken) → option_map (λ r. us ++ r) o ≡ Some ts
    → option_map (λ r. (t ∷ us) ++ r) o ≡ Some (t ∷ ts)
one_before t us None ts e = absurd cc
one_before t us (Some r) ts e = cc

closed_before : (t : VToken) (s : TokenStep) (rest : Pending → Option (List VToken)) (ts : List VToken) → go_on s rest ≡ Some ts
    → go_on (option_map (λ p. (t ∷ p.0, p.1)) s) rest ≡ Some (t ∷ ts)
closed_before t None rest ts e = absurd cc
closed_before t (Some s) rest ts e = one_before t s.0 (rest s.1) ts e

-- what stands behind closes the token
abbrev Closes : Pending → VToken → List ℕ → Type 0
Closes p t [] = last p ≡ Some (t ∷ [])
Closes p t (b ∷ bs) = step p b ≡ close_and_begin t b

close : (p : Pending) (t : VToken) (behind : List ℕ) (ts : List VToken) → Closes p t behind → tokens behind ≡ Some ts
    → tokens_from p behind ≡ Some (t ∷ ts)
unfolding tokens_from
close p t [] ts c e = let none : ts ≡ [] = cc in rw none c
close p t (b ∷ bs) ts c e = ap (λ s. go_on s (λ n. tokens_from n bs)) c ∙ closed_before t (begin b) (λ n. tokens_from n bs) ts e

-- ---- words

word_run : (w begun rest : List ℕ) → list_all is_word_byte w ≡ true → tokens_from (in_word begun) (w ++ rest) ≡ tokens_from (in_word (begun ++ w)) rest
word_run [] begun rest h = ap (λ x. tokens_from (in_word x) rest) (sym (append-nil begun))
word_run (b ∷ bs) begun rest h =
    let p = and_parts (is_word_byte b) (list_all is_word_byte bs) h in
    step_on (in_word begun) (in_word (begun ++ b ∷ [])) b (bs ++ rest) (rw p.0 refl)
    ∙ word_run bs (begun ++ b ∷ []) rest p.1
    ∙ ap (λ x. tokens_from (in_word x) rest) (append_assoc begun (b ∷ []) bs)

word_closes : (w behind : List ℕ) → NotNext is_word_byte behind → Closes (in_word w) (word w) behind
word_closes w [] n = refl
word_closes w (b ∷ bs) n = rw n refl

word_taken : (w behind : List ℕ) (ts : List VToken) → IsTrue (is_word w) → IsLongestToken w behind → tokens behind ≡ Some ts
    → tokens (w ++ behind) ≡ Some (word w ∷ ts)
word_taken [] behind ts h l e = absurd cc
word_taken (b ∷ bs) behind ts h l e =
    let p = and_parts (is_word_start b) (list_all is_word_byte bs) h in
    step_on between (in_word (b ∷ [])) b (bs ++ behind) (rw p.0 refl) ∙ word_run bs (b ∷ []) behind p.1
    ∙ close (in_word (b ∷ bs)) (word (b ∷ bs)) behind ts (word_closes (b ∷ bs) behind (word_ends (b ∷ bs) behind h l)) e

-- ---- numbers

abbrev value_from : ℕ → List ℕ → ℕ
value_from n ds = fold (λ n d. 10 * n + (d - 48)) n ds

more_digits : (ds : List ℕ) (n : ℕ) (rest : List ℕ) → AllByRecursion (λ b. IsTrue (is_digit b)) ds
    → tokens_from (in_number false n) (ds ++ rest) ≡ tokens_from (in_number false (value_from n ds)) rest
more_digits [] n rest h = refl
more_digits (d ∷ ds) n rest h =
    step_on (in_number false n) (in_number false (10 * n + (d - 48))) d (ds ++ rest) (rw h.0 refl) ∙ more_digits ds (10 * n + (d - 48)) rest h.1

next_step : (z : Bool) (n d : ℕ) → is_digit d ≡ true → step (in_number z n) d ≡ Some ([], in_number false (10 * n + (d - 48)))
next_step z n d h = rw h refl

first_step : (d : ℕ) → is_digit d ≡ true → begin d ≡ Some ([], in_number (nat_eq d 48) (10 * 0 + (d - 48)))
first_step d h =
    let value : 10 * 0 + (d - 48) ≡ d - 48 = omega arith in
    rw (digit_begins_no_word d h, h, value) refl

digits_run : (s rest : List ℕ) → AreDigits s → tokens (s ++ rest) ≡ tokens_from (in_number (one_zero s) (decimal_value s)) rest
digits_run [] rest h = absurd (h.0 refl)
digits_run (d ∷ []) rest h = step_on between (in_number (nat_eq d 48) (10 * 0 + (d - 48))) d rest (first_step d h.1.0)
digits_run (d ∷ c ∷ ds) rest h =
    let n = 10 * 0 + (d - 48) in
    step_on between (in_number (nat_eq d 48) n) d (c ∷ (ds ++ rest)) (first_step d h.1.0)
    ∙ step_on (in_number (nat_eq d 48) n) (in_number false (10 * n + (c - 48))) c (ds ++ rest) (next_step (nat_eq d 48) n c h.1.1.0)
    ∙ more_digits ds (10 * n + (c - 48)) rest h.1.1.1

none_there : (bs : List ℕ) (ts : List VToken) → tokens (39 ∷ bs) ≡ Some ts → ⊥
unfolding tokens_from
none_there bs ts h = cc

-- a quote begins no token
no_quote : (behind : List ℕ) (ts : List VToken) → tokens behind ≡ Some ts → NotNext (λ b. nat_eq b 39) behind
unfolding tokens_from
no_quote [] ts e = tt
no_quote (b ∷ bs) ts e = by_byte (nat_eq b 39) refl
  where
    by_byte : (t : Bool) → nat_eq b 39 ≡ t → nat_eq b 39 ≡ false
    by_byte true k =
        let quoted : tokens (39 ∷ bs) ≡ Some ts = subst (λ x. tokens (x ∷ bs) ≡ Some ts) (is_byte b 39 k) e in
        absurd (none_there bs ts quoted)
    by_byte false k = k

number_closes : (z : Bool) (n : ℕ) (behind : List ℕ) → NotNext is_digit behind → NotNext (λ b. nat_eq b 39) behind
    → Closes (in_number z n) (number_token z n) behind
number_closes z n [] d q = refl
number_closes z n (b ∷ bs) d q = rw (d, q) refl

digits_taken : (s behind : List ℕ) (ts : List VToken) → AreDigits s → IsLongestToken s behind → tokens behind ≡ Some ts
    → tokens (s ++ behind) ≡ Some (number_token (one_zero s) (decimal_value s) ∷ ts)
digits_taken s behind ts h l e =
    digits_run s behind h
    ∙ close (in_number (one_zero s) (decimal_value s)) (number_token (one_zero s) (decimal_value s)) behind ts
    (number_closes (one_zero s) (decimal_value s) behind (digits_end s behind h l) (no_quote behind ts e)) e

not_one_zero : (s : List ℕ) → s ≢ codes "0" → one_zero s ≡ false
not_one_zero [] h = refl
not_one_zero (b ∷ []) h = by_byte (nat_eq b 48) refl
  where
    by_byte : (t : Bool) → nat_eq b 48 ≡ t → nat_eq b 48 ≡ false
    by_byte true k = absurd (h (ap (λ x. x ∷ []) (is_byte b 48 k)))
    by_byte false k = k
not_one_zero (b ∷ c ∷ bs) h = refl

-- ---- constants

quote_read : (z : Bool) (n : ℕ) (base : Base) (rest : List ℕ) → tokens_from (in_number z n) (39 ∷ letter base ∷ rest) ≡ tokens_from (at_digits n base) rest
quote_read z n base rest =
    step_on (in_number z n) (at_base n) 39 (letter base ∷ rest) refl ∙ step_on (at_base n) (at_digits n base) (letter base) rest (at_letter base)
  where
    at_letter : (base : Base) → step (at_base n) (letter base) ≡ Some ([], at_digits n base)
    at_letter binary = refl
    at_letter decimal = refl
    at_letter hexadecimal = refl

abbrev value_in : Base → ℕ → List ℕ → ℕ
value_in base n ds = fold (λ n d. radix base * n + d) n ds

constant_run : (base : Base) (width : ℕ) (ds ns : List ℕ) (n : ℕ) (rest : List ℕ) → map digit_value ds ≡ map Some ns → AllByRecursion (λ d. d < radix base) ns
    → tokens_from (in_constant width base n) (ds ++ rest) ≡ tokens_from (in_constant width base (value_in base n ns)) rest
constant_run base width [] [] n rest e h = refl
constant_run base width [] (m ∷ ns) n rest e h = absurd cc
constant_run base width (d ∷ ds) [] n rest e h = absurd cc
constant_run base width (d ∷ ds) (m ∷ ns) n rest e h =
    let first : digit_value d ≡ Some m = cc in
    let others : map digit_value ds ≡ map Some ns = cc in
    step_on (in_constant width base n) (in_constant width base (radix base * n + m)) d (ds ++ rest)
    (ap (λ o. with_next width base n o d) (digit_is_in base d m first h.0))
    ∙ constant_run base width ds ns (radix base * n + m) rest others h.1

digits_of_constant : (base : Base) (width : ℕ) (ds ns rest : List ℕ) → ds ≢ [] → map digit_value ds ≡ map Some ns → AllByRecursion (λ d. d < radix base) ns
    → tokens_from (at_digits width base) (ds ++ rest) ≡ tokens_from (in_constant width base (value_in base 0 ns)) rest
digits_of_constant base width [] ns rest some e h = absurd (some refl)
digits_of_constant base width (d ∷ ds) [] rest some e h = absurd cc
digits_of_constant base width (d ∷ ds) (m ∷ ns) rest some e h =
    let first : digit_value d ≡ Some m = cc in
    let others : map digit_value ds ≡ map Some ns = cc in
    let value : m ≡ radix base * 0 + m = omega arith in
    step_on (at_digits width base) (in_constant width base m) d (ds ++ rest) (ap (with_digit width base) (digit_is_in base d m first h.0))
    ∙ constant_run base width ds ns m rest others h.1
    ∙ ap (λ n. tokens_from (in_constant width base (value_in base n ns)) rest) value

constant_read : (width value : ℕ) (s rest : List ℕ) (c : IsConstant width value s) → tokens (s ++ rest) ≡ tokens_from (in_constant width c.base value) rest
constant_read width value s rest c =
    let grouped = ap (λ x. x ++ rest) c.bytes ∙ append_assoc c.size (39 ∷ letter c.base ∷ c.digits) rest in
    ap tokens grouped ∙ digits_run c.size (39 ∷ letter c.base ∷ (c.digits ++ rest)) c.is_size
    ∙ quote_read (one_zero c.size) (decimal_value c.size) c.base (c.digits ++ rest)
    ∙ digits_of_constant c.base (decimal_value c.size) c.digits c.numbers rest c.some c.are_digits c.below
    ∙ ap (λ n. tokens_from (in_constant (decimal_value c.size) c.base n) rest) (sym c.value_is)
    ∙ ap (λ w. tokens_from (in_constant w c.base value) rest) (sym c.width_is)

constant_closes : (width value : ℕ) (base : Base) (behind : List ℕ) → NotNext (λ b. in_base base b) behind → (BeginsWith behind (codes "?") → ⊥)
    → Closes (in_constant width base value) (constant width value) behind
constant_closes width value base [] n q = refl
constant_closes width value base (b ∷ bs) n q = by_byte (nat_eq b 63) refl (digit_in base b) refl
  where
    by_byte : (t : Bool) → nat_eq b 63 ≡ t → (d : Option ℕ) → digit_in base b ≡ d → Closes (in_constant width base value) (constant width value) (b ∷ bs)
    by_byte true k d h = absurd (q (bs, ap (λ x. x ∷ bs) (is_byte b 63 k)))
    by_byte false k (Some d) h = let is : in_base base b ≡ true = rw h refl in absurd cc
    by_byte false k None h = rw (h, k) refl

constant_taken : (width value : ℕ) (s behind : List ℕ) (ts : List VToken) → IsConstant width value s → IsLongestToken s behind
    → (BeginsWith behind (codes "?") → ⊥) → tokens behind ≡ Some ts
    → tokens (s ++ behind) ≡ Some (constant width value ∷ ts)
constant_taken width value s behind ts c l q e =
    constant_read width value s behind c
    ∙ close (in_constant width c.base value) (constant width value) behind ts
    (constant_closes width value c.base behind (constant_ends width value s behind c l) q) e

questioned_taken : (width value : ℕ) (s behind : List ℕ) (ts : List VToken) → IsConstant width value s → tokens behind ≡ Some ts
    → tokens ((s ++ codes "?") ++ behind) ≡ Some (constant width value ∷ question_digit ∷ ts)
questioned_taken width value s behind ts c e =
    ap tokens (append_assoc s (codes "?") behind) ∙ constant_read width value s (63 ∷ behind) c
    ∙ step_end (in_constant width c.base value) (constant width value ∷ question_digit ∷ []) 63 behind ts refl e

-- ---- signs

sign_tested : (a : ℕ) → In lone_signs a → is_sign a ≡ true
sign_tested a m = all_tested is_sign lone_signs refl a m

sign_closes : (a : ℕ) (behind : List ℕ) → In lone_signs a → NotNext (is_double a) behind → BeginsNoComment (a ∷ behind) → Closes (in_sign a) (sign a) behind
sign_closes a [] m n free = rw (sign_tested a m) refl
sign_closes a (b ∷ bs) m n free =
    let no_shift : (nat_eq a 62 && nat_eq b 62) ≡ false = no_shift_begun a b n in
    let no_line : (nat_eq a 47 && nat_eq b 47) ≡ false = apart a b 47 47 (λ x y. free.0 (bs, at a b 47 47 bs x y)) in
    let no_block : (nat_eq a 47 && nat_eq b 42) ≡ false = apart a b 47 42 (λ x y. free.1 (bs, at a b 47 42 bs x y)) in
    rw (n, no_shift, no_line, no_block, sign_tested a m) refl
  where
    at : (a b c d : ℕ) (bs : List ℕ) → a ≡ c → b ≡ d → a ∷ b ∷ bs ≡ c ∷ d ∷ bs
    at a b c d bs x y = cc

    apart : (a b c d : ℕ) → (a ≡ c → b ≡ d → ⊥) → (nat_eq a c && nat_eq b d) ≡ false
    apart a b c d h = by_bytes (nat_eq a c) refl (nat_eq b d) refl
      where
        by_bytes : (t : Bool) → nat_eq a c ≡ t → (u : Bool) → nat_eq b d ≡ u → (nat_eq a c && nat_eq b d) ≡ false
        by_bytes false x u y = rw x refl
        by_bytes true x false y = rw (x, y) refl
        by_bytes true x true y = absurd (h (is_byte a c x) (is_byte b d y))

    no_shift_begun : (a b : ℕ) → is_double a b ≡ false → (nat_eq a 62 && nat_eq b 62) ≡ false
    no_shift_begun a b h = grind (arith, nat_tests)

sign_taken : (a : ℕ) (behind : List ℕ) (ts : List VToken) → In lone_signs a → IsLongestToken (a ∷ []) behind → BeginsNoComment (a ∷ behind)
    → tokens behind ≡ Some ts
    → tokens (a ∷ behind) ≡ Some (sign a ∷ ts)
sign_taken a behind ts m l free e =
    let other : begins_other a ≡ false = not_true (begins_other a) (sign_begins a m) in
    let p = or_parts (is_word_start a) _ other in
    let q = or_parts (is_digit a) (nat_eq a 36) p.1 in
    by_start (is_start a) refl p.0 q.0
  where
    by_start : (t : Bool) → is_start a ≡ t → is_word_start a ≡ false → is_digit a ≡ false → tokens (a ∷ behind) ≡ Some (sign a ∷ ts)
    by_start true h w d =
        step_on between (in_sign a) a behind (rw (w, d, h) refl)
        ∙ close (in_sign a) (sign a) behind ts (sign_closes a behind m (sign_ends a behind l) free) e
    by_start false h w d = step_end between (sign a ∷ []) a behind ts (rw (w, d, h, sign_tested a m) refl) e

double_taken : (a b : ℕ) (behind : List ℕ) (ts : List VToken) → In doubles (a, b) → IsLongestToken (a ∷ b ∷ []) behind → tokens behind ≡ Some ts
    → tokens (a ∷ b ∷ behind) ≡ Some (double a b ∷ ts)
unfolding tokens_from
double_taken a b behind ts m l e =
    all_at (λ d. IsLongestToken (d.0 ∷ d.1 ∷ []) behind → tokens (d.0 ∷ d.1 ∷ behind) ≡ Some (double d.0 d.1 ∷ ts)) doubles
    ((λ k. rw e refl), ((λ k. rw e refl), ((λ k. rw e refl), ((λ k. rw e refl), ((λ k. rw e refl), ((λ k. rw e refl), ((λ k. rw e refl), (shifted, tt)))))))) (a, b) m l
  where
    shift_closes : (bs : List ℕ) → NotNext (λ b. nat_eq b 62) bs → Closes in_shift (double 62 62) bs
    shift_closes [] n = refl
    shift_closes (b ∷ bs) n = rw n refl

    shifted : IsLongestToken (62 ∷ 62 ∷ []) behind → tokens (62 ∷ 62 ∷ behind) ≡ Some (double 62 62 ∷ ts)
    shifted k =
        step_on between (in_sign 62) 62 (62 ∷ behind) refl ∙ step_on (in_sign 62) in_shift 62 behind refl
        ∙ close in_shift (double 62 62) behind ts (shift_closes behind (shift_ends behind k)) e

-- ---- comments and white space

blank_taken : (b : ℕ) (behind : List ℕ) (ts : List VToken) → In white_space b → tokens behind ≡ Some ts → tokens (b ∷ behind) ≡ Some ts
unfolding tokens_from
blank_taken b behind ts m e =
    all_at (λ b. tokens (b ∷ behind) ≡ Some ts) white_space (rw e refl, (rw e refl, (rw e refl, (rw e refl, tt)))) b m

in_line : (content behind : List ℕ) → AllByRecursion (λ b. b ≢ 10) content
    → tokens_from in_line_comment (content ++ behind) ≡ tokens_from in_line_comment behind
in_line [] behind h = refl
in_line (b ∷ bs) behind h =
    let other : nat_eq b 10 ≡ false = not_newline b h.0 in
    step_on in_line_comment in_line_comment b (bs ++ behind) (rw other refl) ∙ in_line bs behind h.1
  where
    not_newline : (b : ℕ) → b ≢ 10 → nat_eq b 10 ≡ false
    not_newline b n = by_byte (nat_eq b 10) refl
      where
        by_byte : (t : Bool) → nat_eq b 10 ≡ t → nat_eq b 10 ≡ false
        by_byte true k = absurd (n (is_byte b 10 k))
        by_byte false k = k

line_ends : (behind : List ℕ) (ts : List VToken) → (behind ≡ []) ⊎ BeginsWith behind (10 ∷ []) → tokens behind ≡ Some ts
    → tokens_from in_line_comment behind ≡ Some ts
unfolding tokens_from
line_ends behind ts (inl h) e = let k : tokens [] ≡ Some ts = rw h at e in rw h k
line_ends behind ts (inr h) e = let k : tokens (10 ∷ h.0) ≡ Some ts = subst (λ x. tokens x ≡ Some ts) h.1 e in rw h.1 k

line_taken : (content behind : List ℕ) (ts : List VToken) → AllByRecursion (λ b. b ≢ 10) content → (behind ≡ []) ⊎ BeginsWith behind (10 ∷ [])
    → tokens behind ≡ Some ts
    → tokens (47 ∷ 47 ∷ (content ++ behind)) ≡ Some ts
line_taken content behind ts h end e =
    step_on between (in_sign 47) 47 (47 ∷ (content ++ behind)) refl ∙ step_on (in_sign 47) in_line_comment 47 (content ++ behind) refl
    ∙ in_line content behind h ∙ line_ends behind ts end e

pub no_end_behind : (b : ℕ) (bs : List ℕ) → HasNoEnd (b ∷ bs) → HasNoEnd bs
no_end_behind b bs h front back e = h (b ∷ front) back (ap (λ x. b ∷ x) e)

abbrev inside : Bool → Pending
inside star = if star then in_block_star else in_block_comment

star_step : (star : Bool) (b : ℕ) → (star ≡ true → nat_eq b 47 ≡ false) → step (inside star) b ≡ Some ([], inside (nat_eq b 42))
star_step false b h = refl
star_step true b h = rw (h refl) refl

no_slash_behind : (b : ℕ) (bs : List ℕ) → HasNoEnd (b ∷ bs) → nat_eq b 42 ≡ true → NotNext (λ c. nat_eq c 47) bs
no_slash_behind b [] h star = tt
no_slash_behind b (c ∷ cs) h star = by_byte (nat_eq c 47) refl
  where
    by_byte : (t : Bool) → nat_eq c 47 ≡ t → nat_eq c 47 ≡ false
    by_byte true k =
        let first = is_byte b 42 star in
        let second = is_byte c 47 k in
        absurd (h [] cs cc)
    by_byte false k = k

in_block : (content behind : List ℕ) (star : Bool) → HasNoEnd content → (star ≡ true → NotNext (λ c. nat_eq c 47) content)
    → tokens_from (inside star) (content ++ 42 ∷ 47 ∷ behind) ≡ tokens behind
in_block [] behind star h quiet =
    step_on (inside star) in_block_star 42 (47 ∷ behind) (star_step star 42 (λ s. refl)) ∙ step_on in_block_star between 47 behind refl
in_block (b ∷ bs) behind star h quiet =
    step_on (inside star) (inside (nat_eq b 42)) b (bs ++ 42 ∷ 47 ∷ behind) (star_step star b quiet)
    ∙ in_block bs behind (nat_eq b 42) (no_end_behind b bs h) (no_slash_behind b bs h)

block_taken : (content behind : List ℕ) (ts : List VToken) → HasNoEnd content → tokens behind ≡ Some ts
    → tokens ((47 ∷ 42 ∷ (content ++ 42 ∷ 47 ∷ [])) ++ behind) ≡ Some ts
block_taken content behind ts h e =
    ap (λ x. tokens (47 ∷ 42 ∷ x)) (append_assoc content (42 ∷ 47 ∷ []) behind)
    ∙ step_on between (in_sign 47) 47 (42 ∷ (content ++ 42 ∷ 47 ∷ behind)) refl
    ∙ step_on (in_sign 47) in_block_comment 42 (content ++ 42 ∷ 47 ∷ behind) refl
    ∙ in_block content behind false h (λ s. absurd cc) ∙ e

-- ---- all together

token_taken : (t : VToken) (s behind : List ℕ) (ts : List VToken) → IsVPiece (spelled t s) behind → tokens behind ≡ Some ts
    → tokens (s ++ behind) ≡ Some (t ∷ ts)
unfolding tokens_from
token_taken (word w) s behind ts is e =
    subst (λ x. tokens (x ++ behind) ≡ Some (word w ∷ ts)) (sym is.0.1)
    (word_taken w behind ts is.0.0 (subst (λ x. IsLongestToken x behind) is.0.1 is.1) e)
token_taken digit_zero s behind ts is e =
    subst (λ x. tokens (x ++ behind) ≡ Some (digit_zero ∷ ts)) (sym is.0)
    (digits_taken (codes "0") behind ts ((λ e. cc), (refl, tt)) (subst (λ x. IsLongestToken x behind) is.0 is.1) e)
token_taken (number n) s behind ts is e =
    digits_taken s behind ts is.0.0 is.1 e ∙ ap (λ z. Some (number_token z (decimal_value s) ∷ ts)) (not_one_zero s is.0.1)
    ∙ ap (λ n. Some (number n ∷ ts)) (sym is.0.2)
token_taken (constant width value) s behind ts is e = constant_taken width value s behind ts is.0 is.1 is.3 e
token_taken (sign a) s behind ts is e =
    subst (λ x. tokens (x ++ behind) ≡ Some (sign a ∷ ts)) (sym is.0.1)
    (sign_taken a behind ts is.0.0 (subst (λ x. IsLongestToken x behind) is.0.1 is.1) (subst (λ x. BeginsNoComment (x ++ behind)) is.0.1 is.2) e)
token_taken (double a b) s behind ts is e =
    subst (λ x. tokens (x ++ behind) ≡ Some (double a b ∷ ts)) (sym is.0.1)
    (double_taken a b behind ts is.0.0 (subst (λ x. IsLongestToken x behind) is.0.1 is.1) e)
token_taken signed_shift s behind ts is e = subst (λ x. tokens (x ++ behind) ≡ Some (signed_shift ∷ ts)) (sym is.0) (rw e refl)
token_taken signed_word s behind ts is e = subst (λ x. tokens (x ++ behind) ≡ Some (signed_word ∷ ts)) (sym is.0) (rw e refl)
token_taken question_digit s behind ts is e = absurd is.0

piece_taken : (p : VPiece) (behind : List ℕ) (ts : List VToken) → IsVPiece p behind → tokens behind ≡ Some ts
    → tokens (bytes_of_piece p ++ behind) ≡ Some (plain_tokens p ++ ts)
piece_taken (blank b) behind ts is e = blank_taken b behind ts is e
piece_taken (line_comment content) behind ts is e = line_taken content behind ts is.0 is.1 e
piece_taken (block_comment content) behind ts is e = block_taken content behind ts is e
piece_taken (spelled t s) behind ts is e = token_taken t s behind ts is e
piece_taken (questioned width value s) behind ts is e = questioned_taken width value s behind ts is e

pub pieces_taken : (ps : List VPiece) → AreVPieces ps → tokens (flat_map bytes_of_piece ps) ≡ Some (flat_map plain_tokens ps)
unfolding tokens_from
pieces_taken [] h = refl
pieces_taken (p ∷ ps) h = piece_taken p (flat_map bytes_of_piece ps) (flat_map plain_tokens ps) h.0 (pieces_taken ps h.1)

pub spelled_tokens : (bytes : List ℕ) (placed : List PlacedToken) → HasTokens bytes placed → tokens bytes ≡ Some (plain_of placed)
spelled_tokens bytes placed h =
    ap tokens h.bytes_are ∙ pieces_taken h.pieces h.each ∙ ap Some (sym (ap plain_of h.tokens_are ∙ without_places [] h.pieces))
