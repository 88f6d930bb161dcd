-- How far a token can reach from where it begins.
-- No token that begins a text has more bytes than this, and a token behind which nothing goes on with it has as many.
use Rattle.std.proofs.Common.{◌≡◌, ℕ, ◌+◌, ◌≤◌, ◌<◌, Bool, true, false, ◌||◌, ◌&&◌, not, List, [], ◌∷◌, ◌++◌, length, map, codes, Option, Some, None, refl, sym, ap, ◌∙◌, inl, inr, subst, append_assoc, length-append, arith}
use Rattle.std.specs.Prelude.{IsTrue, nat_eq, nat_lt, is_some, if◌then◌else◌}
use Rattle.std.specs.List.{AllByRecursion, list_all, prefix_len}
use Rattle.std.proofs.lemmas.Bool.{and_parts, or_parts, cond_both}
use Rattle.std.proofs.lemmas.Bool.Decides.{nat_tests}
use Rattle.fir_base.specs.Lists.{In}
use Rattle.fir_base.proofs.Each.{all_at}
use Rattle.ver_words.specs.Names.{is_word}
use Rattle.fir_base.specs.Bytes.{is_word_start, is_word_byte, is_digit}
use Rattle.fir_base.specs.Digits.{digit_value}
use Rattle.ver_ast.specs.Tokens.{VToken, word, digit_zero, number, constant, sign, double, signed_shift, signed_word, question_digit, Base, binary, decimal, hexadecimal, radix, letter, lone_signs, doubles, AreDigits, IsConstant, IsSpelledAs}
use Rattle.ver_ast.specs.Pieces.{IsLongestToken}
use Rattle.ver_ast.specs.working.TokenSteps.{is_double, base_of, digit_in}

abbrev pub NotNext : (ℕ → Bool) → List ℕ → Type 0
NotNext p [] = Unit {0}
NotNext p (b ∷ bs) = p b ≡ false

-- a byte that goes on with a number
abbrev pub goes_on_number : ℕ → Bool
goes_on_number b = is_digit b || nat_eq b 39

abbrev pub in_base : Base → ℕ → Bool
in_base base b = is_some (digit_in base b)

reach_in : Option Base → List ℕ → ℕ
reach_in None ds = 0
reach_in (Some base) ds = 2 + prefix_len (in_base base) ds

constant_reach : List ℕ → ℕ
constant_reach [] = 0
constant_reach (q ∷ []) = 0
constant_reach (q ∷ l ∷ ds) = if nat_eq q 39 then reach_in (base_of l) ds else 0

number_reach : List ℕ → ℕ
number_reach [] = 0
number_reach (b ∷ bs) = if is_digit b then 1 + number_reach bs else constant_reach (b ∷ bs)

third_reach : ℕ → ℕ → List ℕ → ℕ
third_reach a b [] = 0
third_reach a b (c ∷ cs) = if nat_eq a 62 && (nat_eq b 62 && nat_eq c 62) then 1 else 0

sign_reach : ℕ → List ℕ → ℕ
sign_reach a [] = 1
sign_reach a (b ∷ bs) = if is_double a b then 2 + third_reach a b bs else 1

reach : List ℕ → ℕ
reach [] = 0
reach (b ∷ bs) =
    if is_word_start b then 1 + prefix_len is_word_byte bs
    else if is_digit b then number_reach (b ∷ bs)
    else if nat_eq b 36 then 7
    else sign_reach b bs

-- ---- runs of bytes

run_least : (p : ℕ → Bool) (xs more : List ℕ) → list_all p xs ≡ true → length xs ≤ prefix_len p (xs ++ more)
run_least p [] more h = omega arith
run_least p (x ∷ xs) more h =
    let parts = and_parts (p x) (list_all p xs) h in
    let rest = run_least p xs more parts.1 in
    rw parts.0 (omega arith)

none_next : (p : ℕ → Bool) (bs : List ℕ) → NotNext p bs → prefix_len p bs ≡ 0
none_next p [] n = refl
none_next p (b ∷ bs) n = rw n refl

run_most : (p : ℕ → Bool) (xs more : List ℕ) → list_all p xs ≡ true → NotNext p more → prefix_len p (xs ++ more) ≤ length xs
run_most p [] more h n = omega (arith, none_next p more n)
run_most p (x ∷ xs) more h n =
    let parts = and_parts (p x) (list_all p xs) h in
    let rest = run_most p xs more parts.1 n in
    rw parts.0 (omega arith)

pub digits_test : (p : ℕ → Bool) (xs : List ℕ) → AllByRecursion (λ b. IsTrue (p b)) xs → list_all p xs ≡ true
digits_test p [] h = refl
digits_test p (x ∷ xs) h = rw h.0 (digits_test p xs h.1)

-- ---- digits of a base

pub digit_is_in : (base : Base) (b d : ℕ) → digit_value b ≡ Some d → d < radix base → digit_in base b ≡ Some d
digit_is_in base b d e h =
    let below : nat_lt d (radix base) ≡ true = grind (arith, nat_tests) in
    rw (e, below) refl

all_in_base : (base : Base) (ds ns : List ℕ) → map digit_value ds ≡ map Some ns → AllByRecursion (λ d. d < radix base) ns
    → list_all (in_base base) ds ≡ true
all_in_base base [] ns e h = refl
all_in_base base (d ∷ ds) [] e h = absurd cc
all_in_base base (d ∷ ds) (n ∷ ns) e h =
    let first : digit_value d ≡ Some n = cc in
    let rest : map digit_value ds ≡ map Some ns = cc in
    rw (digit_is_in base d n first h.0) (all_in_base base ds ns rest h.1)

-- ---- numbers and constants

pub digit_begins_no_word : (b : ℕ) → is_digit b ≡ true → is_word_start b ≡ false
digit_begins_no_word b h = grind (arith, nat_tests)

digits_least : (bs more : List ℕ) → AllByRecursion (λ b. IsTrue (is_digit b)) bs → length bs + number_reach more ≤ number_reach (bs ++ more)
unfolding number_reach
digits_least [] more h = omega arith
digits_least (b ∷ bs) more h =
    let rest = digits_least bs more h.1 in
    rw h.0 (omega arith)

digits_most : (bs more : List ℕ) → AllByRecursion (λ b. IsTrue (is_digit b)) bs → number_reach (bs ++ more) ≤ length bs + number_reach more
unfolding number_reach
digits_most [] more h = omega arith
digits_most (b ∷ bs) more h =
    let rest = digits_most bs more h.1 in
    rw h.0 (omega arith)

no_number : (bs : List ℕ) → NotNext goes_on_number bs → number_reach bs ≡ 0
unfolding number_reach constant_reach
no_number [] n = refl
no_number (b ∷ []) n =
    let p = or_parts (is_digit b) (nat_eq b 39) n in
    rw p.0 refl
no_number (b ∷ c ∷ bs) n =
    let p = or_parts (is_digit b) (nat_eq b 39) n in
    rw (p.0, p.1) refl

at_digit : (b : ℕ) (bs : List ℕ) → is_digit b ≡ true → reach (b ∷ bs) ≡ number_reach (b ∷ bs)
unfolding reach number_reach
at_digit b bs h = rw (digit_begins_no_word b h, h) refl

at_digits : (s more : List ℕ) → AreDigits s → reach (s ++ more) ≡ number_reach (s ++ more)
at_digits [] more h = absurd (h.0 refl)
at_digits (b ∷ bs) more h = at_digit b (bs ++ more) h.1.0

base_is : (base : Base) → base_of (letter base) ≡ Some base
base_is binary = refl
base_is decimal = refl
base_is hexadecimal = refl

quote_reach : (base : Base) (ds : List ℕ) → number_reach (39 ∷ letter base ∷ ds) ≡ 2 + prefix_len (in_base base) ds
unfolding number_reach constant_reach reach_in
quote_reach base ds = rw (base_is base) refl

behind_size : (size ds more : List ℕ) (l : ℕ) → (size ++ 39 ∷ l ∷ ds) ++ more ≡ size ++ 39 ∷ l ∷ (ds ++ more)
behind_size size ds more l = append_assoc size (39 ∷ l ∷ ds) more

size_length : (size ds : List ℕ) (l : ℕ) → length (size ++ 39 ∷ l ∷ ds) ≡ length size + (2 + length ds)
size_length size ds l = omega (arith, length-append size (39 ∷ l ∷ ds))

constant_least : (width value : ℕ) (s more : List ℕ) → IsConstant width value s → length s ≤ reach (s ++ more)
constant_least width value s more c =
    subst (λ x. length x ≤ reach (x ++ more)) (sym c.bytes)
    (let run = run_least (in_base c.base) c.digits more (all_in_base c.base c.digits c.numbers c.are_digits c.below) in
    let at = at_digits c.size (39 ∷ letter c.base ∷ (c.digits ++ more)) c.is_size in
    let all = digits_least c.size (39 ∷ letter c.base ∷ (c.digits ++ more)) c.is_size.1 in
    let quote = quote_reach c.base (c.digits ++ more) in
    rw (behind_size c.size c.digits more (letter c.base)) (omega (arith, size_length c.size c.digits (letter c.base))))

constant_most : (width value : ℕ) (s behind : List ℕ) (c : IsConstant width value s) → NotNext (in_base c.base) behind → reach (s ++ behind) ≤ length s
constant_most width value s behind c n =
    subst (λ x. reach (x ++ behind) ≤ length x) (sym c.bytes)
    (let run = run_most (in_base c.base) c.digits behind (all_in_base c.base c.digits c.numbers c.are_digits c.below) n in
    let at = at_digits c.size (39 ∷ letter c.base ∷ (c.digits ++ behind)) c.is_size in
    let all = digits_most c.size (39 ∷ letter c.base ∷ (c.digits ++ behind)) c.is_size.1 in
    let quote = quote_reach c.base (c.digits ++ behind) in
    rw (behind_size c.size c.digits behind (letter c.base)) (omega (arith, size_length c.size c.digits (letter c.base))))

-- ---- each token reaches no further

sign_least : (a : ℕ) (bs : List ℕ) → 1 ≤ sign_reach a bs
unfolding sign_reach
sign_least a [] = omega arith
sign_least a (c ∷ cs) = cond_both (is_double a c) (2 + third_reach a c cs) 1 (λ n. 1 ≤ n) (λ f. omega arith) (λ f. omega arith)

one_least : (b : ℕ) (bs : List ℕ) → 1 ≤ reach (b ∷ bs)
unfolding reach number_reach
one_least b bs =
    cond_both (is_word_start b) (1 + prefix_len is_word_byte bs) _ (λ n. 1 ≤ n) (λ e. omega arith)
    (λ e. cond_both (is_digit b) (number_reach (b ∷ bs)) _ (λ n. 1 ≤ n) (λ d. rw d (omega arith))
    (λ d. cond_both (nat_eq b 36) 7 (sign_reach b bs) (λ n. 1 ≤ n) (λ f. omega arith) (λ f. sign_least b bs)))

double_least : (a b : ℕ) (more : List ℕ) → In doubles (a, b) → 2 ≤ reach (a ∷ b ∷ more)
unfolding reach sign_reach
double_least a b more m =
    all_at (λ d. 2 ≤ reach (d.0 ∷ d.1 ∷ more)) doubles
    (omega arith, (omega arith, (omega arith, (omega arith, (omega arith, (omega arith, (omega arith, (omega arith, tt)))))))) (a, b) m

shift_least : (more : List ℕ) → 3 ≤ reach (62 ∷ 62 ∷ 62 ∷ more)
unfolding reach sign_reach third_reach
shift_least more = omega arith

signed_least : (more : List ℕ) → 7 ≤ reach (codes "$signed" ++ more)
unfolding reach
signed_least more = omega arith

reach_least : (t : VToken) (r more : List ℕ) → IsSpelledAs t r → length r ≤ reach (r ++ more)
unfolding reach
reach_least (word []) r more h = absurd cc
reach_least (word (b ∷ bs)) r more h =
    let p = and_parts (is_word_start b) (list_all is_word_byte bs) h.0 in
    let run = run_least is_word_byte bs more p.1 in
    rw (h.1, p.0) (omega arith)
reach_least digit_zero r more h = rw h (one_least 48 more)
reach_least (number n) r more h =
    let at = at_digits r more h.0 in
    let all = digits_least r more h.0.1 in
    omega arith
reach_least (constant width value) r more h = constant_least width value r more h
reach_least (sign b) r more h = rw h.1 (one_least b more)
reach_least (double a b) r more h = rw h.1 (double_least a b more h.0)
reach_least signed_shift r more h = rw h (shift_least more)
reach_least signed_word r more h = rw h (signed_least more)
reach_least question_digit r more h = absurd h

longest : (s behind : List ℕ) → reach (s ++ behind) ≤ length s → IsLongestToken s behind
longest s behind h other r more is e =
    let least = reach_least other r more is in
    let same = ap reach e in
    omega arith

-- ---- so that these are the longest

pub word_longest : (w behind : List ℕ) → IsTrue (is_word w) → NotNext is_word_byte behind → IsLongestToken w behind
unfolding reach
word_longest [] behind h n = absurd cc
word_longest (b ∷ bs) behind h n =
    let p = and_parts (is_word_start b) (list_all is_word_byte bs) h in
    let run = run_most is_word_byte bs behind p.1 n in
    longest (b ∷ bs) behind (rw p.0 (omega arith))

pub digits_longest : (s behind : List ℕ) → AreDigits s → NotNext goes_on_number behind → IsLongestToken s behind
digits_longest s behind h n =
    let at = at_digits s behind h in
    let all = digits_most s behind h.1 in
    longest s behind (omega (arith, no_number behind n))

pub constant_longest : (width value : ℕ) (s behind : List ℕ) (c : IsConstant width value s) → NotNext (in_base c.base) behind → IsLongestToken s behind
constant_longest width value s behind c n = longest s behind (constant_most width value s behind c n)

abbrev pub begins_other : ℕ → Bool
begins_other b = is_word_start b || (is_digit b || nat_eq b 36)

-- a test that each of a list passes
pub all_tested : (p : ℕ → Bool) (xs : List ℕ) → list_all p xs ≡ true → (x : ℕ) → In xs x → p x ≡ true
all_tested p [] h x m = absurd m
all_tested p (y ∷ ys) h x (inl m) = ap p (sym m) ∙ (and_parts (p y) (list_all p ys) h).0
all_tested p (y ∷ ys) h x (inr m) = all_tested p ys (and_parts (p y) (list_all p ys) h).1 x m

pub sign_begins : (a : ℕ) → In lone_signs a → not (begins_other a) ≡ true
sign_begins a m = all_tested (λ b. not (begins_other b)) lone_signs refl a m

pub not_true : (b : Bool) → not b ≡ true → b ≡ false
not_true true h = absurd cc
not_true false h = refl

sign_alone : (a : ℕ) (bs : List ℕ) → NotNext (is_double a) bs → sign_reach a bs ≤ 1
unfolding sign_reach
sign_alone a [] n = omega arith
sign_alone a (b ∷ bs) n = rw n (omega arith)

pub sign_longest : (a : ℕ) (behind : List ℕ) → In lone_signs a → NotNext (is_double a) behind → IsLongestToken (a ∷ []) behind
unfolding reach
sign_longest a behind m n =
    let other : begins_other a ≡ false = not_true (begins_other a) (sign_begins a m) in
    let p = or_parts (is_word_start a) _ other in
    let q = or_parts (is_digit a) (nat_eq a 36) p.1 in
    longest (a ∷ []) behind (rw (p.0, q.0, q.1) (sign_alone a behind n))

pub shift_longest : (behind : List ℕ) → NotNext (λ b. nat_eq b 62) behind → IsLongestToken (62 ∷ 62 ∷ []) behind
unfolding reach sign_reach third_reach
shift_longest [] n = longest (62 ∷ 62 ∷ []) [] (omega arith)
shift_longest (b ∷ bs) n = longest (62 ∷ 62 ∷ []) (b ∷ bs) (rw n (omega arith))

-- no third byte goes on with such a sign
abbrev pub IsWhole : ℕ × ℕ → Type 0
IsWhole d = (nat_eq d.0 62 && nat_eq d.1 62) ≡ false

double_most : (behind : List ℕ) (d : ℕ × ℕ) → In doubles d → IsWhole d → reach (d.0 ∷ d.1 ∷ behind) ≤ 2
unfolding reach sign_reach third_reach
double_most [] = all_at (λ d. IsWhole d → reach (d.0 ∷ d.1 ∷ []) ≤ 2) doubles
    ((λ w. omega arith), ((λ w. omega arith), ((λ w. omega arith), ((λ w. omega arith), ((λ w. omega arith), ((λ w. omega arith), ((λ w. omega arith), ((λ w. omega arith), tt))))))))
double_most (b ∷ bs) = all_at (λ d. IsWhole d → reach (d.0 ∷ d.1 ∷ b ∷ bs) ≤ 2) doubles
    ((λ w. omega arith), ((λ w. omega arith), ((λ w. omega arith), ((λ w. omega arith), ((λ w. omega arith), ((λ w. omega arith), ((λ w. omega arith), ((λ w. absurd cc), tt))))))))

pub double_longest : (a b : ℕ) (behind : List ℕ) → In doubles (a, b) → IsWhole (a, b) → IsLongestToken (a ∷ b ∷ []) behind
double_longest a b behind m w = longest (a ∷ b ∷ []) behind (double_most behind (a, b) m w)

pub signed_shift_longest : (behind : List ℕ) → IsLongestToken (codes ">>>") behind
unfolding reach sign_reach third_reach
signed_shift_longest behind = longest (codes ">>>") behind (omega arith)

pub signed_word_longest : (behind : List ℕ) → IsLongestToken (codes "$signed") behind
unfolding reach
signed_word_longest behind = longest (codes "$signed") behind (omega arith)
