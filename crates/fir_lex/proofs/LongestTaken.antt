-- Whatever token begins a text, what is read there is no shorter.
use Rattle.std.proofs.Common.{◌≡◌, ℕ, ◌+◌, ◌^◌, ◌≤◌, ◌<◌, ltb, List, [], ◌∷◌, ◌++◌, length, take, drop, codes, All, Option, Some, None, refl, sym, ap, ◌∙◌, inl, inr, ◌⊎◌, subst, append_assoc, length-append, take_at, arith}
use Rattle.std.specs.Prelude.{take_while}
use Rattle.std.specs.List.{AllByRecursion}
use Rattle.std.proofs.lemmas.Bool.{cond_both, cases_lt}
use Rattle.std.proofs.lemmas.List.{take-append-le}
use Rattle.std.proofs.lemmas.List.Elements.{All-cons, All-take, recursion_from_All}
use Rattle.std.proofs.lemmas.List.Sums.{take_while-cons}
use Rattle.fir_base.specs.Lists.{In}
use Rattle.fir_base.specs.Bytes.{is_digit}
use Rattle.fir_base.specs.Digits.{decimal_value}
use Rattle.fir_lex.specs.Tokens.{Token, word, dash_word, integer, text, sign, annotations, line_end, level_opens, level_closes}
use Rattle.fir_lex.specs.working.Bytes.{starts_with_byte}
use Rattle.fir_lex.specs.working.Front.{Front, found, passed, bad_byte, bad_literal, dash_word_at, dash_or_word, integer_front}
use Rattle.fir_lex.specs.Spelled.{IsDigit, BeginsWord, ContinuesWord, IsSpelledToken, dash_words, signs}
use Rattle.fir_lex.specs.Longest.{IsLongest}
use Rattle.fir_lex.proofs.Way.{front_at}
use Rattle.fir_lex.proofs.Runs.{Kind, word_kind, digit_kind}
use Rattle.fir_lex.proofs.DashWords.{DashAt, dash_found}
use Rattle.fir_lex.proofs.FrontsTaken.{Reads, at_word, dash_read, signed_digits, string_read, annotations_read, token_read}

-- a token of so many bytes at least, where one is read
abbrev AtLeast : ℕ → Front → Type 0
AtLeast k (found t n) = k ≤ n
AtLeast k (passed n) = Unit {0}
AtLeast k (bad_byte n b) = Unit {0}
AtLeast k bad_literal = Unit {0}

read_whole : (bytes : List ℕ) (t : Token) (n : ℕ) → Reads bytes (found t n) → AtLeast n (front_at bytes)
read_whole bytes t n r = subst (AtLeast n) (sym r.1) (omega arith)

run_at_least : (k : Kind) (s more : List ℕ) → AllByRecursion k.Is s → length s ≤ length (take_while k.test (s ++ more))
run_at_least k [] more all = omega arith
run_at_least k (b ∷ bs) more all =
    let rest = run_at_least k bs more all.1 in
    rw (take_while-cons k.test b (bs ++ more), (k.decides b).1 all.0) (omega arith)

-- ---- words

dash_goes_on : ContinuesWord 45 → ⊥
dash_goes_on h = omega arith

no_dash_within : (d : List ℕ) → In dash_words d → AllByRecursion ContinuesWord d → ⊥
no_dash_within d (inl m) all = dash_goes_on (subst (AllByRecursion ContinuesWord) (sym m) all).1.1.1.1.0
no_dash_within d (inr (inl m)) all = dash_goes_on (subst (AllByRecursion ContinuesWord) (sym m) all).1.1.1.1.0
no_dash_within d (inr (inr (inl m))) all = dash_goes_on (subst (AllByRecursion ContinuesWord) (sym m) all).1.1.1.1.1.0
no_dash_within d (inr (inr (inr (inl m)))) all = dash_goes_on (subst (AllByRecursion ContinuesWord) (sym m) all).1.1.1.1.0
no_dash_within d (inr (inr (inr (inr m)))) all = absurd m

no_longer : (d w rest more : List ℕ) → In dash_words d → All ContinuesWord w → w ++ more ≡ d ++ rest → length w ≤ length d
no_longer d w rest more m all e = by_length (cases_lt (length d) (length w))
  where
    by_length : (length d < length w) ⊎ (length w ≤ length d) → length w ≤ length d
    by_length (inl lt) =
        let front : take (length d) w ≡ d = sym (take-append-le (length d) w more (omega arith)) ∙ ap (take (length d)) e ∙ take_at d rest (length d) refl in
        absurd (no_dash_within d m
        (subst (AllByRecursion ContinuesWord) front (recursion_from_All ContinuesWord (take (length d) w) (All-take ContinuesWord (length d) w all))))
    by_length (inr le) = le

word_least : (b : ℕ) (bs more : List ℕ) → BeginsWord b → All ContinuesWord bs → AtLeast (length (b ∷ bs)) (front_at ((b ∷ bs) ++ more))
word_least b bs more begins all =
    let whole = All-cons ContinuesWord b bs (inl begins) all in
    subst (AtLeast (length (b ∷ bs))) (sym (at_word b (bs ++ more) begins).1) (by_dash whole (dash_word_at ((b ∷ bs) ++ more)) (dash_found ((b ∷ bs) ++ more)))
  where
    by_dash : All ContinuesWord (b ∷ bs) → (o : Option (List ℕ)) → DashAt ((b ∷ bs) ++ more) o → AtLeast (length (b ∷ bs)) (dash_or_word ((b ∷ bs) ++ more) o)
    by_dash whole (Some d) h = no_longer d (b ∷ bs) (drop (length d) ((b ∷ bs) ++ more)) more h.0 whole h.1
    by_dash whole None h = run_at_least word_kind (b ∷ bs) more (recursion_from_All ContinuesWord (b ∷ bs) whole)

-- ---- integers

digits_least : (plus_or_minus digits more : List ℕ) → All IsDigit digits
    → AtLeast (length (plus_or_minus ++ digits)) (integer_front plus_or_minus (digits ++ more))
digits_least plus_or_minus digits more all =
    let least = run_at_least digit_kind digits more (recursion_from_All IsDigit digits all) in
    let taken = take_while is_digit (digits ++ more) in
    cond_both (ltb (decimal_value taken) (2 ^ 128)) (found (integer (plus_or_minus ++ taken)) (length plus_or_minus + length taken)) bad_literal
    (AtLeast (length (plus_or_minus ++ digits)))
    (λ e. omega (arith, length-append plus_or_minus digits)) (λ e. tt)

integer_least : (plus_or_minus digits more : List ℕ) → (plus_or_minus ≡ []) ⊎ ((plus_or_minus ≡ codes "+") ⊎ (plus_or_minus ≡ codes "-")) → (digits ≡ [] → ⊥)
    → All IsDigit digits
    → AtLeast (length (plus_or_minus ++ digits)) (front_at ((plus_or_minus ++ digits) ++ more))
integer_least plus_or_minus [] more is_sign some all = absurd (some refl)
integer_least plus_or_minus (d ∷ ds) more is_sign some all =
    let reads = signed_digits plus_or_minus d (ds ++ more) is_sign (recursion_from_All IsDigit (d ∷ ds) all).0 in
    subst (λ (x : List ℕ). AtLeast (length (plus_or_minus ++ d ∷ ds)) (front_at x)) (sym (append_assoc plus_or_minus (d ∷ ds) more))
    (subst (AtLeast (length (plus_or_minus ++ d ∷ ds))) (sym reads.1) (digits_least plus_or_minus (d ∷ ds) more all))

-- ---- signs

abbrev SignLeast : List ℕ → List ℕ → Type 0
SignLeast more w = AtLeast (length w) (front_at (w ++ more))

equals_least : (more : List ℕ) → SignLeast more (codes "=")
equals_least more =
    cond_both (starts_with_byte 62 more) (found (sign (codes "=>")) 2) (found (sign (codes "=")) 1) (AtLeast 1) (λ e. omega arith) (λ e. omega arith)

less_least : (more : List ℕ) → SignLeast more (codes "<")
less_least more =
    cond_both (starts_with_byte 61 more) (found (sign (codes "<=")) 2) _ (AtLeast 1) (λ e. omega arith)
    (λ e. cond_both (starts_with_byte 45 more) (found (sign (codes "<-")) 2) (found (sign (codes "<")) 1) (AtLeast 1) (λ f. omega arith) (λ f. omega arith))

sign_least : (w more : List ℕ) → In signs w → SignLeast more w
sign_least w more (inl m) = subst (SignLeast more) m (omega arith)
sign_least w more (inr (inl m)) = subst (SignLeast more) m (omega arith)
sign_least w more (inr (inr (inl m))) = subst (SignLeast more) m (omega arith)
sign_least w more (inr (inr (inr (inl m)))) = subst (SignLeast more) m (equals_least more)
sign_least w more (inr (inr (inr (inr (inl m))))) = subst (SignLeast more) m (less_least more)
sign_least w more (inr (inr (inr (inr (inr m))))) = single_least w more m
  where
    single_least : (w more : List ℕ) → In (drop 5 signs) w → SignLeast more w
    single_least w more (inl m) = subst (SignLeast more) m (omega arith)
    single_least w more (inr (inl m)) = subst (SignLeast more) m (omega arith)
    single_least w more (inr (inr (inl m))) = subst (SignLeast more) m (omega arith)
    single_least w more (inr (inr (inr (inl m)))) = subst (SignLeast more) m (omega arith)
    single_least w more (inr (inr (inr (inr (inl m))))) = subst (SignLeast more) m (omega arith)
    single_least w more (inr (inr (inr (inr (inr (inl m)))))) = subst (SignLeast more) m (omega arith)
    single_least w more (inr (inr (inr (inr (inr (inr (inl m))))))) = subst (SignLeast more) m (omega arith)
    single_least w more (inr (inr (inr (inr (inr (inr (inr (inl m)))))))) = subst (SignLeast more) m (omega arith)
    single_least w more (inr (inr (inr (inr (inr (inr (inr (inr (inl m))))))))) = subst (SignLeast more) m (omega arith)
    single_least w more (inr (inr (inr (inr (inr (inr (inr (inr (inr (inl m)))))))))) = subst (SignLeast more) m (omega arith)
    single_least w more (inr (inr (inr (inr (inr (inr (inr (inr (inr (inr m)))))))))) = absurd m

-- ---- all tokens

abbrev Least : List ℕ → List ℕ → Type 0
Least more s = AtLeast (length s) (front_at (s ++ more))

token_least : (t : Token) (s more : List ℕ) → IsSpelledToken t s → Least more s
token_least (word []) s more h = absurd h.0
token_least (word (b ∷ bs)) s more h = subst (Least more) (sym h.1) (word_least b bs more h.0.0 h.0.1)
token_least (dash_word w) s more h = subst (Least more) (sym h.1) (read_whole (w ++ more) (dash_word w) (length w) (dash_read w more h.0))
token_least (integer i) s more h = subst (Least more) (sym (h.1 ∙ h.0.2)) (integer_least h.0.0 h.0.1 more h.0.3 h.0.4 h.0.5)
token_least (text content) s more h =
    subst (Least more) (sym h.1)
    (read_whole (((34 ∷ content) ++ 34 ∷ []) ++ more) (text content) (length ((34 ∷ content) ++ 34 ∷ [])) (string_read content more h.0))
token_least (sign w) s more h = subst (Least more) (sym h.1) (sign_least w more h.0)
token_least annotations s more h = read_whole (s ++ more) annotations (length s) (annotations_read s more h)
token_least line_end s more h = absurd h
token_least level_opens s more h = absurd h
token_least level_closes s more h = absurd h

pub no_longer_begins : (t : Token) (s behind : List ℕ) (other : Token) (r more : List ℕ) → IsSpelledToken t s → IsLongest t behind → IsSpelledToken other r
    → s ++ behind ≡ r ++ more
    → length r ≤ length s
no_longer_begins t s behind other r more is longest is_other same =
    let least : AtLeast (length r) (front_at (s ++ behind)) =
    subst (λ (x : List ℕ). AtLeast (length r) (front_at x)) (sym same) (token_least other r more is_other) in
    subst (AtLeast (length r)) (token_read t s behind is longest).1 least
