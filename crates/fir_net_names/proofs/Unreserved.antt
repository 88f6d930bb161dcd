-- The names that end with a number are spelled as names, and none is reserved.
use Rattle.std.proofs.Common.{◌≡◌, ℕ, ◌<◌, ◌/◌, ◌%◌, zero, suc, List, [], ◌∷◌, ◌++◌, Bool, true, false, ◌||◌, ◌&&◌, refl, ap, ◌∙◌, arith, append_assoc}
use Rattle.std.specs.Prelude.{map, not, codes, decimal, nat_eq}
use Rattle.std.specs.Fmt.{digits, digits_onto, digit_glyph}
use Rattle.std.specs.List.{list_all}
use Rattle.std.specs.Str.{bytes_eq}
use Rattle.std.proofs.lemmas.Bool.{not-true, both_ways, and_parts, and_from, or_left, or_right, or_from, false_from_ne_true, cond_both}
use Rattle.std.proofs.lemmas.List.Folds.{list_all-append}
use Rattle.std.proofs.lemmas.Slice.Eq.{bytes_eq-Decides}
use Rattle.fir_base.specs.Words.{is_among}
use Rattle.ver_words.specs.declared.reserved.TheConstants.{RESERVED_WORDS}
use Rattle.ver_words.specs.Names.{is_word, IsName, module_name}
use Rattle.fir_base.specs.Bytes.{is_digit, is_word_byte, is_word_start}
use Rattle.fir_base.specs.working.Bytes.{starts_with_digit}
use Rattle.ver_words.specs.Reserved.{is_reserved}
use Rattle.fir_net_names.specs.Names.{suffixed, inner_name}

-- somewhere an underscore stands before a digit
abbrev is_numbered : List ℕ → Bool
is_numbered [] = false
is_numbered (b ∷ bs) = (nat_eq b 95 && starts_with_digit bs) || is_numbered bs

-- an underscore comes first
abbrev starts_with_underscore : List ℕ → Bool
starts_with_underscore [] = false
starts_with_underscore (b ∷ bs) = nat_eq b 95

glyph_is_digit : (n : ℕ) → is_digit (digit_glyph false (n % 10)) ≡ true
glyph_is_digit n =
    let small : n % 10 < 10 = omega arith in
    small_glyph (n % 10) small
  where
    small_glyph : (d : ℕ) → d < 10 → is_digit (digit_glyph false d) ≡ true
    small_glyph d h = grind arith

are_digits : (k n : ℕ) (after : List ℕ) → list_all is_digit after ≡ true → list_all is_digit (digits_onto k 10 false n after) ≡ true
are_digits zero n after h = h
are_digits (suc k) n after h =
    let more : list_all is_digit (digit_glyph false (n % 10) ∷ after) ≡ true = and_from _ _ (glyph_is_digit n) h in
    cond_both (nat_eq (n / 10) 0) (digit_glyph false (n % 10) ∷ after) (digits_onto k 10 false (n / 10) (digit_glyph false (n % 10) ∷ after))
    (λ ds. list_all is_digit ds ≡ true)
    (λ _. more)
    (λ _. are_digits k (n / 10) (digit_glyph false (n % 10) ∷ after) more)

digit_first : (k n : ℕ) (after : List ℕ) → starts_with_digit after ≡ true → starts_with_digit (digits_onto k 10 false n after) ≡ true
digit_first zero n after h = h
digit_first (suc k) n after h =
    cond_both (nat_eq (n / 10) 0) (digit_glyph false (n % 10) ∷ after) (digits_onto k 10 false (n / 10) (digit_glyph false (n % 10) ∷ after))
    (λ ds. starts_with_digit ds ≡ true)
    (λ _. glyph_is_digit n)
    (λ _. digit_first k (n / 10) (digit_glyph false (n % 10) ∷ after) (glyph_is_digit n))

decimal_is_digits : (n : ℕ) → list_all is_digit (decimal n) ≡ true
unfolding digits
decimal_is_digits n = are_digits 64 n [] refl

decimal_starts : (n : ℕ) → starts_with_digit (decimal n) ≡ true
unfolding digits
decimal_starts n =
    cond_both (nat_eq (n / 10) 0) (digit_glyph false (n % 10) ∷ []) (digits_onto 63 10 false (n / 10) (digit_glyph false (n % 10) ∷ []))
    (λ ds. starts_with_digit ds ≡ true)
    (λ _. glyph_is_digit n)
    (λ _. digit_first 63 (n / 10) (digit_glyph false (n % 10) ∷ []) (glyph_is_digit n))

word_bytes : (ds : List ℕ) → list_all is_digit ds ≡ true → list_all is_word_byte ds ≡ true
word_bytes [] h = refl
word_bytes (d ∷ ds) h =
    let p = and_parts (is_digit d) (list_all is_digit ds) h in
    and_from _ _ (or_right (is_word_start d) (is_digit d || nat_eq d 36) (or_left _ _ p.0)) (word_bytes ds p.1)

-- a word with more bytes of words behind it
longer_word : (base more : List ℕ) → is_word base ≡ true → list_all is_word_byte more ≡ true → is_word (base ++ more) ≡ true
longer_word [] more h m = absurd (cc)
longer_word (b ∷ bs) more h m =
    let p = and_parts (is_word_start b) (list_all is_word_byte bs) h in
    and_from _ _ p.0 (list_all-append is_word_byte bs more ∙ and_from _ _ p.1 m)

pub suffixed_word : (base : List ℕ) (k : ℕ) → is_word base ≡ true → is_word (suffixed base k) ≡ true
suffixed_word base k h = longer_word (base ++ codes "_") (decimal k) (longer_word base (codes "_") h refl) (word_bytes (decimal k) (decimal_is_digits k))

-- a word with a mark that no word of a table has
not_among : (mark : List ℕ → Bool) (table : List (List ℕ)) (word : List ℕ) → list_all (λ w. not (mark w)) table ≡ true → mark word ≡ true → is_among table word ≡ false
not_among mark [] word t b = refl
not_among mark (w ∷ table) word t b =
    let p = and_parts (not (mark w)) (list_all (λ w. not (mark w)) table) t in
    let apart : bytes_eq w word ≡ true → ⊥ = λ e. both_ways (mark w) (not-true _ p.0) (ap mark ((bytes_eq-Decides w word).0 e) ∙ b) in
    or_from _ _ (false_from_ne_true _ apart) (not_among mark table word p.1 b)

none_is_numbered : list_all (λ w. not (is_numbered w)) (map (λ entry. entry.now) RESERVED_WORDS.now) ≡ true
none_is_numbered = refl

none_starts_with_underscore : list_all (λ w. not (starts_with_underscore w)) (map (λ entry. entry.now) RESERVED_WORDS.now) ≡ true
none_starts_with_underscore = refl

behind_is_numbered : (base ds : List ℕ) → starts_with_digit ds ≡ true → is_numbered (base ++ 95 ∷ ds) ≡ true
behind_is_numbered [] ds h = or_left _ _ h
behind_is_numbered (b ∷ bs) ds h = or_right _ _ (behind_is_numbered bs ds h)

behind_unreserved : (base ds : List ℕ) → starts_with_digit ds ≡ true → is_reserved (base ++ 95 ∷ ds) ≡ false
unfolding is_reserved
behind_unreserved base ds h =
    not_among is_numbered (map (λ entry. entry.now) RESERVED_WORDS.now) (base ++ 95 ∷ ds) none_is_numbered (behind_is_numbered base ds h)

pub suffixed_unreserved : (base : List ℕ) (k : ℕ) → is_reserved (suffixed base k) ≡ false
suffixed_unreserved base k = ap is_reserved (append_assoc base (codes "_") (decimal k)) ∙ behind_unreserved base (decimal k) (decimal_starts k)

pub inner_unreserved : (k : ℕ) → is_reserved (inner_name k) ≡ false
unfolding is_reserved
inner_unreserved k = not_among starts_with_underscore (map (λ entry. entry.now) RESERVED_WORDS.now) (inner_name k) none_starts_with_underscore refl

-- the module's name
pub module_is_name : (name : List ℕ) → is_word name ≡ true → IsName (module_name name)
module_is_name name h = choose (is_reserved name) refl
  where
    choose : (b : Bool) → is_reserved name ≡ b → IsName (module_name name)
    choose true e = rw e (record { spelled = longer_word name (95 ∷ 48 ∷ []) h refl; free = ap not (behind_unreserved name (48 ∷ []) refl) })
    choose false e = rw e (record { spelled = h; free = ap not e })

-- the names of inner nets are spelled as names
inner_word : (k : ℕ) → is_word (inner_name k) ≡ true
inner_word k = word_bytes (decimal k) (decimal_is_digits k)

pub inner_is_name : (k : ℕ) → IsName (inner_name k)
inner_is_name k = record { spelled = inner_word k; free = ap not (inner_unreserved k) }
