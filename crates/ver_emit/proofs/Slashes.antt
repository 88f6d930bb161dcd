-- Texts in which a space stands behind each slash.
-- Neither two slashes nor a slash and a star stand in such a text, and two such texts make one.
use Rattle.std.proofs.Common.{◌≡◌, ℕ, zero, suc, ◌/◌, ◌%◌, ◌<◌, ◌≤◌, List, [], ◌∷◌, ◌++◌, Bool, true, false, if◌then◌else◌, refl, sym, ap, ◌∙◌, arith}
use Rattle.std.specs.Prelude.{codes, decimal, flat_map, not, nat_eq, ◌==◌, ◌&&◌, ◌||◌}
use Rattle.std.specs.List.{list_all, AllByRecursion}
use Rattle.std.specs.Fmt.{digit_glyph, digits_onto, digits}
use Rattle.std.proofs.lemmas.Bool.{and_parts, and_from}
use Rattle.std.proofs.lemmas.Bool.Decides.{nat_tests}
use Rattle.fir_base.specs.Bytes.{is_word_start, is_word_byte}
use Rattle.fir_base.specs.Digits.{hexadecimal}
use Rattle.ver_words.specs.Names.{IsName}
use Rattle.ver_emit.specs.Comments.{StandsNowhere, HasNoComment}

abbrev begins_with_space : List ℕ → Bool
begins_with_space [] = false
begins_with_space (b ∷ bs) = nat_eq b 32

abbrev are_spaced : List ℕ → Bool
are_spaced [] = true
are_spaced (b ∷ bs) = (not (nat_eq b 47) || begins_with_space bs) && are_spaced bs

pub record IsSpaced (text : List ℕ) : Type 0 where
  pub each : are_spaced text ≡ true

-- a text that computes
pub spaced : (text : List ℕ) → are_spaced text ≡ true → IsSpaced text
spaced text e = record { each = e }

-- what begins with a space does so with more behind it
begins_so : (bs more : List ℕ) (t : Bool) → (t || begins_with_space bs) ≡ true → (t || begins_with_space (bs ++ more)) ≡ true
begins_so bs more true e = refl
begins_so [] more false e = absurd cc
begins_so (b ∷ bs) more false e = e

both_spaced : (a b : List ℕ) → are_spaced a ≡ true → are_spaced b ≡ true → are_spaced (a ++ b) ≡ true
both_spaced [] b e f = f
both_spaced (x ∷ xs) b e f =
    let p = and_parts (not (nat_eq x 47) || begins_with_space xs) (are_spaced xs) e in
    and_from _ _ (begins_so xs b (not (nat_eq x 47)) p.0) (both_spaced xs b p.1 f)

pub spaced_joined : (a b : List ℕ) → IsSpaced a → IsSpaced b → IsSpaced (a ++ b)
spaced_joined a b p q = record { each = both_spaced a b p.each q.each }

-- three such texts
pub three_spaced : (a b c : List ℕ) → IsSpaced a → IsSpaced b → IsSpaced c → IsSpaced (a ++ b ++ c)
three_spaced a b c p q r = spaced_joined (a ++ b) c (spaced_joined a b p q) r

-- the texts of a list of things
pub spaced_parts : {A : Type 0} → (f : A → List ℕ) (xs : List A) → AllByRecursion (λ x. IsSpaced (f x)) xs → IsSpaced (flat_map f xs)
spaced_parts f [] all = spaced [] refl
spaced_parts f (x ∷ xs) all = spaced_joined (f x) (flat_map f xs) all.0 (spaced_parts f xs all.1)

-- bytes of words are no slashes
no_slash : (b : ℕ) → is_word_byte b ≡ true → not (nat_eq b 47) ≡ true
no_slash b h = grind (arith, nat_tests)

word_bytes_spaced : (bs : List ℕ) → list_all is_word_byte bs ≡ true → are_spaced bs ≡ true
word_bytes_spaced [] h = refl
word_bytes_spaced (b ∷ bs) h =
    let p = and_parts (is_word_byte b) (list_all is_word_byte bs) h in
    rw (no_slash b p.0) (word_bytes_spaced bs p.1)

start_is_byte : (b : ℕ) → is_word_start b ≡ true → is_word_byte b ≡ true
start_is_byte b h = rw h refl

pub name_spaced : (n : List ℕ) → IsName n → IsSpaced n
name_spaced [] named = spaced [] refl
name_spaced (b ∷ bs) named =
    let p = and_parts (is_word_start b) (list_all is_word_byte bs) named.spelled in
    spaced (b ∷ bs) (rw (no_slash b (start_is_byte b p.0)) (word_bytes_spaced bs p.1))

-- nor are digits
glyph_no_slash : (d : ℕ) → d < 16 → not (nat_eq (digit_glyph false d) 47) ≡ true
glyph_no_slash d h = grind (arith, nat_tests)

digits_spaced : (k base n : ℕ) (acc : List ℕ) → 1 ≤ base → base ≤ 16 → are_spaced acc ≡ true → are_spaced (digits_onto k base false n acc) ≡ true
digits_spaced zero base n acc low high h = h
digits_spaced (suc k) base n acc low high h =
    let digit : n % base < 16 = omega arith in
    let more : are_spaced (digit_glyph false (n % base) ∷ acc) ≡ true = rw (glyph_no_slash (n % base) digit) h in
    elim (n / base == 0)
    as (λ t. are_spaced (if t then digit_glyph false (n % base) ∷ acc else digits_onto k base false (n / base) (digit_glyph false (n % base) ∷ acc)) ≡ true) [
      | true ↦ more
      | false ↦ digits_spaced k base (n / base) _ low high more
    ]

pub decimal_spaced : (n : ℕ) → IsSpaced (decimal n)
unfolding digits
decimal_spaced n = spaced (decimal n) (digits_spaced 64 10 n [] (omega arith) (omega arith) refl)

pub hexadecimal_spaced : (n : ℕ) → IsSpaced (hexadecimal n)
unfolding digits
hexadecimal_spaced n = spaced (hexadecimal n) (digits_spaced 64 16 n [] (omega arith) (omega arith) refl)

-- what stands behind a front
behind_spaced : (front rest : List ℕ) → are_spaced (front ++ rest) ≡ true → are_spaced rest ≡ true
behind_spaced [] rest e = e
behind_spaced (b ∷ bs) rest e =
    behind_spaced bs rest (and_parts (not (nat_eq b 47) || begins_with_space (bs ++ rest)) (are_spaced (bs ++ rest)) e).1

-- bytes that no spaced text begins with stand nowhere in one
nowhere : (bytes text : List ℕ) → ((rest : List ℕ) → are_spaced (bytes ++ rest) ≡ false) → IsSpaced text → StandsNowhere bytes text
nowhere bytes text not_first is front rest e =
    let whole : are_spaced (front ++ (bytes ++ rest)) ≡ true = ap are_spaced (sym e) ∙ is.each in
    absurd (let back = behind_spaced front (bytes ++ rest) whole in let no = not_first rest in cc)

pub no_comment : (text : List ℕ) → IsSpaced text → HasNoComment text
no_comment text is = record {
  line = nowhere (codes "//") text (λ rest. refl) is;
  block = nowhere (codes "/*") text (λ rest. refl) is;
}
