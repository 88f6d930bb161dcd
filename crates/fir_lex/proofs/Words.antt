-- Words at the front.
use Rattle.std.proofs.Common.{◌≡◌, ℕ, ◌+◌, ◌≤◌, Bool, true, false, cond, List, [], ◌∷◌, length, take, Option, Some, None, refl, sym, ap, arith}
use Rattle.std.specs.Prelude.{codes, nat_eq, take_while}
use Rattle.std.specs.List.{starts_with, prefix_len}
use Rattle.std.specs.Cmp.Lexicographic.{same_text}
use Rattle.std.proofs.lemmas.Bool.{or_left}
use Rattle.std.proofs.lemmas.List.Folds.{length-prefix_len}
use Rattle.std.proofs.lemmas.List.Sums.{prefix_len-le-length}
use Rattle.fir_base.specs.Bytes.{is_word_start, is_word_byte, is_digit}
use Rattle.fir_base.specs.working.Bytes.{starts_with_digit}
use Rattle.fir_lex.specs.working.Front.{dash_word_at}
use Rattle.fir_lex.specs.working.View.{AtWord}

abbrev some : List ℕ → Option (List ℕ)
some w = Some w

abbrev begins : List ℕ → List ℕ → Bool
begins bytes w = starts_with nat_eq bytes w

is_front : (bytes w : List ℕ) → begins bytes w ≡ true → take (length w) bytes ≡ w
is_front bytes w h = sym (same_text w (take (length w) bytes) (sym h))

pub dash_first : (bytes : List ℕ) → begins bytes (codes "data-type") ≡ true → Some (take 9 bytes) ≡ dash_word_at bytes
dash_first bytes a = rw a (ap some (is_front bytes (codes "data-type") a))

pub dash_second : (bytes : List ℕ) → begins bytes (codes "data-type") ≡ false → begins bytes (codes "read-latency") ≡ true → Some (take 12 bytes) ≡ dash_word_at bytes
dash_second bytes a b = rw (a, b) (ap some (is_front bytes (codes "read-latency") b))

pub dash_third : (bytes : List ℕ) → begins bytes (codes "data-type") ≡ false → begins bytes (codes "read-latency") ≡ false → begins bytes (codes "write-latency") ≡ true → Some (take 13 bytes) ≡ dash_word_at bytes
dash_third bytes a b d = rw (a, b, d) (ap some (is_front bytes (codes "write-latency") d))

pub dash_fourth : (bytes : List ℕ) → begins bytes (codes "data-type") ≡ false → begins bytes (codes "read-latency") ≡ false → begins bytes (codes "write-latency") ≡ false → begins bytes (codes "read-under-write") ≡ true → Some (take 16 bytes) ≡ dash_word_at bytes
dash_fourth bytes a b d e = rw (a, b, d, e) (ap some (is_front bytes (codes "read-under-write") e))

pub no_dash : (bytes : List ℕ) → begins bytes (codes "data-type") ≡ false → begins bytes (codes "read-latency") ≡ false → begins bytes (codes "write-latency") ≡ false → begins bytes (codes "read-under-write") ≡ false → None ≡ dash_word_at bytes
no_dash bytes a b d e = rw (a, b, d, e) refl

-- ---- lengths of words and digits

pub word_some : (bytes : List ℕ) → AtWord bytes → 1 ≤ length (take_while is_word_byte bytes)
word_some [] h = absurd h
word_some (b ∷ bs) h =
    let passes : is_word_byte b ≡ true = or_left (is_word_start b) _ h in
    let e : prefix_len is_word_byte (b ∷ bs) ≡ 1 + prefix_len is_word_byte bs = ap (λ (t : Bool). cond t (1 + prefix_len is_word_byte bs) 0) passes in
    omega (arith, length-prefix_len is_word_byte (b ∷ bs), e)

pub digits_some : (bytes : List ℕ) → starts_with_digit bytes ≡ true → 1 ≤ length (take_while is_digit bytes)
digits_some [] h = absurd cc
digits_some (b ∷ bs) h =
    let e : prefix_len is_digit (b ∷ bs) ≡ 1 + prefix_len is_digit bs = ap (λ (t : Bool). cond t (1 + prefix_len is_digit bs) 0) h in
    omega (arith, length-prefix_len is_digit (b ∷ bs), e)

pub taken_within : (p : ℕ → Bool) (bytes : List ℕ) → length (take_while p bytes) ≤ length bytes
taken_within p bytes = omega (arith, length-prefix_len p bytes, prefix_len-le-length p bytes)

pub taken_are : (p : ℕ → Bool) (bytes : List ℕ) → take (length (take_while p bytes)) bytes ≡ take_while p bytes
taken_are p bytes = ap (λ (n : ℕ). take n bytes) (length-prefix_len p bytes)
