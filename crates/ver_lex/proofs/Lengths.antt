-- The length to the end of a block comment, seen from an index: what a loop at the index keeps.
use Rattle.std.proofs.Common.{◌≡◌, ℕ, suc, ◌+◌, ◌<◌, ◌≤◌, Bool, true, false, ◌&&◌, List, [], ◌∷◌, length, get_or, drop, Option, Some, None, refl, sym, ap, ◌∙◌, zero-add, arith}
use Rattle.std.specs.Prelude.{option_map, nat_eq}
use Rattle.std.proofs.lemmas.List.{drop_more, drop_all}
use Rattle.ver_lex.specs.working.Fronts.{ends_block, block_length}

abbrev pub ahead : ℕ → Option ℕ → Option ℕ
ahead i None = None
ahead i (Some n) = Some (i + n)

abbrev some : ℕ → Option ℕ
some n = Some n

ahead_more : (i : ℕ) (o : Option ℕ) → ahead (i + 1) o ≡ ahead i (option_map suc o)
ahead_more i None = refl
ahead_more i (Some n) = let e : i + 1 + n ≡ i + suc n = omega arith in ap some e

pub ahead_zero : (o : Option ℕ) → ahead 0 o ≡ o
ahead_zero None = refl
ahead_zero (Some n) = ap some (zero-add n)

abbrev pub block_at : List ℕ → ℕ → Option ℕ
block_at s i = ahead i (block_length (drop i s))

ends : (s : List ℕ) → ends_block s ≡ true → block_length s ≡ Some 0
ends [] h = absurd cc
ends (b ∷ bs) h = rw h refl

goes_on : (b : ℕ) (bs : List ℕ) → ends_block (b ∷ bs) ≡ false → block_length (b ∷ bs) ≡ option_map suc (block_length bs)
goes_on b bs h = rw h refl

pub block_at_end : (s : List ℕ) (i : ℕ) → length s ≤ i → block_at s i ≡ None
block_at_end s i past = ap (λ (r : List ℕ). ahead i (block_length r)) (drop_all i s past)

pub block_at_stars : (s : List ℕ) (i : ℕ) → ends_block (drop i s) ≡ true → block_at s i ≡ Some i
block_at_stars s i h = let e : i + 0 ≡ i = omega arith in ap (ahead i) (ends (drop i s) h) ∙ ap some e

pub block_at_more : (s : List ℕ) (i : ℕ) → i < length s → ends_block (drop i s) ≡ false → block_at s (i + 1) ≡ block_at s i
block_at_more s i lt h =
    let parts = drop_more s i 0 lt in
    ahead_more i (block_length (drop (i + 1) s))
    ∙ sym (ap (λ (r : List ℕ). ahead i (block_length r)) parts ∙ ap (ahead i) (goes_on (get_or s i 0) (drop (i + 1) s) (ap ends_block (sym parts) ∙ h)))

-- two bytes at least stand where a block comment ends
pub two_end : (s : List ℕ) → ends_block s ≡ true → 2 ≤ length s
two_end [] h = absurd cc
two_end (b ∷ []) h = absurd (no (nat_eq b 42) h)
  where
    no : (t : Bool) → (t && false) ≡ true → ⊥
    no true e = cc
    no false e = cc
two_end (b ∷ c ∷ bs) h = omega arith
