-- The first word of a line is what stands before its first space, or all of it.
use Rattle.std.proofs.Common.{◌≡◌, ℕ, suc, ◌+◌, ◌<◌, ◌≤◌, List, [], ◌∷◌, length, take, drop, Bool, true, false, not, cond, ◌&&◌, nat_eq, nat_lt, codes, refl, sym, ap, ◌∙◌, arith}
use Rattle.std.specs.List.{position_or_len, before_first, after_first, slice_split, All, list_all}
use Rattle.std.specs.Str.{bytes_eq}
use Rattle.std.proofs.lemmas.Bool.{ltb-true, ltb-false, eqb-true, and_parts}
use Rattle.std.proofs.Math.Bool.{and_assoc}
use Rattle.std.proofs.lemmas.Bool.Decides.{nat_tests}
use Rattle.std.proofs.lemmas.List.{take_all}
use Rattle.std.proofs.lemmas.List.Elements.{All-from_get_or}
use Rattle.std.proofs.lemmas.List.Sums.{fails_before_first}
use Rattle.std.proofs.lemmas.List.Splits.{slice_split_first, slice_split_none}
use lib.Pointwise.{pointwise}
use Rattle.trace_text.specs.working.LineStarts.{ends_word}
use Rattle.trace_text.specs.working.Readings.{begins_with_init, is_init_line}

module _ (p : ℕ → Bool) (xs : List ℕ) where
  abbrev HasFront : Type 0
  HasFront = (parts : List (List ℕ)) × (slice_split p xs ≡ before_first p xs ∷ parts)

  front_at : (b : Bool) → nat_lt (position_or_len p xs) (length xs) ≡ b → HasFront
  front_at true h = (slice_split p (after_first p xs), slice_split_first p xs 0 (ltb-true (position_or_len p xs) (length xs) h))
  front_at false h =
      let far : length xs ≤ position_or_len p xs = ltb-false (position_or_len p xs) (length xs) h in
      let none : All (λ x. p x ≡ false) xs =
      All-from_get_or (λ x. p x ≡ false) xs 0 (λ k within. let before : k < position_or_len p xs = omega arith in fails_before_first p xs k 0 before) in
      ([], slice_split_none p xs none ∙ ap (λ front. front ∷ []) (sym (take_all (position_or_len p xs) xs far)))

  pub split_front : HasFront
  split_front = front_at (nat_lt (position_or_len p xs) (length xs)) refl

-- a line begins with the word `init` where that stands before its first space
pub begins_so : (line front word : List ℕ) → front ≡ before_first (λ b. nat_eq b 32) line → word ≡ codes "init" → bytes_eq front word ≡ is_init_line line
begins_so line front word h e =
    ap (λ w. bytes_eq w word) h ∙ ap (λ w. bytes_eq (before_first (λ b. nat_eq b 32) line) w) e ∙ sym (ap begins_with_init (split_front (λ b. nat_eq b 32) line).1)

abbrev is_space : ℕ → Bool
is_space b = nat_eq b 32

-- what stands before the first space, byte by byte
front_of : (b : ℕ) (bs : List ℕ) (t : Bool) → is_space b ≡ t → before_first is_space (b ∷ bs) ≡ cond t [] (b ∷ before_first is_space bs)
front_of b bs true e = rw e refl
front_of b bs false e =
    let count = position_or_len is_space bs in
    let next : 1 + count ≡ suc count = omega arith in
    rw e (ap (λ n. take n (b ∷ bs)) next)

-- the word begins the line and ends there
abbrev begins : List ℕ → List ℕ → Bool
begins word line = pointwise nat_eq (take (length word) line) word && ends_word (drop (length word) line)

nothing_before : (b : ℕ) (bs : List ℕ) (t : Bool) → is_space b ≡ t → bytes_eq (before_first is_space (b ∷ bs)) [] ≡ is_space b
nothing_before b bs true e = rw (front_of b bs true e, e) refl
nothing_before b bs false e = rw (front_of b bs false e, e) refl

one_before : (w b : ℕ) (ws bs : List ℕ) (t : Bool) → is_space b ≡ t → not (is_space w) ≡ true → bytes_eq (before_first is_space bs) ws ≡ begins ws bs
    → bytes_eq (before_first is_space (b ∷ bs)) (w ∷ ws) ≡ begins (w ∷ ws) (b ∷ bs)
one_before w b ws bs true e h r =
    let space : b ≡ 32 = eqb-true b 32 e in
    let other : nat_eq b w ≡ false = grind (arith, nat_tests) in
    rw (front_of b bs true e, other) refl
one_before w b ws bs false e h r = rw (front_of b bs false e, r) (sym (and_assoc (nat_eq b w) (pointwise nat_eq (take (length ws) bs) ws) (ends_word (drop (length ws) bs))))

-- a word without a space stands before the first space where the line begins with it
word_front : (word line : List ℕ) → list_all (λ b. not (is_space b)) word ≡ true → bytes_eq (before_first is_space line) word ≡ begins word line
word_front [] [] h = refl
word_front [] (b ∷ bs) h = nothing_before b bs (is_space b) refl
word_front (w ∷ ws) [] h = refl
word_front (w ∷ ws) (b ∷ bs) h =
    let p = and_parts (not (is_space w)) (list_all (λ b. not (is_space b)) ws) h in
    one_before w b ws bs (is_space b) refl p.0 (word_front ws bs p.1)

module _ (line : List ℕ) where
  init_front : is_init_line line ≡ begins (codes "init") line
  init_front = sym (begins_so line (before_first is_space line) (codes "init") refl refl) ∙ word_front (codes "init") line refl

  pub init_ends : (rest : List ℕ) → pointwise nat_eq (take 4 line) (codes "init") ≡ true → rest ≡ drop 4 line → ends_word rest ≡ is_init_line line
  init_ends rest h is = ap ends_word is ∙ sym (rw (init_front, h) refl)

  pub no_init : pointwise nat_eq (take 4 line) (codes "init") ≡ false → false ≡ is_init_line line
  no_init h = sym (rw (init_front, h) refl)
