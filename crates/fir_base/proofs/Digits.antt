-- The hexadecimal digits of a number below 2 ^ 128: those of its sixteenth part, then the last.
use Rattle.std.proofs.Common.{◌≡◌, ℕ, zero, suc, ◌/◌, ◌%◌, ◌^◌, ◌<◌, ◌≤◌, inl, inr, List, [], ◌∷◌, ◌++◌, false, sym, ap, subst, ◌∙◌, append_assoc, arith, refl}
use Rattle.std.specs.Fmt.{digit_glyph, digits_onto, digits}
use Rattle.std.proofs.lemmas.Bool.{cases_lt}
use Rattle.std.proofs.lemmas.Bool.Decides.{nat_tests}
use Rattle.std.proofs.lemmas.Fmt.{hex_one_digit}
use Rattle.fir_base.specs.Digits.{hexadecimal}

-- the last digit of n
abbrev pub last_digit : ℕ → ℕ
last_digit n = digit_glyph false (n % 16)

-- at most k digits of n before acc
abbrev spell : ℕ → ℕ → List ℕ → List ℕ
spell k n acc = digits_onto k 16 false n acc

-- a number of one digit
spell_one : (k n : ℕ) (acc : List ℕ) → n < 16 → spell (suc k) n acc ≡ last_digit n ∷ acc
spell_one k n acc h = grind (arith, nat_tests)

-- a longer one
spell_more : (k n : ℕ) (acc : List ℕ) → 16 ≤ n → spell (suc k) n acc ≡ spell k (n / 16) (last_digit n ∷ acc)
spell_more k n acc h = grind (arith, nat_tests)

-- what stands behind the digits stays behind them
spell_before : (k n : ℕ) (acc : List ℕ) → spell k n acc ≡ spell k n [] ++ acc
spell_before zero n acc = refl
spell_before (suc k) n acc = elim (cases_lt n 16) [
  | inl h ↦ rw (spell_one k n acc h, spell_one k n [] h) refl
  | inr h ↦ spell_more k n acc h ∙ spell_before k (n / 16) (last_digit n ∷ acc) ∙ sym (append_assoc (spell k (n / 16) []) (last_digit n ∷ []) acc)
      ∙ ap (λ ds. ds ++ acc) (sym (spell_more k n [] h ∙ spell_before k (n / 16) (last_digit n ∷ [])))
]

-- the limit is free once it is high enough
spell_enough : (j k n : ℕ) (acc : List ℕ) → n < 16 ^ suc j → n < 16 ^ suc k → spell (suc j) n acc ≡ spell (suc k) n acc
spell_enough zero k n acc p q = spell_one zero n acc (omega arith) ∙ sym (spell_one k n acc (omega arith))
spell_enough (suc j) zero n acc p q = spell_one (suc j) n acc (omega arith) ∙ sym (spell_one zero n acc (omega arith))
spell_enough (suc j) (suc k) n acc p q = elim (cases_lt n 16) [
  | inl h ↦ spell_one (suc j) n acc h ∙ sym (spell_one (suc k) n acc h)
  | inr h ↦ spell_more (suc j) n acc h ∙ spell_enough j k (n / 16) (last_digit n ∷ acc) (omega arith) (omega arith) ∙ sym (spell_more (suc k) n acc h)
]

-- one digit
pub hexadecimal_one : (n : ℕ) → n < 16 → hexadecimal n ≡ digit_glyph false n ∷ []
hexadecimal_one n h = hex_one_digit false n h

-- a digit more
pub hexadecimal_more : (n : ℕ) → 16 ≤ n → n < 2 ^ 128 → hexadecimal n ≡ hexadecimal (n / 16) ++ last_digit n ∷ []
unfolding digits
hexadecimal_more n h small =
    spell_more 63 n [] h ∙ spell_enough 62 63 (n / 16) (last_digit n ∷ []) (omega arith) (omega arith) ∙ spell_before 64 (n / 16) (last_digit n ∷ [])

module _ (P : ℕ → List ℕ → Type 0) (one : (n : ℕ) → n < 16 → P n (digit_glyph false n ∷ [])) (more : (n : ℕ) (ds : List ℕ) → 16 ≤ n → P (n / 16) ds → P n (ds ++ last_digit n ∷ [])) where
  by : (k n : ℕ) → n ≤ k → n < 2 ^ 128 → P n (hexadecimal n)
  by zero n le small = subst (P n) (sym (hexadecimal_one n (omega arith))) (one n (omega arith))
  by (suc k) n le small = elim (cases_lt n 16) [
    | inl h ↦ subst (P n) (sym (hexadecimal_one n h)) (one n h)
    | inr h ↦ subst (P n) (sym (hexadecimal_more n h small)) (more n (hexadecimal (n / 16)) h (by k (n / 16) (omega arith) (omega arith)))
  ]

  -- induction on the digits
  pub hexadecimal_by_steps : (n : ℕ) → n < 2 ^ 128 → P n (hexadecimal n)
  hexadecimal_by_steps n small = by n n (omega arith) small

-- the last digit behind the others, in a text
pub hexadecimal_behind : (out : List ℕ) (n : ℕ) → 16 ≤ n → n < 2 ^ 128 → out ++ hexadecimal n ≡ (out ++ hexadecimal (n / 16)) ++ last_digit n ∷ []
hexadecimal_behind out n h small = rw (hexadecimal_more n h small) (sym (append_assoc out (hexadecimal (n / 16)) (last_digit n ∷ [])))
