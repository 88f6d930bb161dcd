-- Bytes on one line: no line's end begins among them.
use Rattle.std.proofs.Common.{◌≡◌, ◌≢◌, ℕ, suc, false, eqb, List, [], ◌∷◌, ◌++◌, Option, Some, None, refl, sym}
use Rattle.std.specs.Prelude.{option_map}
use Rattle.std.specs.List.{AllByRecursion}
use Rattle.std.proofs.lemmas.Bool.{eqb-false, ne_eqb, or_from, and_right, or_parts}
use Rattle.fir_base.proofs.Empty.{empty_right}
use Rattle.fir_lex.specs.working.Bytes.{starts_with_byte, ends_line}
use Rattle.fir_lex.specs.Pieces.{EndsIn}

abbrev pub NoNewline : List ℕ → Type 0
NoNewline = AllByRecursion (λ b. b ≢ 10)

pub starts_with_none : (s : List ℕ) (c : ℕ) (behind : List ℕ) → NoNewline s → c ≢ 10 → starts_with_byte 10 (s ++ c ∷ behind) ≡ false
starts_with_none [] c behind all ne = ne_eqb c 10 ne
starts_with_none (b ∷ s) c behind all ne = ne_eqb b 10 all.0

-- no line's end begins before a byte that is no newline
pub goes_on : (b : ℕ) (s : List ℕ) (c : ℕ) (behind : List ℕ) → b ≢ 10 → NoNewline s → c ≢ 10 → ends_line (b ∷ s ++ c ∷ behind) ≡ false
goes_on b s c behind apart all ne = or_from (eqb b 10) _ (ne_eqb b 10 apart) (and_right (eqb b 13) _ (starts_with_none s c behind all ne))

pub no_newline : (b : ℕ) (bs : List ℕ) → ends_line (b ∷ bs) ≡ false → b ≢ 10
no_newline b bs e = eqb-false b 10 (or_parts (eqb b 10) _ e).0

pub nothing_ends : (b : ℕ) → EndsIn b [] → ⊥
nothing_ends b (front, e) = let off = empty_right front (b ∷ []) (sym e) in absurd (cc)

-- one more than a length
pub record Before (o : Option ℕ) (n : ℕ) : Type 0 where
  pub count : ℕ
  pub found : o ≡ Some count
  pub next : n ≡ suc count

pub before : (o : Option ℕ) (n : ℕ) → option_map suc o ≡ Some n → Before o n
before None n h = absurd (cc)
before (Some m) n h = record { count = m; found = refl; next = cc }
