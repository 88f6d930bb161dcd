-- The first byte, and the bytes behind it, as the code reads them.
use Rattle.std.proofs.Common.{◌≡◌, ℕ, ◌-◌, ◌<◌, cond, ◌||◌, ◌&&◌, eqb, List, [], ◌∷◌, length, get_or, take, drop, refl, ap, arith}
use Rattle.std.proofs.lemmas.List.{take_all}
use Rattle.fir_lex.specs.working.Bytes.{starts_with_byte, ends_line, line_end_length}
use Rattle.fir_base.specs.Bytes.{is_digit}
use Rattle.fir_base.specs.working.Bytes.{starts_with_digit}

pub first_is : (s : List ℕ) (b : ℕ) → 0 < length s → eqb (get_or s 0 0) b ≡ starts_with_byte b s
first_is [] b some = absurd (omega arith)
first_is (c ∷ cs) b some = refl

pub line_end_is : (s : List ℕ) → 0 < length s → (eqb (get_or s 0 0) 10 || (eqb (get_or s 0 0) 13 && starts_with_byte 10 (take (length s - 1) (drop 1 s)))) ≡ ends_line s
line_end_is [] some = absurd (omega arith)
line_end_is (c ∷ cs) some = ap (λ (rest : List ℕ). eqb c 10 || (eqb c 13 && starts_with_byte 10 rest)) (take_all (length (c ∷ cs) - 1) cs (omega arith))

pub line_end_length_is : (s : List ℕ) → 0 < length s → cond (eqb (get_or s 0 0) 10) 1 2 ≡ line_end_length s
line_end_length_is [] some = absurd (omega arith)
line_end_length_is (c ∷ cs) some = refl

pub digit_first_is : (s : List ℕ) → 0 < length s → is_digit (get_or s 0 0) ≡ starts_with_digit s
digit_first_is [] some = absurd (omega arith)
digit_first_is (c ∷ cs) some = refl
