-- The first byte, and the bytes behind it, as the code reads them.
use Rattle.std.proofs.Common.{◌≡◌, ℕ, ◌-◌, ◌<◌, ◌&&◌, eqb, List, [], ◌∷◌, length, get_or, take, drop, refl, ap, arith}
use Rattle.std.proofs.lemmas.List.{take_all}
use Rattle.ver_lex.specs.working.Bytes.{starts_with_byte}
use Rattle.ver_lex.specs.working.Fronts.{ends_block}

pub first_is : (s : List ℕ) (b : ℕ) → 0 < length s → eqb (get_or s 0 0) b ≡ starts_with_byte b s
first_is [] b some = absurd (omega arith)
first_is (c ∷ cs) b some = refl

pub block_end_is : (s : List ℕ) → 0 < length s → (eqb (get_or s 0 0) 42 && starts_with_byte 47 (take (length s - 1) (drop 1 s))) ≡ ends_block s
block_end_is [] some = absurd (omega arith)
block_end_is (c ∷ cs) some = ap (λ (rest : List ℕ). eqb c 42 && starts_with_byte 47 rest) (take_all (length (c ∷ cs) - 1) cs (omega arith))
