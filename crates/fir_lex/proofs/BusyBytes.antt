-- Where a line goes on it is not idle, and the other way round.
use Rattle.std.proofs.Common.{◌≡◌, ℕ, Bool, true, false, ◌&&◌, eqb, List, [], ◌∷◌, refl}
use Rattle.std.proofs.lemmas.Bool.{eqb-true, eqb-false, eq-eqb, ne_eqb, or_from, or_parts}
use Rattle.fir_lex.specs.working.Bytes.{starts_with_byte, ends_line}
use Rattle.fir_lex.specs.working.Lexed.{is_idle}
use Rattle.fir_lex.specs.TokenFaults.{GoesOn}
use Rattle.fir_lex.proofs.Fronts.{not_behind, begins_with_no}
use Rattle.fir_lex.proofs.FrontsTaken.{starts_with_no}

pub stays_on_line : (b : ℕ) (bs : List ℕ) → GoesOn (b ∷ bs) → ends_line (b ∷ bs) ≡ false
stays_on_line b bs h = or_from (eqb b 10) _ (ne_eqb b 10 h.0) (by_return (eqb b 13) refl)
  where
    by_return : (t : Bool) → eqb b 13 ≡ t → (t && starts_with_byte 10 bs) ≡ false
    by_return true e = starts_with_no (λ next. next ≡ 10) 10 bs refl (h.1 (eqb-true b 13 e))
    by_return false e = refl

pub busy_there : (bytes : List ℕ) → GoesOn bytes → is_idle bytes ≡ false
busy_there [] h = absurd h
busy_there (b ∷ bs) h = or_from (ends_line (b ∷ bs)) (eqb b 59) (stays_on_line b bs h) (ne_eqb b 59 h.2)

pub goes_on_there : (bytes : List ℕ) → is_idle bytes ≡ false → GoesOn bytes
goes_on_there [] e = absurd (cc)
goes_on_there (b ∷ bs) e =
    let parts = or_parts (ends_line (b ∷ bs)) (eqb b 59) e in
    let inner = or_parts (eqb b 10) _ parts.0 in
    (eqb-false b 10 inner.0, (λ is. begins_with_no 10 bs (not_behind (eqb b 13) _ (eq-eqb b 13 is) inner.1)), eqb-false b 59 parts.1)
