-- Values that are fitted to a width, or written at one, are below two to it.
use Rattle.std.proofs.Common.{◌≡◌, ℕ, ◌^◌, ◌<◌, true, false, nat_le, ⊎_elim}
use Rattle.std.proofs.lemmas.Bool.{cases_Bool, leb-true}
use Rattle.std.proofs.lemmas.Nat.{pow_pos}
use Rattle.std.proofs.Math.Nat.{mod-lt}
use Rattle.fir_bits.specs.declared.values.Num.{Num}
use Rattle.fir_bits.specs.Values.{IsBitVector}
use Rattle.fir_bits.proofs.Below.{widened_below}
use Rattle.fir_meaning.specs.Values.{at_width}

pub at_width_below : (v : Num) (to : ℕ) → IsBitVector v.value → at_width v to < 2 ^ to
at_width_below v to b =
    ⊎_elim
    (λ (h : nat_le v.value.width to ≡ true). rw h (widened_below v to b (leb-true v.value.width to h)))
    (λ (h : nat_le v.value.width to ≡ false). rw h (mod-lt v.value.number (pow_pos to)))
    (cases_Bool (nat_le v.value.width to))
