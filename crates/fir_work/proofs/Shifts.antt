-- Numbers shifted by numbers.
use Rattle.std.proofs.Common.{◌≡◌, ℕ, ◌+◌, ◌-◌, ◌*◌, ◌/◌, ◌^◌, ◌<◌, ◌≤◌, arith, sym, ◌∙◌, inl, inr, pos, ◌*ℤ◌}
use Rattle.std.proofs.lemmas.Bool.{cases_lt, lt-ltb, le-ltb}
use Rattle.std.proofs.lemmas.Nat.{shl_whole, shl_below, shr_le, div_below, pow_pos}
use Rattle.fir_bits.proofs.Powers.{pow_le}
use Rattle.fir_bits.specs.Integers.{bits_of, shifted_down}
use Rattle.fir_work.specs.working.Works.{raised, lowered}
use Rattle.fir_work.proofs.Numbers.{mod_wide}

-- the result has room for the greatest shift
pub raised_is : (x y w v r : ℕ) → x < 2 ^ w → y < 2 ^ v → r ≡ w + (2 ^ v - 1) → r ≤ 128 → raised x y ≡ bits_of r (pos x *ℤ pos (2 ^ y))
raised_is x y w v r hx hy wide narrow =
    elim (cases_lt y 128) [
      | inl h ↦ rw (lt-ltb y 128 h)
          (shl_whole x w y 128 hx (omega (arith, hy, wide, narrow)) ∙ sym (mod_wide (x * 2 ^ y) (w + y) r (shl_below x w y hx) (omega (arith, hy, wide))))
      | inr h ↦ (let powers = pow_le w 0 (omega (arith, hy, wide, narrow, h)) in
          let none : x ≡ 0 = omega (arith, hx, powers) in
          let product : 0 * 2 ^ y ≡ 0 = omega arith in
          rw (le-ltb y 128 h, none, product) (sym (mod_wide 0 0 r (omega arith) (omega arith))))
    ]

pub lowered_is : (x y w r : ℕ) → x < 2 ^ w → r ≡ w → r ≤ 128 → lowered x y ≡ bits_of r (shifted_down (pos x) y)
lowered_is x y w r hx wide narrow =
    let small = shr_le x y in
    let same = mod_wide (x / 2 ^ y) w r (omega (arith, hx, small)) (omega arith) in
    elim (cases_lt y 128) [
      | inl h ↦ rw (lt-ltb y 128 h) (sym same)
      | inr h ↦ (let powers = pow_le w y (omega (arith, h, wide, narrow)) in
          let none = div_below x (2 ^ y) 1 (pow_pos y) (omega (arith, hx, powers)) in
          rw (le-ltb y 128 h) (omega (arith, none, same)))
    ]
