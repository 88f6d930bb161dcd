-- Widths past 128 bits that count as 129.
use Rattle.std.proofs.Common.{◌≡◌, ℕ, ◌*◌, ◌^◌, ◌≤◌, min, Bool, true, false, refl, sym, ap, ◌∙◌, arith, zero, suc}
use Rattle.std.specs.Prelude.{Option, Some, None, nat_lt, ◌&&◌, option_map}
use Rattle.std.proofs.lemmas.Bool.{ltb-true, ltb-false}
use Rattle.fir_bits.proofs.Powers.{pow_le}
use Rattle.ver_ast.specs.AtomForms.{number_of}
use Rattle.ver_check.specs.OperandFaults.{is_narrow, is_constant_fit}
use Rattle.ver_check.specs.working.Judged.{capped}

times_capped : (count w : ℕ) → min (count * min w 129) 129 ≡ min (count * w) 129
times_capped zero w = omega arith
times_capped (suc n) w = by (nat_lt w 129) refl
  where
    wide : 129 ≤ w → min (suc n * min w 129) 129 ≡ min (suc n * w) 129
    wide h =
        let cut : min w 129 ≡ 129 = omega arith in
        let least : 129 ≤ suc n * w = omega arith in
        let one : min (suc n * 129) 129 ≡ 129 = omega arith in
        let two : min (suc n * w) 129 ≡ 129 = omega arith in
        ap (λ (x : ℕ). min (suc n * x) 129) cut ∙ one ∙ sym two

    by : (b : Bool) → nat_lt w 129 ≡ b → min (suc n * min w 129) 129 ≡ min (suc n * w) 129
    by true e = let less = ltb-true w 129 e in let small : min w 129 ≡ w = omega arith in ap (λ (x : ℕ). min (suc n * x) 129) small
    by false e = let more = ltb-false w 129 e in wide (omega arith)

-- so many copies
pub copies_capped : (count width : ℕ) (bits all : Option ℕ) → bits ≡ Some width → bits ≡ capped all
    → Some (min (count * width) 129) ≡ capped (option_map (λ w. count * w) all)
copies_capped count width bits None e h = cc
copies_capped count width bits (Some w) e h =
    let same : width ≡ min w 129 = cc in ap Some (ap (λ (x : ℕ). min (count * x) 129) same ∙ times_capped count w)

pub not_less : (a b : ℕ) → b ≤ a → nat_lt a b ≡ false
not_less a b h = by (nat_lt a b) refl
  where
    by : (c : Bool) → nat_lt a b ≡ c → nat_lt a b ≡ false
    by true e = let less = ltb-true a b e in absurd (omega arith)
    by false e = e

-- a number that fits no type fits no width
pub none_fits : (o : Option ℕ) (w : ℕ) → o ≡ None → is_narrow w ≡ true → false ≡ is_constant_fit w (number_of o)
none_fits o w e narrow =
    let number = ap number_of e in
    let few : w ≤ 128 = narrow_most w narrow in
    let power = pow_le w 128 few in
    let large : nat_lt (number_of o) (2 ^ w) ≡ false = not_less (number_of o) (2 ^ w) (omega arith) in
    sym (ap (λ (b : Bool). b && nat_lt (number_of o) (2 ^ w)) narrow ∙ large)
  where
    narrow_most : (w : ℕ) → is_narrow w ≡ true → w ≤ 128
    narrow_most w h = by (nat_lt 0 w) (nat_lt w 129) refl refl
      where
        by : (a b : Bool) → nat_lt 0 w ≡ a → nat_lt w 129 ≡ b → w ≤ 128
        by true true e f = let less = ltb-true w 129 f in omega arith
        by true false e f = absurd (cc)
        by false b e f = absurd (cc)
