-- The forms of operations on SInts.
use Rattle.std.proofs.Common.{◌≡◌, ℕ, ◌-◌, ◌*◌, ◌/◌, ◌^◌, ◌<◌, ◌≤◌, Bool, true, false, if◌then◌else◌, arith, refl, subst, sym, ◌-ℤ◌, neg_ℤ, pos}
use Rattle.std.specs.Prelude.{bit_and}
use Rattle.fir_bits.specs.Forms.{no_type}
use Rattle.fir_bits.specs.Integers.{bits_of, reading}
use Rattle.fir_bits.specs.Operators.{operation_value}
use Rattle.fir_bits.specs.Values.{extended}
use Rattle.fir_bits.proofs.Powers.{pow_le}
use Rattle.fir_net.specs.working.Values.{number_of}
use Rattle.std.proofs.lemmas.Nat.{div_below}
use Rattle.std.proofs.lemmas.Bool.{eq-eqb}
use Rattle.std.proofs.lemmas.Int.{ints}
use Rattle.fir_bits.specs.declared.operators.PrimOp.{PrimOp}
use Rattle.fir_bits.specs.declared.operators.PrimOp.TheVariants.{Add, Sub, Mul, Neg, Lt, Leq, Gt, Geq}
use Rattle.fir_bits.specs.declared.types.NumTy.{NumTy}
use Rattle.fir_work.specs.declared.signed.SignedWork.{SignedWork}
use Rattle.fir_work.specs.declared.signed.SignedWork.TheVariants as signed
use Rattle.fir_work.specs.declared.work.Work.{Work}
use Rattle.fir_work.specs.declared.work.Work.TheVariants as work
use Rattle.fir_work.specs.working.Forms.{HasWidth, IsPairWork, IsSingleWork}
use Rattle.fir_work.specs.working.Works.{filled, less, signed_done}
use Rattle.fir_work.proofs.SignedArithmetic.{filled_is, wraps, wide_below, cast_is, sum_bits, difference_bits, product_bits, negative_bits}

abbrev sint : ℕ → NumTy
sint w = record { signed = true; width = w }

-- what is shown of SInts of any widths holds of operands that are SInts
of_sints : (P : NumTy → NumTy → Type 0) (a b : NumTy) → a.signed ≡ true → b.signed ≡ true → P (sint a.width) (sint b.width) → P a b
of_sints P a b first second h =
    subst (λ (s : Bool). P (record { signed = s; width = a.width }) b) (sym first)
    (subst (λ (s : Bool). P (sint a.width) (record { signed = s; width = b.width })) (sym second) h)

-- the form of that work on operands of these types
abbrev pub signed_form : SignedWork → ℕ → NumTy → NumTy → Work
signed_form kind r a b = work.Signed kind (a.width - 1) (b.width - 1) (2 ^ r - 1)

abbrev HasForm : PrimOp → SignedWork → ℕ → NumTy → NumTy → Type 0
HasForm op kind r a b = HasWidth op a b 0 0 r → IsPairWork op a b r (signed_form kind r a b)

-- the work gives the result from the numbers of SInts of w and v bits that are filled with their signs
abbrev Gives : PrimOp → SignedWork → ℕ → Type 0
Gives op kind r =
    (w v x y : ℕ) → w ≤ 128 → v ≤ 128 → x < 2 ^ w → y < 2 ^ v
    → signed_done kind (extended true w x 128) (extended true v y 128) (2 ^ r - 1) ≡ operation_value op r (number_of (sint w) x) (number_of (sint v) y) 0 0

module _ (a b : NumTy) (r : ℕ) (first : a.signed ≡ true) (second : b.signed ≡ true) where
  form : (op : PrimOp) (kind : SignedWork) → (r ≤ 128 → Gives op kind r) → HasForm op kind r a b
  form op kind given = of_sints (HasForm op kind r) a b first second (λ h. record {
    runs = λ net ns x y. (let narrow = h.first in omega arith, let narrow = h.second in omega arith);
    gives = λ net ns x y z hx hy. rw (filled_is a.width x hx h.first, filled_is b.width y hy h.second) (given h.narrow a.width b.width x y h.first h.second hx hy);
  })

  pub sum_form : HasForm Add signed.Sum r a b
  sum_form = form Add signed.Sum (λ narrow w v x y hw hv hx hy.
      let i = wraps w x hx hw in let j = wraps v y hy hv in sum_bits r narrow _ _ _ _ i.0 j.0 i.1 j.1)

  pub difference_form : HasForm Sub signed.Difference r a b
  difference_form = form Sub signed.Difference (λ narrow w v x y hw hv hx hy.
      let i = wraps w x hx hw in let j = wraps v y hy hv in difference_bits r narrow _ _ _ _ i.0 j.0 i.1 j.1 (wide_below v y hy hv))

  pub product_form : HasForm Mul signed.Product r a b
  product_form = form Mul signed.Product (λ narrow w v x y hw hv hx hy.
      let i = wraps w x hx hw in let j = wraps v y hy hv in product_bits r narrow _ _ _ _ i.0 j.0 i.1 j.1)

  pub below_form : HasForm Lt signed.Below r a b
  below_form = form Lt signed.Below (λ narrow w v x y hw hv hx hy. rw (cast_is w x hx hw, cast_is v y hy hv) refl)

  pub at_most_form : HasForm Leq signed.AtMost r a b
  at_most_form = form Leq signed.AtMost (λ narrow w v x y hw hv hx hy. rw (cast_is w x hx hw, cast_is v y hy hv) refl)

  pub above_form : HasForm Gt signed.Above r a b
  above_form = form Gt signed.Above (λ narrow w v x y hw hv hx hy. rw (cast_is w x hx hw, cast_is v y hy hv) refl)

  pub at_least_form : HasForm Geq signed.AtLeast r a b
  at_least_form = form Geq signed.AtLeast (λ narrow w v x y hw hv hx hy. rw (cast_is w x hx hw, cast_is v y hy hv) refl)

-- the negative of an operand
negative_of : (s : Bool) (w r x top : ℕ) → x < 2 ^ w → w ≤ 127 → r ≤ 128 → top ≡ (if s then w - 1 else 127) → bit_and (less 0 (filled x top)) (2 ^ r - 1) ≡ bits_of r (neg_ℤ (reading s w x))
negative_of true w r x top below low narrow is =
    let i = wraps w x below (omega arith) in
    rw (is, filled_is w x below (omega arith)) (negative_bits r narrow (reading true w x) _ i.0 i.1 (wide_below w x below (omega arith)))
negative_of false w r x top below low narrow is =
    let powers = pow_le w 127 low in
    let wide = pow_le w 128 (omega arith) in
    let none = div_below x (2 ^ 127) 1 (omega arith) (omega arith) in
    let zero_above : x / 2 ^ 127 ≡ 0 = omega arith in
    rw (is, eq-eqb (x / 2 ^ 127) 0 zero_above) (negative_bits r narrow (pos x) x 0 (plain x) (omega arith))
  where
    plain : (n : ℕ) → pos n ≡ pos n -ℤ pos (0 * 2 ^ 128)
    plain n = omega (arith, ints)

pub negative_form : (a : NumTy) (n m r top : ℕ) → HasWidth Neg a no_type n m r → top ≡ (if a.signed then a.width - 1 else 127) → IsSingleWork Neg a n m r (work.Signed signed.Negative top 0 (2 ^ r - 1))
negative_form a n m r top h is =
    let wide = h.is in
    let narrow = h.narrow in
    record {
      runs = λ net ns x y. (low a.signed a.width top (omega arith) is, omega arith);
      gives = λ net ns x y z below. negative_of a.signed a.width r x top below (omega arith) narrow is;
    }
  where
    low : (s : Bool) (w t : ℕ) → w ≤ 127 → t ≡ (if s then w - 1 else 127) → t < 128
    low true w t h e = omega arith
    low false w t h e = omega arith
