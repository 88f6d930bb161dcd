-- The forms of operations on two operands.
use Rattle.std.proofs.Common.{◌≡◌, ℕ, ◌+◌, ◌^◌, ◌<◌, ◌==◌, ◌&&◌, Bool, true, false, not, arith, subst, sym, ap}
use Rattle.std.specs.Bool.{beq}
use Rattle.std.specs.Ordering.{int_eq}
use Rattle.std.proofs.lemmas.Bool.{eqb-true}
use Rattle.fir_bits.proofs.Masks.{or_joined}
use Rattle.fir_bits.specs.Integers.{reading}
use Rattle.fir_bits.specs.Operators.{flag}
use Rattle.fir_bits.specs.declared.operators.PrimOp.{PrimOp}
use Rattle.fir_bits.specs.declared.operators.PrimOp.TheVariants.{Add, Sub, Mul, Div, Rem, Dshl, Dshr, Eq, Neq, Cat}
use Rattle.fir_bits.specs.declared.types.NumTy.{NumTy}
use Rattle.fir_work.specs.declared.work.Work.{Work}
use Rattle.fir_work.specs.declared.work.Work.TheVariants as work
use Rattle.fir_work.specs.working.Forms.{HasWidth, IsPairWork}
use Rattle.fir_work.proofs.SignedNumbers.{same_test}
use Rattle.fir_work.proofs.Shifts.{raised_is, lowered_is}
use Rattle.fir_work.proofs.Sums.{sum_is, difference_is, product_is, quotient_is, remainder_is}

abbrev of_width : Bool → ℕ → NumTy
of_width s w = record { signed = s; width = w }

-- a UInt of that width
abbrev uint : ℕ → NumTy
uint w = of_width false w

-- what is shown of UInts of any widths holds of operands that are UInts
of_uints : (P : NumTy → NumTy → Type 0) (a b : NumTy) → a.signed ≡ false → b.signed ≡ false → P (uint a.width) (uint b.width) → P a b
of_uints P a b first second h =
    subst (λ (s : Bool). P (of_width s a.width) b) (sym first)
    (subst (λ (s : Bool). P (uint a.width) (of_width s b.width)) (sym second) h)

-- the form gives the result wherever it has that width
abbrev HasForm : PrimOp → ℕ → Work → NumTy → NumTy → Type 0
HasForm op r w a b = HasWidth op a b 0 0 r → IsPairWork op a b r w

module _ (a b : NumTy) (r : ℕ) (first : a.signed ≡ false) (second : b.signed ≡ false) where
  pub sum_form : HasForm Add r work.Sum a b
  sum_form = of_uints (HasForm Add r work.Sum) a b first second (λ h. record {
    runs = λ net ns x y. tt;
    gives = λ net ns x y z hx hy. sum_is x y a.width b.width r hx hy h.is h.narrow;
  })

  pub difference_form : (g : ℕ) → g + 1 ≡ 2 ^ r → HasForm Sub r (work.Difference g) a b
  difference_form g is = of_uints (HasForm Sub r (work.Difference g)) a b first second (λ h. record {
    runs = λ net ns x y. tt;
    gives = λ net ns x y z hx hy. difference_is x y a.width b.width r g hx hy h.is h.narrow is;
  })

  pub product_form : HasForm Mul r work.Product a b
  product_form = of_uints (HasForm Mul r work.Product) a b first second (λ h. record {
    runs = λ net ns x y. tt;
    gives = λ net ns x y z hx hy. product_is x y a.width b.width r hx hy h.is h.narrow;
  })

  pub quotient_form : HasForm Div r work.Quotient a b
  quotient_form = of_uints (HasForm Div r work.Quotient) a b first second (λ h. record {
    runs = λ net ns x y. tt;
    gives = λ net ns x y z hx hy. quotient_is x y a.width r hx h.is;
  })

  pub remainder_form : HasForm Rem r work.Remainder a b
  remainder_form = of_uints (HasForm Rem r work.Remainder) a b first second (λ h. record {
    runs = λ net ns x y. tt;
    gives = λ net ns x y z hx hy. remainder_is x y a.width b.width r hx hy h.is;
  })

  pub up_form : HasForm Dshl r work.Up a b
  up_form = of_uints (HasForm Dshl r work.Up) a b first second (λ h. record {
    runs = λ net ns x y. tt;
    gives = λ net ns x y z hx hy. raised_is x y a.width b.width r hx hy h.is h.narrow;
  })

  pub down_form : HasForm Dshr r work.Down a b
  down_form = of_uints (HasForm Dshr r work.Down) a b first second (λ h. record {
    runs = λ net ns x y. tt;
    gives = λ net ns x y z hx hy. lowered_is x y a.width r hx h.is h.narrow;
  })

pub cat_form : (a b : NumTy) (r : ℕ) → HasWidth Cat a b 0 0 r → b.width < 128 → IsPairWork Cat a b r (work.Join b.width)
cat_form a b r h low = record {
  runs = λ net ns x y. low;
  gives = λ net ns x y z hx hy. or_joined x y a.width b.width hx hy (let wide = h.is in let narrow = h.narrow in omega arith);
}

-- operands of one type
abbrev alike : NumTy → NumTy → Bool
alike a b = beq a.signed b.signed && a.width == b.width

alike_type : (a b : NumTy) → alike a b ≡ true → a ≡ b
alike_type a b h = by a.signed b.signed a.width b.width h
  where
    by : (s t : Bool) (w v : ℕ) → (beq s t && w == v) ≡ true → of_width s w ≡ of_width t v
    by true true w v e = ap (of_width true) (eqb-true w v e)
    by false false w v e = ap (of_width false) (eqb-true w v e)
    by true false w v e = cc
    by false true w v e = cc

same_of : (a b : NumTy) (x y : ℕ) → a ≡ b → x < 2 ^ a.width → y < 2 ^ b.width → (x == y) ≡ int_eq (reading a.signed a.width x) (reading b.signed b.width y)
same_of a b x y e hx hy =
    subst (λ (t : NumTy). (x == y) ≡ int_eq (reading a.signed a.width x) (reading t.signed t.width y)) e
    (same_test a.signed a.width x y hx (subst (λ (t : NumTy). y < 2 ^ t.width) (sym e) hy))

pub same_form : (a b : NumTy) (r : ℕ) → alike a b ≡ true → IsPairWork Eq a b r work.Same
same_form a b r h = record {
  runs = λ net ns x y. tt;
  gives = λ net ns x y z hx hy. ap flag (same_of a b x y (alike_type a b h) hx hy);
}

pub differ_form : (a b : NumTy) (r : ℕ) → alike a b ≡ true → IsPairWork Neq a b r work.Differ
differ_form a b r h = record {
  runs = λ net ns x y. tt;
  gives = λ net ns x y z hx hy. ap (λ t. flag (not t)) (same_of a b x y (alike_type a b h) hx hy);
}
