-- The forms of operations on one operand.
use Rattle.std.proofs.Common.{◌≡◌, ℕ, ◌+◌, ◌-◌, ◌%◌, ◌^◌, ◌<◌, Bool, true, false, ◌&&◌, if◌then◌else◌, arith, refl, ap, sym, ◌∙◌}
use Rattle.std.specs.Prelude.{nat_le, nat_lt}
use Rattle.std.proofs.lemmas.Bool.{leb-true, ltb-true}
use Rattle.fir_bits.specs.Forms.{no_type}
use Rattle.fir_bits.specs.Integers.{bits_of, reading}
use Rattle.fir_bits.specs.declared.operators.PrimOp.TheVariants.{Shl, Shr, Cvt, Bits, Head, Tail}
use Rattle.fir_bits.specs.declared.types.NumTy.{NumTy}
use Rattle.fir_work.specs.declared.work.Work.TheVariants as work
use Rattle.fir_work.specs.working.Forms.{HasWidth, IsSingleWork}
use Rattle.fir_work.proofs.Numbers.{mod_wide}
use Rattle.fir_work.proofs.Fields.{bits_field, head_field, low_field}
use Rattle.fir_work.proofs.SignedNumbers.{own_bits, shift_up, shift_down}

both : (x y : Bool) → (x && y) ≡ true → (x ≡ true) × (y ≡ true)
both true y h = (refl, h)
both false y h = cc

bits_low : (a : NumTy) (n m r : ℕ) → HasWidth Bits a no_type n m r → m < 128
bits_low a n m r h =
    let tests = both (nat_le m n) (nat_lt n a.width) h.legal in
    let low = leb-true m n tests.0 in
    let high = ltb-true n a.width tests.1 in
    let narrow = h.first in
    omega arith

pub bits_form : (a : NumTy) (n m r g : ℕ) → HasWidth Bits a no_type n m r → g + 1 ≡ 2 ^ r → IsSingleWork Bits a n m r (work.Field m g)
bits_form a n m r g h is = record {
  runs = λ net ns x y. bits_low a n m r h;
  gives = λ net ns x y z below. bits_field r g x n m is h.is;
}

pub head_form : (a : NumTy) (n m r g : ℕ) → HasWidth Head a no_type n m r → g + 1 ≡ 2 ^ r → a.width - r < 128 → IsSingleWork Head a n m r (work.Field (a.width - r) g)
head_form a n m r g h is low = record {
  runs = λ net ns x y. low;
  gives = λ net ns x y z below. head_field a.width r g x n is h.is (leb-true n a.width h.legal) below;
}

pub tail_form : (a : NumTy) (n m r g : ℕ) → HasWidth Tail a no_type n m r → g + 1 ≡ 2 ^ r → IsSingleWork Tail a n m r (work.Field 0 g)
tail_form a n m r g h is = record {
  runs = λ net ns x y. omega arith;
  gives = λ net ns x y z below. low_field r g x is ∙ ap (λ k. x % 2 ^ k) h.is;
}

cvt_is : (s : Bool) (w r x : ℕ) → r ≡ (if s then w else w + 1) → x < 2 ^ w → x ≡ bits_of r (reading s w x)
cvt_is false w r x wide below = sym (mod_wide x w r below (omega arith))
cvt_is true w r x wide below = sym (ap (λ k. bits_of k (reading true w x)) wide ∙ own_bits true w x below)

pub cvt_form : (a : NumTy) (n m r : ℕ) → HasWidth Cvt a no_type n m r → IsSingleWork Cvt a n m r work.Operand
cvt_form a n m r h = record {
  runs = λ net ns x y. tt;
  gives = λ net ns x y z below. cvt_is a.signed a.width r x h.is below;
}

pub shl_form : (a : NumTy) (n m r : ℕ) → HasWidth Shl a no_type n m r → n < 128 → IsSingleWork Shl a n m r (work.Shift n)
shl_form a n m r h low = record {
  runs = λ net ns x y. low;
  gives = λ net ns x y z below. shift_up a.signed a.width r x n below h.is h.narrow;
}

pub shr_form : (a : NumTy) (n m r g : ℕ) → HasWidth Shr a no_type n m r → n < a.width → g + 1 ≡ 2 ^ r → IsSingleWork Shr a n m r (work.Field n g)
shr_form a n m r g h less is = record {
  runs = λ net ns x y. (let narrow = h.first in omega arith);
  gives = λ net ns x y z below. shift_down a.signed a.width r g x n below less h.is is;
}
