-- What the tree's operators give on operands at a width is the value of the operation that they stand for (IEEE 1364-2005, 5.1).
use Rattle.std.proofs.Common.{ℤ, pos, ◌≡◌, ℕ, ◌+◌, ◌-◌, ◌*◌, ◌/◌, ◌%◌, ◌^◌, ◌<◌, ◌≤◌, if◌then◌else◌, Bool, true, false, ◌==◌, not, IsTrue, max, ◌⊎◌, arith, refl, sym, ap, subst, ◌∙◌}
use Rattle.std.specs.Prelude.{int_div, int_rem, Option, Some, count_ones}
use Rattle.std.specs.Ordering.{int_eq}
use Rattle.std.proofs.lemmas.Nat.{pow_pos, ones_le_self, shr_below}
use Rattle.std.proofs.lemmas.Bool.{eqb-true, eqb-false, ne_eqb}
use Rattle.std.proofs.Math.Nat.{mod-eq_of_lt, div-le_self, mod-le, pos_of_ne-zero}
use Rattle.fir_bits.specs.Values.{IsBitVector, extended, fitted, complement}
use Rattle.fir_bits.specs.Integers.{bits_of, reading, quotient, remainder, shifted_down}
use Rattle.fir_bits.specs.Types.{is_legal}
use Rattle.fir_bits.specs.Widths.{width_of}
use Rattle.fir_bits.specs.Operators.{flag, widened, integer_of, operation_value}
use Rattle.fir_bits.specs.declared.operators.PrimOp.{PrimOp}
use Rattle.fir_bits.specs.declared.operators.PrimOp.TheVariants as op
use Rattle.fir_bits.specs.declared.values.Num.{Num}
use Rattle.fir_bits.proofs.Powers.{pow_le}
use Rattle.fir_bits.proofs.Below.{bits_of-below}
use Rattle.fir_net.specs.working.Values.{at_width}
use Rattle.ver_ast.specs.declared.tree.UnaryOp.{UnaryOp}
use Rattle.ver_ast.specs.declared.tree.UnaryOp.TheVariants as unary
use Rattle.ver_ast.specs.declared.tree.BinaryOp.{BinaryOp}
use Rattle.ver_ast.specs.declared.tree.BinaryOp.TheVariants as binary
use Rattle.ver_ast.specs.declared.tree.SignedOp.{SignedOp}
use Rattle.ver_ast.specs.declared.tree.SignedOp.TheVariants as signed
use Rattle.ver_ast.specs.SideValues.{unary_value, binary_value, signed_value}
use Rattle.ver_build.proofs.Residues.{bits_of-sum, bits_of-difference, bits_of-negated, bits_of-product, bits_of-times_power, bits_of-multiple, bits_of-shifted_down, bits_of-reading, below_power}
use Rattle.ver_build.proofs.SignedNumbers.{fitted-wider, fitted-narrower, fitted-own, fitted-below, sign_left, none_left, reading-fitted, reading-zero, reading-some, reading-bits_of, reading-within, own_bits, same_integers, IsWithin, within-wider, fits_within, int_div-within, int_rem-within, quotient_is, remainder_is}

-- an operand at a width has the low bits of its integer
pub bits_of-integer_of : (v : Num) (r : ℕ) → IsBitVector v.value → bits_of r (integer_of v) ≡ at_width v r
bits_of-integer_of v r is = bits_of-reading v.signed v.value.width v.value.number r is.below

pub at_width-own : (v : Num) → at_width v v.value.width ≡ v.value.number
at_width-own v = fitted-own v.signed v.value.width v.value.number

pub at_width-below : (v : Num) (w : ℕ) → IsBitVector v.value → at_width v w < 2 ^ w
at_width-below v w is = fitted-below v.signed v.value.width v.value.number w is.below

-- at a width from its own on it stands for the same integer
reading-at_width : (s : Bool) (v : Num) (w : ℕ) → v.signed ≡ s → IsBitVector v.value → v.value.width ≤ w → reading s w (at_width v w) ≡ integer_of v
reading-at_width s v w kind is wide =
    ap (λ t. reading t w (at_width v w)) (sym kind) ∙ reading-fitted v.signed v.value.width v.value.number w is.below wide

pub at_width-wider : (v : Num) (w : ℕ) → v.value.width ≤ w → at_width v w ≡ widened v w
at_width-wider v w wide = fitted-wider v.signed v.value.width v.value.number w wide

-- an amount of a shift
pub at_width-unsigned : (v : Num) (w : ℕ) → v.signed ≡ false → v.value.width ≤ w → at_width v w ≡ v.value.number
at_width-unsigned v w plain wide = at_width-wider v w wide ∙ ap (λ s. extended s v.value.width v.value.number w) plain

-- in what way the tree does an operation
pub data Kind : Type 0 where
  arithmetic : Kind
  order : Kind
  equality : Kind
  bitwise : Kind
  one_operand : Kind
  copied : Kind
  division : Kind

pub data IsOfKind : PrimOp → Kind → Type 0 where
  is_add : IsOfKind op.Add arithmetic
  is_sub : IsOfKind op.Sub arithmetic
  is_mul : IsOfKind op.Mul arithmetic
  is_lt : IsOfKind op.Lt order
  is_leq : IsOfKind op.Leq order
  is_gt : IsOfKind op.Gt order
  is_geq : IsOfKind op.Geq order
  is_eq : IsOfKind op.Eq equality
  is_neq : IsOfKind op.Neq equality
  is_and : IsOfKind op.And bitwise
  is_or : IsOfKind op.Or bitwise
  is_xor : IsOfKind op.Xor bitwise
  is_not : IsOfKind op.Not one_operand
  is_andr : IsOfKind op.Andr one_operand
  is_orr : IsOfKind op.Orr one_operand
  is_xorr : IsOfKind op.Xorr one_operand
  is_pad : IsOfKind op.Pad copied
  is_cvt : IsOfKind op.Cvt copied
  is_tail : IsOfKind op.Tail copied
  is_as_uint : IsOfKind op.AsUInt copied
  is_as_sint : IsOfKind op.AsSInt copied
  is_as_async_reset : IsOfKind op.AsAsyncReset copied
  is_div : IsOfKind op.Div division
  is_rem : IsOfKind op.Rem division

-- the operator of the tree, between numbers; addition where there is none
abbrev pub binary_operator : PrimOp → BinaryOp
binary_operator op.Sub = binary.Sub
binary_operator op.Mul = binary.Mul
binary_operator op.Div = binary.Div
binary_operator op.Rem = binary.Rem
binary_operator op.Lt = binary.Lt
binary_operator op.Leq = binary.Leq
binary_operator op.Gt = binary.Gt
binary_operator op.Geq = binary.Geq
binary_operator op.Eq = binary.Eq
binary_operator op.Neq = binary.Neq
binary_operator op.And = binary.And
binary_operator op.Or = binary.Or
binary_operator op.Xor = binary.Xor
binary_operator _ = binary.Add

-- and between integers; division where there is none
abbrev pub signed_operator : PrimOp → SignedOp
signed_operator op.Rem = signed.Rem
signed_operator op.Lt = signed.Lt
signed_operator op.Leq = signed.Leq
signed_operator op.Gt = signed.Gt
signed_operator op.Geq = signed.Geq
signed_operator _ = signed.Div

-- of one operand; the complement where there is none
abbrev pub unary_operator : PrimOp → UnaryOp
unary_operator op.Andr = unary.And
unary_operator op.Orr = unary.Or
unary_operator op.Xorr = unary.Xor
unary_operator _ = unary.Not

-- what it gives of no bits
abbrev pub none_value : PrimOp → ℕ
none_value op.Andr = 1
none_value _ = 0

-- that operator on operands of w bits, read as signed or not
abbrev pub operator_value : Bool → PrimOp → ℕ → ℕ → ℕ → Option ℕ
operator_value true o w x y = signed_value (signed_operator o) w (reading true w x) (reading true w y)
operator_value false o w x y = binary_value (binary_operator o) w x y

-- a shift down of an operand of w bits, read as signed or not
abbrev pub shifted_value : Bool → ℕ → ℕ → ℕ → Option ℕ
shifted_value true w x k = Some (bits_of w (shifted_down (reading true w x) k))
shifted_value false w x k = binary_value binary.Shr w x k

shifted_is : (s : Bool) (w x k : ℕ) → x < 2 ^ w → shifted_value s w x k ≡ Some (bits_of w (shifted_down (reading s w x) k))
shifted_is true w x k below = refl
shifted_is false w x k below = ap Some (sym (mod-eq_of_lt (omega (arith, below, div-le_self x (2 ^ k)))))

-- operations of two operands, with a result of any width
module _ (a b : Num) (is_a : IsBitVector a.value) (is_b : IsBitVector b.value) (r n m : ℕ) where
  low_a : bits_of r (integer_of a) ≡ at_width a r
  low_a = bits_of-integer_of a r is_a

  low_b : bits_of r (integer_of b) ≡ at_width b r
  low_b = bits_of-integer_of b r is_b

  pub arithmetic_value : (o : PrimOp) → IsOfKind o arithmetic
      → binary_value (binary_operator o) r (at_width a r) (at_width b r) ≡ Some (operation_value o r a b n m)
  arithmetic_value o is_add = rw (← low_a, ← low_b) (ap Some (sym (bits_of-sum r _ _)))
  arithmetic_value o is_sub = rw (← low_a, ← low_b) (ap Some (sym (bits_of-difference r _ _)))
  arithmetic_value o is_mul = rw (← low_a, ← low_b) (ap Some (sym (bits_of-product r _ _)))

  pub bitwise_value : (o : PrimOp) → IsOfKind o bitwise → a.value.width ≤ r → b.value.width ≤ r
      → binary_value (binary_operator o) r (at_width a r) (at_width b r) ≡ Some (operation_value o r a b n m)
  bitwise_value o is_and wide_a wide_b = let x = at_width-wider a r wide_a in let y = at_width-wider b r wide_b in rw (x, y) refl
  bitwise_value o is_or wide_a wide_b = let x = at_width-wider a r wide_a in let y = at_width-wider b r wide_b in rw (x, y) refl
  bitwise_value o is_xor wide_a wide_b = let x = at_width-wider a r wide_a in let y = at_width-wider b r wide_b in rw (x, y) refl

  -- an order of integers is that of the values that stand for them
  ordered : (s : Bool) (o : PrimOp) → IsOfKind o order → (w x y : ℕ) → reading s w x ≡ integer_of a → reading s w y ≡ integer_of b
      → operator_value s o w x y ≡ Some (operation_value o r a b n m)
  ordered true o is_lt w x y e f = rw (← e, ← f) refl
  ordered true o is_leq w x y e f = rw (← e, ← f) refl
  ordered true o is_gt w x y e f = rw (← e, ← f) refl
  ordered true o is_geq w x y e f = rw (← e, ← f) refl
  ordered false o is_lt w x y e f = rw (← e, ← f) refl
  ordered false o is_leq w x y e f = rw (← e, ← f) refl
  ordered false o is_gt w x y e f = rw (← e, ← f) refl
  ordered false o is_geq w x y e f = rw (← e, ← f) refl

  -- comparisons are made at a width from that of each operand on
  module _ (w : ℕ) (wide_a : a.value.width ≤ w) (wide_b : b.value.width ≤ w) (same : b.signed ≡ a.signed) where
    read_a : reading a.signed w (at_width a w) ≡ integer_of a
    read_a = reading-at_width a.signed a w refl is_a wide_a

    read_b : reading a.signed w (at_width b w) ≡ integer_of b
    read_b = reading-at_width a.signed b w same is_b wide_b

    pub order_value : (o : PrimOp) → IsOfKind o order
        → operator_value a.signed o w (at_width a w) (at_width b w) ≡ Some (operation_value o r a b n m)
    order_value o h = ordered a.signed o h w (at_width a w) (at_width b w) read_a read_b

    equal : (at_width a w == at_width b w) ≡ int_eq (integer_of a) (integer_of b)
    equal =
        same_integers a.signed w (at_width a w) (at_width b w) (at_width-below a w is_a) (at_width-below b w is_b)
        ∙ ap (λ z. int_eq z (reading a.signed w (at_width b w))) read_a ∙ ap (int_eq (integer_of a)) read_b

    pub equality_value : (o : PrimOp) → IsOfKind o equality → (target : ℕ)
        → binary_value (binary_operator o) target (at_width a w) (at_width b w) ≡ Some (operation_value o r a b n m)
    equality_value o is_eq target = ap (λ t. Some (flag t)) equal
    equality_value o is_neq target = ap (λ t. Some (flag (not t))) equal

-- operations that read the integer of one operand
module _ (a b : Num) (is_a : IsBitVector a.value) (n m : ℕ) where
  own : bits_of a.value.width (integer_of a) ≡ a.value.number
  own = own_bits a.signed a.value.width a.value.number is_a.below

  -- what is below 2 ^ (r + k) has r bits without its low k ones
  high : (r k : ℕ) → r + k ≡ a.value.width → a.value.number / 2 ^ k ≡ a.value.number / 2 ^ k % 2 ^ r
  high r k sum = sym (mod-eq_of_lt (shr_below a.value.number r k (below_power a.value.number a.value.width _ is_a.below (omega arith))))

  pub negative_value : (r : ℕ) → binary_value binary.Sub r 0 (at_width a r) ≡ Some (operation_value op.Neg r a b n m)
  negative_value r = ap (λ x. Some ((0 + (2 ^ r - x)) % 2 ^ r)) (sym (bits_of-integer_of a r is_a)) ∙ ap Some (sym (bits_of-negated r (integer_of a)))

  -- shifts by the second operand
  pub dshl_value : (r : ℕ) → binary_value binary.Shl r (at_width a r) b.value.number ≡ Some (operation_value op.Dshl r a b n m)
  dshl_value r =
      ap (λ x. Some (x * 2 ^ b.value.number % 2 ^ r)) (sym (bits_of-integer_of a r is_a))
      ∙ ap Some (sym (bits_of-times_power r (integer_of a) b.value.number))

  pub dshr_value : shifted_value a.signed a.value.width (at_width a a.value.width) b.value.number ≡ Some (operation_value op.Dshr a.value.width a b n m)
  dshr_value =
      ap (λ x. shifted_value a.signed a.value.width x b.value.number) (at_width-own a)
      ∙ shifted_is a.signed a.value.width a.value.number b.value.number is_a.below

  -- shifts by n: what is left of a shift down, or the sign where nothing is, or 0
  pub shl_value : operation_value op.Shl (a.value.width + n) a b n m ≡ a.value.number * 2 ^ n
  shl_value = bits_of-multiple a.value.width n (integer_of a) ∙ ap (λ x. x * 2 ^ n) own

  pub shr_bits : (r : ℕ) → r + n ≡ a.value.width → operation_value op.Shr r a b n m ≡ a.value.number / 2 ^ n % 2 ^ r
  shr_bits r sum =
      bits_of-shifted_down r n (integer_of a) ∙ ap (λ w. bits_of w (integer_of a) / 2 ^ n) sum ∙ ap (λ x. x / 2 ^ n) own ∙ high r n sum

  pub shr_sign : a.signed ≡ true → 0 < a.value.width → a.value.width ≤ n
      → operation_value op.Shr 1 a b n m ≡ a.value.number / 2 ^ (a.value.width - 1) % 2 ^ 1
  shr_sign is_signed some h =
      ap (λ s. bits_of 1 (shifted_down (reading s a.value.width a.value.number) n)) is_signed
      ∙ sign_left a.value.width n a.value.number some h is_a.below

  pub shr_nothing : (a.signed ≡ false) ⊎ (a.value.width ≡ 0) → a.value.width ≤ n → operation_value op.Shr 1 a b n m ≡ 0
  shr_nothing none h = none_left a.signed a.value.width n a.value.number none h is_a.below

  pub head_value : n ≤ a.value.width → operation_value op.Head n a b n m ≡ a.value.number / 2 ^ (a.value.width - n) % 2 ^ n
  head_value h = high n (a.value.width - n) (omega arith)

  pub unary_operation_value : (o : PrimOp) → IsOfKind o one_operand → (r : ℕ)
      → unary_value (unary_operator o) a.value.width (at_width a a.value.width) ≡ operation_value o r a b n m
  unary_operation_value o is_not r = ap (complement a.value.width) (at_width-own a)
  unary_operation_value o is_andr r = ap (λ x. flag (x == 2 ^ a.value.width - 1)) (at_width-own a)
  unary_operation_value o is_orr r = ap (λ x. flag (not (x == 0))) (at_width-own a)
  unary_operation_value o is_xorr r = ap (λ x. count_ones x % 2) (at_width-own a)

  -- of no bits
  pub unary_of_none : (o : PrimOp) → IsOfKind o one_operand → (r : ℕ) → a.value.width ≡ 0 → none_value o ≡ operation_value o r a b n m
  unary_of_none o h r none = of_none o h (omega (arith, rw none at is_a.below))
    where
      of_none : (o : PrimOp) → IsOfKind o one_operand → a.value.number ≡ 0 → none_value o ≡ operation_value o r a b n m
      of_none o is_not e = rw (e, none) refl
      of_none o is_andr e = rw (e, none) refl
      of_none o is_orr e = rw e refl
      of_none o is_xorr e = let ones : count_ones 0 ≡ 0 = omega (arith, ones_le_self 0) in rw (e, ones) refl

  -- the result is the operand at the result's width
  pub copied_value : (o : PrimOp) → IsOfKind o copied → IsTrue (is_legal o a.value.width n m)
      → (let r = width_of o a.signed a.value.width b.value.width n m in operation_value o r a b n m ≡ at_width a r)
  copied_value o is_pad legal = sym (at_width-wider a (max a.value.width n) (omega arith))
  copied_value o is_cvt legal = bits_of-integer_of a _ is_a
  copied_value o is_tail legal = sym (fitted-narrower a.signed a.value.width a.value.number (a.value.width - n) is_a.below (omega arith))
  copied_value o is_as_uint legal = sym (at_width-own a)
  copied_value o is_as_sint legal = sym (at_width-own a)
  copied_value o is_as_async_reset legal = let one : a.value.width ≡ 1 = eqb-true _ _ legal in sym (at_width-own a) ∙ ap (at_width a) one

-- the quotient or the remainder of integers, where the divisor is not 0
abbrev int_division : PrimOp → ℤ → ℤ → ℤ
int_division op.Rem x y = int_rem x y
int_division _ x y = int_div x y

-- and where it is 0 too
abbrev total_division : PrimOp → ℤ → ℤ → ℤ
total_division op.Rem x y = remainder x y
total_division _ x y = quotient x y

total_division-some : (o : PrimOp) → IsOfKind o division → (x y : ℤ) → int_eq y (pos 0) ≡ false → total_division o x y ≡ int_division o x y
total_division-some o is_div x y some = quotient_is x y some
total_division-some o is_rem x y some = remainder_is x y some

total_division-zero : (o : PrimOp) → IsOfKind o division → (x : ℤ) → total_division o x (pos 0) ≡ pos 0
total_division-zero o is_div x = refl
total_division-zero o is_rem x = refl

int_division-within : (o : PrimOp) → IsOfKind o division → (v u w n m : ℕ) (x y : ℤ) → width_of o true v u n m ≤ w → v ≤ w → IsWithin v x
    → IsWithin w (int_division o x y)
int_division-within o is_div v u w n m x y room wide is = int_div-within v w x y (omega arith) is
int_division-within o is_rem v u w n m x y room wide is = int_rem-within w x y (within-wider v w x wide is)

-- the net of a division by a number that is not 0
record IsDivisionNet (s : Bool) (w : ℕ) (value : Option ℕ) (z : ℤ) : Type 0 where
  number : ℕ
  is : value ≡ Some number
  below : number < 2 ^ w
  reads : reading s w number ≡ z

signed_division : (o : PrimOp) → IsOfKind o division → (w : ℕ) → 1 ≤ w → (x y : ℤ) → int_eq y (pos 0) ≡ false → IsWithin w (int_division o x y)
    → signed_value (signed_operator o) w x y ≡ Some (bits_of w (int_division o x y))
signed_division o is_div w some x y apart is = let fits = fits_within w (int_div x y) some is in rw (apart, fits) refl
signed_division o is_rem w some x y apart is = rw apart refl

unsigned_division : (o : PrimOp) → IsOfKind o division → (w x d : ℕ) → x < 2 ^ w → 0 < d
    → IsDivisionNet false w (operator_value false o w x d) (int_division o (pos x) (pos d))
unsigned_division o is_div w x d below some =
    let apart = ne_eqb d 0 (λ e. omega arith) in
    record { number = x / d; is = rw apart refl; below = omega (arith, div-le_self x d); reads = refl }
unsigned_division o is_rem w x d below some =
    let apart = ne_eqb d 0 (λ e. omega arith) in
    record { number = x % d; is = rw apart refl; below = omega (arith, mod-le x d); reads = refl }

division_net : (o : PrimOp) → IsOfKind o division → (s : Bool) (w x d : ℕ) → 1 ≤ w → x < 2 ^ w → d < 2 ^ w → 0 < d
    → (s ≡ true → (y : ℤ) → IsWithin w (int_division o (reading true w x) y))
    → IsDivisionNet s w (operator_value s o w x d) (int_division o (reading s w x) (reading s w d))
division_net o h false w x d one below_x below_d some room = unsigned_division o h w x d below_x some
division_net o h true w x d one below_x below_d some room =
    let z = int_division o (reading true w x) (reading true w d) in
    let is_within = room refl (reading true w d) in
    record {
      number = bits_of w z;
      is = signed_division o h w one (reading true w x) (reading true w d) (reading-some true w d below_d some) is_within;
      below = bits_of-below w z;
      reads = reading-bits_of w z is_within;
    }

-- the value of a division's net of w bits, with which the guarded one is the result of r bits
pub record IsDivided (s : Bool) (w r test : ℕ) (value : Option ℕ) (result : ℕ) : Type 0 where
  pub number : ℕ
  pub is : value ≡ Some number
  pub below : number < 2 ^ w
  pub guarded : (if test == 1 then 0 else fitted s w number r) ≡ result

divided : (o : PrimOp) → IsOfKind o division → (s : Bool) (w r x y : ℕ) → 1 ≤ w → x < 2 ^ w → y < 2 ^ w
    → (s ≡ true → (z : ℤ) → IsWithin w (int_division o (reading true w x) z))
    → IsDivided s w r (flag (y == 0)) (operator_value s o w x (if flag (y == 0) == 1 then 1 else y))
    (bits_of r (total_division o (reading s w x) (reading s w y)))
divided o h s w r x y one below_x below_y room = by (y == 0) refl
  where
    by : (t : Bool) → (y == 0) ≡ t
        → IsDivided s w r (flag t) (operator_value s o w x (if flag t == 1 then 1 else y)) (bits_of r (total_division o (reading s w x) (reading s w y)))
    by true e =
        let p = division_net o h s w x 1 one below_x (omega (arith, pow_le 1 w one)) (omega arith) room in
        let none : reading s w y ≡ pos 0 = ap (reading s w) (eqb-true y 0 e) ∙ reading-zero s w in
        record {
          number = p.number;
          is = p.is;
          below = p.below;
          guarded =
              sym (ap (λ z. bits_of r (total_division o (reading s w x) z)) none ∙ ap (bits_of r) (total_division-zero o h (reading s w x))
              ∙ mod-eq_of_lt (pow_pos r));
        }
    by false e =
        let some : 0 < y = pos_of_ne-zero (eqb-false y 0 e) in
        let p = division_net o h s w x y one below_x below_y some room in
        record {
          number = p.number;
          is = p.is;
          below = p.below;
          guarded =
              sym (bits_of-reading s w p.number r p.below)
              ∙ ap (bits_of r) (p.reads ∙ sym (total_division-some o h (reading s w x) (reading s w y) (reading-some s w y below_y some)));
        }

total_division-value : (o : PrimOp) → IsOfKind o division → (r : ℕ) (a b : Num) (n m : ℕ) (x y : ℤ) → x ≡ integer_of a → y ≡ integer_of b
    → bits_of r (total_division o x y) ≡ operation_value o r a b n m
total_division-value o is_div r a b n m x y e f = rw (e, f) refl
total_division-value o is_rem r a b n m x y e f = rw (e, f) refl

-- a division is made at the greatest width of the operands and the result, and its divisor is 1 in place of 0
module _ (a b : Num) (is_a : IsBitVector a.value) (is_b : IsBitVector b.value) (same : b.signed ≡ a.signed) (n m : ℕ) where
  pub division_value : (o : PrimOp) → IsOfKind o division → (r w : ℕ) → r ≡ width_of o a.signed a.value.width b.value.width n m
      → w ≡ max r (max a.value.width b.value.width) → 1 ≤ r
      → (let test = flag (at_width b w == 0) in
      IsDivided a.signed w r test (operator_value a.signed o w (at_width a w) (if test == 1 then 1 else at_width b w)) (operation_value o r a b n m))
  division_value o h r w result width one =
      subst (IsDivided a.signed w r _ _)
      (total_division-value o h r a b n m _ _ (reading-at_width a.signed a w refl is_a (omega arith)) (reading-at_width a.signed b w same is_b (omega arith)))
      (divided o h a.signed w r (at_width a w) (at_width b w) (omega arith) (at_width-below a w is_a) (at_width-below b w is_b) room)
    where
      room : a.signed ≡ true → (z : ℤ) → IsWithin w (int_division o (reading true w (at_width a w)) z)
      room s z =
          let fits : width_of o true a.value.width b.value.width n m ≤ w = omega (arith, ap (λ t. width_of o t a.value.width b.value.width n m) s) in
          let is : reading true w (at_width a w) ≡ reading true a.value.width a.value.number =
          reading-at_width true a w s is_a (omega arith) ∙ ap (λ t. reading t a.value.width a.value.number) s in
          int_division-within o h a.value.width b.value.width w n m _ z fits (omega arith)
          (subst (IsWithin a.value.width) (sym is) (reading-within a.value.width a.value.number is_a.below))
