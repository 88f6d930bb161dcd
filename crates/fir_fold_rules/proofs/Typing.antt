-- What it means that an operation has a type: its width and its kind, and the number of its result at that width.
use Rattle.std.proofs.Common.{◌≡◌, ℕ, ◌≤◌, Bool, true, false, not, ◌&&◌, if◌then◌else◌, Ok, Err, List, slice_index, refl, ap, subst}
use Rattle.std.specs.Prelude.{nat_le}
use Rattle.std.proofs.lemmas.Bool.{leb-true}
use Rattle.fir_bits.specs.Forms.{form_of, takes, first_type, second_type}
use Rattle.fir_bits.specs.Widths.{width_of, is_narrow}
use Rattle.fir_bits.specs.Types.{is_legal, signed_of}
use Rattle.fir_bits.specs.working.Types.{typed}
use Rattle.fir_bits.specs.declared.operators.PrimOp.{PrimOp}
use Rattle.fir_bits.specs.declared.types.NumTy.{NumTy}
use Rattle.fir_bits.specs.declared.types.OpFault.TheVariants.{Kinds, Over, Legality}

both : (x y : Bool) → (x && y) ≡ true → (x ≡ true) × (y ≡ true)
both true y h = (refl, h)
both false y h = cc

-- all tests are passed where there is a type, and it is the one that they guard
passed : (kinds narrow legal : Bool) (t u : NumTy)
    → (if not kinds then Err Kinds else if not narrow then Err Over else if not legal then Err Legality else Ok t) ≡ Ok u
    → (kinds ≡ true) × (narrow ≡ true) × (legal ≡ true) × (t ≡ u)
passed true true true t u e = (refl, refl, refl, cc)
passed true true false t u e = cc
passed true false legal t u e = cc
passed false narrow legal t u e = cc

-- the type from the types of the first two operands and the first two integers
abbrev pub type_from : PrimOp → NumTy → NumTy → ℕ → ℕ → NumTy
type_from op a b n m = record { signed = signed_of op a.signed; width = width_of op a.signed a.width b.width n m }

pub record HasOne (op : PrimOp) (args : List NumTy) (ints : List ℕ) (t : NumTy) : Type 0 where
  pub kinds : takes (form_of op) args ints ≡ true
  pub is : type_from op (first_type args) (second_type args) (slice_index ints 0) (slice_index ints 1) ≡ t
  pub legal : is_legal op (first_type args).width (slice_index ints 0) (slice_index ints 1) ≡ true
  pub first : (first_type args).width ≤ 128
  pub second : (second_type args).width ≤ 128
  pub narrow : t.width ≤ 128

pub has_one : (op : PrimOp) (args : List NumTy) (ints : List ℕ) (t : NumTy) → typed op args ints ≡ Ok t → HasOne op args ints t
has_one op args ints t e =
    let a = first_type args in
    let b = second_type args in
    let n = slice_index ints 0 in
    let m = slice_index ints 1 in
    let r = width_of op a.signed a.width b.width n m in
    let tests = passed (takes (form_of op) args ints) (is_narrow op a.signed a.width b.width n m) (is_legal op a.width n m) (type_from op a b n m) t e in
    let same : r ≡ t.width = ap (λ (u : NumTy). u.width) tests.3 in
    let all = both (nat_le a.width 128 && nat_le b.width 128) (nat_le r 128) tests.1 in
    let operands = both (nat_le a.width 128) (nat_le b.width 128) all.0 in
    record {
      kinds = tests.0;
      is = tests.3;
      legal = tests.2;
      first = leb-true a.width 128 operands.0;
      second = leb-true b.width 128 operands.1;
      narrow = subst (λ (w : ℕ). w ≤ 128) same (leb-true r 128 all.1);
    }
