-- What it means that an operation has a type.
use Rattle.std.proofs.Common.{◌≡◌, ℕ, ◌≤◌, Bool, true, false, not, ◌&&◌, if◌then◌else◌, Result, Ok, Err, IsOk, IfOk, IsTrue, refl, List, [], ◌∷◌, map, slice_index, arith, lit<, lit≤}
use Rattle.std.specs.List.{All}
use Rattle.std.proofs.lemmas.Bool.{leb-true}
use Rattle.fir_bits.specs.Widths.{is_narrow}
use Rattle.fir_bits.specs.Types.{is_legal, signed_of}
use Rattle.fir_bits.specs.working.Types.{typed_at, typed}
use Rattle.fir_bits.specs.Values.{IsBitVector}
use Rattle.fir_bits.specs.Forms.{form_of, takes, first_type, second_type}
use Rattle.fir_bits.specs.working.Operators.{type_of}
use Rattle.fir_bits.specs.Operators.{no_operand, first_operand, second_operand, applied, outcome}
use Rattle.fir_bits.proofs.Below.{number_below}
use Rattle.fir_bits.specs.declared.values.Num.{Num}
use Rattle.fir_bits.specs.Widths.{width_of}
use Rattle.fir_bits.specs.declared.operators.PrimOp.{PrimOp}
use Rattle.fir_bits.specs.declared.types.NumTy.{NumTy}
use Rattle.fir_bits.specs.declared.types.OpFault.{OpFault}
use Rattle.fir_bits.specs.declared.types.OpFault.TheVariants.{Kinds, Over, Legality}

-- both tests are passed where neither fault is given
passed : (narrow legal : Bool) (t : NumTy) → IsOk (if not narrow then Err Over else if not legal then Err Legality else Ok t) → IsTrue narrow × IsTrue legal
passed true true t ok = (refl, refl)
passed true false t ok = cc
passed false legal t ok = cc

-- the widths are at most 128, and the integers are legal
pub typed_at-ok : (op : PrimOp) (a b : NumTy) (n m : ℕ) → IsOk (typed_at op a b n m) → IsTrue (is_narrow op a.signed a.width b.width n m) × IsTrue (is_legal op a.width n m)
typed_at-ok op a b n m ok =
    passed (is_narrow op a.signed a.width b.width n m) (is_legal op a.width n m) (record { signed = signed_of op a.signed; width = width_of op a.signed a.width b.width n m }) ok

-- of two tests passed, the second
second_holds : (x y : Bool) → (x && y) ≡ true → y ≡ true
second_holds true y h = h
second_holds false y h = cc

-- and so is the result's width
pub typed_at-width : (op : PrimOp) (a b : NumTy) (n m : ℕ) → IsOk (typed_at op a b n m) → width_of op a.signed a.width b.width n m ≤ 128
typed_at-width op a b n m ok =
    leb-true _ _ (second_holds _ _ (typed_at-ok op a b n m ok).0)

-- what holds of the type where all three tests are passed holds where there is a type
given : (kinds narrow legal : Bool) (t : NumTy) (P : NumTy → Type 0) → (IsTrue narrow → IsTrue legal → P t)
    → IfOk (if not kinds then Err Kinds else if not narrow then Err Over else if not legal then Err Legality else Ok t) P
given true true true t P h = h refl refl
given true true false t P h = tt
given true false legal t P h = tt
given false narrow legal t P h = tt

-- an operand that is there is a value, and so is the one that stands for one that is not
none_is : IsBitVector (no_operand.value)
none_is = record { narrow = lit≤ tt; below = lit< tt }

first_is : (args : List Num) → All (λ a. IsBitVector a.value) args → IsBitVector (first_operand args).value
first_is [] h = none_is
first_is (a ∷ args) h = h 0 no_operand (omega arith)

second_is : (args : List Num) → All (λ a. IsBitVector a.value) args → IsBitVector (second_operand args).value
second_is [] h = none_is
second_is (a ∷ []) h = none_is
second_is (a ∷ b ∷ args) h = h 1 no_operand (omega arith)

-- the types of operands that are there, or not
first_type-is : (args : List Num) → first_type (map type_of args) ≡ type_of (first_operand args)
first_type-is [] = refl
first_type-is (a ∷ args) = refl

second_type-is : (args : List Num) → second_type (map type_of args) ≡ type_of (second_operand args)
second_type-is [] = refl
second_type-is (a ∷ []) = refl
second_type-is (a ∷ b ∷ args) = refl

-- what has a type has one where the kinds are right
of_kinds : (kinds : Bool) (r : Result NumTy OpFault) → IsOk (if not kinds then Err Kinds else r) → IsOk r
of_kinds true r ok = ok
of_kinds false r ok = cc

pub typed-ok : (op : PrimOp) (args : List Num) (consts : List ℕ) → IsOk (typed op (map type_of args) consts)
    → IsOk (typed_at op (type_of (first_operand args)) (type_of (second_operand args)) (slice_index consts 0) (slice_index consts 1))
typed-ok op args consts ok =
    let h = of_kinds (takes (form_of op) (map type_of args) consts) (typed_at op (first_type (map type_of args)) (second_type (map type_of args)) (slice_index consts 0) (slice_index consts 1)) ok in
    rw (first_type-is args, second_type-is args) at h

-- the result is a value of its type
pub typed-outcome : (op : PrimOp) (args : List Num) (consts : List ℕ) → All (λ a. IsBitVector a.value) args
    → IfOk (typed op (map type_of args) consts) (λ t. IsBitVector (applied op args consts) × (type_of (outcome op args consts) ≡ t))
typed-outcome op args consts values =
    let a = first_operand args in
    let b = second_operand args in
    let n = slice_index consts 0 in
    let m = slice_index consts 1 in
    let P : NumTy → Type 0 = λ t. IsBitVector (applied op args consts) × (type_of (outcome op args consts) ≡ t) in
    rw (first_type-is args, second_type-is args)
    (given (takes (form_of op) (map type_of args) consts) (is_narrow op a.signed a.value.width b.value.width n m) (is_legal op a.value.width n m) (record { signed = signed_of op a.signed; width = width_of op a.signed a.value.width b.value.width n m }) P
    (λ narrow legal. (
      record {
        narrow = leb-true _ _ (second_holds _ _ narrow);
        below = number_below op a b n m (first_is args values) (second_is args values) legal;
      },
      refl,
    )))
