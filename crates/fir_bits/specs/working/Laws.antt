-- Laws of the operator table.
-- FIRRTL spec, "Primitive Operations" and "Width Inference".
use Rattle.std.specs.Prelude.{◌≡◌, ℕ, ◌≤◌, Bool, true, List, [], ◌∷◌, map, Some, IfOk, neg_ℤ}
use Rattle.std.specs.List.{All}
use Rattle.fir_bits.specs.Values.{BitVector, IsBitVector, extended, low_bits}
use Rattle.fir_bits.specs.Integers.{reading}
use Rattle.fir_bits.specs.Literals.{holds_number, least_width}
use Rattle.fir_bits.specs.Widths.{counted_width}
use Rattle.fir_bits.specs.working.Types.{typed}
use Rattle.fir_bits.specs.OperatorWords.{operator_word}
use Rattle.fir_bits.specs.working.OperatorWords.{operator_of}
use Rattle.fir_bits.specs.working.Operators.{type_of}
use Rattle.fir_bits.specs.Operators.{integer_of, applied, outcome}
use Rattle.fir_bits.specs.declared.operators.PrimOp.{PrimOp}
use Rattle.fir_bits.specs.declared.operators.PrimOp.TheVariants.{Pad, Cvt, Neg, Cat, Head, Tail, AsUInt, AsSInt}
use Rattle.fir_bits.specs.declared.values.Num.{Num}

-- wider operands never give a narrower result
abbrev pub Monotone : Type 0
Monotone =
    (op : PrimOp) (signed : Bool) (w v n m wider_w wider_v : ℕ) → w ≤ wider_w → v ≤ wider_v
    → counted_width op signed w v n m ≤ counted_width op signed wider_w wider_v n m

-- where there is a type, the result is a value of it
abbrev pub HasItsType : Type 0
HasItsType =
    (op : PrimOp) (args : List Num) (consts : List ℕ) → All (λ a. IsBitVector a.value) args
    → IfOk (typed op (map type_of args) consts) (λ t. IsBitVector (applied op args consts) × (type_of (outcome op args consts) ≡ t))

-- to extend a value and to cut it back leaves it
abbrev pub CutUndoesExtend : Type 0
CutUndoesExtend =
    (signed : Bool) (v : BitVector) (to : ℕ) → IsBitVector v → v.width ≤ to
    → low_bits v.width (extended signed v.width v.number to) ≡ v.number

-- a value that is extended stands for the same integer
abbrev pub ExtendKeepsInteger : Type 0
ExtendKeepsInteger =
    (signed : Bool) (v : BitVector) (to : ℕ) → IsBitVector v → v.width ≤ to
    → reading signed to (extended signed v.width v.number to) ≡ reading signed v.width v.number

-- a value is its high bits beside the others
abbrev pub HeadBesideTail : Type 0
HeadBesideTail =
    (e : Num) (n : ℕ) → IsBitVector e.value → n ≤ e.value.width
    → applied Cat (outcome Head (e ∷ []) (n ∷ []) ∷ outcome Tail (e ∷ []) (n ∷ []) ∷ []) [] ≡ e.value

-- `cvt` keeps the integer
abbrev pub CvtKeepsInteger : Type 0
CvtKeepsInteger = (e : Num) → IsBitVector e.value → integer_of (outcome Cvt (e ∷ []) []) ≡ integer_of e

-- `pad` keeps the integer
abbrev pub PadKeepsInteger : Type 0
PadKeepsInteger = (e : Num) (n : ℕ) → IsBitVector e.value → integer_of (outcome Pad (e ∷ []) (n ∷ [])) ≡ integer_of e

-- `neg` gives the integer's negative
abbrev pub NegGivesNegative : Type 0
NegGivesNegative = (e : Num) → IsBitVector e.value → integer_of (outcome Neg (e ∷ []) []) ≡ neg_ℤ (integer_of e)

-- `asUInt` and `asSInt` keep the bits
abbrev pub ReinterpretKeepsBits : Type 0
ReinterpretKeepsBits = (e : Num) → (applied AsUInt (e ∷ []) [] ≡ e.value) × (applied AsSInt (e ∷ []) [] ≡ e.value)

-- the word of an operation is read as that operation
abbrev pub WordsAreRead : Type 0
WordsAreRead = (op : PrimOp) → operator_of (operator_word op) ≡ Some op

-- the least width of a literal is one from 1 to 129, holds the number where it is at most 128, and no lesser one from 1 on does
pub record IsLeastWidth (signed negative : Bool) (m w : ℕ) : Type 0 where
  pub low : 1 ≤ w
  pub high : w ≤ 129
  pub holds : w ≤ 128 → holds_number signed w negative m ≡ true
  pub least : (v : ℕ) → 1 ≤ v → holds_number signed v negative m ≡ true → w ≤ v

abbrev pub LeastWidthIsLeast : Type 0
LeastWidthIsLeast = (signed negative : Bool) (m : ℕ) → IsLeastWidth signed negative m (least_width signed negative m)
