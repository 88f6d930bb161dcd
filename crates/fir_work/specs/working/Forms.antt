-- Which work gives the result of an operation, or a number at another width.
-- It does so on all numbers of the operands' widths, whatever the other operands of the task are.
use Rattle.std.specs.Prelude.{◌≡◌, ℕ, ◌^◌, ◌<◌, ◌≤◌, ◌==◌, Bool, not, ◌||◌, IsTrue, List}
use Rattle.fir_bits.specs.Widths.{width_of}
use Rattle.fir_bits.specs.Types.{is_legal}
use Rattle.fir_bits.specs.Operators.{no_operand, operation_value}
use Rattle.fir_bits.specs.declared.operators.PrimOp.{PrimOp}
use Rattle.fir_bits.specs.declared.types.NumTy.{NumTy}
use Rattle.fir_net.specs.declared.net.FlatNet.{FlatNet}
use Rattle.fir_net.specs.working.Values.{number_of, at_width}
use Rattle.fir_work.specs.declared.work.Work.{Work}
use Rattle.fir_work.specs.working.Works.{done, CanDo}

-- the operation has a result of that width on operands of these types and these integers
pub record HasWidth (op : PrimOp) (a b : NumTy) (n m width : ℕ) : Type 0 where
  pub first : a.width ≤ 128
  pub second : b.width ≤ 128
  pub narrow : width ≤ 128
  pub legal : IsTrue (is_legal op a.width n m)
  pub is : width ≡ width_of op a.signed a.width b.width n m

-- the work gives the number of the result on one operand
pub record IsSingleWork (op : PrimOp) (a : NumTy) (n m width : ℕ) (w : Work) : Type 0 where
  pub runs : (net : FlatNet) (ns : List ℕ) (x y : ℕ) → CanDo net ns w x y
  pub gives : (net : FlatNet) (ns : List ℕ) (x y z : ℕ) → x < 2 ^ a.width → done net ns w x y z ≡ operation_value op width (number_of a x) no_operand n m

-- and on two
pub record IsPairWork (op : PrimOp) (a b : NumTy) (width : ℕ) (w : Work) : Type 0 where
  pub runs : (net : FlatNet) (ns : List ℕ) (x y : ℕ) → CanDo net ns w x y
  pub gives : (net : FlatNet) (ns : List ℕ) (x y z : ℕ) → x < 2 ^ a.width → y < 2 ^ b.width
      → done net ns w x y z ≡ operation_value op width (number_of a x) (number_of b y) 0 0

-- the work gives the number at that width
pub record IsFitWork (t : NumTy) (width : ℕ) (w : Work) : Type 0 where
  pub runs : (net : FlatNet) (ns : List ℕ) (x y : ℕ) → CanDo net ns w x y
  pub gives : (net : FlatNet) (ns : List ℕ) (x y z : ℕ) → x < 2 ^ t.width → done net ns w x y z ≡ at_width (number_of t x) width

-- a number of the type is itself at a width of at least its own
abbrev pub plain : NumTy → ℕ → Bool
plain t width = not t.signed || t.width == width
