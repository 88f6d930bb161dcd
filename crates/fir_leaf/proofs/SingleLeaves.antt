-- Types of one leaf: those of literals, of operations and of their operands.
use Rattle.std.proofs.Common.{◌≡◌, ℕ, List, [], ◌∷◌, Bool, true, false, refl, Option, Some, None}
use Rattle.fir_bits.specs.declared.operators.PrimOp.{PrimOp}
use Rattle.fir_bits.specs.declared.operators.PrimOp.TheVariants.{AsAsyncReset}
use Rattle.fir_bits.specs.declared.types.NumTy.{NumTy}
use Rattle.fir_bits.specs.Forms.{first_type}
use Rattle.fir_bits.specs.Types.{signed_of}
use Rattle.fir_ast.specs.Types.{DataType, bundle, vector}
use Rattle.fir_meaning.specs.Checked.{joined}
use Rattle.fir_meaning.specs.ExpressionTypes.{number_data_type}
use Rattle.fir_meaning.specs.OperationTypes.{operand_kind, operand_kinds, ground_of, result_of}
use Rattle.fir_meaning.proofs.FreshFields.{HasFreshFields}
use Rattle.fir_leaf.proofs.AlikeTypes.{leaf_paths}

pub record IsOneLeaf (t : DataType) : Type 0 where
  pub path : leaf_paths t ≡ [] ∷ []
  pub fresh : HasFreshFields t

pub number_one : (signed : Bool) (width : Option ℕ) → IsOneLeaf (number_data_type signed width)
number_one true width = record { path = refl; fresh = tt }
number_one false width = record { path = refl; fresh = tt }

ground_one : (signed : Bool) → IsOneLeaf (ground_of signed)
ground_one true = record { path = refl; fresh = tt }
ground_one false = record { path = refl; fresh = tt }

pub result_one : (op : PrimOp) (kinds : List NumTy) → IsOneLeaf (result_of op kinds)
result_one AsAsyncReset kinds = record { path = refl; fresh = tt }
result_one op kinds = ground_one (signed_of op (first_type kinds).signed)

pub operand_one : (resets : Bool) (t : DataType) (kind : NumTy) → operand_kind resets t ≡ Some kind → IsOneLeaf t
operand_one resets (bundle fs) kind h = absurd (cc)
operand_one resets (vector t n) kind h = absurd (cc)
operand_one resets t kind h = record { path = refl; fresh = tt }

-- operands that have kinds: the first has one, and the others have theirs
pub record AreKinds (resets : Bool) (t : DataType) (ts : List DataType) : Type 0 where
  pub first : NumTy
  pub more : List NumTy
  pub is_first : operand_kind resets t ≡ Some first
  pub are_more : operand_kinds resets ts ≡ Some more

pub kinds_apart : (resets : Bool) (t : DataType) (ts : List DataType) (kinds : List NumTy) → operand_kinds resets (t ∷ ts) ≡ Some kinds → AreKinds resets t ts
kinds_apart resets t ts kinds h = by (operand_kind resets t) (operand_kinds resets ts) refl refl h
  where
    by : (kind : Option NumTy) (others : Option (List NumTy)) → operand_kind resets t ≡ kind → operand_kinds resets ts ≡ others
        → joined (λ s ss. s ∷ ss) kind others ≡ Some kinds → AreKinds resets t ts
    by None others e f h = absurd (cc)
    by (Some k) None e f h = absurd (cc)
    by (Some k) (Some ks) e f h = record { first = k; more = ks; is_first = e; are_more = f }
