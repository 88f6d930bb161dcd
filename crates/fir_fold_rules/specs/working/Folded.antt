-- Terms whose operands are not all literals, and what operations on literals give.
use Rattle.std.specs.Prelude.{◌≡◌, ℕ, ◌<◌, ◌^◌, List, [], ◌∷◌}
use Rattle.fir_base.specs.Lists.{In}
use Rattle.fir_bits.specs.Operators.{applied}
use Rattle.fir_bits.specs.declared.operators.PrimOp.{PrimOp}
use Rattle.fir_bits.specs.declared.types.NumTy.{NumTy}
use Rattle.fir_bits.specs.declared.values.Num.{Num}
use Rattle.fir_net.specs.declared.leaf.Leaf.{Leaf}
use Rattle.fir_net.specs.declared.node.Node.{Node}
use Rattle.fir_net.specs.declared.reads.Read.{Read}
use Rattle.fir_net.specs.working.Values.{at_width}
use Rattle.fir_fold_rules.specs.declared.term.Term.{Term}
use Rattle.fir_fold_rules.specs.declared.term.Term.TheVariants as term
use Rattle.fir_fold_rules.specs.working.Replaces.{AreValues}
use Rattle.fir_fold_rules.specs.working.Simplifies.{IsLiteralNode}
use Rattle.fir_fold_rules.specs.working.Terms.{IsLiteral, IsTerm, number_in, reads_in}

abbrev pub IsFolded : List Node → Term → Type 0
IsFolded nodes (term.Read r) = Unit {0}
IsFolded nodes (term.Number n) = Unit {0}
IsFolded nodes (term.Single op a) = IsLiteralNode nodes a → ⊥
IsFolded nodes (term.Pair op a b) = IsLiteralNode nodes a → IsLiteralNode nodes b → ⊥
IsFolded nodes (term.Integer op a n) = IsLiteralNode nodes a → ⊥
IsFolded nodes (term.Range op a n m) = IsLiteralNode nodes a → ⊥
IsFolded nodes (term.Mux c a b) = IsLiteralNode nodes c → ⊥

-- the number of an operation on a literal, and on two
pub record AppliedToOne (nodes : List Node) (op : PrimOp) (a : Read) (integers : List ℕ) (n : ℕ) : Type 0 where
  pub operand : Num
  pub is : IsLiteral nodes a operand
  pub below : n < 2 ^ (applied op (operand ∷ []) integers).width
  pub gives : n ≡ (applied op (operand ∷ []) integers).number

pub record AppliedToTwo (nodes : List Node) (op : PrimOp) (a b : Read) (n : ℕ) : Type 0 where
  pub first : Num
  pub second : Num
  pub is_first : IsLiteral nodes a first
  pub is_second : IsLiteral nodes b second
  pub below : n < 2 ^ (applied op (first ∷ second ∷ []) []).width
  pub gives : n ≡ (applied op (first ∷ second ∷ []) []).number

-- a term of a type that has the value of a read, extended
pub record Fits (leaves : List Leaf) (nodes : List Node) (t : NumTy) (r : Read) (x : Term) : Type 0 where
  pub whole : IsTerm leaves nodes t x
  pub same : (value : Read → Num) → AreValues leaves nodes value → number_in t value x ≡ at_width (value r) t.width
  pub among : (s : Read) → In (reads_in x) s → In (r ∷ []) s
