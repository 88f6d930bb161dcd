-- What a rule promises: whatever its operands are, what it gives has the number of the node and reads only what the operands read.
use Rattle.std.specs.Prelude.{◌≡◌, ℕ, ◌+◌, ◌^◌, Bool, true, false, List, [], ◌∷◌, ◌++◌}
use Rattle.std.specs.List.{AllByRecursion}
use Rattle.fir_base.specs.Lists.{EachIn}
use Rattle.fir_bits.specs.Forms.{no_type}
use Rattle.fir_bits.specs.declared.operators.PrimOp.{PrimOp}
use Rattle.fir_bits.specs.declared.operators.PrimOp.TheVariants.{Add, And, Eq, Mul, Neq, Or, Xor}
use Rattle.fir_bits.specs.declared.types.NumTy.{NumTy}
use Rattle.fir_bits.specs.declared.values.Num.{Num}
use Rattle.fir_net.specs.declared.leaf.Leaf.{Leaf}
use Rattle.fir_net.specs.declared.node.Node.{Node}
use Rattle.fir_net.specs.declared.reads.Read.{Read}
use Rattle.fir_net.specs.working.IsNet.{CanRead, read_type}
use Rattle.fir_net.specs.working.Values.{IsOfType}
use Rattle.fir_fold_rules.specs.declared.operand.Operand.{Operand}
use Rattle.fir_fold_rules.specs.declared.term.Term.{Term}
use Rattle.fir_fold_rules.specs.declared.term.Term.TheVariants as term
use Rattle.fir_fold_rules.specs.working.Terms.{HasType, Stands, number_in, reads_in}

-- the type of the last thing that a term reads
abbrev pub inner_type : (Read → NumTy) → Term → NumTy
inner_type type_at (term.Read r) = type_at r
inner_type type_at (term.Number n) = no_type
inner_type type_at (term.Single op a) = type_at a
inner_type type_at (term.Pair op a b) = type_at b
inner_type type_at (term.Integer op a n) = type_at a
inner_type type_at (term.Range op a n m) = type_at a
inner_type type_at (term.Mux c a b) = type_at b

-- what is known of an operand over these leaves and nodes
pub record IsOperand (leaves : List Leaf) (nodes : List Node) (o : Operand) : Type 0 where
  pub can : CanRead leaves nodes o.read
  pub has_type : read_type leaves nodes o.read ≡ o.ty
  pub term : Stands leaves nodes o.ty (term.Read o.read) o.term
  pub inner : o.inner ≡ inner_type (read_type leaves nodes) o.term

pub record IsOperandAt (leaves : List Leaf) (nodes : List Node) (r : Read) (o : Operand) : Type 0 where
  pub reads : o.read ≡ r
  pub is : IsOperand leaves nodes o

-- what is known of an operand at values and their types
pub record Holds (type_at : Read → NumTy) (value : Read → Num) (o : Operand) : Type 0 where
  pub has_type : type_at o.read ≡ o.ty
  pub is : IsOfType o.ty (value o.read)
  pub term_type : HasType type_at o.ty o.term
  pub term_reads : AllByRecursion (λ r. IsOfType (type_at r) (value r)) (reads_in o.term)
  pub number : number_in o.ty value o.term ≡ (value o.read).value.number
  pub inner : o.inner ≡ inner_type type_at o.term

-- a literal whose bits are all 1 at that width
pub record IsOnes (o : Operand) (w : ℕ) : Type 0 where
  pub number : ℕ
  pub is : o.term ≡ term.Number number
  pub ones : number + 1 ≡ 2 ^ w

-- the operands, and what they read
abbrev pub known_reads : List Operand → List Read
known_reads [] = []
known_reads (o ∷ os) = o.read ∷ reads_in o.term ++ known_reads os

-- the second term may stand in the place of the first one wherever it has its type
pub record Equals (t : NumTy) (operands : List Operand) (from to : Term) : Type 0 where
  pub within : EachIn (reads_in to) (known_reads operands)
  pub same : (type_at : Read → NumTy) (value : Read → Num) → AllByRecursion (Holds type_at value) operands
      → HasType type_at t from → HasType type_at t to → number_in t value to ≡ number_in t value from

abbrev pub PairEquals : PrimOp → NumTy → Operand → Operand → Term → Type 0
PairEquals op t a b = Equals t (a ∷ b ∷ []) (term.Pair op a.read b.read)

abbrev pub SingleEquals : PrimOp → NumTy → Operand → Term → Type 0
SingleEquals op t a = Equals t (a ∷ []) (term.Single op a.read)

abbrev pub IntegerEquals : PrimOp → NumTy → Operand → ℕ → Term → Type 0
IntegerEquals op t a n = Equals t (a ∷ []) (term.Integer op a.read n)

abbrev pub RangeEquals : PrimOp → NumTy → Operand → ℕ → ℕ → Term → Type 0
RangeEquals op t a n m = Equals t (a ∷ []) (term.Range op a.read n m)

abbrev pub MuxEquals : NumTy → Operand → Operand → Operand → Term → Type 0
MuxEquals t c a b = Equals t (c ∷ a ∷ b ∷ []) (term.Mux c.read a.read b.read)

-- the second term may stand in the place of the first one if it has its type
abbrev pub Proposes : List Leaf → List Node → NumTy → Term → Term → Type 0
Proposes leaves nodes t from to = HasType (read_type leaves nodes) t to → Stands leaves nodes t from to

-- whether the operands may be turned
abbrev pub commutes : PrimOp → Bool
commutes Add = true
commutes Mul = true
commutes And = true
commutes Or = true
commutes Xor = true
commutes Eq = true
commutes Neq = true
commutes _ = false
