-- Terms, in which the rules speak of nodes: what each reads, its number from the values of what it reads, its type, and what it is as a node of that type.
use Rattle.std.specs.Prelude.{◌≡◌, ℕ, List, [], ◌∷◌, ◌==◌, if◌then◌else◌, slice_get, length, true, Ok, Some}
use Rattle.std.specs.List.{AllByRecursion}
use Rattle.fir_base.specs.Lists.{In}
use Rattle.fir_bits.specs.Forms.{form_of, has_counts}
use Rattle.fir_bits.specs.Operators.{no_operand, operation_value}
use Rattle.fir_bits.specs.Values.{IsBitVector}
use Rattle.fir_bits.specs.working.Types.{typed}
use Rattle.fir_bits.specs.declared.types.NumTy.{NumTy}
use Rattle.fir_bits.specs.declared.values.Num.{Num}
use Rattle.fir_net.specs.declared.leaf.Leaf.{Leaf}
use Rattle.fir_net.specs.declared.node.Node.{Node}
use Rattle.fir_net.specs.declared.node.Node.TheVariants as node
use Rattle.fir_net.specs.declared.reads.Read.{Read}
use Rattle.fir_net.specs.declared.reads.Read.TheVariants as read
use Rattle.fir_net.specs.working.IsNet.{CanRead, IsChoice, read_type}
use Rattle.fir_net.specs.working.Values.{at_width, number_of}
use Rattle.fir_fold_rules.specs.declared.replacement.Replacement.{Replacement}
use Rattle.fir_fold_rules.specs.declared.replacement.Replacement.TheVariants as by
use Rattle.fir_fold_rules.specs.declared.term.Term.{Term}
use Rattle.fir_fold_rules.specs.declared.term.Term.TheVariants as term
use Rattle.fir_fold_rules.specs.working.Replaces.{AreValues, IsWithin}

abbrev pub reads_in : Term → List Read
reads_in (term.Read r) = r ∷ []
reads_in (term.Number n) = []
reads_in (term.Single op a) = a ∷ []
reads_in (term.Pair op a b) = a ∷ b ∷ []
reads_in (term.Integer op a n) = a ∷ []
reads_in (term.Range op a n m) = a ∷ []
reads_in (term.Mux c a b) = c ∷ a ∷ b ∷ []

-- the number of a term of a type
abbrev pub number_in : NumTy → (Read → Num) → Term → ℕ
number_in t value (term.Read r) = (value r).value.number
number_in t value (term.Number n) = n
number_in t value (term.Single op a) = operation_value op t.width (value a) no_operand 0 0
number_in t value (term.Pair op a b) = operation_value op t.width (value a) (value b) 0 0
number_in t value (term.Integer op a n) = operation_value op t.width (value a) no_operand n 0
number_in t value (term.Range op a n m) = operation_value op t.width (value a) no_operand n m
number_in t value (term.Mux c a b) = if (value c).value.number == 1 then at_width (value a) t.width else at_width (value b) t.width

-- a term is of a type where what it reads has these types
abbrev pub HasType : (Read → NumTy) → NumTy → Term → Type 0
HasType type_at t (term.Read r) = type_at r ≡ t
HasType type_at t (term.Number n) = IsBitVector (record { width = t.width; number = n })
HasType type_at t (term.Single op a) = typed op (type_at a ∷ []) [] ≡ Ok t
HasType type_at t (term.Pair op a b) = typed op (type_at a ∷ type_at b ∷ []) [] ≡ Ok t
HasType type_at t (term.Integer op a n) = typed op (type_at a ∷ []) (n ∷ []) ≡ Ok t
HasType type_at t (term.Range op a n m) = typed op (type_at a ∷ []) (n ∷ m ∷ []) ≡ Ok t
HasType type_at t (term.Mux c a b) = IsChoice t (type_at c ∷ type_at a ∷ type_at b ∷ [])

-- a literal's number is one of the width of its type
abbrev pub IsNumber : NumTy → Term → Type 0
IsNumber t (term.Number n) = IsBitVector (record { width = t.width; number = n })
IsNumber t _ = Unit {0}

pub record IsTerm (leaves : List Leaf) (nodes : List Node) (t : NumTy) (x : Term) : Type 0 where
  pub reads : AllByRecursion (CanRead leaves nodes) (reads_in x)
  pub has_type : HasType (read_type leaves nodes) t x

-- a term of a type as what stands in the place of a node
abbrev pub replacement_of : NumTy → Term → Replacement
replacement_of t (term.Read r) = by.Read r
replacement_of t (term.Number n) = by.Node (node.Literal (number_of t n))
replacement_of t (term.Single op a) = by.Node (node.Operation (record { op = op; reads = a ∷ []; integers = []; signed = t.signed; width = t.width }))
replacement_of t (term.Pair op a b) = by.Node (node.Operation (record { op = op; reads = a ∷ b ∷ []; integers = []; signed = t.signed; width = t.width }))
replacement_of t (term.Integer op a n) = by.Node (node.Operation (record { op = op; reads = a ∷ []; integers = n ∷ []; signed = t.signed; width = t.width }))
replacement_of t (term.Range op a n m) = by.Node (node.Operation (record { op = op; reads = a ∷ []; integers = n ∷ m ∷ []; signed = t.signed; width = t.width }))
replacement_of t (term.Mux c a b) = by.Node (node.Mux (record { reads = c ∷ a ∷ b ∷ []; signed = t.signed; width = t.width }))

-- an operation has as many operands and integers as its form
abbrev pub HasCounts : Node → Type 0
HasCounts (node.Literal v) = Unit {0}
HasCounts (node.Operation o) = has_counts (form_of o.op) (length o.reads) (length o.integers) ≡ true
HasCounts (node.Mux m) = Unit {0}

-- the second term may stand in the place of the first one, both of that type
pub record Stands (leaves : List Leaf) (nodes : List Node) (t : NumTy) (from to : Term) : Type 0 where
  pub whole : IsTerm leaves nodes t to
  pub same : (value : Read → Num) → AreValues leaves nodes value → number_in t value to ≡ number_in t value from
  pub within : (r : Read) → In (reads_in to) r → IsWithin nodes (reads_in from) r

-- what reads this literal
abbrev pub IsLiteral : List Node → Read → Num → Type 0
IsLiteral nodes (read.Leaf k) v = ⊥
IsLiteral nodes (read.Node k) v = slice_get nodes k ≡ Some (node.Literal v)
