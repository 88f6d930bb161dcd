-- The values of a net's nodes, from values of its leaves.
-- Each node reads leaves and the nodes before it. A value is a UInt or an SInt, as the type of its leaf or node says.
use Rattle.std.specs.Prelude.{◌≡◌, ℕ, List, [], ◌∷◌, ◌++◌, map, slice_get, ◌==◌, if◌then◌else◌, unwrap_or, option_map}
use Rattle.fir_bits.specs.Values.{IsBitVector, fitted}
use Rattle.fir_bits.specs.Operators.{no_operand, outcome}
use Rattle.fir_bits.specs.working.Operators.{type_of}
use Rattle.fir_bits.specs.Forms.{no_type}
use Rattle.fir_bits.specs.declared.types.NumTy.{NumTy}
use Rattle.fir_bits.specs.declared.values.Num.{Num}
use Rattle.fir_net.specs.declared.reads.Read.{Read}
use Rattle.fir_net.specs.declared.reads.Read.TheVariants as read
use Rattle.fir_net.specs.declared.leaf.Leaf.{Leaf}
use Rattle.fir_net.specs.declared.node.Node.{Node}
use Rattle.fir_net.specs.declared.node.Node.TheVariants as node
use Rattle.fir_net.specs.declared.net.FlatNet.{FlatNet}

-- a number of a type
abbrev pub number_of : NumTy → ℕ → Num
number_of t n = record { signed = t.signed; value = record { width = t.width; number = n } }

-- a value of a type
pub record IsOfType (t : NumTy) (v : Num) : Type 0 where
  pub bits : IsBitVector v.value
  pub is : type_of v ≡ t

-- a value at a width: extended by its own sign, or cut to its low bits
abbrev pub at_width : Num → ℕ → ℕ
at_width v width = fitted v.signed v.value.width v.value.number width

abbrev pub leaf_width : List Leaf → ℕ → ℕ
leaf_width leaves k = unwrap_or (option_map (λ l. l.width) (slice_get leaves k)) 0

abbrev pub type_of_leaf : Leaf → NumTy
type_of_leaf l = record { signed = l.signed; width = l.width }

abbrev pub leaf_type : List Leaf → ℕ → NumTy
leaf_type leaves k = unwrap_or (option_map type_of_leaf (slice_get leaves k)) no_type

-- what is not there has the value of no bits
abbrev pub read_value : List Leaf → (ℕ → ℕ) → List Num → Read → Num
read_value leaves env known (read.Leaf k) = number_of (leaf_type leaves k) (env k)
read_value leaves env known (read.Node k) = unwrap_or (slice_get known k) no_operand

-- a value of a type: the first one where the condition is 1, else the second
abbrev pub chosen : NumTy → List Num → Num
chosen t (c ∷ a ∷ b ∷ []) = number_of t (if c.value.number == 1 then at_width a t.width else at_width b t.width)
chosen t _ = no_operand

abbrev pub node_value : List Leaf → (ℕ → ℕ) → List Num → Node → Num
node_value leaves env known (node.Literal v) = v
node_value leaves env known (node.Operation o) = outcome o.op (map (read_value leaves env known) o.reads) o.integers
node_value leaves env known (node.Mux m) = chosen (record { signed = m.signed; width = m.width }) (map (read_value leaves env known) m.reads)

unfoldable pub values_from : List Leaf → (ℕ → ℕ) → List Num → List Node → List Num
values_from leaves env known [] = known
values_from leaves env known (n ∷ ns) = values_from leaves env (known ++ node_value leaves env known n ∷ []) ns

-- the values of all nodes
abbrev pub values : FlatNet → (ℕ → ℕ) → List Num
values net env = values_from net.leaves env [] net.nodes
