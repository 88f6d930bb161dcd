-- The terms that the nodes of a net stand for. Each node reads leaves and the nodes before it.
use Rattle.std.specs.Prelude.{◌≡◌, ℕ, suc, ◌<◌, Bool, List, [], ◌∷◌, ◌++◌, length, slice_index_or}
use Rattle.fir_bits.specs.Forms.{no_type}
use Rattle.fir_net.specs.declared.node.Node.{Node}
use Rattle.fir_net.specs.declared.node.Node.TheVariants as node
use Rattle.fir_net.specs.declared.reads.Read.{Read}
use Rattle.fir_net.specs.declared.reads.Read.TheVariants as read
use Rattle.fir_net.specs.working.Dependence.{support_of}
use Rattle.fir_connect.specs.working.Lowered.{zero_of}
use Rattle.fir_connect.specs.working.NetTerms.{NetTerm, NetTerms, value, leaf, operation, mux, no_terms, term}

-- what is not there stands for zero of no bits
abbrev pub read_term : List NetTerm → Read → NetTerm
read_term known (read.Leaf x) = leaf x
read_term known (read.Node k) = slice_index_or known k (zero_of no_type)

abbrev pub read_terms : List NetTerm → List Read → NetTerms
read_terms known [] = no_terms
read_terms known (r ∷ rs) = term (read_term known r) (read_terms known rs)

abbrev pub chosen_term : List NetTerm → List Read → Bool → ℕ → NetTerm
chosen_term known (c ∷ a ∷ b ∷ []) signed width =
    mux (read_term known c) (read_term known a) (read_term known b) (record { signed = signed; width = width })
chosen_term known _ signed width = zero_of no_type

abbrev pub node_term : List NetTerm → Node → NetTerm
node_term known (node.Literal v) = value v
node_term known (node.Operation o) = operation o.op (read_terms known o.reads) o.integers (record { signed = o.signed; width = o.width })
node_term known (node.Mux m) = chosen_term known m.reads m.signed m.width

unfoldable pub terms_from : List NetTerm → List Node → List NetTerm
terms_from known [] = known
terms_from known (n ∷ ns) = terms_from (known ++ node_term known n ∷ []) ns

-- the terms of all nodes
abbrev pub terms : List Node → List NetTerm
terms ns = terms_from [] ns

-- a leaf, or one of so many nodes
abbrev pub IsBelow : ℕ → Read → Type 0
IsBelow n (read.Leaf x) = Unit {0}
IsBelow n (read.Node k) = k < n

abbrev pub AreBelow : ℕ → List Read → Type 0
AreBelow n [] = Unit {0}
AreBelow n (r ∷ rs) = IsBelow n r × AreBelow n rs

-- each node reads nodes before it, of which there are so many at first
abbrev pub ReadBefore : ℕ → List Node → Type 0
ReadBefore n [] = Unit {0}
ReadBefore n (x ∷ xs) = AreBelow n (support_of x) × ReadBefore (suc n) xs

-- nodes are added at the end alone
pub record Grows (old new : List Node) : Type 0 where
  pub added : List Node
  pub is : new ≡ old ++ added

-- the nodes have grown by a node at most, and that with the number stands for what the node makes of the earlier ones
pub record Stands (old new : List Node) (n : Node) (k : ℕ) : Type 0 where
  pub grows : Grows old new
  pub within : k < length new
  pub term : read_term (terms new) (read.Node k) ≡ node_term (terms old) n
