-- What nodes read: leaves that are no clocks, and nodes before them. The value of a node hangs on these alone.
use Rattle.std.proofs.Common.{◌≡◌, ℕ, zero, suc, List, [], ◌∷◌, ◌++◌, take, refl, ap, subst, arith, append_assoc, append-nil, length-take}
use Rattle.std.specs.Prelude.{slice_get, Some}
use Rattle.fir_bits.specs.Operators.{outcome}
use Rattle.fir_bits.specs.declared.values.Num.{Num}
use Rattle.fir_base.proofs.Elements.{all_there}
use Rattle.fir_net.specs.declared.reads.Read.{Read}
use Rattle.fir_net.specs.declared.reads.Read.TheVariants as read
use Rattle.fir_net.specs.declared.leaf.Leaf.{Leaf}
use Rattle.fir_net.specs.declared.node.Node.{Node}
use Rattle.fir_net.specs.declared.node.Node.TheVariants as node
use Rattle.fir_net.specs.working.Values.{read_value, node_value, chosen}
use Rattle.fir_net.specs.working.Dependence.{support_of}
use Rattle.fir_net.specs.working.IsNet.{node_type, CanRead, IsNode, AreNodes}
use Rattle.fir_net.proofs.Places.{map_at}

-- the value of a node hangs on what it reads alone
pub same_node : (leaves : List Leaf) (e f : ℕ → ℕ) (known others : List Num) (n : Node) → ((j : ℕ) (r : Read) → slice_get (support_of n) j ≡ Some r → read_value leaves e known r ≡ read_value leaves f others r)
    → node_value leaves e known n ≡ node_value leaves f others n
same_node leaves e f known others (node.Literal v) h = refl
same_node leaves e f known others (node.Operation o) h =
    ap (λ (xs : List Num). outcome o.op xs o.integers) (map_at (read_value leaves e known) (read_value leaves f others) o.reads h)
same_node leaves e f known others (node.Mux m) h = ap (chosen (node_type (node.Mux m))) (map_at (read_value leaves e known) (read_value leaves f others) m.reads h)

-- each node stands over those before it
pub node_at : (leaves : List Leaf) (ns before : List Node) → AreNodes leaves before ns → (k : ℕ) (n : Node) → slice_get ns k ≡ Some n → IsNode leaves (before ++ take k ns) n
node_at leaves [] before are k n e = cc
node_at leaves (m ∷ ns) before are zero n e =
    let same : m ≡ n = cc in
    let none : before ++ [] ≡ before = append-nil before in
    rw none (subst (IsNode leaves before) same are.0)
node_at leaves (m ∷ ns) before are (suc k) n e =
    subst (λ (bs : List Node). IsNode leaves bs n) (append_assoc before (m ∷ []) (take k ns)) (node_at leaves ns (before ++ m ∷ []) are.1 k n e)

-- what a node reads can be read
pub reads_can : (leaves : List Leaf) (before : List Node) (n : Node) → IsNode leaves before n → (j : ℕ) (r : Read) → slice_get (support_of n) j ≡ Some r → CanRead leaves before r
reads_can leaves before (node.Literal v) is j r at = cc
reads_can leaves before (node.Operation o) is j r at = all_there (CanRead leaves before) o.reads is.reads j r at
reads_can leaves before (node.Mux m) is j r at = all_there (CanRead leaves before) m.reads is.reads j r at

-- what can be read of the first nodes can be read of all
pub can_more : (leaves : List Leaf) (nodes : List Node) (k : ℕ) (r : Read) → CanRead leaves (take k nodes) r → CanRead leaves nodes r
can_more leaves nodes k (read.Leaf j) can = can
can_more leaves nodes k (read.Node j) can = let long = length-take k nodes in omega (arith, can, long)
