-- Each node of a whole net is one over all its nodes: what it reads stands before it, and is the same where more nodes follow.
use Rattle.std.proofs.Common.{◌≡◌, List, [], ◌∷◌, ◌++◌, map, refl, sym, ap, ◌∙◌, subst, arith, append_assoc, length-append, unwrap_or, option_map}
use Rattle.std.specs.Prelude.{Option}
use Rattle.std.specs.List.{AllByRecursion}
use Rattle.fir_base.proofs.Elements.{get_left}
use Rattle.fir_bits.specs.Forms.{no_type}
use Rattle.fir_bits.specs.working.Types.{typed}
use Rattle.fir_bits.specs.declared.types.NumTy.{NumTy}
use Rattle.fir_net.specs.declared.reads.Read.{Read}
use Rattle.fir_net.specs.declared.reads.Read.TheVariants as read
use Rattle.fir_net.specs.declared.leaf.Leaf.{Leaf}
use Rattle.fir_net.specs.declared.node.Node.{Node}
use Rattle.fir_net.specs.declared.node.Node.TheVariants as node
use Rattle.fir_net.specs.working.IsNet.{node_type, read_type, CanRead, IsChoice, IsNode, AreNodes}

module _ (leaves : List Leaf) (before more : List Node) where
  read_more : (r : Read) → CanRead leaves before r → CanRead leaves (before ++ more) r
  read_more (read.Leaf k) h = h
  read_more (read.Node k) h = omega (arith, length-append before more)

  reads_more : (rs : List Read) → AllByRecursion (CanRead leaves before) rs → AllByRecursion (CanRead leaves (before ++ more)) rs
  reads_more [] h = tt
  reads_more (r ∷ rs) h = (read_more r h.0, reads_more rs h.1)

  same_type : (r : Read) → CanRead leaves before r → read_type leaves (before ++ more) r ≡ read_type leaves before r
  same_type (read.Leaf k) h = refl
  same_type (read.Node k) h = ap (λ (n : Option Node). unwrap_or (option_map node_type n) no_type) (get_left before more k h)

  same_types : (rs : List Read) → AllByRecursion (CanRead leaves before) rs → map (read_type leaves (before ++ more)) rs ≡ map (read_type leaves before) rs
  same_types [] h = refl
  same_types (r ∷ rs) h = rw (same_type r h.0, same_types rs h.1) refl

  node_more : (n : Node) → IsNode leaves before n → IsNode leaves (before ++ more) n
  node_more (node.Literal v) h = h
  node_more (node.Operation o) h = record {
    reads = reads_more o.reads h.reads;
    has_type = ap (λ (ts : List NumTy). typed o.op ts o.integers) (same_types o.reads h.reads) ∙ h.has_type;
  }
  node_more (node.Mux m) h = record {
    reads = reads_more m.reads h.reads;
    has_type = subst (IsChoice (node_type (node.Mux m))) (sym (same_types m.reads h.reads)) h.has_type;
  }

nodes_over : (leaves : List Leaf) (before ns : List Node) → AreNodes leaves before ns → AllByRecursion (IsNode leaves (before ++ ns)) ns
nodes_over leaves before [] h = tt
nodes_over leaves before (n ∷ ns) h = (
  node_more leaves before (n ∷ ns) n h.0,
  subst (λ (all : List Node). AllByRecursion (IsNode leaves all) ns) (append_assoc before (n ∷ []) ns) (nodes_over leaves (before ++ n ∷ []) ns h.1),
)

pub all_nodes : (leaves : List Leaf) (ns : List Node) → AreNodes leaves [] ns → AllByRecursion (IsNode leaves ns) ns
all_nodes leaves ns h = nodes_over leaves [] ns h
