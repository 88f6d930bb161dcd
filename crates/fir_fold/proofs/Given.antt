-- The net that the code gives, by its parts.
use Rattle.std.proofs.Common.{◌≡◌, List, map, sym, ap, ◌∙◌, subst}
use Rattle.std.specs.Prelude.{IfOk, Ok, Err, Result}
use Rattle.fir_base.specs.declared.refused.MemoryOut.{MemoryOut}
use Rattle.fir_net.specs.declared.array.Array.{Array}
use Rattle.fir_net.specs.declared.leaf.Leaf.{Leaf}
use Rattle.fir_net.specs.declared.net.FlatNet.{FlatNet}
use Rattle.fir_net.specs.declared.node.Node.{Node}
use Rattle.fir_net.specs.declared.reads.Read.{Read}
use Rattle.fir_net.specs.working.IsNet.{IsNet}
use Rattle.fir_net.specs.working.IsOrder.{IsOrder}
use Rattle.fir_equivalence.specs.working.IsEquivalent.{IsEquivalent}
use Rattle.fir_equivalence.specs.working.Laws.{RewrittenIsEquivalent}
use Rattle.fir_equivalence.specs.working.Rewrites.{Rewrites}
use Rattle.fir_fold.specs.working.FoldedNet.{folded_net}
use Rattle.fir_fold.specs.working.Standing.{leaf_read, written_array}
use Rattle.fir_fold.specs.working.Walking.{Walking, read_by}

-- with these leaves, nodes and arrays
abbrev pub net_with : FlatNet → List Leaf → List Node → List Array → FlatNet
net_with net leaves nodes arrays = record { name = net.name; leaves = leaves; nodes = nodes; state = net.state; arrays = arrays; array_order = net.array_order }

pub record IsGiven (net : FlatNet) (w : Walking) (leaves : List Leaf) (nodes : List Node) (arrays : List Array) : Type 0 where
  pub leaves_are : leaves ≡ map (leaf_read (read_by w)) net.leaves
  pub nodes_are : nodes ≡ w.nodes
  pub arrays_are : arrays ≡ map (written_array (read_by w)) net.arrays

-- from a state that is seen as another
pub is_given : (net : FlatNet) (w v : Walking) (leaves from : List Leaf) (nodes : List Node) (arrays over : List Array) → v ≡ w → leaves ≡ map (leaf_read (read_by v)) from → from ≡ net.leaves → nodes ≡ v.nodes
    → arrays ≡ map (written_array (read_by v)) over → over ≡ net.arrays → IsGiven net w leaves nodes arrays
is_given net w v leaves from nodes arrays over seen a b c d e = record {
  leaves_are = a ∙ ap (map (leaf_read (read_by v))) b ∙ ap (λ (u : Walking). map (leaf_read (read_by u)) net.leaves) seen;
  nodes_are = c ∙ ap (λ (u : Walking). u.nodes) seen;
  arrays_are = d ∙ ap (map (written_array (read_by v))) e ∙ ap (λ (u : Walking). map (written_array (read_by u)) net.arrays) seen;
}

pub as_given : (P : FlatNet → Type 0) (net : FlatNet) (w : Walking) (leaves : List Leaf) (nodes : List Node) (arrays : List Array) → IsGiven net w leaves nodes arrays → P (folded_net net w) → P (net_with net leaves nodes arrays)
as_given P net w leaves nodes arrays g h =
    subst (λ (ls : List Leaf). P (net_with net ls nodes arrays)) (sym g.leaves_are)
    (subst (λ (ns : List Node). P (net_with net (map (leaf_read (read_by w)) net.leaves) ns arrays)) (sym g.nodes_are)
    (subst (λ (xs : List Array). P (net_with net (map (leaf_read (read_by w)) net.leaves) w.nodes xs)) (sym g.arrays_are) h))

-- the net written anew stands in the net's place
pub equivalent_by : RewrittenIsEquivalent → (net : FlatNet) (order : List Read) → IsNet net → IsOrder net order → (result : Result (FlatNet × List Read) MemoryOut)
    → IfOk result (λ r. Rewrites net r.0 (λ k. k)) → IfOk result (λ r. IsOrder r.0 r.1) → IfOk result (λ r. IsEquivalent net r.0)
equivalent_by law net order whole ordered (Err e) rewrites later = tt
equivalent_by law net order whole ordered (Ok r) rewrites later = law net r.0 (λ k. k) order r.1 whole ordered later rewrites
