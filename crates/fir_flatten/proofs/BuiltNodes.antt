-- Nodes that are put behind others, one by one.
use Rattle.std.proofs.Common.{ℕ, suc, ◌+◌, List, [], ◌∷◌, ◌++◌, length, refl, sym, subst, arith, append_assoc, append-nil}
use Rattle.fir_net.specs.declared.leaf.Leaf.{Leaf}
use Rattle.fir_net.specs.declared.node.Node.{Node}
use Rattle.fir_net.specs.working.Dependence.{support_of}
use Rattle.fir_net.specs.working.IsNet.{AreNodes, IsNode}
use Rattle.fir_merge.specs.working.NodeTerms.{AreBelow, Grows, ReadBefore}
use Rattle.fir_merge.proofs.GrownTerms.{grows_more, grows_none}

before_joined : (count : ℕ) (xs ys : List Node) → ReadBefore count xs → ReadBefore (count + length xs) ys → ReadBefore count (xs ++ ys)
before_joined count [] ys h k = subst (λ (n : ℕ). ReadBefore n ys) (omega arith) k
before_joined count (x ∷ xs) ys h k = (h.0, before_joined (suc count) xs ys h.1 (subst (λ (n : ℕ). ReadBefore n ys) (omega arith) k))

nodes_joined : (leaves : List Leaf) (before xs ys : List Node) → AreNodes leaves before xs → AreNodes leaves (before ++ xs) ys → AreNodes leaves before (xs ++ ys)
nodes_joined leaves before [] ys are more = subst (λ (bs : List Node). AreNodes leaves bs ys) (append-nil before) more
nodes_joined leaves before (x ∷ xs) ys are more =
    (are.0, nodes_joined leaves (before ++ x ∷ []) xs ys are.1 (subst (λ (bs : List Node). AreNodes leaves bs ys) (sym (append_assoc before (x ∷ []) xs)) more))

-- nodes over these leaves, which begin with those of a list
pub record AreBuilt (leaves : List Leaf) (old ns : List Node) : Type 0 where
  pub grows : Grows old ns
  pub before : ReadBefore 0 ns
  pub are : AreNodes leaves [] ns

pub built_first : (leaves : List Leaf) (old : List Node) → ReadBefore 0 old → AreNodes leaves [] old → AreBuilt leaves old old
built_first leaves old before are = record { grows = grows_none old; before = before; are = are }

pub built_push : (leaves : List Leaf) (old ns : List Node) (n : Node) → AreBuilt leaves old ns → AreBelow (length ns) (support_of n) → IsNode leaves ns n
    → AreBuilt leaves old (ns ++ n ∷ [])
built_push leaves old ns n built below is = record {
  grows = grows_more old ns (ns ++ n ∷ []) built.grows (record { added = n ∷ []; is = refl });
  before = before_joined 0 ns (n ∷ []) built.before (subst (λ (k : ℕ). AreBelow k (support_of n)) (omega arith) below, tt);
  are = nodes_joined leaves [] ns (n ∷ []) built.are (is, tt);
}
