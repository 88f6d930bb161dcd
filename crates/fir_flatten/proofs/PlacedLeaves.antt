-- Which leaf of a flat net has a number, and where the nodes that its role adds stand.
use Rattle.std.proofs.Common.{◌≡◌, ℕ, zero, suc, ◌+◌, List, [], ◌∷◌, length, Some, refl, ap, ◌∙◌, arith}
use Rattle.std.specs.Prelude.{nat_lt, slice_get}
use Rattle.fir_net.specs.declared.leaf.Leaf.{Leaf}
use Rattle.fir_net.specs.declared.node.Node.{Node}
use Rattle.fir_whens.specs.declared.net_role.NetRole.{NetRole}
use Rattle.fir_flatten.specs.declared.design_net.DesignLeaf.{DesignLeaf}
use Rattle.fir_flatten.specs.working.FlatRoles.{added_behind, added_by, flat_leaf_of, flat_leaves_of}
use Rattle.fir_flatten.proofs.StandingNodes.{StandAt, stands_left, stands_right}

module _ (places : List ℕ) (ports : ℕ) where
  pub length-leaves : (n x : ℕ) (ls : List DesignLeaf) (rs : List NetRole) (count : ℕ) → length ls ≡ n → length rs ≡ n
      → length (flat_leaves_of places ports x ls rs count) ≡ n
  length-leaves n x [] rs count e f = e
  length-leaves n x (l ∷ ls) [] count e f = f
  length-leaves zero x (l ∷ ls) (r ∷ rs) count e f = absurd (omega (arith, e))
  length-leaves (suc n) x (l ∷ ls) (r ∷ rs) count e f =
      ap suc (length-leaves n (suc x) ls rs (count + length (added_by places r count)) (omega (arith, e)) (omega (arith, f)))

  -- the one of a number, where they are counted from x on
  pub record IsFrom (x : ℕ) (ls : List DesignLeaf) (rs : List NetRole) (nodes : List Node) (k : ℕ) (l : Leaf) : Type 0 where
    pub declared : DesignLeaf
    pub role : NetRole
    pub count : ℕ
    pub declared_at : slice_get ls k ≡ Some declared
    pub role_at : slice_get rs k ≡ Some role
    pub is : l ≡ flat_leaf_of places declared (nat_lt (x + k) ports) role count
    pub adds : StandAt nodes count (added_by places role count)

  leaf_from : (x : ℕ) (ls : List DesignLeaf) (rs : List NetRole) (nodes : List Node) (count k : ℕ) (l : Leaf)
      → StandAt nodes count (added_behind places ls rs count) → slice_get (flat_leaves_of places ports x ls rs count) k ≡ Some l → IsFrom x ls rs nodes k l
  leaf_from x [] rs nodes count k l at e = cc
  leaf_from x (d ∷ ls) [] nodes count k l at e = cc
  leaf_from x (d ∷ ls) (r ∷ rs) nodes count zero l at e =
      let here : l ≡ flat_leaf_of places d (nat_lt x ports) r count = cc in
      let first : x + 0 ≡ x = omega arith in
      let own = added_by places r count in
      record {
        declared = d;
        role = r;
        count = count;
        declared_at = refl;
        role_at = refl;
        is = rw first here;
        adds = stands_left nodes count own (added_behind places ls rs (count + length own)) at;
      }
  leaf_from x (d ∷ ls) (r ∷ rs) nodes count (suc k) l at e =
      let own = added_by places r count in
      let rest =
      leaf_from (suc x) ls rs nodes (count + length own) k l (stands_right nodes count own (added_behind places ls rs (count + length own)) at) e in
      let next : suc x + k ≡ x + suc k = omega arith in
      record {
        declared = rest.declared;
        role = rest.role;
        count = rest.count;
        declared_at = rest.declared_at;
        role_at = rest.role_at;
        is = rest.is ∙ ap (λ (y : ℕ). flat_leaf_of places rest.declared (nat_lt y ports) rest.role rest.count) next;
        adds = rest.adds;
      }

  -- the one of a number, with the nodes of the net
  pub record IsPlaced (ls : List DesignLeaf) (rs : List NetRole) (nodes : List Node) (k : ℕ) (l : Leaf) : Type 0 where
    pub declared : DesignLeaf
    pub role : NetRole
    pub count : ℕ
    pub declared_at : slice_get ls k ≡ Some declared
    pub role_at : slice_get rs k ≡ Some role
    pub is : l ≡ flat_leaf_of places declared (nat_lt k ports) role count
    pub adds : StandAt nodes count (added_by places role count)

  pub leaf_placed : (ls : List DesignLeaf) (rs : List NetRole) (count : ℕ) (nodes : List Node) → StandAt nodes count (added_behind places ls rs count)
      → (k : ℕ) (l : Leaf) → slice_get (flat_leaves_of places ports 0 ls rs count) k ≡ Some l → IsPlaced ls rs nodes k l
  leaf_placed ls rs count nodes at k l e =
      let own = leaf_from 0 ls rs nodes count k l at e in
      let all : 0 + k ≡ k = omega arith in
      record {
        declared = own.declared;
        role = own.role;
        count = own.count;
        declared_at = own.declared_at;
        role_at = own.role_at;
        is = own.is ∙ ap (λ (y : ℕ). flat_leaf_of places own.declared (nat_lt y ports) own.role own.count) all;
        adds = own.adds;
      }
