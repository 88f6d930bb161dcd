-- The marks of needed nodes: first of what the roles read, and then, from the last node back, of what marked nodes read.
use Rattle.std.proofs.Common.{◌≡◌, ℕ, zero, suc, ◌+◌, ◌<◌, ◌≤◌, List, [], ◌∷◌, length, Some, Bool, true, false, ap, sym, ◌∙◌, subst, arith, ◌⊎◌, inl, inr, replicate}
use Rattle.std.specs.Prelude.{slice_get}
use Rattle.std.proofs.lemmas.Bool.{cases_eq, cases_lt}
use Rattle.std.proofs.lemmas.List.{length-replicate}
use Rattle.std.proofs.lemmas.Option.{slice_get_within}
use Rattle.fir_base.proofs.Writes.{get-replicate, two_items}
use Rattle.fir_meaning.specs.LeafTypes.{LeafType}
use Rattle.fir_connect.specs.working.NetTerms.{NetTerm}
use Rattle.fir_net.specs.declared.node.Node.{Node}
use Rattle.fir_net.specs.declared.node.Node.TheVariants as node
use Rattle.fir_net.specs.declared.reads.Read.{Read}
use Rattle.fir_net.specs.declared.reads.Read.TheVariants as read
use Rattle.fir_net.specs.working.Dependence.{support_of}
use Rattle.fir_merge.specs.working.NodeTerms.{AreBelow, IsBelow, ReadBefore, chosen_term, node_term, read_term, read_terms, terms}
use Rattle.fir_merge.proofs.GrownTerms.{node_there}
use Rattle.fir_flat.specs.working.WholeTerms.{AreWhole, IsWhole}
use Rattle.fir_whens.specs.declared.net_role.NetRole.{NetRole}
use Rattle.fir_flatten.specs.working.KeptNodes.{AreMarked, AreNeeded, EachRead, HasForm, IsMarked, ReadWhole, StandsWhole, marked_all, role_reads}
use Rattle.fir_flatten.proofs.MarkedReads.{More, all_alone, all_below, each_is_marked, more_by_all, still_all_marked, still_each_marked}

-- so many marks, and none is set
pub record AreUnset (count : ℕ) (marks : List Bool) : Type 0 where
  pub long : length marks ≡ count
  pub none : (k : ℕ) → slice_get marks k ≡ Some true → ⊥

pub all_unset : (count : ℕ) → AreUnset count (replicate count false)
all_unset count = record {
  long = length-replicate count false;
  none = λ k h. by k h (cases_lt k count);
}
  where
    by : (k : ℕ) → slice_get (replicate count false) k ≡ Some true → (k < count) ⊎ (count ≤ k) → ⊥
    by k h (inl within) = let unset = get-replicate count k false within in cc
    by k h (inr past) = absurd (omega (arith, slice_get_within (replicate count false) k true h, length-replicate count false))

-- a node reads nodes before it
below_from : (count : ℕ) (ns : List Node) (k : ℕ) (n : Node) → ReadBefore count ns → slice_get ns k ≡ Some n → AreBelow (count + k) (support_of n)
below_from count [] k n before at = cc
below_from count (m ∷ ns) zero n before at =
    let same : m ≡ n = cc in
    let here : count + 0 ≡ count = omega arith in
    rw here (subst (λ (x : Node). AreBelow count (support_of x)) same before.0)
below_from count (m ∷ ns) (suc k) n before at =
    let here : suc count + k ≡ count + suc k = omega arith in
    subst (λ (i : ℕ). AreBelow i (support_of n)) here (below_from (suc count) ns k n before.1 at)

pub reads_below : (ns : List Node) (k : ℕ) (n : Node) → ReadBefore 0 ns → slice_get ns k ≡ Some n → AreBelow k (support_of n)
reads_below ns k n before at = let here : 0 + k ≡ k = omega arith in subst (λ (i : ℕ). AreBelow i (support_of n)) here (below_from 0 ns k n before at)

-- the parts of a whole term are whole
module _ (held : ℕ → LeafType) (count : ℕ) (known : List NetTerm) where
  abbrev Whole : Read → Type 0
  Whole r = IsWhole held count (read_term known r)

  whole_reads : (rs : List Read) → AreWhole held count (read_terms known rs) → EachRead Whole rs
  whole_reads [] w = tt
  whole_reads (r ∷ rs) w = (w.0, whole_reads rs w.1)

  whole_choice : (rs : List Read) (signed : Bool) (width : ℕ) → length rs ≡ 3 → IsWhole held count (chosen_term known rs signed width) → EachRead Whole rs
  whole_choice [] signed width three w = tt
  whole_choice (c ∷ []) signed width three w = absurd (omega arith)
  whole_choice (c ∷ a ∷ []) signed width three w = absurd (omega arith)
  whole_choice (c ∷ a ∷ b ∷ []) signed width three w = (w.0, (w.1, (w.2, tt)))
  whole_choice (c ∷ a ∷ b ∷ d ∷ rs) signed width three w = absurd (omega arith)

  pub whole_parts : (n : Node) → HasForm n → IsWhole held count (node_term known n) → EachRead Whole (support_of n)
  whole_parts (node.Literal v) form w = tt
  whole_parts (node.Operation o) form w = whole_reads o.reads w.0
  whole_parts (node.Mux m) form w = whole_choice m.reads m.signed m.width form w

-- so of nodes alone
nodes_whole : (held : ℕ → LeafType) (count : ℕ) (nodes : List Node) (rs : List Read) → EachRead (Whole held count (terms nodes)) rs
    → EachRead (StandsWhole held count nodes) rs
nodes_whole held count nodes [] w = tt
nodes_whole held count nodes (read.Leaf x ∷ rs) w = (tt, nodes_whole held count nodes rs w.1)
nodes_whole held count nodes (read.Node k ∷ rs) w = (w.0, nodes_whole held count nodes rs w.1)

all_of_below : (n : ℕ) (marks : List Bool) (rs : List Read) → AreBelow n rs → EachRead (λ r. IsBelow n r → IsMarked marks r) rs → AreMarked marks rs
all_of_below n marks [] below each = tt
all_of_below n marks (r ∷ rs) below each = (each.0 below.0, all_of_below n marks rs below.1 each.1)

below_more : (m n : ℕ) (rs : List Read) → m ≤ n → AreBelow m rs → AreBelow n rs
below_more m n [] le b = tt
below_more m n (read.Leaf x ∷ rs) le b = (tt, below_more m n rs le b.1)
below_more m n (read.Node k ∷ rs) le b = (omega (arith, b.0), below_more m n rs le b.1)

module _ (nodes : List Node) (roles : List NetRole) where
  -- what the first so many roles read is marked, and only what is whole where they are
  pub record RolesMarked (so_far : ℕ) (marks : List Bool) : Type 0 where
    pub long : length marks ≡ length nodes
    pub of_roles : (x : ℕ) (r : NetRole) → x < so_far → slice_get roles x ≡ Some r
        → EachRead (λ r. IsBelow (length nodes) r → IsMarked marks r) (role_reads r)
    pub whole : (held : ℕ → LeafType) (count : ℕ) → ReadWhole held count nodes roles → (k : ℕ) → slice_get marks k ≡ Some true
        → StandsWhole held count nodes (read.Node k)

  -- and what marked nodes from a number on read
  pub record NodesMarked (from : ℕ) (marks : List Bool) : Type 0 where
    pub roles_marked : RolesMarked (length roles) marks
    pub of_nodes : (k : ℕ) (n : Node) → from ≤ k → slice_get nodes k ≡ Some n → slice_get marks k ≡ Some true → AreMarked marks (support_of n)

  pub no_roles : (marks : List Bool) → AreUnset (length nodes) marks → RolesMarked 0 marks
  no_roles marks are = record {
    long = are.long;
    of_roles = λ x r lt at. absurd (omega arith);
    whole = λ held count reads k set. absurd (are.none k set);
  }

  pub one_role : (i : ℕ) (r : NetRole) (marks : List Bool) → slice_get roles i ≡ Some r → RolesMarked i marks
      → RolesMarked (i + 1) (marked_all (role_reads r) marks)
  one_role i r marks at so =
      let new = marked_all (role_reads r) marks in
      let more = more_by_all (role_reads r) marks in
      record {
        long = more.long ∙ so.long;
        of_roles = λ x s lt there. by x s lt there (cases_eq x i);
        whole = λ held count reads.
            all_alone (StandsWhole held count nodes) (role_reads r) marks (reads i r at) (so.whole held count reads);
      }
    where
      by : (x : ℕ) (s : NetRole) → x < i + 1 → slice_get roles x ≡ Some s → (x ≡ i) ⊎ (x ≡ i → ⊥)
          → EachRead (λ y. IsBelow (length nodes) y → IsMarked (marked_all (role_reads r) marks) y) (role_reads s)
      by x s lt there (inl e) =
          let same : r ≡ s = two_items roles i r s at (ap (slice_get roles) (sym e) ∙ there) in
          subst (λ (t : NetRole). EachRead (λ y. IsBelow (length nodes) y → IsMarked (marked_all (role_reads r) marks) y) (role_reads t)) same
          (each_is_marked (length nodes) (role_reads r) marks so.long)
      by x s lt there (inr n) =
          still_each_marked marks (marked_all (role_reads r) marks) (length nodes) (role_reads s) (more_by_all (role_reads r) marks)
          (so.of_roles x s (omega (arith, n)) there)

  pub no_nodes : (marks : List Bool) → RolesMarked (length roles) marks → NodesMarked (length nodes) marks
  no_nodes marks so = record { roles_marked = so; of_nodes = λ k n from at set. absurd (omega (arith, slice_get_within nodes k n at)) }

  pub unset_node : (k : ℕ) (marks : List Bool) → slice_get marks k ≡ Some false → NodesMarked (suc k) marks → NodesMarked k marks
  unset_node k marks unset so = record { roles_marked = so.roles_marked; of_nodes = λ j n from at set. by j n from at set (cases_eq j k) }
    where
      by : (j : ℕ) (n : Node) → k ≤ j → slice_get nodes j ≡ Some n → slice_get marks j ≡ Some true → (j ≡ k) ⊎ (j ≡ k → ⊥) → AreMarked marks (support_of n)
      by j n from at set (inl e) = let other : slice_get marks j ≡ Some false = ap (slice_get marks) e ∙ unset in cc
      by j n from at set (inr other) = so.of_nodes j n (omega (arith, other)) at set

  module _ (before : ReadBefore 0 nodes) (k : ℕ) (n : Node) (marks : List Bool) (at : slice_get nodes k ≡ Some n) (form : HasForm n)
      (set : slice_get marks k ≡ Some true) (so : NodesMarked (suc k) marks) where
    abbrev new : List Bool
    new = marked_all (support_of n) marks

    more : More marks new
    more = more_by_all (support_of n) marks

    -- what this node reads
    here : AreMarked new (support_of n)
    here =
        let within : k ≤ length nodes = omega (arith, slice_get_within nodes k n at) in
        all_of_below (length nodes) new (support_of n) (below_more k (length nodes) (support_of n) within (reads_below nodes k n before at))
        (each_is_marked (length nodes) (support_of n) marks so.roles_marked.long)

    parts : (held : ℕ → LeafType) (count : ℕ) → ReadWhole held count nodes roles → EachRead (StandsWhole held count nodes) (support_of n)
    parts held count reads =
        nodes_whole held count nodes (support_of n)
        (whole_parts held count (terms nodes) n form
        (subst (IsWhole held count) (node_there nodes k n before at) (so.roles_marked.whole held count reads k set)))

    from_here : (j : ℕ) (m : Node) → k ≤ j → slice_get nodes j ≡ Some m → slice_get new j ≡ Some true → (j ≡ k) ⊎ (j ≡ k → ⊥) → AreMarked new (support_of m)
    from_here j m from there set_there (inl e) =
        let same : n ≡ m = two_items nodes k n m at (ap (slice_get nodes) (sym e) ∙ there) in
        subst (λ (x : Node). AreMarked new (support_of x)) same here
    from_here j m from there set_there (inr other) =
        let before_it = sym (all_below k (support_of n) marks (reads_below nodes k n before at) j from) ∙ set_there in
        still_all_marked marks new (support_of m) more (so.of_nodes j m (omega (arith, other)) there before_it)

    pub set_node : NodesMarked k new
    set_node = record {
      roles_marked = record {
        long = more.long ∙ so.roles_marked.long;
        of_roles = λ x r lt there.
            still_each_marked marks new (length nodes) (role_reads r) more (so.roles_marked.of_roles x r lt there);
        whole = λ held count reads.
            all_alone (StandsWhole held count nodes) (support_of n) marks (parts held count reads) (so.roles_marked.whole held count reads);
      };
      of_nodes = λ j m from there set_there. from_here j m from there set_there (cases_eq j k);
    }

  pub all_needed : (marks : List Bool) → NodesMarked 0 marks → AreNeeded nodes roles marks
  all_needed marks so = record {
    count = so.roles_marked.long;
    of_roles = λ x r at. so.roles_marked.of_roles x r (slice_get_within roles x r at) at;
    of_nodes = λ k n at set. so.of_nodes k n (omega arith) at set;
    whole = so.roles_marked.whole;
  }
