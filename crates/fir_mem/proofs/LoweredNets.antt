-- The net that the pass gives, and that it lowers the net.
use Rattle.std.proofs.Common.{◌≡◌, ℕ, zero, suc, ◌<◌, List, [], ◌∷◌, ◌++◌, length, true, false, refl, sym, ap, ◌∙◌, subst, arith}
use Rattle.std.specs.Prelude.{slice_get, Some}
use Rattle.std.proofs.lemmas.Bool.{or_parts}
use Rattle.fir_base.proofs.Elements.{all_there}
use Rattle.fir_net.specs.declared.array.Pipe.{Pipe}
use Rattle.fir_net.specs.declared.leaf.Leaf.{Leaf}
use Rattle.fir_net.specs.declared.leaf.Role.TheVariants as role
use Rattle.fir_net.specs.declared.net.FlatNet.{FlatNet}
use Rattle.fir_net.specs.declared.node.Node.{Node}
use Rattle.fir_net.specs.declared.reads.Read.{Read}
use Rattle.fir_net.specs.working.IsNet.{IsLeaf, IsNet}
use Rattle.fir_net.specs.working.IsOrder.{IsOrder}
use Rattle.fir_net.specs.working.IsWritable.{IsWritable}
use Rattle.fir_net.specs.working.Laws.{NodesHaveTheirTypes, NodesHaveTheirValues}
use Rattle.fir_clock_root.specs.working.ClockRoots.{RootIsClock}
use Rattle.fir_mem.specs.declared.clocked_writes.PortWrites.{PortWrites}
use Rattle.fir_mem.specs.working.Built.{Built, NarrowLeaves, lower_first, register_of}
use Rattle.fir_mem.specs.working.ClockedWrites.{AreClockedArrays}
use Rattle.fir_mem.specs.working.HasPipes.{has_pipes, is_pipe}
use Rattle.fir_mem.specs.working.Lowers.{Lowers}
use Rattle.fir_mem.proofs.Building.{Building, net_of}
use Rattle.fir_mem.proofs.Lists.{same_rows}
use Rattle.fir_mem.proofs.Lowered.{Done, leads_along, names, no_pipe, whole_lowered, writable_lowered}
use Rattle.fir_mem.proofs.Made.{made, start, start_building}
use Rattle.fir_mem.proofs.Meaning.{allows, has_clock, replaced, shapes, still, words_same}

module _ (nodes_values : NodesHaveTheirValues) (net : FlatNet) (order : List Read) (whole : IsNet net) (writable : IsWritable net) (ordered : IsOrder net order) (nodes_types : NodesHaveTheirTypes) (root_law : RootIsClock) where
  lowers : (b : Built) → Building net order b → Done net b → Lowers net (net_of net b)
  lowers b B done = record {
    whole = whole_lowered net order whole b B done;
    names = names net order whole b B done;
    writable = writable_lowered net order whole b B done writable ordered;
    no_pipes = record { none = no_pipe net order whole b B done };
    name = refl;
    state = refl;
    rows = same_rows net b.leaves b.nodes net.leaves b.leaves (leads_along net order whole b B done);
    words = words_same net order whole b B done;
    arrays = refl;
    shapes = shapes net order whole b B done;
    allows = allows net order whole b B done nodes_values nodes_types root_law ordered writable;
    registers = λ k r h. record {
      leaf = h.leaf;
      at = still net order whole b B done k h.leaf h.at (λ p was. let clash : role.Register r ≡ role.Pipe p = sym h.is ∙ was in cc);
      is = h.is;
    };
    pipes = λ k p h.
        let x = replaced net order whole b B done k h.leaf p h.at h.is in
        (x.next, record { leaf = register_of h.leaf p x.next; at = x.at; is = refl });
    clocks = λ k l at. has_clock net order whole b B done k;
  }

  -- what is built from all leaves
  pub built_lowers : (writes : List PortWrites) → AreClockedArrays net net.arrays writes → (b : Built) → b ≡ lower_first writes (start net) (length net.leaves) → Lowers net (net_of net b)
  built_lowers writes clocked b is =
      let m = made nodes_types net order whole writes clocked ordered (length net.leaves) (omega arith) in
      subst (λ (c : Built). Lowers net (net_of net c)) (sym is) (lowers (lower_first writes (start net) (length net.leaves)) m.building (record { none = m.none }))

  pub built_ordered : (writes : List PortWrites) → AreClockedArrays net net.arrays writes → (b : Built) → b ≡ lower_first writes (start net) (length net.leaves) → IsOrder (net_of net b) (order ++ b.entries)
  built_ordered writes clocked b is =
      let m = made nodes_types net order whole writes clocked ordered (length net.leaves) (omega arith) in
      subst (λ (c : Built). IsOrder (net_of net c) (order ++ c.entries)) (sym is) m.building.ordered

  pipe_false : (leaves : List Leaf) → has_pipes leaves ≡ false → (k : ℕ) (m : Leaf) → slice_get leaves k ≡ Some m → is_pipe m.role ≡ false
  pipe_false [] h k m e = cc
  pipe_false (l ∷ leaves) h zero m e = let same : l ≡ m = cc in ap (λ (x : Leaf). is_pipe x.role) (sym same) ∙ (or_parts (is_pipe l.role) (has_pipes leaves) h).0
  pipe_false (l ∷ leaves) h (suc k) m e = pipe_false leaves (or_parts (is_pipe l.role) (has_pipes leaves) h).1 k m e

  -- a net without pipes
  pub itself_lowers : has_pipes net.leaves ≡ false → Lowers net net
  itself_lowers h = lowers (start net) (start_building nodes_types net order whole ordered) (record { none = none })
    where
      none : (k : ℕ) (m : Leaf) (p : Pipe) → k < length net.leaves → slice_get net.leaves k ≡ Some m → m.role ≡ role.Pipe p → ⊥
      none k m p low e is = let clash : true ≡ false = sym (ap is_pipe is) ∙ pipe_false net.leaves h k m e in cc

narrow_leaves : (net : FlatNet) → IsNet net → NarrowLeaves net.leaves
narrow_leaves net whole = record { each = λ k l at. (all_there (IsLeaf net.leaves net.nodes) net.leaves whole.leaves k l at).narrow }

-- ---- the code's net, by its parts
pub begun : (net : FlatNet) (b : Built) (leaves : List Leaf) (nodes : List Node) → b ≡ record { leaves = leaves; nodes = nodes; entries = [] } → leaves ≡ net.leaves → nodes ≡ net.nodes → b ≡ start net
begun net b leaves nodes is e f =
    is ∙ ap (λ (ls : List Leaf). record { leaves = ls; nodes = nodes; entries = [] }) e ∙ ap (λ (ns : List Node). record { leaves = net.leaves; nodes = ns; entries = [] }) f

pub built_is : (net : FlatNet) (b first : Built) (writes items : List PortWrites) → first ≡ start net → items ≡ writes → b ≡ lower_first items first (length first.leaves)
    → b ≡ lower_first writes (start net) (length net.leaves)
built_is net b first writes items e f is =
    is ∙ ap (λ (ws : List PortWrites). lower_first ws first (length first.leaves)) f ∙ ap (λ (c : Built). lower_first writes c (length c.leaves)) e

pub narrow_begun : (net : FlatNet) (b : Built) → IsNet net → b ≡ start net → NarrowLeaves b.leaves
narrow_begun net b whole is = subst (λ (c : Built). NarrowLeaves c.leaves) (sym is) (narrow_leaves net whole)

abbrev net_with : FlatNet → List Leaf → List Node → FlatNet
net_with net leaves nodes = record { name = net.name; leaves = leaves; nodes = nodes; state = net.state; arrays = net.arrays; array_order = net.array_order }

pub given_lowers : (net : FlatNet) (b : Built) (leaves : List Leaf) (nodes : List Node) → leaves ≡ b.leaves → nodes ≡ b.nodes → Lowers net (net_of net b)
    → Lowers net (record { name = net.name; leaves = leaves; nodes = nodes; state = net.state; arrays = net.arrays; array_order = net.array_order })
given_lowers net b leaves nodes e f h =
    subst (λ (ls : List Leaf). Lowers net (net_with net ls nodes)) (sym e) (subst (λ (ns : List Node). Lowers net (net_with net b.leaves ns)) (sym f) h)

pub given_ordered : (net : FlatNet) (b : Built) (leaves : List Leaf) (nodes : List Node) (order all entries : List Read) → leaves ≡ b.leaves → nodes ≡ b.nodes → all ≡ order ++ entries → entries ≡ b.entries
    → IsOrder (net_of net b) (order ++ b.entries)
    → IsOrder (record { name = net.name; leaves = leaves; nodes = nodes; state = net.state; arrays = net.arrays; array_order = net.array_order }) all
given_ordered net b leaves nodes order all entries e f g i h =
    subst (IsOrder (net_with net leaves nodes)) (sym (g ∙ ap (λ (es : List Read). order ++ es) i))
    (subst (λ (ls : List Leaf). IsOrder (net_with net ls nodes) (order ++ b.entries)) (sym e)
    (subst (λ (ns : List Node). IsOrder (net_with net b.leaves ns) (order ++ b.entries)) (sym f) h))
