-- What has to be 1 or 0 for a memory's port is one bit: a leaf, or a node over those before it, which stands for all of it (FIRRTL spec, "Memories").
use Rattle.std.proofs.Common.{◌≡◌, ℕ, ◌+◌, ◌<◌, ◌≤◌, List, [], ◌∷◌, ◌++◌, length, false, Option, Some, None, slice_get, unwrap_or, option_map, refl, sym, ap, ap₂, ◌∙◌, subst, append_assoc, append-nil}
use Rattle.std.proofs.lemmas.Option.{slice_get_within}
use Rattle.fir_base.proofs.Elements.{get_behind}
use Rattle.fir_bits.specs.Forms.{no_type}
use Rattle.fir_bits.specs.declared.operators.PrimOp.{PrimOp}
use Rattle.fir_bits.specs.declared.operators.PrimOp.TheVariants.{And, Not}
use Rattle.fir_bits.specs.declared.types.NumTy.{NumTy}
use Rattle.fir_bits.specs.working.Types.{typed}
use Rattle.fir_leaf_circuit.specs.declared.array.Writing.{Writing}
use Rattle.fir_leaf_circuit.specs.working.Seen.{high, mode_need, writing_needs}
use Rattle.fir_leaf_types.specs.working.TypedModules.{held_in}
use Rattle.fir_meaning.specs.LeafTypes.{number, number_type}
use Rattle.fir_meaning.specs.working.LeafCircuits.{LeafCircuit}
use Rattle.fir_meaning.specs.working.LeafModules.{Need}
use Rattle.fir_memory_types.specs.working.TypedMemories.{AreNeedsTyped, IsAddressTyped, IsNeedTyped}
use Rattle.fir_connect.specs.working.CircuitModules.{as_module}
use Rattle.fir_connect.specs.working.NetTerms.{NetTerm, leaf, no_terms, operation, term}
use Rattle.fir_net.specs.declared.leaf.Leaf.{Leaf}
use Rattle.fir_net.specs.declared.node.Node.{Node}
use Rattle.fir_net.specs.declared.reads.Read.{Read}
use Rattle.fir_net.specs.declared.reads.Read.TheVariants as read
use Rattle.fir_net.specs.working.IsNet.{CanRead, IsAddressed, IsNode, node_type, one_bit, read_type}
use Rattle.fir_merge.specs.working.NodeTerms.{AreBelow, ReadBefore}
use Rattle.fir_merge.proofs.GrownTerms.{node_there}
use Rattle.fir_flat.specs.working.FlatCircuits.{needs_term, stands_for}
use Rattle.fir_flatten.specs.working.ArrayPorts.{bit_node, both_node, condition_of, enable_of, nodes_of_reading, nodes_of_writing}
use Rattle.fir_flatten.specs.working.KeptNodes.{LeavesHold}
use Rattle.fir_flatten.proofs.BuiltNodes.{AreBuilt, built_push}
use Rattle.fir_flatten.proofs.ReadTypes.{IsRead, read_is}
use Rattle.fir_flatten.proofs.StandingNodes.{StandAt, stands_first, stands_second}

-- it can be read, and is one bit
pub record IsBit (leaves : List Leaf) (nodes : List Node) (r : Read) : Type 0 where
  pub can : CanRead leaves nodes r
  pub has_one_bit : read_type leaves nodes r ≡ one_bit

module _ (leaves : List Leaf) (nodes : List Node) where
  not_node : (a : Read) → IsBit leaves nodes a → IsNode leaves nodes (bit_node Not (a ∷ []))
  not_node a is = record { reads = (is.can, tt); has_type = ap (λ (t : NumTy). typed Not (t ∷ []) []) is.has_one_bit }

  and_node : (a b : Read) → IsBit leaves nodes a → IsBit leaves nodes b → IsNode leaves nodes (both_node a b)
  and_node a b is it = record {
    reads = (is.can, (it.can, tt));
    has_type = ap₂ (λ (t u : NumTy). typed And (t ∷ u ∷ []) []) is.has_one_bit it.has_one_bit;
  }

  bit_there : (k : ℕ) (op : PrimOp) (rs : List Read) → slice_get nodes k ≡ Some (bit_node op rs) → IsBit leaves nodes (read.Node k)
  bit_there k op rs at = record {
    can = slice_get_within nodes k (bit_node op rs) at;
    has_one_bit = ap (λ (o : Option Node). unwrap_or (option_map node_type o) no_type) at;
  }

  -- a leaf is so over all nodes
  leaf_bit : (more : List Node) (x : ℕ) → IsBit leaves nodes (read.Leaf x) → IsBit leaves more (read.Leaf x)
  leaf_bit more x is = record { can = is.can; has_one_bit = is.has_one_bit }

module _ (leaves : List Leaf) (old ns : List Node) (built : AreBuilt leaves old ns) where
  none_built : AreBuilt leaves old (ns ++ [])
  none_built = subst (AreBuilt leaves old) (sym (append-nil ns)) built

  -- a node of one bit, and one for it and a leaf
  two_built : (op : PrimOp) (rs : List Read) (x : ℕ) → AreBelow (length ns) rs → IsNode leaves ns (bit_node op rs) → IsBit leaves ns (read.Leaf x)
      → AreBuilt leaves old (ns ++ bit_node op rs ∷ both_node (read.Leaf x) (read.Node (length ns)) ∷ [])
  two_built op rs x below is bit =
      let first = bit_node op rs in
      let second = both_node (read.Leaf x) (read.Node (length ns)) in
      let more = ns ++ first ∷ [] in
      let at : slice_get more (length ns) ≡ Some first = get_behind ns [] first in
      let one : AreBuilt leaves old more = built_push leaves old ns first built below is in
      subst (AreBuilt leaves old) (append_assoc ns (first ∷ []) (second ∷ []))
      (built_push leaves old more second one (tt, (slice_get_within more (length ns) first at, tt))
      (and_node leaves more (read.Leaf x) (read.Node (length ns)) (leaf_bit leaves ns more x bit) (bit_there leaves more (length ns) op rs at)))

module _ (c : LeafCircuit) (leaves : List Leaf) (hold : LeavesHold leaves (held_in (as_module c)) (length c.leaves)) where
  -- a leaf that holds a number is read as one of its type
  pub number_leaf : (nodes : List Node) (x : ℕ) (t : NumTy) → x < length c.leaves → held_in (as_module c) x ≡ number t → IsRead leaves nodes (read.Leaf x) t
  number_leaf nodes x t inside is =
      let own = read_is leaves (held_in (as_module c)) (length c.leaves) hold [] tt tt (read.Leaf x) (leaf x) tt refl (inside, (t, is)) in
      record { can = own.can; has_type = own.has_type ∙ ap number_type is }

  need_bit : (nodes : List Node) (n : Need) → IsNeedTyped c.leaves n → IsBit leaves nodes (read.Leaf n.leaf)
  need_bit nodes n typed =
      let own = number_leaf nodes n.leaf one_bit typed.within typed.is in
      record { can = own.can; has_one_bit = own.has_type }

  pub addressed : (nodes : List Node) (x : ℕ) (r : Read) → IsAddressTyped c.leaves x → IsBit leaves nodes r → IsAddressed leaves nodes (read.Leaf x) r
  addressed nodes x r typed bit =
      let own = number_leaf nodes x (record { signed = false; width = typed.width }) typed.within typed.is in
      record {
        address = own.can;
        unsigned = ap (λ (t : NumTy). t.signed) own.has_type;
        has_bits = subst (λ (t : NumTy). 1 ≤ t.width) (sym own.has_type) typed.has_bits;
        enable = bit.can;
        has_one_bit = bit.has_one_bit;
      }

  -- the nodes of what enables a port
  module _ (old ns : List Node) (built : AreBuilt leaves old ns) where
    pub reading_built : (enable : ℕ) (mode : Option ℕ) → AreNeedsTyped c.leaves (high enable ∷ mode_need false mode)
        → AreBuilt leaves old (ns ++ nodes_of_reading enable mode (length ns))
    reading_built enable None typed = none_built leaves old ns built
    reading_built enable (Some mode) typed =
        two_built leaves old ns built Not (read.Leaf mode ∷ []) enable (tt, tt)
        (not_node leaves ns (read.Leaf mode) (need_bit ns (record { leaf = mode; high = false }) typed.1.0)) (need_bit ns (high enable) typed.0)

    pub writing_built : (w : Writing) → AreNeedsTyped c.leaves (writing_needs w) → AreBuilt leaves old (ns ++ nodes_of_writing w.enable w.mode w.mask (length ns))
    writing_built w typed = by w.mode typed
      where
        by : (mode : Option ℕ) → AreNeedsTyped c.leaves (writing_needs (record w { mode = mode }))
            → AreBuilt leaves old (ns ++ nodes_of_writing w.enable mode w.mask (length ns))
        by None typed =
            built_push leaves old ns (both_node (read.Leaf w.enable) (read.Leaf w.mask)) built (tt, (tt, tt))
            (and_node leaves ns (read.Leaf w.enable) (read.Leaf w.mask) (need_bit ns (high w.enable) typed.0) (need_bit ns (high w.mask) typed.1.0))
        by (Some mode) typed =
            two_built leaves old ns built And (read.Leaf mode ∷ read.Leaf w.mask ∷ []) w.enable (tt, (tt, tt))
            (and_node leaves ns (read.Leaf mode) (read.Leaf w.mask) (need_bit ns (high mode) typed.1.0) (need_bit ns (high w.mask) typed.1.1.0))
            (need_bit ns (high w.enable) typed.0)

  -- and what is read of them
  module _ (nodes : List Node) (before : ReadBefore 0 nodes) (count : ℕ) where
    pub reading_term : (enable : ℕ) (mode : Option ℕ) → StandAt nodes count (nodes_of_reading enable mode count)
        → stands_for nodes (enable_of enable mode count) ≡ needs_term (high enable ∷ mode_need false mode)
    reading_term enable None at = refl
    reading_term enable (Some mode) at =
        let first = bit_node Not (read.Leaf mode ∷ []) in
        let second = both_node (read.Leaf enable) (read.Node count) in
        node_there nodes (count + 1) second before (stands_second nodes count first second [] at)
        ∙ ap (λ (t : NetTerm). operation And (term (leaf enable) (term t no_terms)) [] one_bit)
        (node_there nodes count first before (stands_first nodes count first (second ∷ []) at))

    pub reading_bit : (enable : ℕ) (mode : Option ℕ) → AreNeedsTyped c.leaves (high enable ∷ mode_need false mode)
        → StandAt nodes count (nodes_of_reading enable mode count) → IsBit leaves nodes (enable_of enable mode count)
    reading_bit enable None typed at = need_bit nodes (high enable) typed.0
    reading_bit enable (Some mode) typed at =
        let first = bit_node Not (read.Leaf mode ∷ []) in
        let second = both_node (read.Leaf enable) (read.Node count) in
        bit_there leaves nodes (count + 1) And (read.Leaf enable ∷ read.Node count ∷ []) (stands_second nodes count first second [] at)

    pub writing_term : (w : Writing) → StandAt nodes count (nodes_of_writing w.enable w.mode w.mask count)
        → stands_for nodes (condition_of w.mode count) ≡ needs_term (writing_needs w)
    writing_term w at = by w.mode at
      where
        by : (mode : Option ℕ) → StandAt nodes count (nodes_of_writing w.enable mode w.mask count)
            → stands_for nodes (condition_of mode count) ≡ needs_term (writing_needs (record w { mode = mode }))
        by None at =
            let only = both_node (read.Leaf w.enable) (read.Leaf w.mask) in
            node_there nodes count only before (stands_first nodes count only [] at)
        by (Some mode) at =
            let first = both_node (read.Leaf mode) (read.Leaf w.mask) in
            let second = both_node (read.Leaf w.enable) (read.Node count) in
            node_there nodes (count + 1) second before (stands_second nodes count first second [] at)
            ∙ ap (λ (t : NetTerm). operation And (term (leaf w.enable) (term t no_terms)) [] one_bit)
            (node_there nodes count first before (stands_first nodes count first (second ∷ []) at))

    pub writing_bit : (w : Writing) → StandAt nodes count (nodes_of_writing w.enable w.mode w.mask count) → IsBit leaves nodes (condition_of w.mode count)
    writing_bit w at = by w.mode at
      where
        by : (mode : Option ℕ) → StandAt nodes count (nodes_of_writing w.enable mode w.mask count) → IsBit leaves nodes (condition_of mode count)
        by None at =
            bit_there leaves nodes count And (read.Leaf w.enable ∷ read.Leaf w.mask ∷ [])
            (stands_first nodes count (both_node (read.Leaf w.enable) (read.Leaf w.mask)) [] at)
        by (Some mode) at =
            bit_there leaves nodes (count + 1) And (read.Leaf w.enable ∷ read.Node count ∷ [])
            (stands_second nodes count (both_node (read.Leaf mode) (read.Leaf w.mask)) (both_node (read.Leaf w.enable) (read.Node count)) [] at)
