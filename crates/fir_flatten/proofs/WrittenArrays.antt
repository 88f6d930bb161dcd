-- The arrays of a flat net, put there one by one: each has the type and the words of its circuit's, and what is written into it is what the ports of its memory
-- write (FIRRTL spec, "Memories").
use Rattle.std.proofs.Common.{◌≡◌, ℕ, suc, ◌+◌, ◌<◌, ◌≤◌, List, [], ◌∷◌, ◌++◌, length, map, Some, slice_get, refl, sym, ap, ◌∙◌, subst, append_assoc, append-nil, length-append}
use Rattle.std.specs.List.{AllByRecursion}
use Rattle.fir_bits.specs.declared.types.NumTy.{NumTy}
use Rattle.fir_leaf_circuit.specs.declared.array.Writing.{Writing}
use Rattle.fir_leaf_circuit.specs.declared.leaf.LeafType.{LeafType as TypeOfCode}
use Rattle.fir_leaf_circuit.specs.declared.leaf.LeafType.TheVariants.{Clock, Number}
use Rattle.fir_leaf_circuit.specs.working.Seen.{type_seen, writing_seen}
use Rattle.fir_leaf_types.specs.working.TypedModules.{held_in}
use Rattle.fir_meaning.specs.LeafTypes.{LeafType, a_clock, number, number_type}
use Rattle.fir_meaning.specs.working.LeafCircuits.{LeafCircuit}
use Rattle.fir_meaning.specs.working.LeafModules.{LeafArray}
use Rattle.fir_memory_types.specs.working.TypedMemories.{IsArrayTyped, IsWritingTyped}
use Rattle.fir_connect.specs.working.CircuitModules.{as_module}
use Rattle.fir_net.specs.declared.array.Array.{Array}
use Rattle.fir_net.specs.declared.array.ArrayWrite.{ArrayWrite}
use Rattle.fir_net.specs.declared.leaf.Leaf.{Leaf}
use Rattle.fir_net.specs.declared.node.Node.{Node}
use Rattle.fir_net.specs.working.IsNet.{IsArray, IsArrayWrite, IsClock}
use Rattle.fir_merge.specs.working.NodeTerms.{ReadBefore}
use Rattle.fir_flat.specs.working.FlatCircuits.{AreWritesOf, HasWordsOf, IsArrayOf}
use Rattle.fir_flatten.specs.declared.design_arrays.DesignArray.{DesignArray}
use Rattle.fir_flatten.specs.working.ArrayPorts.{array_write, condition_of, writing_nodes}
use Rattle.fir_flatten.specs.working.DesignNets.{IsDesignArray}
use Rattle.fir_flatten.specs.working.FlatArrays.{flat_array_of, flat_arrays_of, nodes_behind, nodes_of_array, nodes_of_writings, writes_of}
use Rattle.fir_flatten.specs.working.FlatRoles.{width_of}
use Rattle.fir_flatten.specs.working.KeptNodes.{LeavesHold}
use Rattle.fir_flatten.proofs.AddedInTurn.{added, made}
use Rattle.fir_flatten.proofs.BuiltNodes.{AreBuilt}
use Rattle.fir_flatten.proofs.PortBits.{addressed, number_leaf, writing_bit, writing_built, writing_term}
use Rattle.fir_flatten.proofs.StandingNodes.{StandAt, stands_left, stands_right}

-- they are made in turn
pub writes_made : (ws : List Writing) (count : ℕ) → made Writing ArrayWrite array_write writing_nodes ws count ≡ writes_of ws count
writes_made [] count = refl
writes_made (w ∷ ws) count = ap (λ (rest : List ArrayWrite). array_write w count ∷ rest) (writes_made ws (count + length (writing_nodes w count)))

pub writes_add : (ws : List Writing) (count : ℕ) → added Writing ArrayWrite array_write writing_nodes ws count ≡ nodes_of_writings ws count
writes_add [] count = refl
writes_add (w ∷ ws) count = ap (λ (rest : List Node). writing_nodes w count ++ rest) (writes_add ws (count + length (writing_nodes w count)))

pub arrays_made : (ds : List DesignArray) (count : ℕ) → made DesignArray Array flat_array_of nodes_of_array ds count ≡ flat_arrays_of ds count
arrays_made [] count = refl
arrays_made (d ∷ ds) count = ap (λ (rest : List Array). flat_array_of d count ∷ rest) (arrays_made ds (count + length (nodes_of_array d count)))

pub arrays_add : (ds : List DesignArray) (count : ℕ) → added DesignArray Array flat_array_of nodes_of_array ds count ≡ nodes_behind ds count
arrays_add [] count = refl
arrays_add (d ∷ ds) count = ap (λ (rest : List Node). nodes_of_array d count ++ rest) (arrays_add ds (count + length (nodes_of_array d count)))

-- what an array has, where its words are of a type
width_seen : (h : TypeOfCode) (t : NumTy) → type_seen h ≡ number t → width_of h ≡ t
width_seen (Number u) t e = ap number_type e
width_seen Clock t e = cc

has_words : (a : Array) (h : TypeOfCode) (m : LeafType) (t : NumTy) → a.signed ≡ (width_of h).signed → a.width ≡ (width_of h).width → type_seen h ≡ m
    → m ≡ number t → HasWordsOf a m
has_words a (Number u) m t signed width seen is = subst (HasWordsOf a) seen (signed, width)
has_words a Clock m t signed width seen is = let none : a_clock ≡ number t = seen ∙ is in cc

-- the writings of an array of the design
writings_typed : (c : LeafCircuit) (d : DesignArray) (m : LeafArray) → IsDesignArray d m → IsArrayTyped c.leaves m
    → AllByRecursion (IsWritingTyped c.leaves (number (width_of d.holds))) (map writing_seen d.writings)
writings_typed c d m so typed =
    let width = width_seen d.holds typed.data_type (so.held ∙ typed.is) in
    subst (λ (h : LeafType). AllByRecursion (IsWritingTyped c.leaves h) (map writing_seen d.writings)) (typed.is ∙ ap number (sym width))
    (subst (AllByRecursion (IsWritingTyped c.leaves m.holds)) (sym so.writings) typed.writings)

module _ (c : LeafCircuit) (leaves : List Leaf) (hold : LeavesHold leaves (held_in (as_module c)) (length c.leaves)) where
  -- what their nodes read stands before them
  module _ (old : List Node) where
    writings_built : (h : LeafType) (ws : List Writing) → AllByRecursion (IsWritingTyped c.leaves h) (map writing_seen ws) → (ns : List Node)
        → AreBuilt leaves old ns → AreBuilt leaves old (ns ++ nodes_of_writings ws (length ns))
    writings_built h [] typed ns built = subst (AreBuilt leaves old) (sym (append-nil ns)) built
    writings_built h (w ∷ ws) typed ns built =
        let own = writing_nodes w (length ns) in
        let long : length (ns ++ own) ≡ length ns + length own = length-append ns own in
        subst (AreBuilt leaves old)
        (ap (λ (n : ℕ). (ns ++ own) ++ nodes_of_writings ws n) long ∙ append_assoc ns own (nodes_of_writings ws (length ns + length own)))
        (writings_built h ws typed.1 (ns ++ own) (writing_built c leaves hold old ns built w typed.0.needs))

    pub arrays_built : (ds : List DesignArray)
        → ((k : ℕ) (d : DesignArray) → slice_get ds k ≡ Some d → (m : LeafArray) × IsDesignArray d m × IsArrayTyped c.leaves m) → (ns : List Node)
        → AreBuilt leaves old ns → AreBuilt leaves old (ns ++ nodes_behind ds (length ns))
    arrays_built [] each ns built = subst (AreBuilt leaves old) (sym (append-nil ns)) built
    arrays_built (d ∷ ds) each ns built =
        let one = each 0 d refl in
        let own = nodes_of_array d (length ns) in
        let long : length (ns ++ own) ≡ length ns + length own = length-append ns own in
        subst (AreBuilt leaves old) (ap (λ (n : ℕ). (ns ++ own) ++ nodes_behind ds n) long ∙ append_assoc ns own (nodes_behind ds (length ns + length own)))
        (arrays_built ds (λ k a at. each (suc k) a at) (ns ++ own)
        (writings_built (number (width_of d.holds)) d.writings (writings_typed c d one.0 one.1 one.2) ns built))

  module _ (nodes : List Node) (before : ReadBefore 0 nodes) where
    writes_stand : (ws : List Writing) (count : ℕ) → StandAt nodes count (nodes_of_writings ws count)
        → AreWritesOf nodes (writes_of ws count) (map writing_seen ws)
    writes_stand [] count at = tt
    writes_stand (w ∷ ws) count at =
        let own = writing_nodes w count in
        let rest = nodes_of_writings ws (count + length own) in (
          record {
            clock = refl;
            condition = writing_term c leaves hold nodes before count w (stands_left nodes count own rest at);
            address = refl;
            given = refl;
          },
          writes_stand ws (count + length own) (stands_right nodes count own rest at),
        )

    pub array_stands : (d : DesignArray) (m : LeafArray) (count : ℕ) → IsDesignArray d m → IsArrayTyped c.leaves m
        → StandAt nodes count (nodes_of_array d count) → IsArrayOf nodes (flat_array_of d count) m
    array_stands d m count so typed at = record {
      holds = has_words (flat_array_of d count) d.holds m.holds typed.data_type refl refl so.held typed.is;
      words = so.words;
      writes = subst (AreWritesOf nodes (writes_of d.writings count)) so.writings (writes_stand d.writings count at);
    }

    module _ (clocks : (y : ℕ) → y < length c.leaves → held_in (as_module c) y ≡ a_clock → IsClock leaves y) where
      writes_can : (u : NumTy) (ws : List Writing) (count : ℕ) → AllByRecursion (IsWritingTyped c.leaves (number u)) (map writing_seen ws)
          → StandAt nodes count (nodes_of_writings ws count) → AllByRecursion (IsArrayWrite leaves nodes u.signed u.width) (writes_of ws count)
      writes_can u [] count typed at = tt
      writes_can u (w ∷ ws) count typed at =
          let own = writing_nodes w count in
          let rest = nodes_of_writings ws (count + length own) in
          let one = typed.0 in
          let given = number_leaf c leaves hold nodes w.given u one.given_within one.given in (
            record {
              clock = clocks w.clock one.clock.within one.clock.is;
              addressed =
                  addressed c leaves hold nodes w.address (condition_of w.mode count) one.address
                  (writing_bit c leaves hold nodes before count w (stands_left nodes count own rest at));
              given = given.can;
              has_type = given.has_type;
            },
            writes_can u ws (count + length own) typed.1 (stands_right nodes count own rest at),
          )

      pub array_can : (d : DesignArray) (m : LeafArray) (count : ℕ) → IsDesignArray d m → IsArrayTyped c.leaves m
          → StandAt nodes count (nodes_of_array d count) → IsArray leaves nodes (flat_array_of d count)
      array_can d m count so typed at = record {
        narrow = subst (λ (t : NumTy). t.width ≤ 128) (sym (width_seen d.holds typed.data_type (so.held ∙ typed.is))) typed.narrow;
        has_words = subst (λ (n : ℕ). 1 ≤ n) (sym so.words) typed.words;
        writes = writes_can (width_of d.holds) d.writings count (writings_typed c d m so typed) at;
      }
