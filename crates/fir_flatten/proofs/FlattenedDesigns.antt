-- A plain design is flattened: each leaf and each array of the net is that of its circuit, the state is the circuit's, and the net is whole.
use Rattle.std.proofs.Common.{◌≡◌, ℕ, ◌<◌, ◌≤◌, List, [], ◌++◌, length, Bool, true, false, ◌&&◌, slice_get, Some, sym, ap, ◌∙◌, subst, arith, refl, append-nil}
use Rattle.std.specs.List.{sum_by}
use Rattle.std.specs.Prelude.{nat_lt}
use Rattle.std.proofs.lemmas.Bool.{le-ltb, lt-ltb, ltb-true}
use Rattle.std.proofs.lemmas.Option.{get_or_from_slice_get, slice_get_within}
use Rattle.fir_base.proofs.Each.{all_from}
use Rattle.fir_base.proofs.Elements.{number_of, there}
use Rattle.fir_base.proofs.Tests.{both}
use Rattle.fir_bits.specs.declared.types.NumTy.{NumTy}
use Rattle.fir_leaf_circuit.specs.declared.leaf.LeafType.{LeafType as TypeOfCode}
use Rattle.fir_leaf_circuit.specs.declared.leaf.LeafType.TheVariants.{Clock, Number}
use Rattle.fir_leaf_circuit.specs.working.Seen.{type_seen}
use Rattle.fir_leaf_types.specs.working.TypedModules.{IsRoleTyped, held_in}
use Rattle.fir_leaf_types.specs.working.TypedTerms.{IsNarrow}
use Rattle.fir_meaning.specs.LeafTypes.{LeafType, a_clock, has_bits}
use Rattle.fir_meaning.specs.working.LeafCircuits.{LeafCircuit, role_of}
use Rattle.fir_leaf.specs.working.DesignStates.{array_at, no_array}
use Rattle.fir_memory_types.specs.working.TypedMemories.{IsArrayTyped, IsMemoryRoleTyped}
use Rattle.fir_meaning.specs.working.LeafModules.{LeafArray, LeafModule, Role as LeafRole, computed, depth_at, register, role_at}
use Rattle.fir_meaning.specs.working.StateWalks.{is_state}
use Rattle.fir_meaning.specs.working.UndrivenChoices.{drives_any}
use Rattle.fir_connect.specs.working.CircuitModules.{as_module}
use Rattle.fir_connect.specs.working.NetRoles.{net_role, net_role_at, net_types}
use Rattle.fir_connect.specs.working.NetTerms.{leaf}
use Rattle.fir_drivers.proofs.QuietStatements.{quiet_all}
use Rattle.fir_net.specs.declared.array.Array.{Array}
use Rattle.fir_net.specs.declared.leaf.Leaf.{Leaf}
use Rattle.fir_net.specs.declared.net.FlatNet.{FlatNet}
use Rattle.fir_net.specs.declared.node.Node.{Node}
use Rattle.fir_net.specs.working.Arrays.{words_of}
use Rattle.fir_net.specs.working.IsNet.{AreNodes, IsArray, IsArrayOrder, IsClock, IsLeaf, IsRole, IsState, is_port, is_word}
use Rattle.fir_net.specs.working.Settled.{is_clock}
use Rattle.fir_merge.specs.working.NodeTerms.{Grows}
use Rattle.fir_flat.specs.working.FlatCircuits.{HasWordsOf, IsArrayOf, IsRoleOf}
use Rattle.fir_flat.specs.working.WholeRoles.{RolesAreWhole}
use Rattle.fir_whens.specs.declared.net_role.NetRole.{NetRole}
use Rattle.fir_source_faults.specs.working.NumberedTaking.{takes_by}
use Rattle.fir_flatten.specs.declared.design_arrays.DesignArray.{DesignArray}
use Rattle.fir_flatten.specs.declared.design_net.DesignLeaf.{DesignLeaf}
use Rattle.fir_flatten.specs.declared.design_net.DesignNet.{DesignNet}
use Rattle.fir_flatten.specs.declared.kept_nodes.KeptNodes.{KeptNodes}
use Rattle.fir_flatten.specs.working.DesignNets.{IsDesignArray, IsLeafOf, IsNetOfDesign, is_register}
use Rattle.fir_flatten.specs.working.FlatArrays.{flat_array_of, flat_arrays_of, nodes_behind, nodes_of_array}
use Rattle.fir_flatten.specs.working.FlatDesigns.{HasWidth, IsClear, IsFlatArray, IsFlatDesign, IsFlatLeaf, IsPlainDesign, IsPortRole, IsWord, takes_value}
use Rattle.fir_flatten.specs.working.FlatRoles.{added_behind, flat_leaves_of, flat_role_of, width_of}
use Rattle.fir_flatten.specs.working.KeptNodes.{IsHeld, Keeps, LeavesHold, ReadWhole}
use Rattle.fir_flatten.proofs.AddedInTurn.{length-made, one_placed}
use Rattle.fir_flatten.proofs.AddedInTurn as in_turn
use Rattle.fir_flatten.proofs.BuiltNodes.{AreBuilt, built_first}
use Rattle.fir_flatten.proofs.ChoiceNodes.{all_built, nodes_built}
use Rattle.fir_flatten.proofs.GivenRoles.{IsGiven, IsWholeWhere, role_given}
use Rattle.fir_flatten.proofs.MovedRoles.{StandsIn, StandsMoved, reads_whole, role_moved}
use Rattle.fir_flatten.proofs.PlacedLeaves.{IsPlaced, leaf_placed, length-leaves}
use Rattle.fir_flatten.proofs.PortsFirst.{ports_first}
use Rattle.fir_flatten.proofs.PortsOfLeaves.{clock_ticks, has_width, inner_port, is_held, is_narrow, outer_port, taken_is, word_is}
use Rattle.fir_flatten.proofs.ReadArrays.{reads_array, reads_words}
use Rattle.fir_flatten.proofs.RolesOfLeaves.{KeepsOwn, StandsInside, role_can, role_stands}
use Rattle.fir_flatten.proofs.StandingNodes.{StandAt, stands_between}
use Rattle.fir_flatten.proofs.WrittenArrays.{array_can, array_stands, arrays_add, arrays_built, arrays_made}

-- whether something drives or resets a register, where a statement drives it alike
takes_alike : (q : LeafRole) (a b : Bool) → (is_register q ≡ true → a ≡ b) → takes_by a q ≡ takes_by b q
takes_alike (register clock reset) a b same = ap (λ (d : Bool). takes_by d (register clock reset)) (same refl)
takes_alike q a b same = refl

module _
    (law : RolesAreWhole) (c : LeafCircuit) (ports : ℕ) (plain : IsPlainDesign c ports) (design : DesignNet) (so : IsNetOfDesign c ports design) where
  abbrev m : LeafModule
  m = as_module c

  abbrev nodes : List Node
  nodes = design.nodes.items

  abbrev roles : List NetRole
  roles = design.roles.items

  abbrev declared : List DesignLeaf
  declared = design.leaves.items

  whole_where : (x : ℕ) (holds : TypeOfCode) → x < length c.leaves → type_seen holds ≡ held_in m x → IsWholeWhere m holds (net_role_at m x)
  whole_where x Clock inside held = tt
  whole_where x (Number u) inside held = law m x u plain.typed plain.within inside (sym held)

  given : (x : ℕ) (d : DesignLeaf) (r : NetRole) → slice_get declared x ≡ Some d → slice_get roles x ≡ Some r
      → IsGiven c (StandsIn c nodes) d.holds r (net_role_at m x)
  given x d r d_at r_at =
      let within = slice_get_within roles x r r_at in
      let inside : x < length c.leaves = omega (arith, within, so.roles_count) in
      let held = (so.leaves x d d_at).held in
      role_given c nodes so.before (depth_at m x) m.body x d.holds (role_at m x) r plain.memories
      (subst (λ (h : LeafType). IsMemoryRoleTyped c.leaves c.arrays h (role_at m x)) (sym held) (plain.memories.roles x inside))
      (subst (λ (h : LeafType). IsRoleTyped (held_in m) h (role_at m x)) (sym held) (plain.typed.roles x inside))
      (subst (λ (h : LeafType). IsClear c h (net_role_at m x)) (sym held) (plain.clear x inside)) (so.roles x r r_at) (whole_where x d.holds inside held)

  leaf_there : (x : ℕ) (r : NetRole) → slice_get roles x ≡ Some r → (d : DesignLeaf) × (slice_get declared x ≡ Some d)
  leaf_there x r at =
      let within = slice_get_within roles x r at in
      there declared x (omega (arith, within, so.roles_count, so.count))

  roles_read_whole : ReadWhole (held_in m) (length c.leaves) nodes roles
  roles_read_whole x r at = let d = leaf_there x r at in reads_whole c nodes d.0.holds r (net_role_at m x) (given x d.0 r d.1 at)

  narrow_at : (x : ℕ) (holds : TypeOfCode) → x < length c.leaves → type_seen holds ≡ held_in m x → IsNarrow (type_seen holds)
  narrow_at x holds inside held = subst IsNarrow (sym held) (plain.typed.narrow x inside)

  -- what no statement drives keeps what it shows
  own_at : (x : ℕ) (d : DesignLeaf) → IsLeafOf c x d → d.is_driven ≡ false → KeepsOwn x (net_role_at m x)
  own_at x d is none = by (role_at m x) is.driven
    where
      by : (q : LeafRole) → (is_register q ≡ true → d.is_driven ≡ drives_any x c.body) → KeepsOwn x (net_role (net_types m) (depth_at m x) m.body x q)
      by (register clock reset) same = quiet_all (net_types m) (depth_at m x) x m.body 0 (leaf x) (sym (same refl) ∙ none)
      by q same = tt

  -- what is computed is no port
  inside_at : (x : ℕ) → StandsInside (nat_lt x design.port_leaves) (net_role_at m x)
  inside_at x = by (role_at m x) (λ lt. plain.port x (omega (arith, lt, so.ports)))
    where
      by : (q : LeafRole) → (x < design.port_leaves → IsPortRole q) → StandsInside (nat_lt x design.port_leaves) (net_role (net_types m) (depth_at m x) m.body x q)
      by (computed t) port = let none : x < design.port_leaves → ⊥ = port in le-ltb x design.port_leaves (omega (arith, none))
      by q port = tt

  -- an array of the design beside that of the circuit
  array_given : (k : ℕ) (d : DesignArray) → slice_get design.arrays.items k ≡ Some d → (b : LeafArray) × IsDesignArray d b × IsArrayTyped c.leaves b
  array_given k d at =
      let within = slice_get_within design.arrays.items k d at in
      let found = there c.arrays k (omega (arith, within, so.array_count)) in
      (found.0, so.arrays k d found.0 at found.1, plain.memories.arrays_typed k found.0 found.1)

  module _
      (kept : KeptNodes) (keeps : Keeps nodes roles kept) (net : FlatNet) (middle : List Node)
      (leaves_are : net.leaves ≡ flat_leaves_of kept.places.items design.port_leaves 0 declared roles (length kept.nodes.items))
      (middle_is : middle ≡ kept.nodes.items ++ added_behind kept.places.items declared roles (length kept.nodes.items))
      (arrays_are : net.arrays ≡ flat_arrays_of design.arrays.items (length middle))
      (nodes_are : net.nodes ≡ middle ++ nodes_behind design.arrays.items (length middle)) (state_is : net.state ≡ c.words)
      (order_is : net.array_order ≡ c.array_order) (few : sum_by (words_of net.arrays) net.array_order ≤ 4194304) where
    abbrev places : List ℕ
    places = kept.places.items

    count : length net.leaves ≡ length c.leaves
    count =
        ap length leaves_are ∙ length-leaves places design.port_leaves (length c.leaves) 0 declared roles (length kept.nodes.items) so.count so.roles_count

    -- the nodes that leaves add stand behind the kept ones, and behind these what arrays add
    abbrev of_leaves : List Node
    of_leaves = added_behind places declared roles (length kept.nodes.items)

    abbrev of_arrays : List Node
    of_arrays = nodes_behind design.arrays.items (length middle)

    leaves_add : StandAt net.nodes (length kept.nodes.items) of_leaves
    leaves_add = stands_between kept.nodes.items of_leaves of_arrays net.nodes (nodes_are ∙ ap (λ (ns : List Node). ns ++ of_arrays) middle_is)

    arrays_add_there : StandAt net.nodes (length middle) of_arrays
    arrays_add_there = stands_between middle of_arrays [] net.nodes (nodes_are ∙ sym (append-nil (middle ++ of_arrays)))

    -- a leaf of the net
    placed : (x : ℕ) (l : Leaf) → slice_get net.leaves x ≡ Some l → IsPlaced places design.port_leaves declared roles net.nodes x l
    placed x l at =
        leaf_placed places design.port_leaves declared roles (length kept.nodes.items) net.nodes leaves_add x l
        (subst (λ (ls : List Leaf). slice_get ls x ≡ Some l) leaves_are at)

    within_at : (x : ℕ) (l : Leaf) → slice_get net.leaves x ≡ Some l → x < length c.leaves
    within_at x l at = let within = slice_get_within net.leaves x l at in omega (arith, within, count)

    abbrev Outer : ℕ → Bool
    Outer x = nat_lt x design.port_leaves

    hold : LeavesHold net.leaves (held_in m) (length c.leaves)
    hold = record { long = count; each = each }
      where
        each : (x : ℕ) (l : Leaf) → slice_get net.leaves x ≡ Some l → IsHeld l (held_in m x)
        each x l at =
            let p = placed x l at in
            let held = (so.leaves x p.declared p.declared_at).held in
            subst (IsHeld l) held
            (is_held places (Outer x) p.declared.is_driven p.count l p.role p.declared.holds (ap (λ (k : Leaf). k.signed) p.is) (ap (λ (k : Leaf). k.width) p.is)
            (ap (λ (k : Leaf). k.role) p.is) (narrow_at x p.declared.holds (within_at x l at) held))

    moved_at : (x : ℕ) (r : NetRole) (d : DesignLeaf) → slice_get declared x ≡ Some d → slice_get roles x ≡ Some r → (ns : List Node)
        → Grows kept.nodes.items ns → IsGiven c (StandsMoved c places ns) d.holds r (net_role_at m x)
    moved_at x r d d_at r_at ns grows =
        role_moved c nodes kept ns grows d.holds r (net_role_at m x) (given x d r d_at r_at) (keeps.reads x r r_at)

    kept_are : AreNodes net.leaves [] kept.nodes.items
    kept_are = keeps.whole net.leaves (held_in m) (length c.leaves) hold roles_read_whole

    middle_built : AreBuilt net.leaves kept.nodes.items middle
    middle_built =
        subst (AreBuilt net.leaves kept.nodes.items) (sym middle_is)
        (all_built net.leaves places kept.nodes.items declared roles
        (λ x r at ns so_far.
        let d = leaf_there x r at in
        nodes_built c net.leaves hold places kept.nodes.items ns so_far d.0.holds r (net_role_at m x) (moved_at x r d.0 d.1 at ns so_far.grows))
        kept.nodes.items (built_first net.leaves kept.nodes.items keeps.before kept_are))

    built : AreBuilt net.leaves kept.nodes.items net.nodes
    built =
        subst (AreBuilt net.leaves kept.nodes.items) (sym nodes_are)
        (arrays_built c net.leaves hold kept.nodes.items design.arrays.items array_given middle middle_built)

    given_at : (x : ℕ) (l : Leaf) (at : slice_get net.leaves x ≡ Some l)
        → IsGiven c (StandsMoved c places net.nodes) (placed x l at).declared.holds (placed x l at).role (net_role_at m x)
    given_at x l at = let p = placed x l at in moved_at x p.role p.declared p.declared_at p.role_at net.nodes built.grows

    ticks_at : (x : ℕ) (l : Leaf) → slice_get net.leaves x ≡ Some l → held_in m x ≡ a_clock → is_clock l.role ≡ true
    ticks_at x l at ticks =
        let p = placed x l at in
        let held = (so.leaves x p.declared p.declared_at).held in
        ap (λ (k : Leaf). is_clock k.role) p.is
        ∙ clock_ticks places (Outer x) p.declared.is_driven p.count c (StandsMoved c places net.nodes) p.declared.holds p.role (net_role_at m x) (held ∙ ticks)
        (given_at x l at)

    clocks : (y : ℕ) → y < length c.leaves → held_in m y ≡ a_clock → IsClock net.leaves y
    clocks y inside ticks =
        let found = there net.leaves y (omega (arith, inside, count)) in
        (found.0, found.1, ticks_at y found.0 found.1 ticks)

    outer_at : (x : ℕ) (l : Leaf) → slice_get net.leaves x ≡ Some l → x < ports → is_port l.role ≡ true
    outer_at x l at lt =
        let p = placed x l at in
        let test : Outer x ≡ true = lt-ltb x design.port_leaves (omega (arith, lt, so.ports)) in
        ap (λ (k : Leaf). is_port k.role) p.is
        ∙ ap (λ (b : Bool). is_port (flat_role_of places b p.declared.is_driven p.declared.holds p.role p.count)) test
        ∙ outer_port places true p.declared.is_driven p.count c (StandsMoved c places net.nodes) (depth_at m x) m.body x p.declared.holds p.role (role_at m x)
        (plain.port x lt) (given_at x l at)

    inner_at : (x : ℕ) (l : Leaf) → slice_get net.leaves x ≡ Some l → ports ≤ x → is_port l.role ≡ false
    inner_at x l at le =
        let p = placed x l at in
        let test : Outer x ≡ false = le-ltb x design.port_leaves (omega (arith, le, so.ports)) in
        ap (λ (k : Leaf). is_port k.role) p.is
        ∙ ap (λ (b : Bool). is_port (flat_role_of places b p.declared.is_driven p.declared.holds p.role p.count)) test
        ∙ inner_port places true p.declared.is_driven p.count c (StandsMoved c places net.nodes) (depth_at m x) m.body x p.declared.holds p.role (role_at m x)
        (plain.inner x le (within_at x l at)) (given_at x l at)

    each : (x : ℕ) (l : Leaf) → slice_get net.leaves x ≡ Some l → IsFlatLeaf c ports net x l
    each x l at =
        let p = placed x l at in
        let seen = so.leaves x p.declared p.declared_at in
        let signed = ap (λ (k : Leaf). k.signed) p.is in
        let width = ap (λ (k : Leaf). k.width) p.is in
        let driven = p.declared.is_driven in
        record {
          path = ap (λ (k : Leaf). k.path) p.is ∙ seen.path;
          place = ap (λ (k : Leaf). k.place) p.is ∙ seen.place;
          has_width = subst (HasWidth l) seen.held (has_width places (Outer x) driven p.count l p.role p.declared.holds signed width);
          role =
              subst (λ (h : LeafType). IsRoleOf net.nodes (net_types m) x l.role h (net_role_at m x)) seen.held
              (subst (λ (k : Leaf). IsRoleOf net.nodes (net_types m) x k.role (type_seen p.declared.holds) (net_role_at m x)) (sym p.is)
              (role_stands c net hold places kept.nodes.items built (Outer x) driven x p.count p.declared.holds p.role (net_role_at m x) (given_at x l at) p.adds
              (own_at x p.declared seen) (inside_at x)));
          takes =
              ap (λ (k : Leaf). takes_value k.role) p.is
              ∙ taken_is places (Outer x) driven p.count c (StandsMoved c places net.nodes) (depth_at m x) m.body x p.declared.holds p.role (role_at m x)
              (given_at x l at)
              ∙ takes_alike (role_at m x) driven (drives_any x c.body) seen.driven;
          port = outer_at x l at;
          inner = inner_at x l at;
        }

    leaf_whole : (x : ℕ) (l : Leaf) → slice_get net.leaves x ≡ Some l → IsLeaf net.leaves net.nodes l
    leaf_whole x l at =
        let p = placed x l at in
        let seen = so.leaves x p.declared p.declared_at in
        let driven = p.declared.is_driven in
        record {
          narrow =
              is_narrow places (Outer x) driven p.count l p.role p.declared.holds (ap (λ (k : Leaf). k.width) p.is)
              (narrow_at x p.declared.holds (within_at x l at) seen.held);
          driven =
              subst (λ (k : Leaf). IsRole net.leaves net.nodes k.signed k.width k.role) (sym p.is)
              (role_can c net hold places kept.nodes.items built (Outer x) driven x p.count clocks p.declared.holds p.role (net_role_at m x) (given_at x l at) p.adds
              (own_at x p.declared seen));
        }

    -- words of the state
    word_at : (x : ℕ) (l : Leaf) → slice_get net.leaves x ≡ Some l → is_word l ≡ (is_state (role_of c x) && has_bits (held_in m x))
    word_at x l at =
        let p = placed x l at in
        let held = (so.leaves x p.declared p.declared_at).held in
        word_is places (Outer x) p.declared.is_driven p.count c (StandsMoved c places net.nodes) (depth_at m x) m.body x l p.declared.holds p.role (role_at m x)
        (ap (λ (k : Leaf). k.width) p.is) (ap (λ (k : Leaf). k.role) p.is) (given_at x l at)
        ∙ ap (λ (h : LeafType). is_state (role_of c x) && has_bits h) held

    and_both : (a b : Bool) → a ≡ true → b ≡ true → (a && b) ≡ true
    and_both true b e f = f
    and_both false b e f = cc

    state : IsState net.leaves c.words
    state = record {
      only = λ n x at.
          let word = plain.words n x at in
          let found = there net.leaves x (omega (arith, word.0, count)) in
          (found.0, found.1, word_at x found.0 found.1 ∙ and_both (is_state (role_of c x)) (has_bits (held_in m x)) word.1.0 word.1.1);
      all = λ x l at is.
          let parts : IsWord c x = both (is_state (role_of c x)) (has_bits (held_in m x)) (sym (word_at x l at) ∙ is) in
          plain.all_words x (within_at x l at) parts;
      once = plain.once;
    }

    -- an array of the net
    array_count : length net.arrays ≡ length c.arrays
    array_count =
        ap length (arrays_are ∙ sym (arrays_made design.arrays.items (length middle)))
        ∙ length-made DesignArray Array flat_array_of nodes_of_array design.arrays.items (length middle) ∙ so.array_count

    array_placed : (n : ℕ) (a : Array) → slice_get net.arrays n ≡ Some a
        → in_turn.IsPlaced DesignArray Array flat_array_of nodes_of_array net.nodes design.arrays.items n a
    array_placed n a at =
        one_placed DesignArray Array flat_array_of nodes_of_array net.nodes design.arrays.items (length middle) n a
        (subst (StandAt net.nodes (length middle)) (sym (arrays_add design.arrays.items (length middle))) arrays_add_there)
        (subst (λ (all : List Array). slice_get all n ≡ Some a) (arrays_are ∙ sym (arrays_made design.arrays.items (length middle))) at)

    array_is : (n : ℕ) (a : Array) (b : LeafArray) → slice_get net.arrays n ≡ Some a → slice_get c.arrays n ≡ Some b → IsFlatArray net a b
    array_is n a b at b_at =
        let p = array_placed n a at in
        let is = so.arrays n p.from b p.from_at b_at in
        record {
          path = ap (λ (x : Array). x.path) p.is ∙ is.path;
          is =
              subst (λ (x : Array). IsArrayOf net.nodes x b) (sym p.is)
              (array_stands c net.leaves hold net.nodes built.before p.from b p.count is (plain.memories.arrays_typed n b b_at) p.adds_there);
        }

    array_whole : (n : ℕ) (a : Array) → slice_get net.arrays n ≡ Some a → IsArray net.leaves net.nodes a
    array_whole n a at =
        let p = array_placed n a at in
        let given = array_given n p.from p.from_at in
        subst (IsArray net.leaves net.nodes) (sym p.is)
        (array_can c net.leaves hold net.nodes built.before clocks p.from given.0 p.count given.1 given.2 p.adds_there)

    -- what is read of an array has the type of its words
    reads_of : (k : ℕ) (l : Leaf) (x : ℕ) → slice_get net.leaves k ≡ Some l → reads_array l.role ≡ Some x
        → (a : Array) × (slice_get net.arrays x ≡ Some a) × (a.width ≡ l.width) × (a.signed ≡ l.signed)
    reads_of k l x at reads =
        let p = placed k l at in
        let own =
        reads_words c (StandsMoved c places net.nodes) places (Outer k) p.declared.is_driven p.count p.declared.holds p.role (net_role_at m k) (given_at k l at) x
        (ap (λ (o : Leaf). reads_array o.role) (sym p.is) ∙ reads) in
        let within = slice_get_within c.arrays x own.array own.is_there in
        let found = there net.arrays x (omega (arith, within, array_count)) in
        let words = subst (HasWordsOf found.0) own.of_type (array_is x found.0 own.array found.1 own.is_there).is.holds in
        let held : own.data_type ≡ width_of p.declared.holds = sym (ap width_of own.is) in (
          found.0,
          found.1,
          words.1 ∙ ap (λ (t : NumTy). t.width) held ∙ sym (ap (λ (o : Leaf). o.width) p.is),
          words.0 ∙ ap (λ (t : NumTy). t.signed) held ∙ sym (ap (λ (o : Leaf). o.signed) p.is),
        )

    -- the arrays of the state
    bits_at : (k : ℕ) (a : Array) (b : LeafArray) → slice_get net.arrays k ≡ Some a → slice_get c.arrays k ≡ Some b
        → has_bits (array_at c.arrays k).holds ≡ nat_lt 0 a.width
    bits_at k a b at b_at =
        let typed = plain.memories.arrays_typed k b b_at in
        let words = subst (HasWordsOf a) typed.is (array_is k a b at b_at).is.holds in
        ap (λ (x : LeafArray). has_bits x.holds) (get_or_from_slice_get c.arrays k b no_array b_at) ∙ ap has_bits typed.is
        ∙ ap (nat_lt 0) (sym words.1)

    array_state : IsArrayOrder net.arrays c.array_order
    array_state = record {
      only = λ n k at.
          let own = plain.arrays n k at in
          let found = there net.arrays k (omega (arith, own.within, array_count)) in
          let b = there c.arrays k own.within in
          let wide = ltb-true 0 found.0.width (sym (bits_at k found.0 b.0 found.1 b.1) ∙ own.bits) in
          (found.0, found.1, omega (arith, wide));
      all = λ k a at bits.
          let within = slice_get_within net.arrays k a at in
          let inside : k < length c.arrays = omega (arith, within, array_count) in
          let b = there c.arrays k inside in
          plain.all_arrays k (record { within = inside; bits = bits_at k a b.0 at b.1 ∙ lt-ltb 0 a.width (omega (arith, bits)) });
      once = plain.arrays_once;
    }

    pub design_flat : IsFlatDesign c ports net
    design_flat = record {
      count = count;
      each = each;
      state = state_is;
      array_count = array_count;
      arrays = array_is;
      array_order = order_is;
      whole = record {
        leaves =
            all_from (IsLeaf net.leaves net.nodes) net.leaves
            (λ l among. let n = number_of net.leaves l among in leaf_whole n.0 l n.1);
        ports_first = ports_first ports net.leaves outer_at inner_at;
        nodes = built.are;
        state = subst (IsState net.leaves) (sym state_is) state;
        arrays =
            all_from (IsArray net.leaves net.nodes) net.arrays
            (λ a among. let n = number_of net.arrays a among in array_whole n.0 a n.1);
        readings = λ k l r at is. reads_of k l r.array at (ap reads_array is);
        pipes = λ k l q at is. reads_of k l q.read.array at (ap reads_array is);
        array_state = subst (IsArrayOrder net.arrays) (sym order_is) array_state;
        few_words = few;
      };
    }
