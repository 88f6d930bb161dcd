-- Where in each module of a design all ports of a memory that have a clock have the same, so have all ports of each array of its flat net.
use Rattle.std.proofs.Common.{◌≡◌, ◌⊎◌, ℕ, zero, suc, ◌+◌, List, [], ◌∷◌, length, map, flat_map, slice_get, Option, Some, None, refl, sym, ap, ◌∙◌, subst, inl, inr, arith, length-append, true≢false}
use Rattle.std.proofs.lemmas.List.{length-map}
use Rattle.std.proofs.lemmas.Option.{slice_get_within}
use Rattle.fir_base.specs.Lists.{In}
use Rattle.fir_base.proofs.Elements.{there}
use Rattle.fir_base.proofs.Members.{in_map_from}
use Rattle.fir_ast.specs.Circuits.{CircuitTree}
use Rattle.fir_meaning.specs.LeafTypes.{LeafType, a_clock, number}
use Rattle.fir_meaning.specs.ModuleScenes.{Scene}
use Rattle.fir_meaning.specs.SourceDesigns.{SourceDesign}
use Rattle.fir_meaning.specs.working.Designs.{Design, IsDesignOf, module_of}
use Rattle.fir_meaning.specs.working.Elaborated.{views}
use Rattle.fir_meaning.specs.working.FlatDesigns.{array_count_below}
use Rattle.fir_meaning.specs.working.Flattened.{flattened}
use Rattle.fir_meaning.specs.working.LeafCircuits.{LeafCircuit}
use Rattle.fir_meaning.specs.working.LeafModules.{LeafModule, MemoryDeclared, Writing}
use Rattle.fir_meaning.specs.working.LeafedModules.{leafed_module}
use Rattle.fir_meaning.specs.working.Numberings.{numbering}
use Rattle.fir_meaning.specs.working.TermValues.{Holds}
use Rattle.fir_leaf.specs.working.MemoryClockFaults.{HasClock}
use Rattle.fir_leaf_types.specs.working.TypedModules.{held_in}
use Rattle.fir_memory_types.specs.working.Laws.{LeafedClocksAreOfMemories}
use Rattle.fir_connect.specs.working.CircuitModules.{as_module}
use Rattle.fir_connect.specs.working.NetRoles as net
use Rattle.fir_connect.specs.working.NetRoles.{NetRole, net_role_at, net_types}
use Rattle.fir_connect.specs.working.NetTerms.{NetTerm, leaf}
use Rattle.fir_design.specs.working.MeaningLaws.{AreDesigns}
use Rattle.fir_design.specs.working.SourceLaws.{HasOneTree}
use Rattle.fir_design.proofs.NumberedScenes.{view_at}
use Rattle.fir_copies.specs.working.Copies.{Copy, copies_of}
use Rattle.fir_copies.specs.working.CopyLaws.{CopiesGiveAll, CopiesStand}
use Rattle.fir_elaborate.specs.declared.elaborated.Elaborated.{Elaborated}
use Rattle.fir_elaborate.specs.declared.elaborated.ModuleCopy.{ModuleCopy}
use Rattle.fir_elaborate.specs.working.CopyArrays.{ArraysAreOfModules, array_behind, array_seen, arrays_of_copy}
use Rattle.fir_elaborate.specs.working.Elaborations.{IsElaborated, copy_seen}
use Rattle.fir_net.specs.declared.array.Array.{Array}
use Rattle.fir_net.specs.declared.array.ArrayWrite.{ArrayWrite}
use Rattle.fir_net.specs.declared.array.Pipe.{Pipe}
use Rattle.fir_net.specs.declared.leaf.Leaf.{Leaf}
use Rattle.fir_net.specs.declared.leaf.Role as net_leaf
use Rattle.fir_net.specs.declared.leaf.Role.TheVariants as role
use Rattle.fir_net.specs.declared.net.FlatNet.{FlatNet}
use Rattle.fir_net.specs.declared.node.Node.{Node}
use Rattle.fir_net.specs.working.IsNet.{is_port}
use Rattle.fir_net.specs.working.IsWritable.{HasOneClocks}
use Rattle.fir_net.specs.working.Settled.{clock_driver}
use Rattle.fir_flat.specs.working.FlatCircuits.{AreWritesOf, IsClockedBy, IsRoleOf, NamesClock}
use Rattle.fir_flatten.specs.working.FlatDesigns.{IsFlatDesign}
use Rattle.fir_flatten.specs.working.Laws.{DesignsHaveOneClocks, IsClearDesign, IsDesigned, IsEachOnOneClock}
use Rattle.fir_flatten.proofs.ArrayRanges.{AreInTurn, array_many, copies_in_turn}
use Rattle.fir_flatten.proofs.ClockedCircuits.{HasPipe, HasWrite, IsClockedAs}
use Rattle.fir_flatten.proofs.DesignCopies.{have_widths}
use Rattle.fir_flatten.proofs.DesignsOfCircuits.{designs_beside, tree_of}
use Rattle.fir_flatten.proofs.PortsOfCopies.{one_clocks}

-- what is written into an array by its number among the writes
written_at : (nodes : List Node) (ws : List ArrayWrite) (ms : List Writing) → AreWritesOf nodes ws ms → (n : ℕ) (w : ArrayWrite) → slice_get ws n ≡ Some w
    → (m : Writing) × In ms m × (m.clock ≡ w.clock)
written_at nodes [] [] h n w e = absurd cc
written_at nodes [] (m ∷ ms) h n w e = absurd h
written_at nodes (v ∷ ws) [] h n w e = absurd h
written_at nodes (v ∷ ws) (m ∷ ms) h zero w e =
    let same : v ≡ w = cc in
    (m, inl refl, sym h.0.clock ∙ ap (λ (z : ArrayWrite). z.clock) same)
written_at nodes (v ∷ ws) (m ∷ ms) h (suc n) w e =
    let r = written_at nodes ws ms h.1 n w e in
    (r.0, inr r.1, r.2)

-- what drives a clock leaf of the net, by its role
clocked_input : (nodes : List Node) (holds : Holds) (k : ℕ) (x : net_leaf.Role) (h : LeafType) (r : NetRole) → IsRoleOf nodes holds k x h r → x ≡ role.Clock
    → r ≡ net.source
clocked_input nodes holds k x h net.source is e = refl
clocked_input nodes holds k x a_clock (net.driven d) (c, inl q, n) e = absurd cc
clocked_input nodes holds k x a_clock (net.driven d) (c, inr q, n) e = absurd cc
clocked_input nodes holds k x (number t) (net.driven d) (c, inl q, n) e = absurd cc
clocked_input nodes holds k x (number t) (net.driven d) (c, inr q, n) e = absurd cc
clocked_input nodes holds k x a_clock (net.computed d) is e = let own = is.1 in absurd cc
clocked_input nodes holds k x (number t) (net.computed d) is e = let own = is.1 in absurd cc
clocked_input nodes holds k x (number t) (net.register c r d) is e = let own = is.3 in absurd cc
clocked_input nodes holds k x (number t) (net.reading m) is e = let own = is.1 in absurd cc
clocked_input nodes holds k x (number t) (net.pipe m c u) is e = let own = is.1 in absurd cc
clocked_input nodes holds k x a_clock (net.register c r d) is e = absurd is
clocked_input nodes holds k x a_clock (net.reading m) is e = absurd is
clocked_input nodes holds k x a_clock (net.pipe m c u) is e = absurd is

named_leaf : (d : NetTerm) (c : Option ℕ) (j : ℕ) → NamesClock d c → c ≡ Some j → d ≡ leaf j
named_leaf d c j n e = let names : NamesClock d (Some j) = subst (NamesClock d) e n in names

clocked_wire : (x : net_leaf.Role) (c : Option ℕ) (j : ℕ) → IsClockedBy x c → clock_driver x ≡ Some (Some j) → c ≡ Some j
clocked_wire x c j (inl q) e = let own = ap clock_driver (sym q) in let same : Some c ≡ Some (Some j) = own ∙ e in cc
clocked_wire x c j (inr q) e = let own = ap clock_driver (sym q) in let same : Some c ≡ Some (Some j) = own ∙ e in cc

-- what is no clock leaf has no clock that drives it
no_clock : {A : Type 0} → (x y : net_leaf.Role) (j : ℕ) → x ≡ y → clock_driver y ≡ None → clock_driver x ≡ Some (Some j) → A
no_clock x y j is none e = let other : None ≡ Some (Some j) = sym none ∙ ap clock_driver (sym is) ∙ e in absurd cc

clocked_driven : (nodes : List Node) (holds : Holds) (k : ℕ) (x : net_leaf.Role) (h : LeafType) (r : NetRole) → IsRoleOf nodes holds k x h r → (j : ℕ)
    → clock_driver x ≡ Some (Some j) → (r ≡ net.driven (leaf j)) ⊎ (r ≡ net.computed (leaf j))
clocked_driven nodes holds k x (number t) net.source is j e = no_clock x role.Input j is refl e
clocked_driven nodes holds k x a_clock net.source is j e = no_clock x role.Clock j is refl e
clocked_driven nodes holds k x a_clock (net.driven d) is j e = inl (ap net.driven (named_leaf d is.0 j is.2 (clocked_wire x is.0 j is.1 e)))
clocked_driven nodes holds k x a_clock (net.computed d) is j e = inr (ap net.computed (named_leaf d is.0 j is.2 (clocked_wire x is.0 j (inr is.1) e)))
clocked_driven nodes holds k x (number t) (net.driven d) (r, inl q, n) j e = no_clock x (role.Output r) j q refl e
clocked_driven nodes holds k x (number t) (net.driven d) (r, inr q, n) j e = no_clock x (role.Wire r) j q refl e
clocked_driven nodes holds k x (number t) (net.computed d) is j e = no_clock x (role.Wire is.0) j is.1 refl e
clocked_driven nodes holds k x (number t) (net.register c r d) is j e =
    no_clock x (role.Register (record { clock = is.0; reset = is.1; next = is.2 })) j is.3 refl e
clocked_driven nodes holds k x (number t) (net.reading m) is j e = no_clock x (role.Reading is.0) j is.1 refl e
clocked_driven nodes holds k x (number t) (net.pipe m c u) is j e = no_clock x (role.Pipe is.0) j is.1 refl e
clocked_driven nodes holds k x a_clock (net.register c r d) is j e = absurd is
clocked_driven nodes holds k x a_clock (net.reading m) is j e = absurd is
clocked_driven nodes holds k x a_clock (net.pipe m c u) is j e = absurd is

module _ (c : LeafCircuit) (ports : ℕ) (flat : FlatNet) (is : IsFlatDesign c ports flat) where
  -- a pipe of the net is one of the circuit
  piped : (k : ℕ) (l : Leaf) (p : Pipe) → slice_get flat.leaves k ≡ Some l → l.role ≡ role.Pipe p → (h : LeafType) (r : NetRole)
      → net_role_at (as_module c) k ≡ r → IsRoleOf flat.nodes (net_types (as_module c)) k l.role h r → HasPipe c ports p.read.array p.clock
  piped k l p at own (number t) (net.pipe m clock u) e q =
      let same : q.0 ≡ p = cc (q.1) in
      let within = slice_get_within flat.leaves k l at in
      let count = is.count in
      let clock_is : p.clock ≡ clock = ap (λ (z : Pipe). z.clock) (sym same) ∙ q.2.clock in
      record {
        leaf = k;
        within = omega (arith, count, within);
        inner = λ lt. true≢false (sym ((is.each k l at).port lt) ∙ ap is_port own);
        reading = m;
        under = u;
        is = e ∙ ap (λ z. net.pipe m z u) (sym clock_is);
        array_is = sym q.2.read.array ∙ ap (λ (z : Pipe). z.read.array) same;
      }
  piped k l p at own (number t) net.source e q = absurd cc
  piped k l p at own a_clock net.source e q = absurd cc
  piped k l p at own (number t) (net.driven d) e (r, inl w, n) = absurd cc
  piped k l p at own (number t) (net.driven d) e (r, inr w, n) = absurd cc
  piped k l p at own a_clock (net.driven d) e (r, inl w, n) = absurd cc
  piped k l p at own a_clock (net.driven d) e (r, inr w, n) = absurd cc
  piped k l p at own (number t) (net.computed d) e q = let other = q.1 in absurd cc
  piped k l p at own a_clock (net.computed d) e q = let other = q.1 in absurd cc
  piped k l p at own (number t) (net.register y r d) e q = let other = q.3 in absurd cc
  piped k l p at own (number t) (net.reading m) e q = let other = q.1 in absurd cc
  piped k l p at own a_clock (net.register y r d) e q = absurd q
  piped k l p at own a_clock (net.reading m) e q = absurd q
  piped k l p at own a_clock (net.pipe m y u) e q = absurd q

  written : (k n : ℕ) (a : Array) (w : ArrayWrite) → slice_get flat.arrays k ≡ Some a → slice_get a.writes n ≡ Some w → HasWrite c k w.clock
  written k n a w at e =
      let within = slice_get_within flat.arrays k a at in
      let count = is.array_count in
      let m = there c.arrays k (omega (arith, within, count)) in
      let r = written_at flat.nodes a.writes m.0.writings (is.arrays k a m.0 at m.1).is.writes n w e in
      record { array = m.0; at = m.1; writing = r.0; among = r.1; clock_is = r.2 }

  clocked_as : IsClockedAs c ports flat
  clocked_as = record {
    input = λ k l at own.
        clocked_input flat.nodes (net_types (as_module c)) k l.role (held_in (as_module c) k) (net_role_at (as_module c) k) (is.each k l at).role own;
    driven = λ k j l at own.
        clocked_driven flat.nodes (net_types (as_module c)) k l.role (held_in (as_module c) k) (net_role_at (as_module c) k) (is.each k l at).role j own;
    writes = written;
    pipes = λ k l p at own.
        piped k l p at own (held_in (as_module c) k) (net_role_at (as_module c) k) refl (is.each k l at).role;
  }

-- the laws that it rests on
pub record LawsOfClocks : Type 0 where
  pub one_tree : HasOneTree
  pub stand : CopiesStand
  pub give : CopiesGiveAll
  pub arrays : ArraysAreOfModules
  pub memories : LeafedClocksAreOfMemories

-- the arrays of copies that stand in turn end behind all of these
turn_end : (scenes : List Scene) (from to : ℕ) (ks : List ModuleCopy) → AreInTurn (views scenes) from (map copy_seen ks) to
    → to ≡ from + length (flat_map (arrays_of_copy scenes) ks)
turn_end scenes from to [] h = omega (arith, h)
turn_end scenes from to (k ∷ ks) h =
    let many = array_many (views scenes) (copy_seen k) in
    let rest = turn_end scenes (from + many) to ks h.1 in
    let m = module_of (views scenes) k.module_number in
    let own : length (arrays_of_copy scenes k) ≡ many = length-map m.arrays (array_behind k.prefix (numbering m k.first k.own)) in
    omega (arith, rest, own, length-append (arrays_of_copy scenes k) (flat_map (arrays_of_copy scenes) ks))

module _ (laws : LawsOfClocks) (c : CircuitTree) (scenes : List Scene) (main : Scene) (d : Design) (flat : FlatNet) (e : Elaborated) (x : ℕ)
    (designed : IsDesigned c scenes main d) (clear : IsClearDesign scenes d) (at : slice_get scenes x ≡ Some main) (elaborated : IsElaborated x d e)
    (one : IsEachOnOneClock c e.copies.items) (is : IsFlatDesign (flattened d) (leafed_module main).port_leaves flat) where
  abbrev ks : List Copy
  ks = copies_of x d

  abbrev tree : SourceDesign
  tree = (tree_of c scenes main d designed laws.one_tree).0

  abbrev a : AreDesigns c d tree
  a = designs_beside c scenes main d designed (tree_of c scenes main d designed laws.one_tree).0 (tree_of c scenes main d designed laws.one_tree).1

  found : IsDesignOf (views scenes) (module_of (views scenes) x) d
  found = subst (λ (u : LeafModule). IsDesignOf (views scenes) u d) (sym (view_at scenes x main at)) designed.sound.is

  turn : AreInTurn (views scenes) 0 ks (array_count_below d)
  turn = copies_in_turn (views scenes) x d found

  many : array_count_below d ≡ length (flattened d).arrays
  many =
      let seen = subst (λ qs. AreInTurn (views scenes) 0 qs (array_count_below d)) (sym elaborated.copies) turn in
      let end = turn_end scenes 0 (array_count_below d) e.copies.items seen in
      let long = ap length (laws.arrays scenes x d found e elaborated) in
      omega (arith, end, long, length-map (flattened d).arrays array_seen)

  one_of : (q : Copy) (v : Scene) → In ks q → slice_get scenes q.module_number ≡ Some v → (memory : MemoryDeclared)
      → In (leafed_module v).memories memory
      → (y z first other : ℕ) → In memory.port_clocks y → In memory.port_clocks z → HasClock (leafed_module v) y first → HasClock (leafed_module v) z other
      → first ≡ other
  one_of q v among there =
      let k = in_map_from copy_seen e.copies.items q (subst (λ (qs : List Copy). In qs q) (sym elaborated.copies) among) in
      let number_is : k.0.module_number ≡ q.module_number = ap (λ (z : Copy). z.module_number) k.2 in
      one k.0 v k.1 (designed.has.each k.0.module_number v (ap (slice_get scenes) number_is ∙ there))

  pub on_one_clock : HasOneClocks flat
  on_one_clock =
      one_clocks (flattened d) flat scenes main ks (array_count_below d)
      (clocked_as (flattened d) (leafed_module main).port_leaves flat is)
      (laws.stand c d tree a x at (have_widths c scenes main d designed)) turn many
      (laws.give c d tree a x at) clear.typed clear.memories laws.memories one_of

pub designs_have_one_clocks : LawsOfClocks → DesignsHaveOneClocks
designs_have_one_clocks laws c scenes main d flat e x designed clear at elaborated one is =
    on_one_clock laws c scenes main d flat e x designed clear at elaborated one is
