-- The clocks of the ports of an array of a net are those of the ports of one memory of the copy that has the array.
use Rattle.std.proofs.Common.{◌≡◌, ℕ, ◌+◌, ◌<◌, ◌≤◌, List, length, map, slice_get, Some, refl, sym, ap, ◌∙◌, subst, inl, inr, arith}
use Rattle.std.proofs.lemmas.Option.{same_Some, slice_get_within}
use Rattle.fir_base.specs.Lists.{In}
use Rattle.fir_base.proofs.Each.{all_at}
use Rattle.fir_base.proofs.Elements.{get_in, there}
use Rattle.fir_base.proofs.Members.{in_map_from}
use Rattle.fir_ast.specs.declared.statements.ReadUnderWrite.{ReadUnderWrite}
use Rattle.fir_meaning.specs.ModuleScenes.{Scene}
use Rattle.fir_meaning.specs.working.Designs.{module_of}
use Rattle.fir_meaning.specs.working.Elaborated.{views}
use Rattle.fir_meaning.specs.working.LeafBlocks.{LeafBlock}
use Rattle.fir_meaning.specs.working.LeafCircuits.{LeafCircuit}
use Rattle.fir_meaning.specs.working.LeafModules.{LeafArray, LeafModule, MemoryDeclared, Reading, Role, Writing, leaf_at, role_at}
use Rattle.fir_meaning.specs.working.LeafModules as leafed
use Rattle.fir_meaning.specs.working.LeafedModules.{leafed_module}
use Rattle.fir_meaning.specs.working.Numberings.{Numbering, moved_writing, number}
use Rattle.fir_meaning.specs.working.FlatLeaves.{placed_array}
use Rattle.fir_meaning.specs.working.TermValues.{Holds}
use Rattle.fir_leaf.specs.working.ClockRoots.{IsClockLeaf}
use Rattle.fir_leaf.specs.working.MemoryClockFaults.{HasClock}
use Rattle.fir_leaf.specs.working.ModuleCircuits.{module_circuit}
use Rattle.fir_leaf_types.specs.working.TypedModules.{IsModuleTyped, held_in}
use Rattle.fir_memory_types.specs.working.TypedMemories.{AreMemoriesTyped, ClocksAreOfMemories, IsClockTyped, IsMemoryRoleTyped, IsWritingTyped}
use Rattle.fir_connect.specs.working.CircuitModules.{as_module}
use Rattle.fir_connect.specs.working.MovedTerms.{moved_net_role}
use Rattle.fir_connect.specs.working.NetRoles.{net_role, net_role_at, net_types, pipe}
use Rattle.fir_design.proofs.NumberedScenes.{view_at}
use Rattle.fir_copies.specs.working.Copies.{Copy}
use Rattle.fir_copies.specs.working.CopyLaws.{IsGiven, IsGivenBy, StandsIn, numbers_of}
use Rattle.fir_net.specs.declared.net.FlatNet.{FlatNet}
use Rattle.fir_net.specs.working.IsWritable.{EndsAt, HasOneClocks, IsPortClock, of_pipe, of_write}
use Rattle.fir_flatten.proofs.ArrayRanges.{AreInTurn, of_copy, same_copy}
use Rattle.fir_flatten.proofs.ClockedCircuits.{HasPipe, HasWrite, IsClockedAs}
use Rattle.fir_flatten.proofs.EndsInCopies.{one_end, rooted}

-- what is moved to a pipe is one
record IsMovedPipe (n : Numbering) (array : ℕ) (r : Role) (k clock : ℕ) : Type 0 where
  own : Reading
  own_clock : ℕ
  under : ReadUnderWrite
  is : r ≡ leafed.pipe own own_clock under
  array_is : array + own.array ≡ k
  clock_is : number n own_clock ≡ clock

moved_pipe : (n : Numbering) (array : ℕ) (holds : Holds) (depth : ℕ) (b : LeafBlock) (x : ℕ) (r : Role) (q : Reading) (clock : ℕ) (under : ReadUnderWrite)
    → moved_net_role n array (net_role holds depth b x r) ≡ pipe q clock under → IsMovedPipe n array r q.array clock
moved_pipe n array holds depth b x leafed.source q clock under e = absurd cc
moved_pipe n array holds depth b x leafed.sink q clock under e = absurd cc
moved_pipe n array holds depth b x (leafed.computed t) q clock under e = absurd cc
moved_pipe n array holds depth b x (leafed.register c r) q clock under e = absurd cc
moved_pipe n array holds depth b x (leafed.reading r) q clock under e = absurd cc
moved_pipe n array holds depth b x (leafed.pipe r c u) q clock under e =
    record { own = r; own_clock = c; under = u; is = refl; array_is = cc; clock_is = cc }

-- a leaf of a copy of a module that reads the array of a number at the edges of a clock
record IsPipeIn (v : Scene) (q : Copy) (k clock : ℕ) : Type 0 where
  leaf : ℕ
  within : leaf < length (leafed_module v).leaves
  own : Reading
  own_clock : ℕ
  under : ReadUnderWrite
  is : role_at (leafed_module v) leaf ≡ leafed.pipe own own_clock under
  array_is : q.array + own.array ≡ k
  clock_is : number (numbers_of (leafed_module v) q) own_clock ≡ clock

-- a clock of a port of a memory, moved
record IsPortOf (v : Scene) (q : Copy) (memory : MemoryDeclared) (clock : ℕ) : Type 0 where
  own : ℕ
  among : In memory.port_clocks own
  is_clock : IsClockLeaf (module_circuit (leafed_module v)) own
  at : number (numbers_of (leafed_module v) q) own ≡ clock

module _ (c : LeafCircuit) (net : FlatNet) (scenes : List Scene) (main : Scene) (ks : List Copy) (to : ℕ)
    (clocked : IsClockedAs c (leafed_module main).port_leaves net)
    (stand : (k : Copy) → In ks k → StandsIn scenes c k) (turn : AreInTurn (views scenes) 0 ks to) (many : to ≡ length c.arrays)
    (given : (y : ℕ) → y < length c.leaves → IsGiven scenes main ks y)
    (typed : (s : Scene) → In scenes s → IsModuleTyped (leafed_module s))
    (memories : (s : Scene) → In scenes s → AreMemoriesTyped (leafed_module s).leaves (leafed_module s).arrays)
    (of_memories : (s : Scene) → ClocksAreOfMemories (leafed_module s)) where
  record IsPipeSomewhere (k clock : ℕ) : Type 0 where
    copy : Copy
    among : In ks copy
    here : IsPipeIn (stand copy among).scene copy k clock

  pipe_somewhere : (k clock : ℕ) → HasPipe c (leafed_module main).port_leaves k clock → IsPipeSomewhere k clock
  pipe_somewhere k clock p = by (given p.leaf p.within)
    where
      by : IsGiven scenes main ks p.leaf → IsPipeSomewhere k clock
      by (inl i) = absurd (p.inner i.port)
      by (inr i) =
          let q : Copy = i.0 in
          let among : In ks q = i.1 in
          let g : IsGivenBy scenes q p.leaf = i.2 in
          let s : StandsIn scenes c q = stand q among in
          let same : g.scene ≡ s.scene = same_Some g.scene s.scene (sym g.is ∙ s.is) in
          let v = leafed_module s.scene in
          let within : g.leaf < length v.leaves = subst (λ (u : Scene). g.leaf < length (leafed_module u).leaves) same g.within in
          let at : number (numbers_of v q) g.leaf ≡ p.leaf = subst (λ (u : Scene). number (numbers_of (leafed_module u) q) g.leaf ≡ p.leaf) same g.number_is in
          let other : role_at v g.leaf ≡ leafed.source → ⊥ = subst (λ (u : Scene). role_at (leafed_module u) g.leaf ≡ leafed.source → ⊥) same g.gives in
          let e : moved_net_role (numbers_of v q) q.array (net_role_at v g.leaf) ≡ pipe p.reading clock p.under =
          sym (s.roles g.leaf within other) ∙ ap (net_role_at (as_module c)) at ∙ p.is in
          let h = moved_pipe (numbers_of v q) q.array (net_types v) (leafed.depth_at v g.leaf) v.body g.leaf (role_at v g.leaf) p.reading clock p.under e in
          record {
            copy = q;
            among = among;
            here = record {
              leaf = g.leaf;
              within = within;
              own = h.own;
              own_clock = h.own_clock;
              under = h.under;
              is = h.is;
              array_is = h.array_is ∙ p.array_is;
              clock_is = h.clock_is;
            };
          }

  scene_among : (q : Copy) (among : In ks q) → In scenes (stand q among).scene
  scene_among q among = get_in scenes q.module_number (stand q among).scene (stand q among).is

  -- its array is one of the module, and its clock leaf holds a clock
  pipe_typed : (v : Scene) → In scenes v → (q : Copy) (k clock : ℕ) (p : IsPipeIn v q k clock)
      → IsMemoryRoleTyped (leafed_module v).leaves (leafed_module v).arrays (held_in (leafed_module v) p.leaf) (leafed.pipe p.own p.own_clock p.under)
  pipe_typed v m q k clock p =
      subst (IsMemoryRoleTyped (leafed_module v).leaves (leafed_module v).arrays (held_in (leafed_module v) p.leaf)) p.is
      ((memories v m).roles p.leaf p.within)

  pipe_within : (v : Scene) → In scenes v → (q : Copy) (k clock : ℕ) (p : IsPipeIn v q k clock) → p.own.array < length (leafed_module v).arrays
  pipe_within v m q k clock p =
      let t = pipe_typed v m q k clock p in
      slice_get_within (leafed_module v).arrays p.own.array t.0.array t.0.is_there

  clock_leaf : (v : Scene) (x : ℕ) → IsClockTyped (leafed_module v).leaves x → IsClockLeaf (module_circuit (leafed_module v)) x
  clock_leaf v x t = record { within = t.within; is_clock = t.is }

  port_within : (k x : ℕ) → IsPortClock net k x → k < length c.arrays
  port_within k x (of_write a n w at there) =
      let h = clocked.writes k n a w at there in
      slice_get_within c.arrays k h.array h.at
  port_within k x (of_pipe y l p at is array) =
      let h = pipe_somewhere p.read.array p.clock (clocked.pipes y l p at is) in
      let s = stand h.copy h.among in
      let lt = pipe_within s.scene (scene_among h.copy h.among) h.copy p.read.array p.clock h.here in
      let room = s.arrays_within in
      let is_at = h.here.array_is in
      omega (arith, lt, room, is_at, array)

  -- of an array of a copy
  module _ (k : ℕ) (q : Copy) (among : In ks q) (i : ℕ) (is : q.array + i ≡ k) (a : LeafArray)
      (at : slice_get (leafed_module (stand q among).scene).arrays i ≡ Some a) where
    abbrev v : Scene
    v = (stand q among).scene

    abbrev memory : MemoryDeclared
    memory = ((of_memories (stand q among).scene).each i a at).memory

    of_writes : (x : ℕ) → HasWrite c k x → IsPortOf v q memory x
    of_writes x h =
        let s : StandsIn scenes c q = stand q among in
        let n = numbers_of (leafed_module s.scene) q in
        let there : slice_get c.arrays k ≡ Some (placed_array s.path n a) = subst (λ z. slice_get c.arrays z ≡ Some (placed_array s.path n a)) is (s.arrays i a at) in
        let same : h.array ≡ placed_array s.path n a = same_Some h.array (placed_array s.path n a) (sym h.at ∙ there) in
        let moved : In (map (moved_writing n) a.writings) h.writing = subst (λ (b : LeafArray). In b.writings h.writing) same h.among in
        let w = in_map_from (moved_writing n) a.writings h.writing moved in
        let has = (memories s.scene (scene_among q among)).arrays_typed i a at in
        let t : IsWritingTyped (leafed_module s.scene).leaves a.holds w.0 =
        all_at (IsWritingTyped (leafed_module s.scene).leaves a.holds) a.writings has.writings w.0 w.1 in
        record {
          own = w.0.clock;
          among = ((of_memories s.scene).each i a at).of_writings w.0 w.1;
          is_clock = clock_leaf s.scene w.0.clock t.clock;
          at = ap (λ (z : Writing). z.clock) w.2 ∙ h.clock_is;
        }

    of_pipes : (x : ℕ) → IsPipeIn v q k x → IsPortOf v q memory x
    of_pipes x p =
        let t = pipe_typed v (scene_among q among) q k x p in
        let array_is = p.array_is in
        let own_array : p.own.array ≡ i = omega (arith, array_is, is) in
        record {
          own = p.own_clock;
          among = ((of_memories v).each i a at).of_pipes p.leaf p.own p.own_clock p.under p.is own_array;
          is_clock = clock_leaf v p.own_clock t.1;
          at = p.clock_is;
        }

    -- a pipe of the array is one of the copy
    pipe_here : (x : ℕ) → i < length (leafed_module v).arrays → IsPipeSomewhere k x → IsPipeIn v q k x
    pipe_here x lt p =
        let s : StandsIn scenes c p.copy = stand p.copy p.among in
        let own_lt = pipe_within s.scene (scene_among p.copy p.among) p.copy k x p.here in
        let there : module_of (views scenes) p.copy.module_number ≡ leafed_module s.scene = view_at scenes p.copy.module_number s.scene s.is in
        let here : module_of (views scenes) q.module_number ≡ leafed_module v = view_at scenes q.module_number v (stand q among).is in
        let array_is = p.here.array_is in
        let both : p.copy.array + p.here.own.array ≡ q.array + i = omega (arith, array_is, is) in
        let same : p.copy ≡ q =
        same_copy (views scenes) 0 to ks turn p.copy q p.among among p.here.own.array i
        (subst (λ (u : LeafModule). p.here.own.array < length u.arrays) (sym there) own_lt)
        (subst (λ (u : LeafModule). i < length u.arrays) (sym here) lt) both in
        let scene : s.scene ≡ v = same_Some s.scene v (sym s.is ∙ ap (λ (z : Copy). slice_get scenes z.module_number) same ∙ (stand q among).is) in
        subst (λ (z : Copy). IsPipeIn v z k x) same (subst (λ (u : Scene). IsPipeIn u p.copy k x) scene p.here)

    port_of : (x : ℕ) → i < length (leafed_module v).arrays → IsPortClock net k x → IsPortOf v q memory x
    port_of x lt (of_write b n w at' there') = of_writes w.clock (clocked.writes k n b w at' there')
    port_of x lt (of_pipe y l p at' is' array) =
        of_pipes p.clock
        (pipe_here p.clock lt (subst (λ z. IsPipeSomewhere z p.clock) array (pipe_somewhere p.read.array p.clock (clocked.pipes y l p at' is'))))

    -- two of them whose drivers end, end at one clock input
    same_ends : ((x y one other : ℕ) → In memory.port_clocks x → In memory.port_clocks y → HasClock (leafed_module v) x one
        → HasClock (leafed_module v) y other → one ≡ other)
        → (x y : ℕ) → IsPortOf v q memory x → IsPortOf v q memory y → (e f : ℕ) → EndsAt net x e → EndsAt net y f → e ≡ f
    same_ends one x y px py e f ex ey =
        let s : StandsIn scenes c q = stand q among in
        let own_typed = typed s.scene (scene_among q among) in
        let n = numbers_of (leafed_module s.scene) q in
        let rx = rooted c (leafed_module main).port_leaves net clocked scenes q s own_typed x e ex px.own px.is_clock px.at in
        let ry = rooted c (leafed_module main).port_leaves net clocked scenes q s own_typed y f ey py.own py.is_clock py.at in
        let same : rx.root ≡ ry.root = one px.own py.own rx.root ry.root px.among py.among rx.has ry.has in
        one_end net (number n rx.root) e f rx.ends (subst (λ z. EndsAt net (number n z) f) (sym same) ry.ends)

  pub one_clocks : ((q : Copy) (v : Scene) → In ks q → slice_get scenes q.module_number ≡ Some v → (memory : MemoryDeclared) → In (leafed_module v).memories memory
      → (x y one other : ℕ) → In memory.port_clocks x → In memory.port_clocks y → HasClock (leafed_module v) x one → HasClock (leafed_module v) y other
      → one ≡ other) → HasOneClocks net
  one_clocks one = record { same = same }
    where
      same : (k x y i j : ℕ) → IsPortClock net k x → IsPortClock net k y → EndsAt net x i → EndsAt net y j → i ≡ j
      same k x y e f px py ex ey =
          let inside = port_within k x px in
          let low : 0 ≤ k = omega arith in
          let o = of_copy (views scenes) 0 to ks turn k low (omega (arith, inside, many)) in
          let s : StandsIn scenes c o.copy = stand o.copy o.among in
          let here : module_of (views scenes) o.copy.module_number ≡ leafed_module s.scene = view_at scenes o.copy.module_number s.scene s.is in
          let lt : o.own < length (leafed_module s.scene).arrays = subst (λ (u : LeafModule). o.own < length u.arrays) here o.within in
          let a = there (leafed_module s.scene).arrays o.own lt in
          let of = (of_memories s.scene).each o.own a.0 a.1 in
          same_ends k o.copy o.among o.own o.is a.0 a.1 (one o.copy s.scene o.among s.is of.memory of.among) x y
          (port_of k o.copy o.among o.own o.is a.0 a.1 x lt px)
          (port_of k o.copy o.among o.own o.is a.0 a.1 y lt py) e f ex ey
