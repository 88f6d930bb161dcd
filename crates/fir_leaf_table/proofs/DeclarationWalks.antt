-- The walk over one declaration, of any kind.
use Rattle.std.proofs.Common.{◌≡◌, ℕ, ◌+◌, List, [], ◌++◌, map, length, Option, Some, None, Vec, Global, sym, ap, ◌∙◌, arith, append-nil, length-append}
use Rattle.std.specs.Prelude.{slice_get}
use Rattle.std.proofs.lemmas.List.{length-map, length_push}
use Rattle.fir_ast.specs.declared.place.Place.{Place}
use Rattle.fir_ast.specs.Circuits.{CircuitTree}
use Rattle.fir_ast.specs.Statements.{PlacedName}
use Rattle.fir_ast.specs.Types.{DataType}
use Rattle.fir_meaning.specs.Components.{Component}
use Rattle.fir_meaning.specs.Costs.{leaves_where}
use Rattle.fir_meaning.specs.TypeLeaves.{TypeLeaf, type_leaves}
use Rattle.fir_meaning.specs.Visibility.{Before, declaration_at, declarations, with_declaration}
use Rattle.fir_types.specs.working.Walked.{Begins}
use Rattle.fir_ground.specs.working.DeclarationDrivers.{DriverMeant, drivers_seen}
use Rattle.fir_leaf.specs.declared.node.Node.{Node}
use Rattle.fir_meaning.specs.ModuleScenes.{Declared, Scene, held_by_declared, type_of_declared}
use Rattle.fir_meaning.specs.working.LeafedModules.{declared_leaves, leaves_from}
use Rattle.fir_meaning.specs.working.LeafMemories.{arrays_of}
use Rattle.fir_meaning.specs.FoundTypes.{leaves_of_data}
use Rattle.fir_meaning.specs.working.LeafModules.{LeafArray, MemoryDeclared, Role}
use Rattle.fir_meaning.specs.LeafTypes.{LeafType}
use Rattle.fir_leaf_circuit.specs.declared.array.LeafArray.{LeafArray as ArrayOfCode}
use Rattle.fir_leaf_table.specs.declared.frame.Frame.{Frame}
use Rattle.fir_leaf_table.specs.declared.giver.Giver.{Giver}
use Rattle.fir_leaf_circuit.specs.declared.leaf.Leaf.{Leaf}
use Rattle.fir_leaf_circuit.specs.declared.leaf_module.MemoryClocks.{MemoryClocks}
use Rattle.fir_leaf_table.specs.declared.places.Places.{Places}
use Rattle.fir_leaf_table.specs.declared.walk.Walk.{Walk}
use Rattle.fir_leaf_table.specs.working.Givers.{given_from}
use Rattle.fir_leaf_table.specs.working.PushedLeaves.{PushesLeaves}
use Rattle.fir_leaf_circuit.specs.working.Seen.{array_seen, leaf_seen, leaves_seen, memory_seen, unnamed, unnamed_array}
use Rattle.fir_leaf_table.specs.working.TypedLeaves.{AreLeavesOf}
use Rattle.fir_leaf_table.specs.working.Walks.{ComesBehind, EntersAt}
use Rattle.fir_leaf_table.proofs.CountedDeclarations.{arrays_more, leaves_more}
use Rattle.fir_leaf_table.proofs.GivenLeaves.{Agrees, given_is, given_long, many_leaves}

-- the driver is taken, and the arrays and memories have come
pub record IsReady (component : Component) (nodes : List Node) (rest : List DriverMeant) (more_arrays : List LeafArray)
    (more_memories : List MemoryDeclared) (old new : Walk) : Type 0 where
  pub declared : new.declared ≡ old.declared
  pub leaves : new.leaves ≡ old.leaves
  pub no_node : new.no_node ≡ old.no_node
  pub drivers : drivers_seen nodes new.drivers.now ≡ rest
  pub arrays : map array_seen new.arrays.items ≡ map array_seen old.arrays.items ++ map unnamed_array more_arrays
  pub many : length more_arrays ≡ arrays_of component
  pub memories : map memory_seen new.memories.items ≡ map memory_seen old.memories.items ++ more_memories

-- what has no arrays and is no memory
pub ready_by : (component : Component) (nodes : List Node) (rest : List DriverMeant) (old new : Walk) → arrays_of component ≡ 0
    → new ≡ record old { drivers = new.drivers } → drivers_seen nodes new.drivers.now ≡ rest → IsReady component nodes rest [] [] old new
ready_by component nodes rest old new none stays drivers = record {
  declared = ap (λ (w : Walk). w.declared) stays;
  leaves = ap (λ (w : Walk). w.leaves) stays;
  no_node = ap (λ (w : Walk). w.no_node) stays;
  drivers = drivers;
  arrays = ap (λ (w : Walk). map array_seen w.arrays.items) stays ∙ sym (append-nil (map array_seen old.arrays.items));
  many = sym none;
  memories = ap (λ (w : Walk). map memory_seen w.memories.items) stays ∙ sym (append-nil (map memory_seen old.memories.items));
}

module _ (frame : Frame) (c : CircuitTree) (s : Scene) (before : Before) (n : PlacedName) (component : Component) (nodes : List Node)
    (drivers rest : List DriverMeant) (depth : ℕ) (places : Places) (gives : Giver) (place : TypeLeaf → Place) (role_of : ℕ → TypeLeaf → Role)
    (arrays : List LeafArray) (memories : List MemoryDeclared) (old mid new : Walk) where
  abbrev here : Declared
  here = record { named = n; component = component; before = before }

  module _ (enters : EntersAt frame c s before nodes drivers depth old) (begins : Begins (with_declaration before n component).declared (declarations s.own.inside))
      (ready : IsReady component nodes rest arrays memories old mid) (pushes : PushesLeaves frame depth places gives mid new)
      (agree : (k : ℕ) (l : TypeLeaf) → slice_get (leaves_of_data (type_of_declared s here)) k ≡ Some l → Agrees nodes places gives place role_of k l) where
    counted : mid.declared ≡ length before.declared
    counted = ready.declared ∙ enters.counts.declared

    are : AreLeavesOf pushes.leaves (type_of_declared s here) (held_by_declared s here)
    are = pushes.are c s before n component enters.frames (record { begins = begins; counted = counted })

    no_node : mid.no_node ≡ length nodes
    no_node = ready.no_node ∙ enters.no_node

    given : given_from nodes (length before.declared) before.depth places gives 0 pushes.leaves ≡ map unnamed (declared_leaves s here place role_of)
    given = by (type_of_declared s here) (held_by_declared s here) are agree
      where
        by : (t : Option DataType) (hs : List LeafType) → AreLeavesOf pushes.leaves t hs
            → ((k : ℕ) (l : TypeLeaf) → slice_get (leaves_of_data t) k ≡ Some l → Agrees nodes places gives place role_of k l)
            → given_from nodes (length before.declared) before.depth places gives 0 pushes.leaves
            ≡ map unnamed (leaves_from here place role_of 0 (leaves_of_data t) hs)
        by None hs a agree = ap (given_from nodes (length before.declared) before.depth places gives 0) a
        by (Some t) hs a agree =
            given_is nodes here places gives place role_of 0 pushes.leaves (type_leaves t) hs a.0 a.1
            (λ j l e. let first : 0 + j ≡ j = omega arith in rw first (agree j l e))

    added_is : given_from nodes mid.declared depth places gives 0 pushes.leaves ≡ map unnamed (declared_leaves s here place role_of)
    added_is =
        ap (λ k. given_from nodes k depth places gives 0 pushes.leaves) counted
        ∙ ap (λ k. given_from nodes (length before.declared) k places gives 0 pushes.leaves) enters.deep ∙ given

    pushed : leaves_seen nodes new.leaves.items ≡ leaves_seen nodes old.leaves.items ++ given_from nodes mid.declared depth places gives 0 pushes.leaves
    pushed =
        pushes.pushed nodes no_node
        ∙ ap (λ (v : Vec Leaf Global). leaves_seen nodes v.items ++ given_from nodes mid.declared depth places gives 0 pushes.leaves) ready.leaves

    many : length new.leaves.items ≡ length old.leaves.items + leaves_where (type_of_declared s here)
    many =
        omega (
          arith,
          length-map new.leaves.items (leaf_seen nodes),
          ap length pushed,
          length-append (leaves_seen nodes old.leaves.items) (given_from nodes mid.declared depth places gives 0 pushes.leaves),
          length-map old.leaves.items (leaf_seen nodes),
          given_long nodes mid.declared depth places gives 0 pushes.leaves,
          many_leaves pushes.leaves (type_of_declared s here) (held_by_declared s here) are,
        )

    many_arrays : length new.arrays.items ≡ length old.arrays.items + arrays_of component
    many_arrays =
        omega (
          arith,
          ap (λ (v : Vec ArrayOfCode Global). length v.items) pushes.arrays,
          length-map mid.arrays.items array_seen,
          ap length ready.arrays,
          length-append (map array_seen old.arrays.items) (map unnamed_array arrays),
          length-map old.arrays.items array_seen,
          length-map arrays unnamed_array,
          ready.many,
        )

    pub leaves_come : ComesBehind s (with_declaration before n component) nodes rest (declared_leaves s here place role_of) arrays memories old new
    leaves_come = record {
      counts = record {
        declared = pushes.counted ∙ ap (λ k. k + 1) counted ∙ sym (length_push before.declared (declaration_at before n component));
        leaves = many ∙ ap (λ k. k + leaves_where (type_of_declared s here)) enters.counts.leaves ∙ sym (leaves_more s.own.modules before n component);
        arrays = many_arrays ∙ ap (λ k. k + arrays_of component) enters.counts.arrays ∙ sym (arrays_more before n component);
      };
      no_node = pushes.no_node ∙ ready.no_node;
      drivers = ap (λ ds. drivers_seen nodes ds.now) pushes.drivers ∙ ready.drivers;
      leaves = pushed ∙ ap (λ ls. leaves_seen nodes old.leaves.items ++ ls) added_is;
      arrays = ap (λ (v : Vec ArrayOfCode Global). map array_seen v.items) pushes.arrays ∙ ready.arrays;
      memories = ap (λ (v : Vec MemoryClocks Global). map memory_seen v.items) pushes.memories ∙ ready.memories;
    }
