-- The clock leaves of a memory's ports stand where the memory is declared, and hold clocks.
use Rattle.std.proofs.Common.{◌≡◌, ℕ, List, [], ◌∷◌, Bool, flat_map, length, slice_get, Some, option_map, refl, sym, ap, ◌∙◌, subst, inl, inr, append_assoc, append-nil}
use Rattle.std.specs.List.{AllByRecursion}
use Rattle.std.proofs.lemmas.Option.{same_Some, slice_get-map}
use Rattle.fir_base.specs.Lists.{Distinct, In}
use Rattle.fir_base.proofs.Each.{all_joined}
use Rattle.fir_base.proofs.Elements.{get_behind, get_in}
use Rattle.fir_base.proofs.Members.{in_map, in_map_from}
use Rattle.fir_ast.specs.Circuits.{CircuitTree}
use Rattle.fir_ast.specs.Statements.{Block, MemoryPart, PlacedName, Statement, connect, done, instance, invalid, memory, node, partial_connect, register, skip, then, when, wire}
use Rattle.fir_meaning.specs.Components.{Component, Declaration, Declarations, find}
use Rattle.fir_meaning.specs.Components as component
use Rattle.fir_meaning.specs.LeafPaths.{LeafPath}
use Rattle.fir_meaning.specs.ModuleScenes.{Scene, behind_all_ports}
use Rattle.fir_meaning.specs.SizedDeclarations.{numbered_modules}
use Rattle.fir_meaning.specs.SourceFacts.{place_of_leaf, place_where, source_may_drive, source_place}
use Rattle.fir_meaning.specs.SourceMemoryClocks.{clock_of_port}
use Rattle.fir_meaning.specs.SourceRoles.{NamedPort, ports_of_part}
use Rattle.fir_meaning.specs.TypeGroup.{type_faults}
use Rattle.fir_meaning.specs.Visibility.{Before, behind, behind_block, declaration_at, declarations, opened, reopened, with_declaration}
use Rattle.fir_meaning.specs.working.LeafMemories.{memory_declared}
use Rattle.fir_meaning.specs.working.LeafModules.{MemoryDeclared}
use Rattle.fir_meaning.specs.working.LeafedModules.{leafed_module, memories_in, memories_in_block, memory_before}
use Rattle.fir_meaning.specs.working.NameGroups.{HasNames}
use Rattle.fir_meaning.proofs.FoundDeclarations.{Once, once_found}
use Rattle.fir_leaf.specs.working.ClockRoots.{IsClockLeaf}
use Rattle.fir_leaf.specs.working.ModuleCircuits.{module_circuit}
use Rattle.fir_design.proofs.DeclaredInstances.{Grows}
use Rattle.fir_design.proofs.FineScenes.{IsFineScene, fine_scene}
use Rattle.fir_design.proofs.KnownDeclarations.{known_names}
use Rattle.fir_design.proofs.SourceInstances.{grows_before}
use Rattle.fir_source_faults.specs.working.ReadsByPath.{path_in}
use Rattle.fir_source_faults.proofs.DeclaredPlaces.{source_place_is}
use Rattle.fir_design_faults.proofs.MemoryVisits.{module_match}
use Rattle.fir_memory_clocks.specs.working.ModuleMemories.{IsNamedMemory}

module _ (s : Scene) (all : Declarations) where
  -- what is declared there is a memory
  record DeclaredMemory (mem : MemoryDeclared) : Type 0 where
    declaration : Declaration
    at : slice_get all mem.declaration ≡ Some declaration
    parts : List MemoryPart
    is_memory : declaration.component ≡ component.memory parts

  memory_there : (before : Before) (n : PlacedName) (parts : List MemoryPart) → Grows (with_declaration before n (component.memory parts)).declared all
      → DeclaredMemory (memory_declared (memory_before s before n parts))
  memory_there before n parts g =
      let own = declaration_at before n (component.memory parts) in
      record {
        declaration = own;
        at =
            ap (λ ds. slice_get ds (length before.declared)) (sym g.1 ∙ append_assoc before.declared (own ∷ []) g.0)
            ∙ get_behind before.declared g.0 own;
        parts = parts;
        is_memory = refl;
      }

  mutual
    statement_memories : (x : Statement) (before : Before) → Grows (behind before x).declared all → AllByRecursion DeclaredMemory (memories_in s before x)
    statement_memories (memory p n parts) before g = (memory_there before n parts g, tt)
    statement_memories (when p e a b) before g =
        let first = opened before in
        let second = reopened before (behind_block first a) in
        all_joined DeclaredMemory (memories_in_block s first a) (memories_in_block s second b)
        (block_memories a first (grows_before second b all g)) (block_memories b second g)
    statement_memories (wire p n begins t) before g = tt
    statement_memories (register p n begins t c r) before g = tt
    statement_memories (node p n e) before g = tt
    statement_memories (instance p n other) before g = tt
    statement_memories (connect p d e) before g = tt
    statement_memories (partial_connect p d e) before g = tt
    statement_memories (invalid p d) before g = tt
    statement_memories (skip p) before g = tt

    block_memories : (b : Block) (before : Before) → Grows (behind_block before b).declared all → AllByRecursion DeclaredMemory (memories_in_block s before b)
    block_memories done before g = tt
    block_memories ((then) x b) before g =
        let next = behind before x in
        all_joined DeclaredMemory (memories_in s before x) (memories_in_block s next b)
        (statement_memories x before (grows_before next b all g)) (block_memories b next g)

all_in : {A : Type 0} (P : A → Type 0) (xs : List A) (x : A) → AllByRecursion P xs → In xs x → P x
all_in P [] x h i = absurd i
all_in P (y ∷ xs) x h (inl e) = subst P e h.0
all_in P (y ∷ xs) x h (inr i) = all_in P xs x h.1 i

module _ (c : CircuitTree) (s : Scene) (names : HasNames c) (types : type_faults c ≡ []) (i : In (numbered_modules c) s.own) where
  abbrev all : Declarations
  all = declarations s.own.inside

  fine : IsFineScene s
  fine = fine_scene c s names types i

  once : Once (declarations s.own.inside)
  once = record { once = subst Distinct (known_names s.own.modules (declarations s.own.inside)) fine.fine.names }

  declared_there : (mem : MemoryDeclared) → In (leafed_module s).memories mem → DeclaredMemory s (declarations s.own.inside) mem
  declared_there mem among =
      let head = behind_all_ports s.own.inside in
      let body = s.own.inside.body in
      all_in (DeclaredMemory s all) (leafed_module s).memories mem (block_memories s all body head ([], append-nil all)) among

  -- a path that begins with the name of a memory is that of a leaf of the memory
  place_of_port : (d : Declaration) → In (declarations s.own.inside) d → (parts : List MemoryPart) → d.component ≡ component.memory parts → (name : PlacedName)
      → d.named ≡ name → (p : NamedPort) → source_place s (clock_of_port name p) ≡ name.place
  place_of_port d among parts is name named p =
      let found : find (declarations s.own.inside) name.name ≡ Some d =
      subst (λ (n : PlacedName). find (declarations s.own.inside) n.name ≡ Some d) named (once_found (declarations s.own.inside) once d among) in
      let path = clock_of_port name p in
      let driven = source_may_drive s path in
      ap (λ o. place_where s.own.modules driven o (rest_of path)) found ∙ by driven (rest_of path) is ∙ ap (λ (n : PlacedName). n.place) named
    where
      rest_of : LeafPath → LeafPath
      rest_of [] = []
      rest_of (x ∷ xs) = xs

      by : (driven : Bool) (rest : LeafPath) → d.component ≡ component.memory parts → place_of_leaf s.own.modules driven d.named.place d.component rest ≡ d.named.place
      by driven rest e = ap (λ z. place_of_leaf s.own.modules driven d.named.place z rest) e

  pub named_memory : (mem : MemoryDeclared) → In (leafed_module s).memories mem → (name : PlacedName) × IsNamedMemory (leafed_module s) mem name
  named_memory mem among =
      let o = (module_match c s names types i).to mem among in
      let d = declared_there mem among in
      let is_there : slice_get (leafed_module s).declared mem.declaration ≡ Some d.declaration.named =
      slice_get-map (λ (x : Declaration). x.named) all mem.declaration ∙ ap (option_map (λ (x : Declaration). x.named)) d.at in
      let named : d.declaration.named ≡ o.name = same_Some d.declaration.named o.name (sym is_there ∙ o.match.declared) in
      let leaves : (x : ℕ) → In mem.port_clocks x → IsClockLeaf (module_circuit (leafed_module s)) x =
      λ x j. all_in (IsClockLeaf (module_circuit (leafed_module s))) mem.port_clocks x o.match.are j in (
        o.name,
        record {
          is_name = o.match.declared;
          clocks = leaves;
          places = λ x j.
              let lt = (leaves x j).within in
              let from =
              in_map_from (clock_of_port o.name) (flat_map ports_of_part o.parts) (path_in s x)
              (subst (λ ys. In ys (path_in s x)) o.match.clocks (in_map (path_in s) mem.port_clocks x j)) in
              sym (source_place_is s fine x lt) ∙ ap (source_place s) (sym from.2)
              ∙ place_of_port d.declaration (get_in all mem.declaration d.declaration d.at) d.parts d.is_memory o.name named from.0;
        },
      )
