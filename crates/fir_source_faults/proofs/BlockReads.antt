-- What the roles of a module's leaves read by number is what those of its tree read by path.
use Rattle.std.proofs.Common.{◌≡◌, ℕ, suc, ◌+◌, List, [], ◌∷◌, ◌++◌, slice_get, Bool, true, false, if◌then◌else◌, Option, Some, None, option_map, refl, sym, ap, ap₂, ◌∙◌, arith, subst}
use Rattle.std.proofs.lemmas.List.{map-append}
use Rattle.fir_base.specs.Lists.{In}
use Rattle.fir_base.proofs.Elements.{beside}
use Rattle.fir_ast.specs.declared.place.Place.{Place}
use Rattle.fir_ast.specs.Types.{DataType, uint, sint, clock, reset, async_reset, bundle, vector}
use Rattle.fir_ast.specs.Circuits.{CircuitTree, PortTree}
use Rattle.fir_ast.specs.Expressions.{Expression}
use Rattle.fir_ast.specs.Statements.{Reset, Statement, wire, register, node, instance, memory, when, connect, partial_connect, invalid, skip, Block, done, then}
use Rattle.fir_meaning.specs.Components as component
use Rattle.fir_meaning.specs.working.Dependence as over
use Rattle.fir_meaning.specs.Equivalence.{alike, same_ground}
use Rattle.fir_meaning.specs.Flows.{flow_under, is_source, port_flow}
use Rattle.fir_meaning.specs.LeafPaths.{LeafPath}
use Rattle.fir_meaning.specs.working.NameGroups.{HasNames}
use Rattle.fir_meaning.specs.ResetJoins.{numbered_module}
use Rattle.fir_meaning.specs.SizedDeclarations.{numbered_modules}
use Rattle.fir_meaning.specs.SourceDependence as tree
use Rattle.fir_meaning.specs.SourceReads as by_path
use Rattle.fir_meaning.specs.working.TermReads.{reads}
use Rattle.fir_meaning.specs.TypeGroup.{type_faults}
use Rattle.fir_meaning.specs.TypeLeaves.{TypeLeaf, ground_leaf, type_leaves}
use Rattle.fir_meaning.specs.TypedScopes.{TypedScope}
use Rattle.fir_meaning.specs.Visibility.{Before, at_head, behind, behind_block, declarations, opened, reopened, with_declaration}
use Rattle.fir_meaning.specs.working.WellTyped.{AreLegal, HasType, IsLegal, MayReset, ResetIsLegal}
use Rattle.fir_meaning.proofs.FoundTypes.{found_type}
use Rattle.fir_meaning.proofs.LeafSteps.{path_of}
use Rattle.fir_meaning.specs.FoundTypes.{leaves_of_data}
use Rattle.fir_meaning.specs.working.Leafed.{first_term, terms}
use Rattle.fir_meaning.specs.working.LeafedBlocks.{term_at}
use Rattle.fir_meaning.specs.working.LeafModules.{LeafDeclared, Role, sink, source}
use Rattle.fir_meaning.specs.LeafTypes.{LeafType}
use Rattle.fir_meaning.specs.working.LeafModules as role
use Rattle.fir_meaning.specs.ModuleScenes.{Declared, Scene, behind_all_ports, held_by_declared, scope_before, type_of_declared}
use Rattle.fir_meaning.specs.working.LeafedModules.{arrays_in, arrays_in_block, declared_leaves, instance_place, instance_role, leaf_reset, leaves_from, leaves_in, leaves_in_block, leaves_of_ports, module_leaves, port_role, register_role}
use Rattle.fir_meaning.specs.AsyncResets.{is_async_reset}
use Rattle.fir_meaning.specs.SourceRoles as sources
use Rattle.fir_meaning.specs.SourceRoles.{SourceLeaf, SourceRole, declared_sources, source_leaves, source_leaves_of, source_port_role, source_reset, sources_in, sources_in_block, sources_of_ports}
use Rattle.fir_meaning.specs.working.Terms.{Term}
use Rattle.fir_leaf.specs.working.LeafLaws.{Begins}
use Rattle.fir_leaf.proofs.AlikeTypes.{alike_types}
use Rattle.fir_leaf.proofs.DeclaredLeaves.{own_module}
use Rattle.fir_leaf.proofs.ScopesBegin.{begins_behind, begins_block, begins_through}
use Rattle.fir_design.proofs.CountedBlocks.{block_counted, statement_counted}
use Rattle.fir_design.proofs.FineScenes.{fine_scene}
use Rattle.fir_design.proofs.ListsInStep.{AreInStep, step_joined}
use Rattle.fir_design.proofs.MemoryRoles.{memory_leaves_same}
use Rattle.fir_design.proofs.PlacedBlocks.{IsPlaced, body_placed, first_placed, memory_at, second_placed}
use Rattle.fir_design.proofs.SourceInstances.{grows_before}
use Rattle.fir_source_faults.specs.working.ReadsByPath.{ReadsByPath, paths_in, scope_of_module}
use Rattle.fir_source_faults.proofs.MemoryKinds.{SameLeafReads, memory_reads}
use Rattle.fir_source_faults.proofs.RoleReads.{init_reads, path_inits, path_reads, path_reset_inits, reset_inits, role_reads}

first_there : (ts : List Term) → term_at ts 0 ≡ first_term ts
first_there [] = refl
first_there (t ∷ ts) = refl

-- what may reset has one leaf
reset_leaf : (t : DataType) → MayReset t → type_leaves t ≡ ground_leaf t
reset_leaf (uint width) h = refl
reset_leaf reset h = refl
reset_leaf async_reset h = refl
reset_leaf (sint width) h = absurd (cc)
reset_leaf clock h = absurd (cc)
reset_leaf (bundle fs) h = absurd (cc)
reset_leaf (vector u n) h = absurd (cc)

module _ (s : Scene) where
  abbrev pub AreRead : List LeafDeclared → List SourceLeaf → Type 0
  AreRead = AreInStep (SameLeafReads s)

  from_read : (d : Declared) (place : TypeLeaf → Place) (role_of : ℕ → TypeLeaf → Role) (tree_role : TypeLeaf → SourceRole)
      (k : ℕ) (ls : List TypeLeaf) (hs : List LeafType)
      → ((j : ℕ) (l : TypeLeaf) → slice_get ls j ≡ Some l → paths_in s (role_reads (role_of (k + j) l)) ≡ path_reads (tree_role l))
      → ((j : ℕ) (l : TypeLeaf) → slice_get ls j ≡ Some l → paths_in s (init_reads (role_of (k + j) l)) ≡ path_inits (tree_role l))
      → AreRead (leaves_from d place role_of k ls hs) (source_leaves_of d.named.name tree_role ls hs)
  from_read d place role_of tree_role k [] hs h g = tt
  from_read d place role_of tree_role k (l ∷ ls) [] h g = tt
  from_read d place role_of tree_role k (l ∷ ls) (t ∷ hs) h g =
      let first : k + 0 ≡ k = omega arith in
      let own : paths_in s (role_reads (role_of k l)) ≡ path_reads (tree_role l) = rw first at (h 0 l refl) in
      let start : paths_in s (init_reads (role_of k l)) ≡ path_inits (tree_role l) = rw first at (g 0 l refl) in (
        record { reads = own; inits = start },
        from_read d place role_of tree_role (suc k) ls hs (λ j x e. let next : suc k + j ≡ k + suc j = omega arith in rw next (h (suc j) x e))
            (λ j x e. let next : suc k + j ≡ k + suc j = omega arith in rw next (g (suc j) x e)),
      )

  declared_read : (d : Declared) (place : TypeLeaf → Place) (role_of : ℕ → TypeLeaf → Role) (source_of : TypeLeaf → SourceRole)
      → ((k : ℕ) (l : TypeLeaf) → slice_get (leaves_of_data (type_of_declared s d)) k ≡ Some l
      → paths_in s (role_reads (role_of k l)) ≡ path_reads (source_of l))
      → ((k : ℕ) (l : TypeLeaf) → slice_get (leaves_of_data (type_of_declared s d)) k ≡ Some l
      → paths_in s (init_reads (role_of k l)) ≡ path_inits (source_of l))
      → AreRead (declared_leaves s d place role_of) (declared_sources s d.before d.named d.component source_of)
  declared_read d place role_of source_of h g =
      from_read d place role_of source_of 0 (leaves_of_data (type_of_declared s d)) (held_by_declared s d)
      (λ k l e. let none : 0 + k ≡ k = omega arith in rw none (h k l e)) (λ k l e. let none : 0 + k ≡ k = omega arith in rw none (g k l e))

  source_or_sink : (b : Bool) → paths_in s (role_reads (if b then source else sink)) ≡ path_reads (if b then sources.source else sources.sink)
  source_or_sink true = refl
  source_or_sink false = refl

  sink_or_source : (b : Bool) → paths_in s (role_reads (if b then sink else source)) ≡ path_reads (if b then sources.sink else sources.source)
  sink_or_source true = refl
  sink_or_source false = refl

  source_or_sink_init : (b : Bool) → paths_in s (init_reads (if b then source else sink)) ≡ path_inits (if b then sources.source else sources.sink)
  source_or_sink_init true = refl
  source_or_sink_init false = refl

  sink_or_source_init : (b : Bool) → paths_in s (init_reads (if b then sink else source)) ≡ path_inits (if b then sources.sink else sources.source)
  sink_or_source_init true = refl
  sink_or_source_init false = refl

  pub ports_read : (ps : List PortTree) (before : Before) → AreRead (leaves_of_ports s before ps) (sources_of_ports s before ps)
  ports_read [] before = tt
  ports_read (p ∷ ps) before =
      let c = component.port p.direction p.data_type in
      let next = with_declaration before p.named c in
      let d : Declared = record { named = p.named; component = c; before = before } in
      step_joined (SameLeafReads s) (declared_leaves s d (λ l. p.named.place) (λ k l. port_role p.direction l)) (leaves_of_ports s next ps)
      (declared_sources s before p.named c (source_port_role s p.direction)) (sources_of_ports s next ps)
      (declared_read d (λ l. p.named.place) (λ k l. port_role p.direction l) (source_port_role s p.direction)
      (λ k l e. source_or_sink (is_source (flow_under l.flip (port_flow p.direction))))
      (λ k l e. source_or_sink_init (is_source (flow_under l.flip (port_flow p.direction)))))
      (ports_read ps next)

  module _ (by : ReadsByPath s) (scope : TypedScope) (begins : Begins scope (scope_of_module s)) where
    -- of a type that has one leaf
    one_read : (e : Expression) (t : DataType) → HasType scope e t → type_leaves t ≡ ground_leaf t
        → paths_in s (reads (first_term (terms scope e))) ≡ by_path.reads scope e []
    one_read e t h one =
        subst (λ x. paths_in s (reads x) ≡ by_path.reads scope e []) (first_there (terms scope e))
        (by.expression scope e t 0 (record { path = []; flip = false; ground_type = t }) begins h (ap (λ ls. slice_get ls 0) one))

    -- an init has the leaves of its register
    init_read : (e : Expression) (t u : DataType) (k : ℕ) (l : TypeLeaf) → HasType scope e u → alike same_ground t u ≡ true
        → slice_get (type_leaves t) k ≡ Some l → paths_in s (reads (term_at (terms scope e) k)) ≡ by_path.reads scope e l.path
    init_read e t u k l h alike i =
        let one = beside path_of path_of (type_leaves u) (type_leaves t) (sym (alike_types same_ground t u alike).path) k l i in
        subst (λ q. paths_in s (reads (term_at (terms scope e) k)) ≡ by_path.reads scope e q) one.2 (by.expression scope e u k one.0 begins h one.1)

    joined_read : (xs ys : List ℕ) (ps qs : List LeafPath) → paths_in s xs ≡ ps → paths_in s ys ≡ qs → paths_in s (xs ++ ys) ≡ ps ++ qs
    joined_read xs ys ps qs h k = map-append _ xs ys ∙ ap₂ (λ a b. a ++ b) h k

    async_read : (b : Bool) (c i : Term) (e d : Expression) (q : LeafPath) → paths_in s (reads c) ≡ by_path.reads scope e []
        → paths_in s (reads i) ≡ by_path.reads scope d q
        → paths_in s (over.reads_if b (record { is_async = b; condition = c; init = i }))
        ≡ tree.reads_if b (record { scope = scope; is_async = b; condition = e; init = d }) q
    async_read true c i e d q h k = joined_read (reads c) (reads i) (by_path.reads scope e []) (by_path.reads scope d q) h k
    async_read false c i e d q h k = refl

    reset_read : (t : DataType) (r : Option Reset) (k : ℕ) (l : TypeLeaf) → ResetIsLegal scope t r → slice_get (type_leaves t) k ≡ Some l
        → paths_in s (over.reset_reads (option_map (leaf_reset s.is_async scope k) r)) ≡ tree.reset_reads (option_map (source_reset s scope) r) l.path
    reset_read t None k l h i = refl
    reset_read t (Some r) k l h i =
        async_read (is_async_reset s.is_async scope r.condition) (first_term (terms scope r.condition)) (term_at (terms scope r.init) k) r.condition r.init
        l.path (one_read r.condition h.0 h.2 (reset_leaf h.0 h.3)) (init_read r.init t h.1 k l h.4 h.5 i)

    reset_init : (t : DataType) (r : Option Reset) (k : ℕ) (l : TypeLeaf) → ResetIsLegal scope t r → slice_get (type_leaves t) k ≡ Some l
        → paths_in s (reset_inits (option_map (leaf_reset s.is_async scope k) r)) ≡ path_reset_inits (option_map (source_reset s scope) r) l.path
    reset_init t None k l h i = refl
    reset_init t (Some r) k l h i = init_read r.init t h.1 k l h.4 h.5 i

module _ (c : CircuitTree) (s : Scene) (names : HasNames c) (types : type_faults c ≡ []) (i : In (numbered_modules c) s.own) (by : ReadsByPath s) where
  abbrev none : s.own.start.scope ≡ []
  none = (own_module c s.own i).start

  mutual
    statement_read : (x : Statement) (before : Before)
        → IsPlaced s before.declared (behind before x).declared (leaves_in s before x) (arrays_in s before x)
        → IsLegal s.own.modules before x → AreRead s (leaves_in s before x) (sources_in s before x)
    statement_read (wire p n begins t) before placed h =
        declared_read s (record { named = n; component = component.wire t; before = before }) (λ l. n.place) (λ k l. sink) (λ l. sources.sink)
        (λ k l e. refl) (λ k l e. refl)
    statement_read (register p n begins t e r) before placed h =
        let d : Declared = record { named = n; component = component.register t; before = before } in
        let scope = scope_before s before in
        let inside = with_declaration before n (component.register t) in
        declared_read s d (λ l. n.place) (register_role s before n t e r)
        (λ l. sources.register scope e (option_map (source_reset s (scope_before s inside)) r) l.path)
        (λ k l is. reset_read s by (scope_before s inside) placed.begins t r k l h.3 is)
        (λ k l is. reset_init s by (scope_before s inside) placed.begins t r k l h.3 is)
    statement_read (node p n e) before placed h =
        let d : Declared = record { named = n; component = component.node e; before = before } in
        let scope = scope_before s before in
        let first = begins_through scope (scope_before s (behind before (node p n e))) (scope_of_module s)
        (begins_behind s.own.modules (node p n e) before) placed.begins in
        declared_read s d (λ l. n.place) (λ k l. role.computed (term_at (terms scope e) k)) (λ l. sources.computed scope e l.path)
        (λ k l is.
        by.expression scope e h.0 k l first h.1
        (ap (λ o. slice_get (leaves_of_data o) k) (sym (ap (λ x. x.has) (found_type scope e h.0 h.1))) ∙ is)) (λ k l is. refl)
    statement_read (instance p n other) before placed h =
        declared_read s (record { named = n; component = component.instance other.name; before = before })
        (instance_place n (numbered_module 0 s.own.modules other.name)) instance_role (λ l. if l.flip then sources.sink else sources.source)
        (λ k l e. sink_or_source s l.flip) (λ k l e. sink_or_source_init s l.flip)
    statement_read (memory p n parts) before placed h =
        let d : Declared = record { named = n; component = component.memory parts; before = before } in
        memory_reads s n.name parts (leaves_of_data (type_of_declared s d)) (held_by_declared s d) (leaves_in s before (memory p n parts))
        (memory_leaves_same c s names types i before p n parts (memory_at s before p n parts h placed))
    statement_read (when p e a b) before placed h =
        let first = opened before in
        let inside = behind_block first a in
        let second = reopened before inside in
        let after = behind_block second b in
        let begins = begins_through (scope_before s inside) (scope_before s after) (scope_of_module s)
        (begins_block s.own.modules b second) placed.begins in
        step_joined (SameLeafReads s) (leaves_in_block s first a) (leaves_in_block s second b) (sources_in_block s first a) (sources_in_block s second b)
        (block_read a first
        (first_placed s before.declared inside.declared after.declared (leaves_in_block s first a) (leaves_in_block s second b)
        (arrays_in_block s first a) (arrays_in_block s second b) (grows_before second b (declarations s.own.inside) placed.grows) begins placed) h.2)
        (block_read b second
        (second_placed s before.declared inside.declared after.declared (leaves_in_block s first a) (leaves_in_block s second b)
        (arrays_in_block s first a) (arrays_in_block s second b) (block_counted s none a first) placed) h.3)
    statement_read (connect p d e) before placed h = tt
    statement_read (partial_connect p d e) before placed h = tt
    statement_read (invalid p d) before placed h = tt
    statement_read (skip p) before placed h = tt

    block_read : (b : Block) (before : Before)
        → IsPlaced s before.declared (behind_block before b).declared (leaves_in_block s before b) (arrays_in_block s before b)
        → AreLegal s.own.modules before b → AreRead s (leaves_in_block s before b) (sources_in_block s before b)
    block_read done before placed h = tt
    block_read ((then) x b) before placed h =
        let next = behind before x in
        let here = begins_through (scope_before s next) (scope_before s (behind_block next b)) (scope_of_module s)
        (begins_block s.own.modules b next) placed.begins in
        step_joined (SameLeafReads s) (leaves_in s before x) (leaves_in_block s next b) (sources_in s before x) (sources_in_block s next b)
        (statement_read x before
        (first_placed s before.declared next.declared (behind_block next b).declared (leaves_in s before x) (leaves_in_block s next b)
        (arrays_in s before x) (arrays_in_block s next b) (grows_before next b (declarations s.own.inside) placed.grows) here placed) h.0)
        (block_read b next
        (second_placed s before.declared next.declared (behind_block next b).declared (leaves_in s before x) (leaves_in_block s next b)
        (arrays_in s before x) (arrays_in_block s next b) (statement_counted s none x before) placed) h.1)

  -- all leaves that are no ports, and all leaves
  pub inner_read : AreRead s (leaves_in_block s (behind_all_ports s.own.inside) s.own.inside.body)
      (sources_in_block s (behind_all_ports s.own.inside) s.own.inside.body)
  inner_read =
      block_read s.own.inside.body (behind_all_ports s.own.inside) (body_placed s none) (fine_scene c s names types i).legal

  pub module_read : AreRead s (module_leaves s) (source_leaves s)
  module_read =
      step_joined (SameLeafReads s) (leaves_of_ports s at_head s.own.inside.ports)
      (leaves_in_block s (behind_all_ports s.own.inside) s.own.inside.body) (sources_of_ports s at_head s.own.inside.ports)
      (sources_in_block s (behind_all_ports s.own.inside) s.own.inside.body) (ports_read s s.own.inside.ports at_head) inner_read
