-- The leaves and the arrays that ports, statements and blocks declare have the roles that the tree gives.
use Rattle.std.proofs.Common.{◌≡◌, List, [], ◌∷◌, slice_get, Bool, true, false, if◌then◌else◌, option_map, refl, sym, ap, ◌∙◌}
use Rattle.fir_base.specs.Lists.{In}
use Rattle.fir_ast.specs.Types.{clock}
use Rattle.fir_ast.specs.Circuits.{CircuitTree, PortTree}
use Rattle.fir_ast.specs.Statements.{Statement, wire, register, node, instance, memory, when, connect, partial_connect, invalid, skip, Block, done, then}
use Rattle.fir_meaning.specs.Components as component
use Rattle.fir_meaning.specs.Flows.{flow_under, is_source, port_flow}
use Rattle.fir_meaning.specs.working.NameGroups.{HasNames}
use Rattle.fir_meaning.specs.ResetJoins.{numbered_module}
use Rattle.fir_meaning.specs.SizedDeclarations.{numbered_modules}
use Rattle.fir_meaning.specs.TypeGroup.{type_faults}
use Rattle.fir_meaning.specs.Visibility.{Before, behind, behind_block, declarations, opened, reopened, with_declaration}
use Rattle.fir_meaning.specs.working.WellTyped.{AreLegal, IsLegal}
use Rattle.fir_meaning.proofs.FoundTypes.{found_type}
use Rattle.fir_meaning.specs.FoundTypes.{leaves_of_data}
use Rattle.fir_meaning.specs.working.Leafed.{terms}
use Rattle.fir_meaning.specs.working.LeafedBlocks.{term_at}
use Rattle.fir_meaning.specs.working.LeafModules.{LeafArray, LeafDeclared, sink, source}
use Rattle.fir_meaning.specs.working.LeafModules as role
use Rattle.fir_meaning.specs.ModuleScenes.{Declared, Scene, scope_before}
use Rattle.fir_meaning.specs.working.LeafedModules.{arrays_in, arrays_in_block, instance_place, instance_role, leafed_module, leaves_in, leaves_in_block, leaves_of_ports, module_leaves, port_role, register_role}
use Rattle.fir_leaf.proofs.DeclaredLeaves.{own_module}
use Rattle.fir_leaf.proofs.ScopesBegin.{begins_behind, begins_block, begins_through}
use Rattle.fir_design.specs.working.SameRoles.{SameRole}
use Rattle.fir_meaning.specs.SourceRoles as tree
use Rattle.fir_meaning.specs.SourceRoles.{source_arrays_in, source_arrays_in_block, source_port_role, source_reset, sources_in, sources_in_block, sources_of_ports}
use Rattle.fir_design.proofs.CountedBlocks.{block_counted, statement_counted}
use Rattle.fir_design.proofs.FineScenes.{IsFineScene, fine_scene, whole_scope}
use Rattle.fir_design.proofs.MemoryRoles.{memory_arrays_same, memory_leaves_same}
use Rattle.fir_design.proofs.PlacedBlocks.{IsPlaced, first_placed, memory_at, second_placed}
use Rattle.fir_design.proofs.SameLists.{AreSame, both_same, declared_same, none_same}
use Rattle.fir_design.proofs.SameTerms.{leaf_same, one_same, reset_same}
use Rattle.fir_design.proofs.SourceInstances.{grows_before}

module _ (leaves : List LeafDeclared) (arrays : List LeafArray) where
  source_or_sink : (b : Bool) → SameRole leaves arrays (if b then source else sink) (if b then tree.source else tree.sink)
  source_or_sink true = tt
  source_or_sink false = tt

  sink_or_source : (b : Bool) → SameRole leaves arrays (if b then sink else source) (if b then tree.sink else tree.source)
  sink_or_source true = tt
  sink_or_source false = tt

pub ports_same : (s : Scene) (ps : List PortTree) (before : Before) → AreSame s (leaves_of_ports s before ps) [] (sources_of_ports s before ps) []
ports_same s [] before = none_same s
ports_same s (p ∷ ps) before =
    let c = component.port p.direction p.data_type in
    let next = with_declaration before p.named c in
    both_same s _ (leaves_of_ports s next ps) [] [] _ (sources_of_ports s next ps) [] []
    (declared_same s (record { named = p.named; component = c; before = before }) (λ l. p.named.place) (λ k l. port_role p.direction l)
    (source_port_role s p.direction)
    (λ k l e. source_or_sink (module_leaves s) (leafed_module s).arrays (is_source (flow_under l.flip (port_flow p.direction)))))
    (ports_same s ps next)

module _ (c : CircuitTree) (s : Scene) (names : HasNames c) (types : type_faults c ≡ []) (i : In (numbered_modules c) s.own) where
  abbrev fine : IsFineScene s
  fine = fine_scene c s names types i

  abbrev none : s.own.start.scope ≡ []
  none = (own_module c s.own i).start

  mutual
    statement_same : (x : Statement) (before : Before)
        → IsPlaced s before.declared (behind before x).declared (leaves_in s before x) (arrays_in s before x)
        → IsLegal s.own.modules before x
        → AreSame s (leaves_in s before x) (arrays_in s before x) (sources_in s before x) (source_arrays_in s x)
    statement_same (wire p n begins t) before placed h =
        declared_same s (record { named = n; component = component.wire t; before = before }) (λ l. n.place) (λ k l. sink)
        (λ l. tree.sink) (λ k l e. tt)
    statement_same (register p n begins t e r) before placed h =
        let d : Declared = record { named = n; component = component.register t; before = before } in
        let scope = scope_before s before in
        let inside = with_declaration before n (component.register t) in
        let first = begins_through scope (scope_before s inside) (whole_scope s)
        (begins_behind s.own.modules (register p n begins t e r) before) placed.begins in
        declared_same s d (λ l. n.place) (register_role s before n t e r)
        (λ l. tree.register scope e (option_map (source_reset s (scope_before s inside)) r) l.path)
        (λ k l is. (one_same s fine scope first e clock h.2 refl, reset_same s fine (scope_before s inside) placed.begins t r k l h.3 is))
    statement_same (node p n e) before placed h =
        let d : Declared = record { named = n; component = component.node e; before = before } in
        let scope = scope_before s before in
        let first = begins_through scope (scope_before s (behind before (node p n e))) (whole_scope s)
        (begins_behind s.own.modules (node p n e) before) placed.begins in
        declared_same s d (λ l. n.place) (λ k l. role.computed (term_at (terms scope e) k)) (λ l. tree.computed scope e l.path)
        (λ k l is.
        leaf_same s fine scope first e h.0 k l h.1
        (ap (λ o. slice_get (leaves_of_data o) k) (sym (ap (λ x. x.has) (found_type scope e h.0 h.1))) ∙ is))
    statement_same (instance p n other) before placed h =
        declared_same s (record { named = n; component = component.instance other.name; before = before })
        (instance_place n (numbered_module 0 s.own.modules other.name)) instance_role (λ l. if l.flip then tree.sink else tree.source)
        (λ k l e. sink_or_source (module_leaves s) (leafed_module s).arrays l.flip)
    statement_same (memory p n parts) before placed h =
        let at = memory_at s before p n parts h placed in
        record {
          leaves = memory_leaves_same c s names types i before p n parts at;
          arrays = memory_arrays_same c s names types i before p n parts at;
        }
    statement_same (when p e a b) before placed h =
        let first = opened before in
        let inside = behind_block first a in
        let second = reopened before inside in
        let after = behind_block second b in
        let begins = begins_through (scope_before s inside) (scope_before s after) (whole_scope s)
        (begins_block s.own.modules b second) placed.begins in
        both_same s (leaves_in_block s first a) (leaves_in_block s second b) (arrays_in_block s first a) (arrays_in_block s second b)
        (sources_in_block s first a) (sources_in_block s second b) (source_arrays_in_block s a) (source_arrays_in_block s b)
        (block_same a first
        (first_placed s before.declared inside.declared after.declared (leaves_in_block s first a) (leaves_in_block s second b)
        (arrays_in_block s first a) (arrays_in_block s second b) (grows_before second b (declarations s.own.inside) placed.grows) begins placed) h.2)
        (block_same b second
        (second_placed s before.declared inside.declared after.declared (leaves_in_block s first a) (leaves_in_block s second b)
        (arrays_in_block s first a) (arrays_in_block s second b) (block_counted s none a first) placed) h.3)
    statement_same (connect p d e) before placed h = none_same s
    statement_same (partial_connect p d e) before placed h = none_same s
    statement_same (invalid p d) before placed h = none_same s
    statement_same (skip p) before placed h = none_same s

    pub block_same : (b : Block) (before : Before)
        → IsPlaced s before.declared (behind_block before b).declared (leaves_in_block s before b) (arrays_in_block s before b)
        → AreLegal s.own.modules before b
        → AreSame s (leaves_in_block s before b) (arrays_in_block s before b) (sources_in_block s before b) (source_arrays_in_block s b)
    block_same done before placed h = none_same s
    block_same ((then) x b) before placed h =
        let next = behind before x in
        let here = begins_through (scope_before s next) (scope_before s (behind_block next b)) (whole_scope s)
        (begins_block s.own.modules b next) placed.begins in
        both_same s (leaves_in s before x) (leaves_in_block s next b) (arrays_in s before x) (arrays_in_block s next b)
        (sources_in s before x) (sources_in_block s next b) (source_arrays_in s x) (source_arrays_in_block s b)
        (statement_same x before
        (first_placed s before.declared next.declared (behind_block next b).declared (leaves_in s before x) (leaves_in_block s next b)
        (arrays_in s before x) (arrays_in_block s next b) (grows_before next b (declarations s.own.inside) placed.grows) here placed) h.0)
        (block_same b next
        (second_placed s before.declared next.declared (behind_block next b).declared (leaves_in s before x) (leaves_in_block s next b)
        (arrays_in s before x) (arrays_in_block s next b) (statement_counted s none x before) placed) h.1)
