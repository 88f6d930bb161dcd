-- The terms of the roles of a module's leaves read its leaves, through indices either of ports alone or of none.
use Rattle.std.proofs.Common.{ℕ, Option, Some, None, option_map}
use Rattle.fir_base.proofs.Each.{all_joined}
use Rattle.fir_ast.specs.declared.place.Place.{Place}
use Rattle.fir_ast.specs.Types.{DataType, clock}
use Rattle.fir_ast.specs.Statements.{Reset, Statement, wire, register, node, instance, memory, when, connect, partial_connect, invalid, skip, Block, done, then}
use Rattle.fir_meaning.specs.Components as component
use Rattle.fir_meaning.specs.ResetJoins.{numbered_module}
use Rattle.fir_meaning.specs.TypedScopes.{TypedScope}
use Rattle.fir_meaning.specs.TypeGroup.{scope_at}
use Rattle.fir_meaning.specs.TypeLeaves.{TypeLeaf}
use Rattle.fir_meaning.specs.Visibility.{Before, behind, behind_block, opened, reopened, with_declaration}
use Rattle.fir_meaning.specs.working.WellTyped.{AreLegal, IsLegal, ResetIsLegal}
use Rattle.fir_meaning.specs.working.Leafed.{terms}
use Rattle.fir_meaning.specs.working.LeafedBlocks.{term_at}
use Rattle.fir_meaning.specs.ModuleScenes.{Declared, Scene, behind_all_ports, held_by_declared, scope_before, type_of_declared}
use Rattle.fir_meaning.specs.working.LeafedModules.{instance_place, instance_role, leaf_reset, leafed_module, leaves_from, leaves_in, leaves_in_block, memory_before, register_role, role_in}
use Rattle.fir_leaf.specs.working.LeafLaws.{Begins}
use Rattle.fir_meaning.specs.FoundTypes.{leaves_of_data}
use Rattle.fir_meaning.specs.working.LeafMemories.{memory_roles}
use Rattle.fir_meaning.specs.working.LeafModules as over
use Rattle.fir_meaning.specs.working.LeafModules.{LeafDeclared, LeafModule, Need, Role}
use Rattle.fir_leaf.proofs.ScopesBegin.{begins_all, begins_behind, begins_block, begins_through}
use Rattle.fir_design.proofs.FineScenes.{IsFineScene, whole_scope}
use Rattle.fir_design.proofs.PortLeaves.{port_scope}
use Rattle.fir_design_faults.proofs.ReadTargets.{AreNamesIn}
use Rattle.fir_design_faults.proofs.SceneReads.{names_in}
use Rattle.fir_design_faults.proofs.ReadTerms.{at_in, condition_in, terms_in}
use Rattle.fir_design_faults.proofs.RoleTerms.{RolesRead, from_reads, instance_reads, ports_read, role_reads}
use Rattle.fir_design_faults.proofs.AllTerms.{MayResetReads, RoleReads}

module _ (s : Scene) (f : IsFineScene s) where
  abbrev m : LeafModule
  m = leafed_module s

  abbrev scope_of : Before → TypedScope
  scope_of before = scope_at s.own.modules before

  reset_reads : (scope : TypedScope) (t : DataType) (r : Option Reset) (k : ℕ) → AreNamesIn m scope → ResetIsLegal scope t r
      → MayResetReads m (option_map (leaf_reset s.is_async scope k) r)
  reset_reads scope t None k names h = tt
  reset_reads scope t (Some r) k names h = record {
    condition = condition_in m scope names r.condition h.0 h.2;
    init = at_in m (terms scope r.init) k (terms_in m scope names r.init h.1 h.4);
  }

  one_sound : (d : Declared) (place : TypeLeaf → Place) (role_of : ℕ → TypeLeaf → Role)
      → ((x : ℕ) (l : TypeLeaf) → RoleReads m (role_of x l))
      → RolesRead m (leaves_from d place role_of 0 (leaves_of_data (type_of_declared s d)) (held_by_declared s d))
  one_sound d place role_of each = from_reads m d place role_of 0 (leaves_of_data (type_of_declared s d)) (held_by_declared s d) each

  mutual
    statement_sound : (x : Statement) (before : Before) → Begins (port_scope s) (scope_of before)
        → Begins (scope_of (behind before x)) (whole_scope s)
        → IsLegal s.own.modules before x → RolesRead m (leaves_in s before x)
    statement_sound (wire p n begins t) before a b h =
        one_sound (record { named = n; component = component.wire t; before = before }) (λ l. n.place) (λ k l. over.sink) (λ k l. tt)
    statement_sound (register p n begins t c r) before a b h =
        let x = component.register t in
        let next = with_declaration before n x in
        let on = begins_behind s.own.modules (register p n begins t c r) before in
        let names = names_in s f (scope_of before) a (begins_through (scope_of before) (scope_of next) (whole_scope s) on b) in
        let inside = names_in s f (scope_of next) (begins_through (port_scope s) (scope_of before) (scope_of next) a on) b in
        one_sound (record { named = n; component = x; before = before }) (λ l. n.place) (register_role s before n t c r)
        (λ k l. (condition_in m (scope_of before) names c clock h.2, reset_reads (scope_of next) t r k inside h.3))
    statement_sound (node p n e) before a b h =
        let x = component.node e in
        let next = with_declaration before n x in
        let on = begins_behind s.own.modules (node p n e) before in
        let names = names_in s f (scope_of before) a (begins_through (scope_of before) (scope_of next) (whole_scope s) on b) in
        one_sound (record { named = n; component = x; before = before }) (λ l. n.place)
        (λ k l. over.computed (term_at (terms (scope_before s before) e) k))
        (λ k l. at_in m (terms (scope_of before) e) k (terms_in m (scope_of before) names e h.0 h.1))
    statement_sound (instance p n other) before a b h =
        one_sound (record { named = n; component = component.instance other.name; before = before })
        (instance_place n (numbered_module 0 s.own.modules other.name)) instance_role (λ k l. instance_reads m l.flip)
    statement_sound (memory p n parts) before a b h =
        let x = memory_before s before n parts in
        one_sound (record { named = n; component = component.memory parts; before = before }) (λ l. n.place) (role_in (memory_roles x))
        (λ k l. role_reads m (memory_roles x) k l (ports_read m x x.first x.ports))
    statement_sound (when p c x y) before a b h =
        let first = opened before in
        let inside = behind_block first x in
        let second = reopened before inside in
        let third = begins_through (scope_of inside) (scope_of (behind_block second y)) (whole_scope s) (begins_block s.own.modules y second) b in
        all_joined (λ (l : LeafDeclared). RoleReads m l.role) (leaves_in_block s first x) (leaves_in_block s second y)
        (block_sound x first a third h.2)
        (block_sound y second (begins_through (port_scope s) (scope_of before) (scope_of inside) a (begins_block s.own.modules x first)) b h.3)
    statement_sound (connect p d e) before a b h = tt
    statement_sound (partial_connect p d e) before a b h = tt
    statement_sound (invalid p d) before a b h = tt
    statement_sound (skip p) before a b h = tt

    block_sound : (y : Block) (before : Before) → Begins (port_scope s) (scope_of before)
        → Begins (scope_of (behind_block before y)) (whole_scope s)
        → AreLegal s.own.modules before y → RolesRead m (leaves_in_block s before y)
    block_sound done before a b h = tt
    block_sound ((then) x rest) before a b h =
        let next = behind before x in
        all_joined (λ (l : LeafDeclared). RoleReads m l.role) (leaves_in s before x) (leaves_in_block s next rest)
        (statement_sound x before a
        (begins_through (scope_of next) (scope_of (behind_block next rest)) (whole_scope s) (begins_block s.own.modules rest next) b) h.0)
        (block_sound rest next
        (begins_through (port_scope s) (scope_of before) (scope_of next) a (begins_behind s.own.modules x before)) b h.1)

  pub inner_roles_read : RolesRead m (leaves_in_block s (behind_all_ports s.own.inside) s.own.inside.body)
  inner_roles_read =
      block_sound s.own.inside.body (behind_all_ports s.own.inside) (begins_all (port_scope s)) (begins_all (whole_scope s)) f.legal
