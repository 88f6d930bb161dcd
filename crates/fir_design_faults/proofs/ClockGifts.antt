-- The clock of each register and the term of each node name what their expressions name.
use Rattle.std.proofs.Common.{◌≡◌, ℕ, zero, suc, ◌+◌, List, [], ◌∷◌, slice_get, Bool, true, false, if◌then◌else◌, Option, Some, None, option_map, refl, sym, ap, ◌∙◌, arith, subst, append-nil}
use Rattle.std.specs.Prelude.{codes, flat_map}
use Rattle.std.specs.Str.{bytes_eq}
use Rattle.fir_ast.specs.declared.place.Place.{Place}
use Rattle.fir_ast.specs.declared.statements.ReadUnderWrite.{ReadUnderWrite}
use Rattle.fir_ast.specs.Circuits.{PortTree}
use Rattle.fir_ast.specs.Statements.{MemoryPart, Statement, wire, register, node, instance, memory, when, connect, partial_connect, invalid, skip, Block, done, then}
use Rattle.fir_ast.specs.Types.{clock}
use Rattle.fir_meaning.specs.Components as component
use Rattle.fir_meaning.specs.Flows.{flow_under, is_source, port_flow}
use Rattle.fir_meaning.specs.FoundTypes.{leaves_of_data}
use Rattle.fir_meaning.specs.LeafPaths.{LeafPath, element, named}
use Rattle.fir_meaning.specs.LeafTypes.{LeafType}
use Rattle.fir_meaning.specs.MemoryPorts.{MemoryPortKind, reads, reads_and_writes, writes}
use Rattle.fir_meaning.specs.ModuleScenes.{Declared, Scene, behind_all_ports, held_by_declared, scope_before, type_of_declared}
use Rattle.fir_meaning.specs.ResetJoins.{numbered_module}
use Rattle.fir_meaning.specs.SourceCircuits.{role_within}
use Rattle.fir_meaning.specs.SourceDrives.{side}
use Rattle.fir_meaning.specs.SourceRoles as sources
use Rattle.fir_meaning.specs.SourceRoles.{PathReading, SourceLeaf, SourceRole, declared_sources, kind_of, latency_of, memory_role, ports_of_part, read_by, source_leaves, source_leaves_of, source_port_role, source_reset, sources_in, sources_in_block, sources_of_ports}
use Rattle.fir_meaning.specs.TypeLeaves.{TypeLeaf}
use Rattle.fir_meaning.specs.Visibility.{Before, at_head, behind, behind_block, opened, reopened, with_declaration}
use Rattle.fir_meaning.specs.working.Leafed.{first_term, terms}
use Rattle.fir_meaning.specs.working.LeafedBlocks.{term_at}
use Rattle.fir_meaning.specs.working.LeafedModules.{declared_leaves, instance_place, instance_role, leaves_from, leaves_in, leaves_in_block, leaves_of_ports, memory_before, module_leaves, port_role, register_role, role_in}
use Rattle.fir_meaning.specs.working.LeafMemories.{memory_roles}
use Rattle.fir_meaning.specs.working.LeafModules.{LeafDeclared, Role, sink, source}
use Rattle.fir_meaning.specs.working.LeafModules as role
use Rattle.fir_meaning.specs.working.Terms.{Term}
use Rattle.fir_meaning.specs.working.WellTyped.{AreLegal, IsLegal}
use Rattle.fir_meaning.proofs.FoundTypes.{found_type}
use Rattle.fir_leaf.specs.working.LeafLaws.{Begins}
use Rattle.fir_leaf.proofs.ScopesBegin.{begins_behind, begins_block, begins_through}
use Rattle.fir_design.proofs.FineScenes.{IsFineScene}
use Rattle.fir_design.proofs.ListsInStep.{AreInStep, step_joined}
use Rattle.fir_source_faults.specs.working.ReadsByPath.{ReadsByPath, scope_of_module}
use Rattle.fir_design_faults.proofs.ClockMarks.{SameGiven}
use Rattle.fir_design_faults.proofs.GivenPlaces.{given_same}

-- roles that give the same
abbrev pub GivesSame : Scene → Role → SourceRole → Type 0
GivesSame s (role.computed t) (sources.computed scope e q) = SameGiven s t (side scope e q)
GivesSame s (role.register t r) (sources.register scope e reset q) = SameGiven s t (side scope e [])
GivesSame s _ _ = Unit {0}

pub record HaveGifts (s : Scene) (l : LeafDeclared) (t : SourceLeaf) : Type 0 where
  pub gives : GivesSame s l.role t.role
  pub instances : l.instances ≡ 0

-- without expressions
abbrev IsPlain : SourceRole → Type 0
IsPlain (sources.computed scope e q) = ⊥
IsPlain (sources.register scope e reset q) = ⊥
IsPlain _ = Unit {0}

plain_gives : (s : Scene) (r : Role) (t : SourceRole) → IsPlain t → GivesSame s r t
plain_gives s (role.computed u) (sources.computed scope e q) h = absurd h
plain_gives s (role.computed u) t h = tt
plain_gives s (role.register u r) (sources.register scope e reset q) h = absurd h
plain_gives s (role.register u r) t h = tt
plain_gives s r t h = tt

if_plain : (b : Bool) (r u : SourceRole) → IsPlain r → IsPlain u → IsPlain (if b then r else u)
if_plain true r u h k = h
if_plain false r u h k = k

read_by_plain : (n : ℕ) (r : PathReading) (k : LeafPath) (u : ReadUnderWrite) → IsPlain (read_by n r k u)
read_by_plain zero r k u = tt
read_by_plain (suc n) r k u = tt

port_plain : (name : List ℕ) (parts : List MemoryPart) (port field : List ℕ) (q : LeafPath) (k : Option MemoryPortKind)
    → IsPlain (sources.port_role name parts port field q k)
port_plain name parts port field q None = tt
port_plain name parts port field q (Some reads) =
    if_plain (bytes_eq field (codes "data")) (sources.read_role name parts port [] q) sources.sink (read_by_plain (latency_of parts) _ _ _) tt
port_plain name parts port field q (Some writes) = tt
port_plain name parts port field q (Some reads_and_writes) =
    if_plain (bytes_eq field (codes "rdata"))
    (sources.read_role name parts port (record { leaf = sources.port_field name port (codes "wmode"); high = false } ∷ []) q) sources.sink
    (read_by_plain (latency_of parts) _ _ _) tt

memory_plain : (name : List ℕ) (parts : List MemoryPart) (q : LeafPath) → IsPlain (memory_role name parts q)
memory_plain name parts [] = tt
memory_plain name parts (element i ∷ q) = tt
memory_plain name parts (named port ∷ []) = tt
memory_plain name parts (named port ∷ element i ∷ q) = tt
memory_plain name parts (named port ∷ named field ∷ q) =
    port_plain name parts port field q (kind_of (flat_map ports_of_part parts) port)

-- what an instance gives is driven within it
pub within_gives : (s : Scene) (r : Role) (u : SourceRole) → GivesSame s r u → GivesSame s r (role_within u)
within_gives s (role.computed t) (sources.computed scope e q) h = h
within_gives s (role.computed t) u h = tt
within_gives s (role.register t r) (sources.register scope e reset q) h = h
within_gives s (role.register t r) u h = tt
within_gives s r u h = tt

first_there : (ts : List Term) → term_at ts 0 ≡ first_term ts
first_there [] = refl
first_there (t ∷ ts) = refl

module _ (s : Scene) where
  from_gifts : (d : Declared) (place : TypeLeaf → Place) (role_of : ℕ → TypeLeaf → Role) (tree_role : TypeLeaf → SourceRole)
      (k : ℕ) (ls : List TypeLeaf) (hs : List LeafType)
      → ((j : ℕ) (l : TypeLeaf) → slice_get ls j ≡ Some l → GivesSame s (role_of (k + j) l) (tree_role l))
      → AreInStep (HaveGifts s) (leaves_from d place role_of k ls hs) (source_leaves_of d.named.name tree_role ls hs)
  from_gifts d place role_of tree_role k [] hs h = tt
  from_gifts d place role_of tree_role k (l ∷ ls) [] h = tt
  from_gifts d place role_of tree_role k (l ∷ ls) (t ∷ hs) h =
      let first : k + 0 ≡ k = omega arith in
      let own : GivesSame s (role_of k l) (tree_role l) = rw first at (h 0 l refl) in (
        record { gives = own; instances = refl },
        from_gifts d place role_of tree_role (suc k) ls hs (λ j x e. let next : suc k + j ≡ k + suc j = omega arith in rw next (h (suc j) x e)),
      )

  declared_gifts : (d : Declared) (place : TypeLeaf → Place) (role_of : ℕ → TypeLeaf → Role) (source_of : TypeLeaf → SourceRole)
      → ((k : ℕ) (l : TypeLeaf) → slice_get (leaves_of_data (type_of_declared s d)) k ≡ Some l → GivesSame s (role_of k l) (source_of l))
      → AreInStep (HaveGifts s) (declared_leaves s d place role_of) (declared_sources s d.before d.named d.component source_of)
  declared_gifts d place role_of source_of h =
      from_gifts d place role_of source_of 0 (leaves_of_data (type_of_declared s d)) (held_by_declared s d)
      (λ k l e. let none : 0 + k ≡ k = omega arith in rw none (h k l e))

  pub ports_gifts : (ps : List PortTree) (before : Before) → AreInStep (HaveGifts s) (leaves_of_ports s before ps) (sources_of_ports s before ps)
  ports_gifts [] before = tt
  ports_gifts (p ∷ ps) before =
      let c = component.port p.direction p.data_type in
      let next = with_declaration before p.named c in
      let d : Declared = record { named = p.named; component = c; before = before } in
      step_joined (HaveGifts s) (declared_leaves s d (λ l. p.named.place) (λ k l. port_role p.direction l)) (leaves_of_ports s next ps)
      (declared_sources s before p.named c (source_port_role s p.direction)) (sources_of_ports s next ps)
      (declared_gifts d (λ l. p.named.place) (λ k l. port_role p.direction l) (source_port_role s p.direction)
      (λ k l e. plain_gives s (port_role p.direction l) (source_port_role s p.direction l)
      (if_plain (is_source (flow_under l.flip (port_flow p.direction))) sources.source sources.sink tt tt)))
      (ports_gifts ps next)

  module _ (reading : ReadsByPath s) where
    mutual
      statement_gifts : (x : Statement) (before : Before) → Begins (scope_before s (behind before x)) (scope_of_module s)
          → IsLegal s.own.modules before x → AreInStep (HaveGifts s) (leaves_in s before x) (sources_in s before x)
      statement_gifts (wire p n begins t) before b h =
          declared_gifts (record { named = n; component = component.wire t; before = before }) (λ l. n.place) (λ k l. sink) (λ l. sources.sink)
          (λ k l e. tt)
      statement_gifts (register p n begins t e r) before b h =
          let d : Declared = record { named = n; component = component.register t; before = before } in
          let scope = scope_before s before in
          let inside = with_declaration before n (component.register t) in
          let first = begins_through scope (scope_before s (behind before (register p n begins t e r))) (scope_of_module s)
          (begins_behind s.own.modules (register p n begins t e r) before) b in
          declared_gifts d (λ l. n.place) (register_role s before n t e r)
          (λ l. sources.register scope e (option_map (source_reset s (scope_before s inside)) r) l.path)
          (λ k l is.
          subst (λ u. SameGiven s u (side scope e [])) (first_there (terms scope e))
          (given_same s reading scope first e clock 0 (record { path = []; flip = false; ground_type = clock }) h.2 refl))
      statement_gifts (node p n e) before b h =
          let d : Declared = record { named = n; component = component.node e; before = before } in
          let scope = scope_before s before in
          let first = begins_through scope (scope_before s (behind before (node p n e))) (scope_of_module s)
          (begins_behind s.own.modules (node p n e) before) b in
          declared_gifts d (λ l. n.place) (λ k l. role.computed (term_at (terms scope e) k)) (λ l. sources.computed scope e l.path)
          (λ k l is.
          given_same s reading scope first e h.0 k l h.1
          (ap (λ o. slice_get (leaves_of_data o) k) (sym (ap (λ x. x.has) (found_type scope e h.0 h.1))) ∙ is))
      statement_gifts (instance p n other) before b h =
          declared_gifts (record { named = n; component = component.instance other.name; before = before })
          (instance_place n (numbered_module 0 s.own.modules other.name)) instance_role (λ l. if l.flip then sources.sink else sources.source)
          (λ k l e. plain_gives s (instance_role k l) (if l.flip then sources.sink else sources.source)
          (if_plain l.flip sources.sink sources.source tt tt))
      statement_gifts (memory p n parts) before b h =
          let d : Declared = record { named = n; component = component.memory parts; before = before } in
          declared_gifts d (λ l. n.place) (role_in (memory_roles (memory_before s before n parts))) (λ l. memory_role n.name parts l.path)
          (λ k l e. plain_gives s (role_in (memory_roles (memory_before s before n parts)) k l) (memory_role n.name parts l.path)
          (memory_plain n.name parts l.path))
      statement_gifts (when p e a z) before b h =
          let first = opened before in
          let inside = behind_block first a in
          let second = reopened before inside in
          let after = behind_block second z in
          let begins = begins_through (scope_before s inside) (scope_before s after) (scope_of_module s) (begins_block s.own.modules z second) b in
          step_joined (HaveGifts s) (leaves_in_block s first a) (leaves_in_block s second z) (sources_in_block s first a) (sources_in_block s second z)
          (block_gifts a first begins h.2) (block_gifts z second b h.3)
      statement_gifts (connect p d e) before b h = tt
      statement_gifts (partial_connect p d e) before b h = tt
      statement_gifts (invalid p d) before b h = tt
      statement_gifts (skip p) before b h = tt

      block_gifts : (z : Block) (before : Before) → Begins (scope_before s (behind_block before z)) (scope_of_module s) → AreLegal s.own.modules before z
          → AreInStep (HaveGifts s) (leaves_in_block s before z) (sources_in_block s before z)
      block_gifts done before b h = tt
      block_gifts ((then) x z) before b h =
          let next = behind before x in
          let here = begins_through (scope_before s next) (scope_before s (behind_block next z)) (scope_of_module s)
          (begins_block s.own.modules z next) b in
          step_joined (HaveGifts s) (leaves_in s before x) (leaves_in_block s next z) (sources_in s before x) (sources_in_block s next z)
          (statement_gifts x before here h.0) (block_gifts z next b h.1)

    inner_gifts : IsFineScene s
        → AreInStep (HaveGifts s) (leaves_in_block s (behind_all_ports s.own.inside) s.own.inside.body)
        (sources_in_block s (behind_all_ports s.own.inside) s.own.inside.body)
    inner_gifts fine =
        block_gifts s.own.inside.body (behind_all_ports s.own.inside) ([], append-nil (scope_of_module s)) fine.legal

    pub module_gifts : IsFineScene s → AreInStep (HaveGifts s) (module_leaves s) (source_leaves s)
    module_gifts fine =
        step_joined (HaveGifts s) (leaves_of_ports s at_head s.own.inside.ports)
        (leaves_in_block s (behind_all_ports s.own.inside) s.own.inside.body) (sources_of_ports s at_head s.own.inside.ports)
        (sources_in_block s (behind_all_ports s.own.inside) s.own.inside.body) (ports_gifts s.own.inside.ports at_head) (inner_gifts fine)
