-- The view of a module has the arrays and the memories of its memories, in order, and a leaf that reads an array is of one of them.
use Rattle.std.proofs.Common.{◌≡◌, ℕ, suc, List, [], ◌∷◌, ◌++◌, map, flat_map, length, Bool, true, false, if◌then◌else◌, refl, sym, ap₂, ◌∙◌, inl, inr, ◌⊎◌, ⊎_elim}
use Rattle.std.specs.List.{AllByRecursion}
use Rattle.std.proofs.lemmas.List.{append-nil, map-append}
use Rattle.std.proofs.lemmas.List.Concat.{flat_map-append}
use Rattle.fir_base.specs.Lists.{In}
use Rattle.fir_base.specs.declared.direction.Direction.{Direction}
use Rattle.fir_base.proofs.Each.{all_at}
use Rattle.fir_base.proofs.Members.{in_either, in_left, in_right}
use Rattle.fir_ast.specs.declared.place.Place.{Place}
use Rattle.fir_ast.specs.Statements.{PlacedName, Statement, wire, register, node, instance, memory, when, connect, partial_connect, invalid, skip, Block, done, then, MemoryPart}
use Rattle.fir_ast.specs.Circuits.{PortTree}
use Rattle.fir_meaning.specs.Components.{Component, Declarations}
use Rattle.fir_meaning.specs.Components as component
use Rattle.fir_meaning.specs.Flows.{flow_under, is_source, port_flow}
use Rattle.fir_meaning.specs.TypeLeaves.{TypeLeaf}
use Rattle.fir_meaning.specs.Visibility.{Before, declaration_at, with_declaration, opened, reopened, behind, behind_block, behind_ports, at_head, declarations}
use Rattle.fir_meaning.specs.ResetJoins.{numbered_module}
use Rattle.fir_meaning.specs.FoundTypes.{leaves_of_data}
use Rattle.fir_meaning.specs.LeafTypes.{LeafType}
use Rattle.fir_meaning.specs.ModuleScenes.{Scene, Declared, behind_all_ports, held_by_declared, scope_before, type_of_declared}
use Rattle.fir_meaning.specs.working.Leafed.{terms}
use Rattle.fir_meaning.specs.working.LeafedBlocks.{term_at}
use Rattle.fir_meaning.specs.working.LeafModules.{LeafArray, LeafDeclared, MemoryDeclared, Role, computed, sink, source}
use Rattle.fir_meaning.specs.working.LeafedModules.{arrays_in, arrays_in_block, declared_leaves, instance_place, instance_role, leafed_module, leaves_from, leaves_in, leaves_in_block, leaves_of_ports, memories_in, memories_in_block, port_role, register_role}
use Rattle.fir_memory_types.proofs.MemoryVisits.{Along, Between, IsPlain, MemoryVisit, along_joined, arrays_among, memory_between, nothing_between, one_between, visit, visit_arrays, visit_leaves, visit_memory, visits, visits_in}

abbrev IsPlainLeaf : LeafDeclared → Type 0
IsPlainLeaf l = IsPlain l.role

plain_from : (d : Declared) (place : TypeLeaf → Place) (role_of : ℕ → TypeLeaf → Role) (k : ℕ) (ls : List TypeLeaf) (hs : List LeafType)
    → ((j : ℕ) (l : TypeLeaf) → IsPlain (role_of j l)) → AllByRecursion IsPlainLeaf (leaves_from d place role_of k ls hs)
plain_from d place role_of k [] hs plain = tt
plain_from d place role_of k (l ∷ ls) [] plain = tt
plain_from d place role_of k (l ∷ ls) (h ∷ hs) plain = (plain k l, plain_from d place role_of (suc k) ls hs plain)

port_plain : (d : Direction) (l : TypeLeaf) → IsPlain (port_role d l)
port_plain d l = by (is_source (flow_under l.flip (port_flow d)))
  where
    by : (b : Bool) → IsPlain (if b then source else sink)
    by true = tt
    by false = tt

instance_plain : (k : ℕ) (l : TypeLeaf) → IsPlain (instance_role k l)
instance_plain k l = by l.flip
  where
    by : (b : Bool) → IsPlain (if b then sink else source)
    by true = tt
    by false = tt

module _ (s : Scene) where
  -- a leaf of one of these memories
  pub record IsOfVisit (vs : List MemoryVisit) (l : LeafDeclared) : Type 0 where
    pub visit : MemoryVisit
    pub among : In vs visit
    pub leaf : In (visit_leaves s visit) l

  pub record Viewed (ds : Declarations) (vs : List MemoryVisit) (es : Declarations) (leaves : List LeafDeclared) (arrays : List LeafArray)
      (memories : List MemoryDeclared) : Type 0 where
    pub between : Along (length ds) (arrays_among ds) vs (length es) (arrays_among es)
    pub leaves_are : (l : LeafDeclared) → In leaves l → IsPlain l.role ⊎ IsOfVisit vs l
    pub arrays_are : arrays ≡ flat_map (visit_arrays s) vs
    pub memories_are : memories ≡ map (visit_memory s) vs

  nothing_viewed : (ds : Declarations) → Viewed ds [] ds [] [] []
  nothing_viewed ds = record { between = nothing_between ds; leaves_are = λ l i. absurd i; arrays_are = refl; memories_are = refl }

  plain_viewed : (before : Before) (n : PlacedName) (c : Component) (place : TypeLeaf → Place) (role_of : ℕ → TypeLeaf → Role)
      → Between before.declared [] (before.declared ++ declaration_at before n c ∷ []) → ((j : ℕ) (l : TypeLeaf) → IsPlain (role_of j l))
      → Viewed before.declared [] (with_declaration before n c).declared
      (declared_leaves s (record { named = n; component = c; before = before }) place role_of) [] []
  plain_viewed before n c place role_of none plain =
      let d : Declared = record { named = n; component = c; before = before } in
      let ls = leaves_from d place role_of 0 (leaves_of_data (type_of_declared s d)) (held_by_declared s d) in
      record {
        between = none;
        leaves_are = λ l i.
            inl
            (all_at IsPlainLeaf ls (plain_from d place role_of 0 (leaves_of_data (type_of_declared s d)) (held_by_declared s d) plain) l i);
        arrays_are = refl;
        memories_are = refl;
      }

  memory_viewed : (before : Before) (n : PlacedName) (parts : List MemoryPart)
      → Viewed before.declared (visit before n parts ∷ []) (with_declaration before n (component.memory parts)).declared
      (visit_leaves s (visit before n parts)) (visit_arrays s (visit before n parts)) (visit_memory s (visit before n parts) ∷ [])
  memory_viewed before n parts = record {
    between = memory_between before n parts;
    leaves_are = λ l i. inr (record { visit = visit before n parts; among = inl refl; leaf = i });
    arrays_are = sym (append-nil (visit_arrays s (visit before n parts)));
    memories_are = refl;
  }

  module _ (ds : Declarations) (vs : List MemoryVisit) (es : Declarations) (ws : List MemoryVisit) (fs : Declarations) (ls : List LeafDeclared)
      (arrays : List LeafArray) (ms : List MemoryDeclared) (more_ls : List LeafDeclared) (more_arrays : List LeafArray) (more_ms : List MemoryDeclared)
      (h : Viewed ds vs es ls arrays ms) (g : Viewed es ws fs more_ls more_arrays more_ms) where
    either_viewed : (l : LeafDeclared) → In (ls ++ more_ls) l → IsPlain l.role ⊎ IsOfVisit (vs ++ ws) l
    either_viewed l i =
        ⊎_elim
        (λ (j : In ls l).
        ⊎_elim (λ (p : IsPlain l.role). inl p)
        (λ (o : IsOfVisit vs l). inr (record { visit = o.visit; among = in_left vs ws o.visit o.among; leaf = o.leaf })) (h.leaves_are l j))
        (λ (j : In more_ls l).
        ⊎_elim (λ (p : IsPlain l.role). inl p)
        (λ (o : IsOfVisit ws l). inr (record { visit = o.visit; among = in_right vs ws o.visit o.among; leaf = o.leaf })) (g.leaves_are l j))
        (in_either ls more_ls l i)

    joined_viewed : Viewed ds (vs ++ ws) fs (ls ++ more_ls) (arrays ++ more_arrays) (ms ++ more_ms)
    joined_viewed = record {
      between =
          along_joined (length ds) (arrays_among ds) vs (length es) (arrays_among es) ws (length fs) (arrays_among fs) h.between g.between;
      leaves_are = either_viewed;
      arrays_are = ap₂ (λ x y. x ++ y) h.arrays_are g.arrays_are ∙ sym (flat_map-append (visit_arrays s) vs ws);
      memories_are = ap₂ (λ x y. x ++ y) h.memories_are g.memories_are ∙ sym (map-append (visit_memory s) vs ws);
    }

  ports_viewed : (ps : List PortTree) (before : Before) → Viewed before.declared [] (behind_ports before ps).declared (leaves_of_ports s before ps) [] []
  ports_viewed [] before = nothing_viewed before.declared
  ports_viewed (p ∷ ps) before =
      let c = component.port p.direction p.data_type in
      let next = with_declaration before p.named c in
      let role_of : ℕ → TypeLeaf → Role = λ k l. port_role p.direction l in
      joined_viewed before.declared [] next.declared [] (behind_ports next ps).declared
      (declared_leaves s (record { named = p.named; component = c; before = before }) (λ l. p.named.place) role_of) [] [] (leaves_of_ports s next ps) [] []
      (plain_viewed before p.named c (λ l. p.named.place) role_of (one_between before.declared (declaration_at before p.named c) refl)
      (λ k l. port_plain p.direction l))
      (ports_viewed ps next)

  mutual
    statement_viewed : (x : Statement) (before : Before)
        → Viewed before.declared (visits before x) (behind before x).declared (leaves_in s before x) (arrays_in s before x) (memories_in s before x)
    statement_viewed (wire p n begins t) before =
        plain_viewed before n (component.wire t) (λ l. n.place) (λ k l. sink)
        (one_between before.declared (declaration_at before n (component.wire t)) refl) (λ k l. tt)
    statement_viewed (register p n begins t c r) before =
        plain_viewed before n (component.register t) (λ l. n.place) (register_role s before n t c r)
        (one_between before.declared (declaration_at before n (component.register t)) refl) (λ k l. tt)
    statement_viewed (node p n e) before =
        plain_viewed before n (component.node e) (λ l. n.place) (λ k l. computed (term_at (terms (scope_before s before) e) k))
        (one_between before.declared (declaration_at before n (component.node e)) refl) (λ k l. tt)
    statement_viewed (instance p n other) before =
        plain_viewed before n (component.instance other.name) (instance_place n (numbered_module 0 s.own.modules other.name)) instance_role
        (one_between before.declared (declaration_at before n (component.instance other.name)) refl) instance_plain
    statement_viewed (memory p n parts) before = memory_viewed before n parts
    statement_viewed (when p c a b) before =
        let first = opened before in
        let inside = behind_block first a in
        let second = reopened before inside in
        joined_viewed before.declared (visits_in first a) inside.declared (visits_in second b) (behind_block second b).declared
        (leaves_in_block s first a) (arrays_in_block s first a) (memories_in_block s first a)
        (leaves_in_block s second b) (arrays_in_block s second b) (memories_in_block s second b) (block_viewed a first) (block_viewed b second)
    statement_viewed (connect p d e) before = nothing_viewed before.declared
    statement_viewed (partial_connect p d e) before = nothing_viewed before.declared
    statement_viewed (invalid p d) before = nothing_viewed before.declared
    statement_viewed (skip p) before = nothing_viewed before.declared

    block_viewed : (b : Block) (before : Before)
        → Viewed before.declared (visits_in before b) (behind_block before b).declared (leaves_in_block s before b) (arrays_in_block s before b)
        (memories_in_block s before b)
    block_viewed done before = nothing_viewed before.declared
    block_viewed ((then) x b) before =
        let next = behind before x in
        joined_viewed before.declared (visits before x) next.declared (visits_in next b) (behind_block next b).declared
        (leaves_in s before x) (arrays_in s before x) (memories_in s before x)
        (leaves_in_block s next b) (arrays_in_block s next b) (memories_in_block s next b) (statement_viewed x before) (block_viewed b next)

  -- the memories of the module
  abbrev pub module_visits : List MemoryVisit
  module_visits = visits_in (behind_all_ports s.own.inside) s.own.inside.body

  pub module_viewed : Viewed [] module_visits (declarations s.own.inside) (leafed_module s).leaves
      (leafed_module s).arrays (leafed_module s).memories
  module_viewed =
      let head = behind_all_ports s.own.inside in
      let body = s.own.inside.body in
      joined_viewed [] [] head.declared (visits_in head body) (behind_block head body).declared (leaves_of_ports s at_head s.own.inside.ports) [] []
      (leaves_in_block s head body) (arrays_in_block s head body) (memories_in_block s head body) (ports_viewed s.own.inside.ports at_head)
      (block_viewed body head)
