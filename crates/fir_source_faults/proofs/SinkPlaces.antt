-- A leaf that statements must drive stands at its declaration.
use Rattle.std.proofs.Common.{◌≡◌, ℕ, suc, ◌<◌, List, [], ◌∷◌, ◌++◌, Bool, true, false, if◌then◌else◌, length, slice_get, Option, Some, None, refl, sym, ap, ◌∙◌, append_assoc, append-nil}
use Rattle.std.specs.Prelude.{unwrap_or}
use Rattle.std.specs.List.{AllByRecursion}
use Rattle.fir_base.proofs.Each.{all_at, all_joined}
use Rattle.fir_base.proofs.Elements.{get_behind}
use Rattle.fir_ast.specs.declared.place.Place.{Place}
use Rattle.fir_ast.specs.Statements.{Block, PlacedName, Statement, connect, done, instance, invalid, memory, node, partial_connect, register, skip, then, when, wire}
use Rattle.fir_ast.specs.Circuits.{ModuleTree, PortTree}
use Rattle.fir_meaning.specs.Components.{Component, Declaration, Declarations}
use Rattle.fir_meaning.specs.Components as component
use Rattle.fir_meaning.specs.FoundTypes.{leaves_of_data}
use Rattle.fir_meaning.specs.working.LeafMemories.{memory_roles}
use Rattle.fir_meaning.specs.working.LeafModules.{LeafDeclared, Role, is_sink, leaf_at, may_drive, no_leaf, sink, source}
use Rattle.fir_meaning.specs.LeafTypes.{LeafType}
use Rattle.fir_meaning.specs.working.LeafModules as role
use Rattle.fir_meaning.specs.LeafPaths.{LeafPath, named}
use Rattle.fir_meaning.specs.working.Leafed.{terms}
use Rattle.fir_meaning.specs.working.LeafedBlocks.{term_at}
use Rattle.fir_meaning.specs.ModuleScenes.{Scene, behind_all_ports, held_by_declared, scope_before, type_of_declared}
use Rattle.fir_meaning.specs.working.LeafedModules.{instance_place, instance_role, leaves_from, leaves_in, leaves_in_block, leaves_of_ports, memory_before, module_leaves, own_leaves, port_role, register_role, role_in}
use Rattle.fir_meaning.specs.ResetJoins.{numbered_module, port_place}
use Rattle.fir_meaning.specs.SourceFacts.{place_of_leaf, place_where, source_may_drive, source_place}
use Rattle.fir_meaning.specs.TypeLeaves.{TypeLeaf}
use Rattle.fir_meaning.specs.Visibility.{Before, at_head, behind, behind_block, behind_ports, declaration_at, declarations, opened, reopened, with_declaration}
use Rattle.fir_leaf.specs.working.LeafLaws.{path_at}
use Rattle.fir_leaf.proofs.OncePaths.{at_in}
use Rattle.fir_design.proofs.DeclaredInstances.{Grows}
use Rattle.fir_design.proofs.FineScenes.{IsFineScene, leaf_is, leaf_path, whole_scope}
use Rattle.fir_design.proofs.SourceInstances.{grows_before}
use Rattle.fir_design.proofs.SourceLeaves.{found, path_there, source_may_drive_is}
use Rattle.fir_source_faults.specs.working.ReadsByPath.{path_in}

-- a leaf that statements must drive stands where what declares it does
pub record IsPlaced (all : Declarations) (l : LeafDeclared) : Type 0 where
  pub declared : Declaration
  pub is_declared : slice_get all l.declaration ≡ Some declared
  pub place : is_sink l.role ≡ true → l.place ≡ declared.named.place

grows_through : (one two three : Declarations) → Grows one two → Grows two three → Grows one three
grows_through one two three h k = (h.0 ++ k.0, sym (append_assoc one h.0 k.0) ∙ ap (λ ds. ds ++ k.0) h.1 ∙ k.1)

grows_ports : (ps : List PortTree) (before : Before) (all : Declarations) → Grows (behind_ports before ps).declared all → Grows before.declared all
grows_ports [] before all g = g
grows_ports (p ∷ ps) before all g =
    let next = with_declaration before p.named (component.port p.direction p.data_type) in
    grows_through before.declared next.declared all (declaration_at before p.named (component.port p.direction p.data_type) ∷ [], refl)
    (grows_ports ps next all g)

module _ (s : Scene) (all : Declarations) where
  each_placed : (before : Before) (n : PlacedName) (c : Component) → Grows (with_declaration before n c).declared all → (place : TypeLeaf → Place)
      (role_of : ℕ → TypeLeaf → Role) → ((k : ℕ) (l : TypeLeaf) → is_sink (role_of k l) ≡ true → place l ≡ n.place) → (k : ℕ) (ls : List TypeLeaf)
      (hs : List LeafType)
      → AllByRecursion (IsPlaced all) (leaves_from (record { named = n; component = c; before = before }) place role_of k ls hs)
  each_placed before n c g place role_of at k [] hs = tt
  each_placed before n c g place role_of at k (l ∷ ls) [] = tt
  each_placed before n c g place role_of at k (l ∷ ls) (h ∷ hs) =
      let is : before.declared ++ declaration_at before n c ∷ g.0 ≡ all =
      sym (append_assoc before.declared (declaration_at before n c ∷ []) g.0) ∙ g.1 in (
        record {
          declared = declaration_at before n c;
          is_declared = ap (λ ds. slice_get ds (length before.declared)) (sym is) ∙ get_behind before.declared g.0 (declaration_at before n c);
          place = at k l;
        },
        each_placed before n c g place role_of at (suc k) ls hs,
      )

  ports_placed : (ps : List PortTree) (before : Before) → Grows (behind_ports before ps).declared all
      → AllByRecursion (IsPlaced all) (leaves_of_ports s before ps)
  ports_placed [] before g = tt
  ports_placed (p ∷ ps) before g =
      let c = component.port p.direction p.data_type in
      let next = with_declaration before p.named c in
      all_joined (IsPlaced all) (own_leaves s before p.named c (λ k l. port_role p.direction l)) (leaves_of_ports s next ps)
      (each_placed before p.named c (grows_ports ps next all g) (λ l. p.named.place) (λ k l. port_role p.direction l) (λ k l h. refl) 0
      (leaves_of_data (type_of_declared s (record { named = p.named; component = c; before = before })))
      (held_by_declared s (record { named = p.named; component = c; before = before }))) (ports_placed ps next g)

  -- that of an instance too, since it is flipped
  instance_placed : (n : PlacedName) (found : Option (ℕ × ModuleTree)) (k : ℕ) (l : TypeLeaf) → is_sink (instance_role k l) ≡ true
      → instance_place n found l ≡ n.place
  instance_placed n None k l h = refl
  instance_placed n (Some child) k l h = by l.flip h
    where
      by : (flip : Bool) → is_sink (if flip then sink else source) ≡ true → (if flip then n.place else port_place n.place child.1.ports l.path) ≡ n.place
      by true e = refl
      by false e = cc

  own_placed : (before : Before) (n : PlacedName) (c : Component) (role_of : ℕ → TypeLeaf → Role) → Grows (with_declaration before n c).declared all
      → AllByRecursion (IsPlaced all) (own_leaves s before n c role_of)
  own_placed before n c role_of g =
      each_placed before n c g (λ l. n.place) role_of (λ k l h. refl) 0
      (leaves_of_data (type_of_declared s (record { named = n; component = c; before = before })))
      (held_by_declared s (record { named = n; component = c; before = before }))

  mutual
    statement_placed : (x : Statement) (before : Before) → Grows (behind before x).declared all → AllByRecursion (IsPlaced all) (leaves_in s before x)
    statement_placed (wire p n begins t) before g = own_placed before n (component.wire t) (λ k l. sink) g
    statement_placed (register p n begins t c r) before g = own_placed before n (component.register t) (register_role s before n t c r) g
    statement_placed (node p n e) before g =
        own_placed before n (component.node e) (λ k l. role.computed (term_at (terms (scope_before s before) e) k)) g
    statement_placed (memory p n parts) before g =
        own_placed before n (component.memory parts) (role_in (memory_roles (memory_before s before n parts))) g
    statement_placed (instance p n other) before g =
        let c = component.instance other.name in
        let child = numbered_module 0 s.own.modules other.name in
        each_placed before n c g (instance_place n child) instance_role (instance_placed n child) 0
        (leaves_of_data (type_of_declared s (record { named = n; component = c; before = before })))
        (held_by_declared s (record { named = n; component = c; before = before }))
    statement_placed (when p c a b) before g =
        let inside = behind_block (opened before) a in
        all_joined (IsPlaced all) (leaves_in_block s (opened before) a) (leaves_in_block s (reopened before inside) b)
        (block_placed a (opened before) (grows_before (reopened before inside) b all g)) (block_placed b (reopened before inside) g)
    statement_placed (connect p d e) before g = tt
    statement_placed (partial_connect p d e) before g = tt
    statement_placed (invalid p d) before g = tt
    statement_placed (skip p) before g = tt

    block_placed : (b : Block) (before : Before) → Grows (behind_block before b).declared all → AllByRecursion (IsPlaced all) (leaves_in_block s before b)
    block_placed done before g = tt
    block_placed ((then) x b) before g =
        all_joined (IsPlaced all) (leaves_in s before x) (leaves_in_block s (behind before x) b)
        (statement_placed x before (grows_before (behind before x) b all g)) (block_placed b (behind before x) g)

module _ (s : Scene) where
  all_placed : AllByRecursion (IsPlaced (declarations s.own.inside)) (module_leaves s)
  all_placed =
      let all = declarations s.own.inside in
      let head = behind_all_ports s.own.inside in
      let ends : Grows all all = ([], append-nil all) in
      all_joined (IsPlaced all) (leaves_of_ports s at_head s.own.inside.ports) (leaves_in_block s head s.own.inside.body)
      (ports_placed s all s.own.inside.ports at_head (grows_before head s.own.inside.body all ends))
      (block_placed s all s.own.inside.body head ends)

  module _ (f : IsFineScene s) (x : ℕ) (lt : x < length (module_leaves s)) (sinks : is_sink (leaf_at (module_leaves s) x).role ≡ true) where
    abbrev leaf : LeafDeclared
    leaf = leaf_at (module_leaves s) x

    placed : IsPlaced (declarations s.own.inside) (leaf_at (module_leaves s) x)
    placed = all_at (IsPlaced (declarations s.own.inside)) (module_leaves s) all_placed (leaf_at (module_leaves s) x) (at_in (module_leaves s) no_leaf x lt)

    sinks_drive : (r : Role) → is_sink r ≡ true → may_drive r ≡ true
    sinks_drive role.source h = cc
    sinks_drive role.sink h = refl
    sinks_drive (role.computed t) h = cc
    sinks_drive (role.register c r) h = refl
    sinks_drive (role.reading r) h = cc
    sinks_drive (role.pipe r y u) h = cc

    driven : source_may_drive s (path_at (whole_scope s) x) ≡ true
    driven = source_may_drive_is s f x lt ∙ sinks_drive leaf.role sinks

    place_driven : (modules : List ModuleTree) (p : Place) (c : Component) (path : LeafPath) → place_of_leaf modules true p c path ≡ p
    place_driven modules p (component.port d t) path = refl
    place_driven modules p (component.wire t) path = refl
    place_driven modules p (component.register t) path = refl
    place_driven modules p (component.node e) path = refl
    place_driven modules p (component.memory parts) path = refl
    place_driven modules p (component.instance other) path = refl

    pub sink_place : source_place s (path_in s x) ≡ (leaf_at (module_leaves s) x).place
    sink_place =
        let is = leaf_is s f x lt in
        let modules = s.own.modules in
        let same : placed.declared ≡ is.declared = ap (λ o. unwrap_or o placed.declared) (sym placed.is_declared ∙ is.is_declared) in
        ap (source_place s) (leaf_path s f x ∙ path_there s f x lt)
        ∙ ap (λ o. place_where modules (source_may_drive s (named is.known.name ∷ is.leaf.path)) o is.leaf.path) (found s f x lt)
        ∙ ap (λ d. place_of_leaf modules d is.declared.named.place is.declared.component is.leaf.path)
        (ap (source_may_drive s) (sym (path_there s f x lt)) ∙ driven)
        ∙ place_driven modules is.declared.named.place is.declared.component is.leaf.path
        ∙ ap (λ (d : Declaration). d.named.place) (sym same) ∙ sym (placed.place sinks)
