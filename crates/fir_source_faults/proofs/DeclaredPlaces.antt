-- Each leaf of a module stands where the declarations of the module have it, by its path.
use Rattle.std.proofs.Common.{◌≡◌, ℕ, suc, ◌<◌, List, [], ◌∷◌, ◌++◌, length, Bool, true, false, if◌then◌else◌, Option, Some, None, refl, sym, ap, ◌∙◌, subst, append_assoc, append-nil, inl}
use Rattle.std.specs.List.{AllByRecursion}
use Rattle.fir_base.specs.Lists.{Distinct, In}
use Rattle.fir_base.proofs.Each.{all_at, all_joined}
use Rattle.fir_base.proofs.Members.{in_left, in_right}
use Rattle.fir_ast.specs.declared.place.Place.{Place}
use Rattle.fir_ast.specs.Circuits.{ModuleTree, PortTree}
use Rattle.fir_ast.specs.Statements.{PlacedName, Statement, wire, register, node, instance, memory, when, connect, partial_connect, invalid, skip, Block, done, then}
use Rattle.fir_meaning.specs.Components.{Component, Declaration, Declarations}
use Rattle.fir_meaning.specs.Components as component
use Rattle.fir_meaning.specs.FoundTypes.{leaves_of_data}
use Rattle.fir_meaning.specs.working.LeafMemories.{memory_roles}
use Rattle.fir_meaning.specs.working.Leafed.{terms}
use Rattle.fir_meaning.specs.working.LeafedBlocks.{term_at}
use Rattle.fir_meaning.specs.working.LeafModules.{LeafDeclared, Role, leaf_at, may_drive, no_leaf, sink, source}
use Rattle.fir_meaning.specs.LeafTypes.{LeafType}
use Rattle.fir_meaning.specs.working.LeafModules as role
use Rattle.fir_meaning.specs.LeafPaths.{LeafPath, named}
use Rattle.fir_meaning.specs.ModuleScenes.{Declared, Scene, behind_all_ports, held_by_declared, scope_before, type_of_declared}
use Rattle.fir_meaning.specs.working.LeafedModules.{declared_leaves, instance_place, instance_role, leaves_from, leaves_in, leaves_in_block, leaves_of_ports, memory_before, module_leaves, port_role, register_role, role_in}
use Rattle.fir_meaning.specs.ResetJoins.{numbered_module, port_place}
use Rattle.fir_meaning.specs.SourceFacts.{place_of_leaf, ports_of_child, place_where, source_may_drive, source_place}
use Rattle.fir_meaning.specs.TypeLeaves.{TypeLeaf}
use Rattle.fir_meaning.specs.Visibility.{Before, at_head, behind, behind_block, behind_ports, declaration_at, declarations, opened, reopened, with_declaration}
use Rattle.fir_meaning.proofs.FoundDeclarations.{Once, once_found}
use Rattle.fir_leaf.proofs.OncePaths.{at_in}
use Rattle.fir_design.proofs.DeclaredInstances.{Grows}
use Rattle.fir_design.proofs.FineScenes.{IsFineScene, leaf_path}
use Rattle.fir_design.proofs.KnownDeclarations.{known_names}
use Rattle.fir_design.proofs.SourceInstances.{grows_before}
use Rattle.fir_design.proofs.SourceLeaves.{source_may_drive_is}
use Rattle.fir_source_faults.specs.working.ReadsByPath.{path_in}

-- what is declared, of which the leaf is one, and where it stands by whether statements may drive it
pub record StandsThere (modules : List ModuleTree) (all : Declarations) (l : LeafDeclared) : Type 0 where
  pub declared : Declaration
  pub among : In all declared
  pub rest : LeafPath
  pub path : l.path ≡ named declared.named.name ∷ rest
  pub place : (b : Bool) → b ≡ may_drive l.role → l.place ≡ place_of_leaf modules b declared.named.place declared.component rest

module _ (modules : List ModuleTree) (all : Declarations) where
  from_there : (d : Declared) (place : TypeLeaf → Place) (role_of : ℕ → TypeLeaf → Role) → In all (declaration_at d.before d.named d.component)
      → ((k : ℕ) (l : TypeLeaf) (b : Bool) → b ≡ may_drive (role_of k l) → place l ≡ place_of_leaf modules b d.named.place d.component l.path)
      → (k : ℕ) (ls : List TypeLeaf) (hs : List LeafType) → AllByRecursion (StandsThere modules all) (leaves_from d place role_of k ls hs)
  from_there d place role_of among h k [] hs = tt
  from_there d place role_of among h k (l ∷ ls) [] = tt
  from_there d place role_of among h k (l ∷ ls) (t ∷ hs) = (
    record { declared = declaration_at d.before d.named d.component; among = among; rest = l.path; path = refl; place = h k l },
    from_there d place role_of among h (suc k) ls hs,
  )

  -- a leaf of an instance
  instance_there : (n : PlacedName) (name : List ℕ) (k : ℕ) (l : TypeLeaf) (b : Bool) → b ≡ may_drive (instance_role k l)
      → instance_place n (numbered_module 0 modules name) l ≡ place_of_leaf modules b n.place (component.instance name) l.path
  instance_there n name k l b e = by (numbered_module 0 modules name) l.flip b e
    where
      by : (o : Option (ℕ × ModuleTree)) (flip test : Bool) → test ≡ may_drive (if flip then sink else source)
          → instance_place n o (record { path = l.path; flip = flip; ground_type = l.ground_type })
          ≡ (if test then n.place else port_place n.place (ports_of_child o) l.path)
      by None flip true h = refl
      by None flip false h = refl
      by (Some child) true true h = refl
      by (Some child) true false h = cc
      by (Some child) false true h = cc
      by (Some child) false false h = refl

module _ (s : Scene) (all : Declarations) where
  abbrev Stand : List LeafDeclared → Type 0
  Stand = AllByRecursion (StandsThere s.own.modules all)

  among_all : (before : Before) (n : PlacedName) (c : Component) → Grows (with_declaration before n c).declared all → In all (declaration_at before n c)
  among_all before n c g =
      let d = declaration_at before n c in
      subst (λ ds. In ds d) g.1 (in_left (before.declared ++ d ∷ []) g.0 d (in_right before.declared (d ∷ []) d (inl refl)))

  declared_there : (before : Before) (n : PlacedName) (c : Component) (place : TypeLeaf → Place) (role_of : ℕ → TypeLeaf → Role)
      → Grows (with_declaration before n c).declared all
      → ((k : ℕ) (l : TypeLeaf) (b : Bool) → b ≡ may_drive (role_of k l) → place l ≡ place_of_leaf s.own.modules b n.place c l.path)
      → Stand (declared_leaves s (record { named = n; component = c; before = before }) place role_of)
  declared_there before n c place role_of g h =
      let d : Declared = record { named = n; component = c; before = before } in
      from_there s.own.modules all d place role_of (among_all before n c g) h 0 (leaves_of_data (type_of_declared s d)) (held_by_declared s d)

  mutual
    statement_there : (x : Statement) (before : Before) → Grows (behind before x).declared all → Stand (leaves_in s before x)
    statement_there (wire p n begins t) before g =
        declared_there before n (component.wire t) (λ l. n.place) (λ k l. sink) g (λ k l b e. refl)
    statement_there (register p n begins t c r) before g =
        declared_there before n (component.register t) (λ l. n.place) (register_role s before n t c r) g (λ k l b e. refl)
    statement_there (node p n e) before g =
        declared_there before n (component.node e) (λ l. n.place) (λ k l. role.computed (term_at (terms (scope_before s before) e) k)) g
        (λ k l b h. refl)
    statement_there (instance p n other) before g =
        declared_there before n (component.instance other.name) (instance_place n (numbered_module 0 s.own.modules other.name)) instance_role g
        (λ k l b e. instance_there s.own.modules all n other.name k l b e)
    statement_there (memory p n parts) before g =
        declared_there before n (component.memory parts) (λ l. n.place) (role_in (memory_roles (memory_before s before n parts))) g (λ k l b e. refl)
    statement_there (when p e a b) before g =
        let first = opened before in
        let second = reopened before (behind_block first a) in
        all_joined (StandsThere s.own.modules all) (leaves_in_block s first a) (leaves_in_block s second b)
        (block_there a first (grows_before second b all g)) (block_there b second g)
    statement_there (connect p d e) before g = tt
    statement_there (partial_connect p d e) before g = tt
    statement_there (invalid p d) before g = tt
    statement_there (skip p) before g = tt

    block_there : (b : Block) (before : Before) → Grows (behind_block before b).declared all → Stand (leaves_in_block s before b)
    block_there done before g = tt
    block_there ((then) x b) before g =
        let next = behind before x in
        all_joined (StandsThere s.own.modules all) (leaves_in s before x) (leaves_in_block s next b)
        (statement_there x before (grows_before next b all g)) (block_there b next g)

  ports_before : (ps : List PortTree) (before : Before) → Grows (behind_ports before ps).declared all → Grows before.declared all
  ports_before [] before g = g
  ports_before (p ∷ ps) before g =
      let d = declaration_at before p.named (component.port p.direction p.data_type) in
      let r = ports_before ps (with_declaration before p.named (component.port p.direction p.data_type)) g in
      (d ∷ r.0, sym (append_assoc before.declared (d ∷ []) r.0) ∙ r.1)

  ports_there : (ps : List PortTree) (before : Before) → Grows (behind_ports before ps).declared all → Stand (leaves_of_ports s before ps)
  ports_there [] before g = tt
  ports_there (p ∷ ps) before g =
      let c = component.port p.direction p.data_type in
      let next = with_declaration before p.named c in
      all_joined (StandsThere s.own.modules all)
      (declared_leaves s (record { named = p.named; component = c; before = before }) (λ l. p.named.place) (λ k l. port_role p.direction l))
      (leaves_of_ports s next ps)
      (declared_there before p.named c (λ l. p.named.place) (λ k l. port_role p.direction l) (ports_before ps next g) (λ k l b e. refl))
      (ports_there ps next g)

module _ (s : Scene) (f : IsFineScene s) where
  abbrev all : Declarations
  all = declarations s.own.inside

  all_there : AllByRecursion (StandsThere s.own.modules (declarations s.own.inside)) (module_leaves s)
  all_there =
      let head = behind_all_ports s.own.inside in
      let body = s.own.inside.body in
      let g : Grows (behind_block head body).declared all = ([], append-nil all) in
      all_joined (StandsThere s.own.modules all) (leaves_of_ports s at_head s.own.inside.ports) (leaves_in_block s head body)
      (ports_there s all s.own.inside.ports at_head (grows_before head body all g)) (block_there s all body head g)

  pub source_place_is : (x : ℕ) → x < length (module_leaves s) → source_place s (path_in s x) ≡ (leaf_at (module_leaves s) x).place
  source_place_is x lt =
      let l = leaf_at (module_leaves s) x in
      let h = all_at (StandsThere s.own.modules all) (module_leaves s) all_there l (at_in (module_leaves s) no_leaf x lt) in
      let once : Once all = record { once = subst Distinct (known_names s.own.modules all) f.fine.names } in
      let whole = named h.declared.named.name ∷ h.rest in
      let driven : source_may_drive s whole ≡ may_drive l.role =
      ap (source_may_drive s) (sym h.path ∙ leaf_path s f x) ∙ source_may_drive_is s f x lt in
      ap (source_place s) h.path ∙ ap (λ o. place_where s.own.modules (source_may_drive s whole) o h.rest) (once_found all once h.declared h.among)
      ∙ sym (h.place (source_may_drive s whole) driven)
