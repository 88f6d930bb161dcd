-- The leaves of a module hold what its declarations do, in order.
use Rattle.std.proofs.Common.{◌≡◌, ℕ, zero, suc, List, [], ◌∷◌, ◌++◌, map, length, slice_get, Option, Some, None, refl, sym, ap, ◌∙◌, arith, append_assoc}
use Rattle.std.proofs.lemmas.List.{map-append, append-nil}
use Rattle.fir_ast.specs.declared.place.Place.{Place}
use Rattle.fir_ast.specs.Types.{DataType}
use Rattle.fir_ast.specs.Statements.{PlacedName, Statement, wire, register, node, instance, memory, when, connect, partial_connect, invalid, skip, Block, done, then}
use Rattle.fir_ast.specs.Circuits.{PortTree}
use Rattle.fir_meaning.specs.TypeLeaves.{TypeLeaf, type_leaves, leaf_count}
use Rattle.fir_meaning.specs.Components.{Component}
use Rattle.fir_meaning.specs.Components as component
use Rattle.fir_meaning.specs.Visibility.{Before, declaration_at, with_declaration, opened, reopened, behind, behind_block, behind_ports, at_head, declarations}
use Rattle.fir_meaning.specs.ComponentTypes.{typed_scope}
use Rattle.fir_meaning.specs.ResetJoins.{numbered_module}
use Rattle.fir_meaning.specs.SizedDeclarations.{numbered_behind, sized_declared}
use Rattle.fir_meaning.specs.working.Leafed.{terms}
use Rattle.fir_meaning.specs.working.LeafedBlocks.{term_at}
use Rattle.fir_meaning.specs.FoundTypes.{leaves_of_data}
use Rattle.fir_meaning.specs.working.LeafMemories.{memory_roles}
use Rattle.fir_meaning.specs.working.LeafModules.{LeafDeclared, Role, computed, leaf_at, sink}
use Rattle.fir_meaning.specs.LeafTypes.{LeafType}
use Rattle.fir_meaning.specs.ModuleScenes.{Scene, Declared, type_of_declared, held_by_declared, scope_before, behind_all_ports}
use Rattle.fir_meaning.specs.working.LeafedModules.{leaves_from, declared_leaves, port_role, register_role, instance_place, instance_role, role_in, memory_before, leaves_in, leaves_in_block, leaves_of_ports, module_leaves}
use Rattle.fir_leaf.proofs.LeafPlaces.{leaves_counted}
use Rattle.fir_leaf.proofs.HeldCounts.{held_by_type}
use Rattle.fir_leaf_types.proofs.ScopesStandTyped.{held_where, held_along}
use Rattle.fir_leaf_types.proofs.DeclarationsStandTyped.{held_one}

abbrev holds_of : LeafDeclared → LeafType
holds_of l = l.holds

-- of one declaration
from_holds : (d : Declared) (place : TypeLeaf → Place) (role_of : ℕ → TypeLeaf → Role) (k : ℕ) (ls : List TypeLeaf) (hs : List LeafType) → length hs ≡ length ls
    → map holds_of (leaves_from d place role_of k ls hs) ≡ hs
from_holds d place role_of k [] [] e = refl
from_holds d place role_of k [] (h ∷ hs) e = absurd (omega (arith, e))
from_holds d place role_of k (l ∷ ls) [] e = absurd (omega (arith, e))
from_holds d place role_of k (l ∷ ls) (h ∷ hs) e = ap (λ xs. h ∷ xs) (from_holds d place role_of (suc k) ls hs (omega (arith, e)))

-- joined lists, part by part
joined_holds : (ps : List LeafType) (ls ms : List LeafDeclared) (qs rs : List LeafType) → ps ++ map holds_of ls ≡ qs → qs ++ map holds_of ms ≡ rs
    → ps ++ map holds_of (ls ++ ms) ≡ rs
joined_holds ps ls ms qs rs h k =
    ap (λ more. ps ++ more) (map-append holds_of ls ms) ∙ sym (append_assoc ps (map holds_of ls) (map holds_of ms))
    ∙ ap (λ front. front ++ map holds_of ms) h ∙ k

module _ (s : Scene) (none : s.own.start.scope ≡ []) where
  abbrev held_before : Before → List LeafType
  held_before before = held_along s.widths (typed_scope s.own.modules before.declared) (numbered_behind s.own.modules s.own.start before.declared).scope

  one_holds : (before : Before) (n : PlacedName) (c : Component) (place : TypeLeaf → Place) (role_of : ℕ → TypeLeaf → Role)
      → map holds_of (declared_leaves s (record { named = n; component = c; before = before }) place role_of)
      ≡ held_where s.widths (type_of_declared s (record { named = n; component = c; before = before })) (sized_declared s.own before n c)
  one_holds before n c place role_of = by (type_of_declared s d) (λ t h. held_by_type s.own none s.widths before n c t h)
    where
      d : Declared
      d = record { named = n; component = c; before = before }

      by : (o : Option DataType) → ((t : DataType) → o ≡ Some t → length (held_by_declared s d) ≡ leaf_count t)
          → map holds_of (leaves_from d place role_of 0 (leaves_of_data o) (held_by_declared s d)) ≡ held_where s.widths o (sized_declared s.own before n c)
      by None h = refl
      by (Some t) h = from_holds d place role_of 0 (type_leaves t) (held_by_declared s d) (h t refl ∙ sym (leaves_counted t))

  more_holds : (before : Before) (n : PlacedName) (c : Component) (place : TypeLeaf → Place) (role_of : ℕ → TypeLeaf → Role)
      → held_before before ++ map holds_of (declared_leaves s (record { named = n; component = c; before = before }) place role_of)
      ≡ held_before (with_declaration before n c)
  more_holds before n c place role_of =
      ap (λ hs. held_before before ++ hs) (one_holds before n c place role_of)
      ∙ sym (held_one s.widths s.own.modules s.own.start none before.declared (declaration_at before n c))

  ports_hold : (ps : List PortTree) (before : Before)
      → held_before before ++ map holds_of (leaves_of_ports s before ps) ≡ held_before (behind_ports before ps)
  ports_hold [] before = append-nil (held_before before)
  ports_hold (p ∷ ps) before =
      let c = component.port p.direction p.data_type in
      let next = with_declaration before p.named c in
      let role_of : ℕ → TypeLeaf → Role = λ k l. port_role p.direction l in
      joined_holds (held_before before) (declared_leaves s (record { named = p.named; component = c; before = before }) (λ l. p.named.place) role_of)
      (leaves_of_ports s next ps) (held_before next) (held_before (behind_ports next ps))
      (more_holds before p.named c (λ l. p.named.place) role_of) (ports_hold ps next)

  mutual
    statement_holds : (x : Statement) (before : Before) → held_before before ++ map holds_of (leaves_in s before x) ≡ held_before (behind before x)
    statement_holds (wire p n begins t) before = more_holds before n (component.wire t) (λ l. n.place) (λ k l. sink)
    statement_holds (register p n begins t c r) before =
        more_holds before n (component.register t) (λ l. n.place) (register_role s before n t c r)
    statement_holds (node p n e) before =
        more_holds before n (component.node e) (λ l. n.place) (λ k l. computed (term_at (terms (scope_before s before) e) k))
    statement_holds (instance p n other) before =
        more_holds before n (component.instance other.name) (instance_place n (numbered_module 0 s.own.modules other.name)) instance_role
    statement_holds (memory p n parts) before =
        more_holds before n (component.memory parts) (λ l. n.place) (role_in (memory_roles (memory_before s before n parts)))
    statement_holds (when p c a b) before =
        let inside = behind_block (opened before) a in
        joined_holds (held_before before) (leaves_in_block s (opened before) a) (leaves_in_block s (reopened before inside) b)
        (held_before inside) (held_before (behind_block (reopened before inside) b))
        (block_holds a (opened before)) (block_holds b (reopened before inside))
    statement_holds (connect p d e) before = append-nil (held_before before)
    statement_holds (partial_connect p d e) before = append-nil (held_before before)
    statement_holds (invalid p d) before = append-nil (held_before before)
    statement_holds (skip p) before = append-nil (held_before before)

    block_holds : (b : Block) (before : Before) → held_before before ++ map holds_of (leaves_in_block s before b) ≡ held_before (behind_block before b)
    block_holds done before = append-nil (held_before before)
    block_holds ((then) x b) before =
        joined_holds (held_before before) (leaves_in s before x) (leaves_in_block s (behind before x) b) (held_before (behind before x))
        (held_before (behind_block (behind before x) b)) (statement_holds x before) (block_holds b (behind before x))

  pub module_holds : map (λ (l : LeafDeclared). l.holds) (module_leaves s)
      ≡ held_along s.widths (typed_scope s.own.modules (declarations s.own.inside))
      (numbered_behind s.own.modules s.own.start (declarations s.own.inside)).scope
  module_holds =
      let head = behind_all_ports s.own.inside in
      joined_holds (held_before at_head) (leaves_of_ports s at_head s.own.inside.ports) (leaves_in_block s head s.own.inside.body) (held_before head)
      (held_before (behind_block head s.own.inside.body)) (ports_hold s.own.inside.ports at_head) (block_holds s.own.inside.body head)

-- a leaf by its number
pub holds_at : (ls : List LeafDeclared) (x : ℕ) (h : LeafType) → slice_get (map (λ (l : LeafDeclared). l.holds) ls) x ≡ Some h → (leaf_at ls x).holds ≡ h
holds_at [] x h e = absurd (cc)
holds_at (l ∷ ls) zero h e = cc
holds_at (l ∷ ls) (suc x) h e = holds_at ls x h e
