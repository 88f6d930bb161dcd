-- The leaves of a module are those of its declarations, in order, path by path.
use Rattle.std.proofs.Common.{◌≡◌, ℕ, suc, List, [], ◌∷◌, ◌++◌, map, length, Option, Some, None, refl, sym, ap, ◌∙◌, subst, inl, inr, arith, append_assoc}
use Rattle.std.proofs.lemmas.List.{map-append, append-nil}
use Rattle.std.proofs.lemmas.List.Concat.{flat_map-append}
use Rattle.fir_base.specs.Lists.{In}
use Rattle.fir_ast.specs.declared.place.Place.{Place}
use Rattle.fir_ast.specs.Types.{DataType}
use Rattle.fir_ast.specs.Statements.{PlacedName, Statement, wire, register, node, instance, memory, when, connect, partial_connect, invalid, skip, Block, done, then}
use Rattle.fir_ast.specs.Circuits.{PortTree, ModuleTree, CircuitTree}
use Rattle.fir_meaning.specs.LeafPaths.{LeafPath, named}
use Rattle.fir_meaning.specs.TypeLeaves.{TypeLeaf, type_leaves, leaf_count}
use Rattle.fir_meaning.specs.Components.{Component}
use Rattle.fir_meaning.specs.Components as component
use Rattle.fir_meaning.specs.Visibility.{Before, declaration_at, with_declaration, opened, reopened, behind, behind_block, behind_ports, at_head, declarations}
use Rattle.fir_meaning.specs.ComponentTypes.{known_as, typed_scope}
use Rattle.fir_meaning.specs.TypeGroup.{scope_at}
use Rattle.fir_meaning.specs.ResetJoins.{numbered_module}
use Rattle.fir_meaning.specs.SizedDeclarations.{Numbering, NumberedModule, behind_module, modules_from, first_numbers, numbered_modules}
use Rattle.fir_meaning.proofs.KnownNames.{typed_more}
use Rattle.fir_meaning.specs.working.Leafed.{terms}
use Rattle.fir_meaning.specs.working.LeafedBlocks.{term_at}
use Rattle.fir_meaning.specs.FoundTypes.{leaves_of_data}
use Rattle.fir_meaning.specs.working.LeafMemories.{memory_roles}
use Rattle.fir_meaning.specs.working.LeafModules.{LeafDeclared, Role, computed, sink}
use Rattle.fir_meaning.specs.LeafTypes.{LeafType}
use Rattle.fir_meaning.specs.ModuleScenes.{Scene, Declared, type_of_declared, held_by_declared, scope_before, behind_all_ports}
use Rattle.fir_meaning.specs.working.LeafedModules.{leaves_from, declared_leaves, port_role, register_role, instance_place, instance_role, role_in, memory_before, leaves_in, leaves_in_block, leaves_of_ports, module_leaves}
use Rattle.fir_leaf.specs.working.LeafLaws.{known_paths, scope_paths}
use Rattle.fir_leaf.specs.working.TableLaws.{LeavesAreDeclared}
use Rattle.fir_leaf.proofs.LeafPlaces.{leaves_counted}
use Rattle.fir_leaf.proofs.HeldCounts.{held_by_type}

abbrev path_of : LeafDeclared → LeafPath
path_of l = l.path

abbrev path_below : List ℕ → TypeLeaf → LeafPath
path_below name l = named name ∷ l.path

-- of one declaration
from_paths : (d : Declared) (place : TypeLeaf → Place) (role_of : ℕ → TypeLeaf → Role) (k : ℕ) (ls : List TypeLeaf) (hs : List LeafType) → length hs ≡ length ls
    → map path_of (leaves_from d place role_of k ls hs) ≡ map (path_below d.named.name) ls
from_paths d place role_of k [] [] e = refl
from_paths d place role_of k [] (h ∷ hs) e = refl
from_paths d place role_of k (l ∷ ls) [] e = absurd (omega arith)
from_paths d place role_of k (l ∷ ls) (h ∷ hs) e = ap (λ ps. path_below d.named.name l ∷ ps) (from_paths d place role_of (suc k) ls hs (omega arith))

-- joined lists, part by part
joined_paths : (ps : List LeafPath) (ls ms : List LeafDeclared) (qs rs : List LeafPath) → ps ++ map path_of ls ≡ qs → qs ++ map path_of ms ≡ rs
    → ps ++ map path_of (ls ++ ms) ≡ rs
joined_paths ps ls ms qs rs h k =
    ap (λ more. ps ++ more) (map-append path_of ls ms) ∙ sym (append_assoc ps (map path_of ls) (map path_of ms)) ∙ ap (λ front. front ++ map path_of ms) h ∙ k

module _ (s : Scene) (none : s.own.start.scope ≡ []) where
  abbrev known_before : Before → List LeafPath
  known_before before = scope_paths (scope_at s.own.modules before)

  one_declared : (before : Before) (n : PlacedName) (c : Component) (place : TypeLeaf → Place) (role_of : ℕ → TypeLeaf → Role)
      → map path_of (declared_leaves s (record { named = n; component = c; before = before }) place role_of)
      ≡ known_paths (known_as s.own.modules (scope_at s.own.modules before) (declaration_at before n c))
  one_declared before n c place role_of =
      by (type_of_declared s d) (λ t h. held_by_type s.own none s.widths before n c t h)
    where
      d : Declared
      d = record { named = n; component = c; before = before }

      by : (o : Option DataType) → ((t : DataType) → o ≡ Some t → length (held_by_declared s d) ≡ leaf_count t)
          → map path_of (leaves_from d place role_of 0 (leaves_of_data o) (held_by_declared s d)) ≡ map (path_below n.name) (leaves_of_data o)
      by None h = refl
      by (Some t) h = from_paths d place role_of 0 (type_leaves t) (held_by_declared s d) (h t refl ∙ sym (leaves_counted t))

  more_declared : (before : Before) (n : PlacedName) (c : Component) (place : TypeLeaf → Place) (role_of : ℕ → TypeLeaf → Role)
      → known_before before ++ map path_of (declared_leaves s (record { named = n; component = c; before = before }) place role_of)
      ≡ known_before (with_declaration before n c)
  more_declared before n c place role_of =
      let scope = scope_at s.own.modules before in
      let k = known_as s.own.modules scope (declaration_at before n c) in
      ap (λ ps. known_before before ++ ps) (one_declared before n c place role_of ∙ sym (append-nil (known_paths k)))
      ∙ sym (flat_map-append known_paths scope (k ∷ []))
      ∙ ap scope_paths (sym (typed_more s.own.modules [] before.declared (declaration_at before n c)))

  ports_declared : (ps : List PortTree) (before : Before)
      → known_before before ++ map path_of (leaves_of_ports s before ps) ≡ known_before (behind_ports before ps)
  ports_declared [] before = append-nil (known_before before)
  ports_declared (p ∷ ps) before =
      let c = component.port p.direction p.data_type in
      let next = with_declaration before p.named c in
      let role_of : ℕ → TypeLeaf → Role = λ k l. port_role p.direction l in
      joined_paths (known_before before) (declared_leaves s (record { named = p.named; component = c; before = before }) (λ l. p.named.place) role_of)
      (leaves_of_ports s next ps) (known_before next) (known_before (behind_ports next ps))
      (more_declared before p.named c (λ l. p.named.place) role_of) (ports_declared ps next)

  mutual
    statement_declared : (x : Statement) (before : Before) → known_before before ++ map path_of (leaves_in s before x) ≡ known_before (behind before x)
    statement_declared (wire p n begins t) before = more_declared before n (component.wire t) (λ l. n.place) (λ k l. sink)
    statement_declared (register p n begins t c r) before =
        more_declared before n (component.register t) (λ l. n.place) (register_role s before n t c r)
    statement_declared (node p n e) before =
        more_declared before n (component.node e) (λ l. n.place) (λ k l. computed (term_at (terms (scope_before s before) e) k))
    statement_declared (instance p n other) before =
        more_declared before n (component.instance other.name) (instance_place n (numbered_module 0 s.own.modules other.name)) instance_role
    statement_declared (memory p n parts) before =
        more_declared before n (component.memory parts) (λ l. n.place) (role_in (memory_roles (memory_before s before n parts)))
    statement_declared (when p c a b) before =
        let inside = behind_block (opened before) a in
        joined_paths (known_before before) (leaves_in_block s (opened before) a) (leaves_in_block s (reopened before inside) b)
        (known_before inside) (known_before (behind_block (reopened before inside) b))
        (block_declared a (opened before)) (block_declared b (reopened before inside))
    statement_declared (connect p d e) before = append-nil (known_before before)
    statement_declared (partial_connect p d e) before = append-nil (known_before before)
    statement_declared (invalid p d) before = append-nil (known_before before)
    statement_declared (skip p) before = append-nil (known_before before)

    block_declared : (b : Block) (before : Before) → known_before before ++ map path_of (leaves_in_block s before b) ≡ known_before (behind_block before b)
    block_declared done before = append-nil (known_before before)
    block_declared ((then) x b) before =
        joined_paths (known_before before) (leaves_in s before x) (leaves_in_block s (behind before x) b) (known_before (behind before x))
        (known_before (behind_block (behind before x) b)) (statement_declared x before) (block_declared b (behind before x))

  module_declared : map path_of (module_leaves s) ≡ scope_paths (typed_scope s.own.modules (declarations s.own.inside))
  module_declared =
      let head = behind_all_ports s.own.inside in
      joined_paths [] (leaves_of_ports s at_head s.own.inside.ports) (leaves_in_block s head s.own.inside.body) (known_before head)
      (known_before (behind_block head s.own.inside.body)) (ports_declared s.own.inside.ports at_head) (block_declared s.own.inside.body head)

-- a module among those of a circuit, which begins with nothing declared
pub record IsOwn (all : List ModuleTree) (m : NumberedModule) : Type 0 where
  pub modules : m.modules ≡ all
  pub inside : In all m.inside
  pub start : m.start.scope ≡ []

own_from : (modules : List ModuleTree) (numbers : Numbering) (ms : List ModuleTree) (m : NumberedModule) → numbers.scope ≡ []
    → ((x : ModuleTree) → In ms x → In modules x) → In (modules_from modules numbers ms) m → IsOwn modules m
own_from modules numbers [] m none among i = absurd i
own_from modules numbers (x ∷ ms) m none among (inl e) =
    subst (IsOwn modules) e (record { modules = refl; inside = among x (inl refl); start = none })
own_from modules numbers (x ∷ ms) m none among (inr i) = own_from modules (behind_module modules numbers x) ms m refl (λ y k. among y (inr k)) i

pub own_module : (c : CircuitTree) (m : NumberedModule) → In (numbered_modules c) m → IsOwn c.modules m
own_module c m i = own_from c.modules (first_numbers c.modules) c.modules m refl (λ x k. k) i

pub leaves_declared : LeavesAreDeclared
leaves_declared c s i =
    let own = own_module c s.own i in
    module_declared s own.start ∙ ap (λ ms. scope_paths (typed_scope ms (declarations s.own.inside))) own.modules
