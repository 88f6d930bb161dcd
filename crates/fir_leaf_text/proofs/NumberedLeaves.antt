-- The leaves of a module are numbered by their declarations: those of the first declaration come first, then those of the second, and so on.
use Rattle.std.proofs.Common.{◌≡◌, ℕ, suc, ◌+◌, List, [], ◌∷◌, ◌++◌, map, length, Option, Some, None, refl, sym, ap, ◌∙◌, arith, append_assoc, length-append}
use Rattle.std.proofs.lemmas.List.{append-nil, map-append}
use Rattle.fir_base.specs.Lists.{In}
use Rattle.fir_ast.specs.declared.place.Place.{Place}
use Rattle.fir_ast.specs.Types.{DataType}
use Rattle.fir_ast.specs.Statements.{PlacedName, Statement, wire, register, node, instance, memory, when, connect, partial_connect, invalid, skip, Block, done, then}
use Rattle.fir_ast.specs.Circuits.{PortTree, ModuleTree, CircuitTree}
use Rattle.fir_meaning.specs.TypeLeaves.{TypeLeaf, leaf_count, type_leaves}
use Rattle.fir_meaning.specs.TypedScopes.{Known, TypedScope}
use Rattle.fir_meaning.specs.Components.{Component, Declaration, Declarations}
use Rattle.fir_meaning.specs.Components as component
use Rattle.fir_meaning.specs.Visibility.{Before, declaration_at, with_declaration, opened, reopened, behind, behind_block, behind_ports, at_head, declarations}
use Rattle.fir_meaning.specs.ComponentTypes.{known_as, typed_behind, typed_scope}
use Rattle.fir_meaning.specs.TypeGroup.{scope_at}
use Rattle.fir_meaning.specs.ResetJoins.{numbered_module}
use Rattle.fir_meaning.specs.SizedDeclarations.{numbered_modules}
use Rattle.fir_meaning.proofs.KnownNames.{typed_more}
use Rattle.fir_meaning.specs.working.Leafed.{terms}
use Rattle.fir_meaning.specs.working.LeafedBlocks.{term_at}
use Rattle.fir_meaning.specs.FoundTypes.{leaves_of_data}
use Rattle.fir_meaning.specs.working.LeafMemories.{memory_roles}
use Rattle.fir_meaning.specs.working.LeafModules.{LeafDeclared, Role, computed, sink}
use Rattle.fir_meaning.specs.LeafTypes.{LeafType}
use Rattle.fir_meaning.specs.ModuleScenes.{Scene, Declared, type_of_declared, held_by_declared, scope_before, behind_all_ports}
use Rattle.fir_meaning.specs.working.LeafedModules.{leaves_from, declared_leaves, port_role, register_role, instance_place, instance_role, role_in, memory_before, leaves_in, leaves_in_block, leaves_of_ports, module_leaves}
use Rattle.fir_leaf.proofs.DeclaredLeaves.{own_module}
use Rattle.fir_leaf.proofs.HeldCounts.{held_by_type}
use Rattle.fir_leaf.proofs.LeafPlaces.{leaves_counted}

abbrev pub number_of : LeafDeclared → ℕ
number_of l = l.declaration

abbrev pub same_number : ℕ → Option DataType → List ℕ
same_number n t = map (λ l. n) (leaves_of_data t)

-- the number of its declaration for each leaf, where the first of these declarations has a number
abbrev pub numbers_from : ℕ → TypedScope → List ℕ
numbers_from n [] = []
numbers_from n (k ∷ ks) = same_number n k.data_type ++ numbers_from (suc n) ks

numbers_more : (n : ℕ) (ks : TypedScope) (k : Known) (m : ℕ) → m ≡ n + length ks
    → numbers_from n (ks ++ k ∷ []) ≡ numbers_from n ks ++ same_number m k.data_type
numbers_more n [] k m at =
    let same : n ≡ m = omega arith in
    append-nil (same_number n k.data_type) ∙ ap (λ j. same_number j k.data_type) same
numbers_more n (x ∷ ks) k m at =
    ap (λ ns. same_number n x.data_type ++ ns) (numbers_more (suc n) ks k m (omega arith))
    ∙ sym (append_assoc (same_number n x.data_type) (numbers_from (suc n) ks) (same_number m k.data_type))

as_many_known : (modules : List ModuleTree) (scope : TypedScope) (ds : Declarations) → length (typed_behind modules scope ds) ≡ length scope + length ds
as_many_known modules scope [] = omega arith
as_many_known modules scope (d ∷ ds) =
    let k = known_as modules scope d in
    omega (arith, as_many_known modules (scope ++ k ∷ []) ds, length-append scope (k ∷ []))

-- of one declaration
from_numbers : (d : Declared) (place : TypeLeaf → Place) (role_of : ℕ → TypeLeaf → Role) (k : ℕ) (ls : List TypeLeaf) (hs : List LeafType)
    → length hs ≡ length ls → map number_of (leaves_from d place role_of k ls hs) ≡ map (λ l. length d.before.declared) ls
from_numbers d place role_of k [] [] e = refl
from_numbers d place role_of k [] (h ∷ hs) e = refl
from_numbers d place role_of k (l ∷ ls) [] e = absurd (omega arith)
from_numbers d place role_of k (l ∷ ls) (h ∷ hs) e = ap (λ ns. length d.before.declared ∷ ns) (from_numbers d place role_of (suc k) ls hs (omega arith))

-- joined lists, part by part
joined_numbers : (ns : List ℕ) (ls ms : List LeafDeclared) (ks js : List ℕ) → ns ++ map number_of ls ≡ ks → ks ++ map number_of ms ≡ js
    → ns ++ map number_of (ls ++ ms) ≡ js
joined_numbers ns ls ms ks js h k =
    ap (λ more. ns ++ more) (map-append number_of ls ms) ∙ sym (append_assoc ns (map number_of ls) (map number_of ms))
    ∙ ap (λ front. front ++ map number_of ms) h ∙ k

module _ (s : Scene) (none : s.own.start.scope ≡ []) where
  abbrev numbers_before : Before → List ℕ
  numbers_before before = numbers_from 0 (scope_at s.own.modules before)

  one_numbered : (before : Before) (n : PlacedName) (c : Component) (place : TypeLeaf → Place) (role_of : ℕ → TypeLeaf → Role)
      → map number_of (declared_leaves s (record { named = n; component = c; before = before }) place role_of)
      ≡ same_number (length before.declared) (known_as s.own.modules (scope_at s.own.modules before) (declaration_at before n c)).data_type
  one_numbered before n c place role_of =
      by (type_of_declared s d) (λ t h. held_by_type s.own none s.widths before n c t h)
    where
      d : Declared
      d = record { named = n; component = c; before = before }

      by : (o : Option DataType) → ((t : DataType) → o ≡ Some t → length (held_by_declared s d) ≡ leaf_count t)
          → map number_of (leaves_from d place role_of 0 (leaves_of_data o) (held_by_declared s d)) ≡ same_number (length before.declared) o
      by None h = refl
      by (Some t) h = from_numbers d place role_of 0 (type_leaves t) (held_by_declared s d) (h t refl ∙ sym (leaves_counted t))

  more_numbered : (before : Before) (n : PlacedName) (c : Component) (place : TypeLeaf → Place) (role_of : ℕ → TypeLeaf → Role)
      → numbers_before before ++ map number_of (declared_leaves s (record { named = n; component = c; before = before }) place role_of)
      ≡ numbers_before (with_declaration before n c)
  more_numbered before n c place role_of =
      let scope = scope_at s.own.modules before in
      let k = known_as s.own.modules scope (declaration_at before n c) in
      let many : length before.declared ≡ 0 + length scope = omega (arith, as_many_known s.own.modules [] before.declared) in
      ap (λ ns. numbers_before before ++ ns) (one_numbered before n c place role_of)
      ∙ sym (numbers_more 0 scope k (length before.declared) many)
      ∙ ap (numbers_from 0) (sym (typed_more s.own.modules [] before.declared (declaration_at before n c)))

  ports_numbered : (ps : List PortTree) (before : Before)
      → numbers_before before ++ map number_of (leaves_of_ports s before ps) ≡ numbers_before (behind_ports before ps)
  ports_numbered [] before = append-nil (numbers_before before)
  ports_numbered (p ∷ ps) before =
      let c = component.port p.direction p.data_type in
      let next = with_declaration before p.named c in
      let role_of : ℕ → TypeLeaf → Role = λ k l. port_role p.direction l in
      joined_numbers (numbers_before before) (declared_leaves s (record { named = p.named; component = c; before = before }) (λ l. p.named.place) role_of)
      (leaves_of_ports s next ps) (numbers_before next) (numbers_before (behind_ports next ps))
      (more_numbered before p.named c (λ l. p.named.place) role_of) (ports_numbered ps next)

  mutual
    statement_numbered : (x : Statement) (before : Before) → numbers_before before ++ map number_of (leaves_in s before x) ≡ numbers_before (behind before x)
    statement_numbered (wire p n begins t) before = more_numbered before n (component.wire t) (λ l. n.place) (λ k l. sink)
    statement_numbered (register p n begins t c r) before =
        more_numbered before n (component.register t) (λ l. n.place) (register_role s before n t c r)
    statement_numbered (node p n e) before =
        more_numbered before n (component.node e) (λ l. n.place) (λ k l. computed (term_at (terms (scope_before s before) e) k))
    statement_numbered (instance p n other) before =
        more_numbered before n (component.instance other.name) (instance_place n (numbered_module 0 s.own.modules other.name)) instance_role
    statement_numbered (memory p n parts) before =
        more_numbered before n (component.memory parts) (λ l. n.place) (role_in (memory_roles (memory_before s before n parts)))
    statement_numbered (when p c a b) before =
        let inside = behind_block (opened before) a in
        joined_numbers (numbers_before before) (leaves_in_block s (opened before) a) (leaves_in_block s (reopened before inside) b)
        (numbers_before inside) (numbers_before (behind_block (reopened before inside) b))
        (block_numbered a (opened before)) (block_numbered b (reopened before inside))
    statement_numbered (connect p d e) before = append-nil (numbers_before before)
    statement_numbered (partial_connect p d e) before = append-nil (numbers_before before)
    statement_numbered (invalid p d) before = append-nil (numbers_before before)
    statement_numbered (skip p) before = append-nil (numbers_before before)

    block_numbered : (b : Block) (before : Before)
        → numbers_before before ++ map number_of (leaves_in_block s before b) ≡ numbers_before (behind_block before b)
    block_numbered done before = append-nil (numbers_before before)
    block_numbered ((then) x b) before =
        joined_numbers (numbers_before before) (leaves_in s before x) (leaves_in_block s (behind before x) b) (numbers_before (behind before x))
        (numbers_before (behind_block (behind before x) b)) (statement_numbered x before) (block_numbered b (behind before x))

  module_numbered : map number_of (module_leaves s) ≡ numbers_from 0 (typed_scope s.own.modules (declarations s.own.inside))
  module_numbered =
      let head = behind_all_ports s.own.inside in
      joined_numbers [] (leaves_of_ports s at_head s.own.inside.ports) (leaves_in_block s head s.own.inside.body) (numbers_before head)
      (numbers_before (behind_block head s.own.inside.body)) (ports_numbered s.own.inside.ports at_head) (block_numbered s.own.inside.body head)

pub leaves_numbered : (c : CircuitTree) (s : Scene) → In (numbered_modules c) s.own
    → map number_of (module_leaves s) ≡ numbers_from 0 (typed_scope c.modules (declarations s.own.inside))
leaves_numbered c s i =
    let own = own_module c s.own i in
    module_numbered s own.start ∙ ap (λ ms. numbers_from 0 (typed_scope ms (declarations s.own.inside))) own.modules
