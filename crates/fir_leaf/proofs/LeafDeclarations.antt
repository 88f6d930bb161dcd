-- Each leaf of a module is one of a declaration: at its place among all, with its depth, and driven as its flow has it.
use Rattle.std.proofs.Common.{◌≡◌, ℕ, suc, ◌+◌, List, [], ◌∷◌, ◌++◌, map, length, slice_get, Bool, true, false, not, ◌&&◌, if◌then◌else◌, Option, Some, refl, sym, ap, ◌∙◌, subst, arith, append_assoc, length-append}
use Rattle.std.specs.Prelude.{flat_map}
use Rattle.std.specs.List.{AllByRecursion}
use Rattle.std.proofs.lemmas.List.{append-nil}
use Rattle.fir_base.specs.Lists.{In}
use Rattle.fir_base.specs.declared.direction.Direction.{Direction}
use Rattle.fir_base.proofs.Each.{all_at, all_joined}
use Rattle.fir_base.proofs.Elements.{get_behind, get_in}
use Rattle.fir_ast.specs.declared.place.Place.{Place}
use Rattle.fir_ast.specs.declared.statements.ReadUnderWrite.{ReadUnderWrite}
use Rattle.fir_ast.specs.Types.{DataType}
use Rattle.fir_ast.specs.Expressions.{Expression}
use Rattle.fir_ast.specs.Statements.{PlacedName, MemoryPart, Statement, wire, register, node, instance, memory, when, connect, partial_connect, invalid, skip, Block, done, then}
use Rattle.fir_ast.specs.Circuits.{PortTree, ModuleTree}
use Rattle.fir_meaning.specs.Flows.{flow_under, flow_of, is_source, port_flow}
use Rattle.fir_meaning.specs.LeafPaths.{named}
use Rattle.fir_meaning.specs.TypeKinds.{is_passive}
use Rattle.fir_meaning.specs.TypeLeaves.{TypeLeaf, type_leaves, leaf_count}
use Rattle.fir_meaning.specs.MemoryTypes.{memory_type, memory_bundle}
use Rattle.fir_meaning.specs.Components.{Component, Declaration, Declarations}
use Rattle.fir_meaning.specs.Components as component
use Rattle.fir_meaning.specs.Visibility.{Before, declaration_at, with_declaration, opened, reopened, behind, behind_block, behind_ports, at_head, declarations}
use Rattle.fir_meaning.specs.TypedScopes.{Known, TypedScope}
use Rattle.fir_meaning.specs.ComponentTypes.{known_as, typed_behind, typed_scope}
use Rattle.fir_meaning.specs.TypeGroup.{scope_at}
use Rattle.fir_meaning.specs.ExpressionTypes.{expression_type}
use Rattle.fir_meaning.specs.ResetJoins.{numbered_module}
use Rattle.fir_meaning.specs.working.WellTyped.{MemoryIsLegal, IsLegal, AreLegal}
use Rattle.fir_meaning.proofs.FoundTypes.{found_type}
use Rattle.fir_meaning.proofs.WellTypedCircuits.{well_typed}
use Rattle.fir_meaning.specs.working.Leafed.{terms}
use Rattle.fir_meaning.specs.working.LeafedBlocks.{term_at}
use Rattle.fir_meaning.specs.working.LeafMemories.{LeafMemory, array_count, memory_roles, port_kinds_of}
use Rattle.fir_meaning.specs.FoundTypes.{leaves_of_data}
use Rattle.fir_meaning.specs.working.LeafModules.{LeafDeclared, LeafReset, Reading, Role, computed, is_sink, may_drive, pipe, reading, sink, source}
use Rattle.fir_meaning.specs.LeafTypes.{LeafType}
use Rattle.fir_meaning.specs.working.LeafModules as role
use Rattle.fir_meaning.specs.working.Terms.{Term}
use Rattle.fir_meaning.specs.ModuleScenes.{Scene, Declared, type_of_declared, held_by_declared, scope_before, behind_all_ports}
use Rattle.fir_meaning.specs.working.LeafedModules.{leaves_from, declared_leaves, port_role, register_role, instance_place, instance_role, role_in, memory_before, leaves_in, leaves_in_block, leaves_of_ports, module_leaves}
use Rattle.fir_leaf.specs.working.TableLaws.{IsLeafOf, LeavesFollowTypes, is_register}
use Rattle.fir_leaf.proofs.LeafPlaces.{get_left}
use Rattle.fir_leaf.proofs.DeclaredLeaves.{own_module}
use Rattle.fir_leaf.proofs.DrivenFlips.{flips, passive_flips, roles_pass, memory_flips, beside_flip, straight_leaf}

-- a declaration among others, and what is known of it
typed_longer : (modules : List ModuleTree) (scope : TypedScope) (ds : Declarations) (k : ℕ) (x : Known) → slice_get scope k ≡ Some x
    → slice_get (typed_behind modules scope ds) k ≡ Some x
typed_longer modules scope [] k x e = e
typed_longer modules scope (d ∷ ds) k x e =
    typed_longer modules (scope ++ known_as modules scope d ∷ []) ds k x (get_left scope (known_as modules scope d ∷ []) k x e)

typed_there : (modules : List ModuleTree) (scope : TypedScope) (ds : Declarations) (d : Declaration) (more : Declarations) (k : ℕ)
    → k ≡ length scope + length ds → slice_get (typed_behind modules scope (ds ++ d ∷ more)) k ≡ Some (known_as modules (typed_behind modules scope ds) d)
typed_there modules scope [] d more k e =
    let x = known_as modules scope d in
    let same : k ≡ length scope = omega (arith, e) in
    rw same (typed_longer modules (scope ++ x ∷ []) more (length scope) x (get_behind scope [] x))
typed_there modules scope (y ∷ ds) d more k e =
    let next = scope ++ known_as modules scope y ∷ [] in
    typed_there modules next ds d more k (omega (arith, e, length-append scope (known_as modules scope y ∷ [])))

-- what is declared grows along a module
abbrev Grows : Declarations → Declarations → Type 0
Grows ds all = (more : Declarations) × (ds ++ more ≡ all)

grows_all : (ds : Declarations) → Grows ds ds
grows_all ds = ([], append-nil ds)

grows_through : (one two three : Declarations) → Grows one two → Grows two three → Grows one three
grows_through one two three h k = (h.0 ++ k.0, sym (append_assoc one h.0 k.0) ∙ ap (λ s. s ++ k.0) h.1 ∙ k.1)

mutual
  grows : (x : Statement) (before : Before) → Grows before.declared (behind before x).declared
  grows (wire p n begins t) before = (declaration_at before n (component.wire t) ∷ [], refl)
  grows (register p n begins t c r) before = (declaration_at before n (component.register t) ∷ [], refl)
  grows (node p n e) before = (declaration_at before n (component.node e) ∷ [], refl)
  grows (instance p n m) before = (declaration_at before n (component.instance m.name) ∷ [], refl)
  grows (memory p n parts) before = (declaration_at before n (component.memory parts) ∷ [], refl)
  grows (when p c a b) before =
      let inside = behind_block (opened before) a in
      grows_through before.declared inside.declared (behind_block (reopened before inside) b).declared (grows_block a (opened before))
      (grows_block b (reopened before inside))
  grows (connect p d e) before = grows_all before.declared
  grows (partial_connect p d e) before = grows_all before.declared
  grows (invalid p d) before = grows_all before.declared
  grows (skip p) before = grows_all before.declared

  grows_block : (b : Block) (before : Before) → Grows before.declared (behind_block before b).declared
  grows_block done before = grows_all before.declared
  grows_block ((then) x b) before =
      grows_through before.declared (behind before x).declared (behind_block (behind before x) b).declared (grows x before) (grows_block b (behind before x))

grows_ports : (ps : List PortTree) (before : Before) → Grows before.declared (behind_ports before ps).declared
grows_ports [] before = grows_all before.declared
grows_ports (p ∷ ps) before =
    let next = with_declaration before p.named (component.port p.direction p.data_type) in
    grows_through before.declared next.declared (behind_ports next ps).declared
    (declaration_at before p.named (component.port p.direction p.data_type) ∷ [], refl) (grows_ports ps next)

-- a role that follows the flow of a component's leaf
record Follows (c : Component) (flip : Bool) (r : Role) : Type 0 where
  drives : may_drive r ≡ not (is_source (flow_under flip (flow_of c)))
  sinks : is_sink r ≡ (not (is_source (flow_under flip (flow_of c))) && not (is_register c))

port_follows : (d : Direction) (t : DataType) (l : TypeLeaf) → Follows (component.port d t) l.flip (port_role d l)
port_follows d t l = record { drives = by (is_source (flow_under l.flip (port_flow d))); sinks = too (is_source (flow_under l.flip (port_flow d))) }
  where
    by : (b : Bool) → may_drive (if b then source else sink) ≡ not b
    by true = refl
    by false = refl

    too : (b : Bool) → is_sink (if b then source else sink) ≡ (not b && true)
    too true = refl
    too false = refl

wire_follows : (t : DataType) (flip : Bool) → Follows (component.wire t) flip sink
wire_follows t true = record { drives = refl; sinks = refl }
wire_follows t false = record { drives = refl; sinks = refl }

register_follows : (t : DataType) (flip : Bool) (clock : Term) (reset : Option LeafReset) → Follows (component.register t) flip (role.register clock reset)
register_follows t true clock reset = record { drives = refl; sinks = refl }
register_follows t false clock reset = record { drives = refl; sinks = refl }

node_follows : (e : Expression) (t : Term) (flip : Bool) → flip ≡ false → Follows (component.node e) flip (computed t)
node_follows e t flip h = rw h (record { drives = refl; sinks = refl })

instance_follows : (name : List ℕ) (k : ℕ) (l : TypeLeaf) → Follows (component.instance name) l.flip (instance_role k l)
instance_follows name k l = by l.flip
  where
    by : (b : Bool) → Follows (component.instance name) b (if b then sink else source)
    by true = record { drives = refl; sinks = refl }
    by false = record { drives = refl; sinks = refl }

memory_follows : (parts : List MemoryPart) (flip : Bool) (r : Role) → may_drive r ≡ flip → is_sink r ≡ flip → Follows (component.memory parts) flip r
memory_follows parts true r h k = record { drives = h; sinks = k }
memory_follows parts false r h k = record { drives = h; sinks = k }

-- of a memory that is legal
memory_roles_follow : (m : LeafMemory) (n : PlacedName) (parts : List MemoryPart) → m.ports ≡ flat_map port_kinds_of parts → m.data_leaves ≡ array_count parts
    → MemoryIsLegal parts → (k : ℕ) (l : TypeLeaf) → slice_get (leaves_of_data (memory_type n.place parts)) k ≡ Some l
    → Follows (component.memory parts) l.flip (role_in (memory_roles m) k l)
memory_roles_follow m n parts ports many legal k l e =
    memory_follows parts l.flip (role_in (memory_roles m) k l)
    (beside_flip may_drive (memory_roles m) ls (same may_drive refl (λ r. refl) (λ r c u. refl)) k l there)
    (beside_flip is_sink (memory_roles m) ls (same is_sink refl (λ r. refl) (λ r c u. refl)) k l there)
  where
    ls : List TypeLeaf
    ls = type_leaves (memory_bundle n.place parts legal.word_type legal.words)

    is : memory_type n.place parts ≡ Some (memory_bundle n.place parts legal.word_type legal.words)
    is = rw (legal.one_data, legal.one_depth) refl

    there : slice_get (type_leaves (memory_bundle n.place parts legal.word_type legal.words)) k ≡ Some l
    there = ap (λ o. slice_get (leaves_of_data o) k) (sym is) ∙ e

    leaves : m.data_leaves ≡ leaf_count legal.word_type
    leaves = many ∙ rw legal.one_data refl

    same : (f : Role → Bool) → f sink ≡ true → ((r : Reading) → f (reading r) ≡ false)
        → ((r : Reading) (clock : ℕ) (u : ReadUnderWrite) → f (pipe r clock u) ≡ false)
        → map f (memory_roles m) ≡ flips (type_leaves (memory_bundle n.place parts legal.word_type legal.words))
    same f on_sink on_reading on_pipe =
        roles_pass f on_sink on_reading on_pipe m m.first m.ports
        ∙ rw (ports, leaves) (sym (memory_flips n.place legal.word_type legal.words legal.passive parts))

-- all leaves of a module, where all of it is declared in the end
module _ (s : Scene) (all : Declarations) where
  abbrev Is : LeafDeclared → Type 0
  Is = IsLeafOf (typed_scope s.own.modules all) all

  module _ (before : Before) (n : PlacedName) (c : Component) (rest : Grows (with_declaration before n c).declared all) (place : TypeLeaf → Place)
      (role_of : ℕ → TypeLeaf → Role) where
    abbrev here : Declared
    here = record { named = n; component = c; before = before }

    all_is : before.declared ++ declaration_at before n c ∷ rest.0 ≡ all
    all_is = sym (append_assoc before.declared (declaration_at before n c ∷ []) rest.0) ∙ rest.1

    one_of : (h : LeafType) (k : ℕ) (l : TypeLeaf) → In (leaves_of_data (type_of_declared s here)) l → Follows c l.flip (role_of k l)
        → IsLeafOf (typed_scope s.own.modules all) all
        (record {
          place = place l;
          declaration = length before.declared;
          instances = 0;
          path = named n.name ∷ l.path;
          holds = h;
          depth = before.depth;
          role = role_of k l;
        })
    one_of h k l among follows =
        let d = declaration_at before n c in
        record {
          declared = d;
          known = known_as s.own.modules (scope_at s.own.modules before) d;
          leaf = l;
          is_declared = ap (λ ds. slice_get ds (length before.declared)) (sym all_is) ∙ get_behind before.declared rest.0 d;
          is_known =
              ap (λ ds. slice_get (typed_scope s.own.modules ds) (length before.declared)) (sym all_is)
              ∙ typed_there s.own.modules [] before.declared d rest.0 (length before.declared) (omega arith);
          among = among;
          path = refl;
          depth = refl;
          drives = follows.drives;
          sinks = follows.sinks;
        }

    each_of : (k : ℕ) (ls : List TypeLeaf) (hs : List LeafType)
        → ((j : ℕ) (l : TypeLeaf) → slice_get ls j ≡ Some l → In (leaves_of_data (type_of_declared s here)) l)
        → ((j : ℕ) (l : TypeLeaf) → slice_get ls j ≡ Some l → Follows c l.flip (role_of (k + j) l))
        → AllByRecursion (IsLeafOf (typed_scope s.own.modules all) all) (leaves_from here place role_of k ls hs)
    each_of k [] hs among follows = tt
    each_of k (l ∷ ls) [] among follows = tt
    each_of k (l ∷ ls) (h ∷ hs) among follows =
        let first : k + 0 ≡ k = omega arith in (
          one_of h k l (among 0 l refl) (rw first at (follows 0 l refl)),
          each_of (suc k) ls hs (λ j x e. among (suc j) x e) (λ j x e. let next : suc k + j ≡ k + suc j = omega arith in rw next (follows (suc j) x e)),
        )

    declared_of : ((j : ℕ) (l : TypeLeaf) → slice_get (leaves_of_data (type_of_declared s here)) j ≡ Some l → Follows c l.flip (role_of j l))
        → AllByRecursion (IsLeafOf (typed_scope s.own.modules all) all) (declared_leaves s here place role_of)
    declared_of follows =
        let ls = leaves_of_data (type_of_declared s here) in
        each_of 0 ls (held_by_declared s here) (λ j l e. get_in ls j l e)
        (λ j l e. let none : 0 + j ≡ j = omega arith in rw none (follows j l e))

  ports_of : (ps : List PortTree) (before : Before) → Grows (behind_ports before ps).declared all
      → AllByRecursion (IsLeafOf (typed_scope s.own.modules all) all) (leaves_of_ports s before ps)
  ports_of [] before g = tt
  ports_of (p ∷ ps) before g =
      let c = component.port p.direction p.data_type in
      let next = with_declaration before p.named c in
      let role_of : ℕ → TypeLeaf → Role = λ k l. port_role p.direction l in
      all_joined Is (declared_leaves s (record { named = p.named; component = c; before = before }) (λ l. p.named.place) role_of) (leaves_of_ports s next ps)
      (declared_of before p.named c (grows_through next.declared (behind_ports next ps).declared all (grows_ports ps next) g) (λ l. p.named.place) role_of
      (λ j l e. port_follows p.direction p.data_type l))
      (ports_of ps next g)

  -- a node's type has no flipped leaf
  straight_node : (scope : TypedScope) (e : Expression) (t : DataType) → (expression_type scope e).has ≡ Some t → is_passive t ≡ true
      → (j : ℕ) (l : TypeLeaf) → slice_get (leaves_of_data (expression_type scope e).has) j ≡ Some l → l.flip ≡ false
  straight_node scope e t h passive j l k =
      straight_leaf (type_leaves t) (leaf_count t) (passive_flips t passive) j l (ap (λ o. slice_get (leaves_of_data o) j) (sym h) ∙ k)

  mutual
    statement_of : (x : Statement) (before : Before) → Grows (behind before x).declared all → IsLegal s.own.modules before x
        → AllByRecursion (IsLeafOf (typed_scope s.own.modules all) all) (leaves_in s before x)
    statement_of (wire p n begins t) before g h =
        declared_of before n (component.wire t) g (λ l. n.place) (λ k l. sink) (λ j l e. wire_follows t l.flip)
    statement_of (register p n begins t c r) before g h =
        declared_of before n (component.register t) g (λ l. n.place) (register_role s before n t c r) (λ j l e. register_follows t l.flip _ _)
    statement_of (node p n e) before g h =
        let scope = scope_before s before in
        declared_of before n (component.node e) g (λ l. n.place) (λ k l. computed (term_at (terms scope e) k))
        (λ j l k.
        node_follows e (term_at (terms scope e) j) l.flip (straight_node scope e h.0 (ap (λ c. c.has) (found_type scope e h.0 h.1)) h.2 j l k))
    statement_of (instance p n other) before g h =
        declared_of before n (component.instance other.name) g (instance_place n (numbered_module 0 s.own.modules other.name)) instance_role
        (λ j l e. instance_follows other.name j l)
    statement_of (memory p n parts) before g h =
        let m = memory_before s before n parts in
        declared_of before n (component.memory parts) g (λ l. n.place) (role_in (memory_roles m)) (memory_roles_follow m n parts refl refl h)
    statement_of (when p c a b) before g h =
        let inside = behind_block (opened before) a in
        all_joined Is (leaves_in_block s (opened before) a) (leaves_in_block s (reopened before inside) b)
        (block_of a (opened before)
        (grows_through inside.declared (behind_block (reopened before inside) b).declared all (grows_block b (reopened before inside)) g) h.2)
        (block_of b (reopened before inside) g h.3)
    statement_of (connect p d e) before g h = tt
    statement_of (partial_connect p d e) before g h = tt
    statement_of (invalid p d) before g h = tt
    statement_of (skip p) before g h = tt

    block_of : (b : Block) (before : Before) → Grows (behind_block before b).declared all → AreLegal s.own.modules before b
        → AllByRecursion (IsLeafOf (typed_scope s.own.modules all) all) (leaves_in_block s before b)
    block_of done before g h = tt
    block_of ((then) x b) before g h =
        all_joined Is (leaves_in s before x) (leaves_in_block s (behind before x) b)
        (statement_of x before
        (grows_through (behind before x).declared (behind_block (behind before x) b).declared all (grows_block b (behind before x)) g) h.0)
        (block_of b (behind before x) g h.1)

module_of : (s : Scene) → AreLegal s.own.modules (behind_all_ports s.own.inside) s.own.inside.body
    → AllByRecursion (IsLeafOf (typed_scope s.own.modules (declarations s.own.inside)) (declarations s.own.inside)) (module_leaves s)
module_of s legal =
    let all = declarations s.own.inside in
    let head = behind_all_ports s.own.inside in
    all_joined (IsLeafOf (typed_scope s.own.modules all) all) (leaves_of_ports s at_head s.own.inside.ports) (leaves_in_block s head s.own.inside.body)
    (ports_of s all s.own.inside.ports at_head (grows_block s.own.inside.body head)) (block_of s all s.own.inside.body head (grows_all all) legal)

pub leaves_follow_types : LeavesFollowTypes
leaves_follow_types c s names types i l m =
    let own = own_module c s.own i in
    let all = declarations s.own.inside in
    let legal : AreLegal s.own.modules (behind_all_ports s.own.inside) s.own.inside.body =
    subst (λ ms. AreLegal ms (behind_all_ports s.own.inside) s.own.inside.body) (sym own.modules) ((well_typed c names).0 types s.own.inside own.inside) in
    subst (λ ms. IsLeafOf (typed_scope ms all) all l) own.modules
    (all_at (IsLeafOf (typed_scope s.own.modules all) all) (module_leaves s) (module_of s legal) l m)
