-- The leaves of a module are narrow, and what gives them their values has types: where no fault of types or widths stands in it.
-- That a node holds what its expression gives is a premise here.
use Rattle.std.proofs.Common.{◌≡◌, ℕ, zero, suc, ◌+◌, ◌*◌, ◌≤◌, List, [], ◌∷◌, ◌++◌, Bool, true, false, if◌then◌else◌, slice_get, Option, Some, None, option_map, refl, sym, ap, ◌∙◌, subst, arith, inr}
use Rattle.std.specs.Prelude.{slice_index_or}
use Rattle.std.specs.List.{AllByRecursion}
use Rattle.fir_base.specs.Lists.{In}
use Rattle.fir_base.proofs.Each.{all_joined}
use Rattle.fir_base.proofs.Elements.{all_there, beside}
use Rattle.fir_base.proofs.Empty.{empty_left, empty_right}
use Rattle.fir_base.proofs.Members.{in_left, in_right}
use Rattle.fir_base.specs.declared.direction.Direction.{Direction}
use Rattle.fir_bits.specs.declared.types.NumTy.{NumTy}
use Rattle.fir_ast.specs.declared.place.Place.{Place}
use Rattle.fir_ast.specs.Types.{DataType, uint, sint, clock, reset, async_reset, bundle, vector}
use Rattle.fir_ast.specs.Expressions.{Expression}
use Rattle.fir_ast.specs.Statements.{PlacedName, Reset, Statement, wire, register, node, instance, memory, when, connect, partial_connect, invalid, skip, Block, done, then}
use Rattle.fir_ast.specs.Circuits.{PortTree, CircuitTree}
use Rattle.fir_meaning.specs.LeafPaths.{LeafPath, named}
use Rattle.fir_meaning.specs.ExpressionPlaces.{place_of}
use Rattle.fir_meaning.specs.Flows.{flow_under, is_source, port_flow}
use Rattle.fir_meaning.specs.TypeKinds.{bare}
use Rattle.fir_meaning.specs.TypeLeaves.{TypeLeaf}
use Rattle.fir_meaning.specs.Equivalence.{is_equivalent, same_ground}
use Rattle.fir_meaning.specs.Components as component
use Rattle.fir_meaning.specs.Visibility.{Before, with_declaration, opened, reopened, behind, behind_block, declarations}
use Rattle.fir_meaning.specs.TypedScopes.{TypedScope}
use Rattle.fir_meaning.specs.TypeGroup.{scope_at}
use Rattle.fir_meaning.specs.ResetJoins.{numbered_module}
use Rattle.fir_meaning.specs.WidthExpressions.{Width, Widths, Rule, width_under}
use Rattle.fir_meaning.specs.SizedTypes.{Sized, unsigned, signed, clock_scalar, reset_scalar, async_scalar, scalar, sized_bundle, sized_vector, bare_type}
use Rattle.fir_meaning.specs.SizedScopes.{SizedScope, sized_type}
use Rattle.fir_meaning.specs.SizedDeclarations.{numbers_at, sized_at, sized_declared}
use Rattle.fir_meaning.specs.SizedMemories.{sized_array}
use Rattle.fir_meaning.specs.WidthRules.{rules_in, rules_in_block}
use Rattle.fir_meaning.specs.WidthWalk.{shown_within, shown_within_reset, shown_at, shown_in, shown_in_block, shown_in_ports}
use Rattle.fir_meaning.specs.OverFaults.{over_rule}
use Rattle.fir_meaning.specs.LegalFaults.{legal_rule, condition_faults}
use Rattle.fir_meaning.specs.working.WellTyped.{HasType, MayReset, ResetIsLegal, IsLegal, AreLegal}
use Rattle.fir_meaning.proofs.SizedShapes.{numbered_bare}
use Rattle.fir_meaning.specs.working.Leafed.{first_term, terms}
use Rattle.fir_meaning.specs.working.LeafedBlocks.{term_at}
use Rattle.fir_meaning.specs.working.LeafMemories.{LeafMemory, enable, memory_roles, mode, port_roles, port_size, read_role, read_roles, roles_from, sinks}
use Rattle.fir_meaning.specs.MemoryPorts.{MemoryPortKind, reads, writes, reads_and_writes}
use Rattle.fir_meaning.specs.FoundTypes.{leaves_of_data}
use Rattle.fir_meaning.specs.working.LeafModules.{LeafDeclared, Need, Role, computed, pipe, reading, sink, source}
use Rattle.fir_meaning.specs.LeafTypes.{LeafType, a_clock, number}
use Rattle.fir_meaning.specs.working.LeafModules as role
use Rattle.fir_meaning.specs.ModuleScenes.{Scene, Declared, type_of_declared, held_by_declared}
use Rattle.fir_meaning.specs.working.LeafedModules.{leaves_from, declared_leaves, leaf_reset, port_role, register_role, instance_place, instance_role, role_in, memory_before, leaves_in, leaves_in_block, leaves_of_ports, leafed_module}
use Rattle.fir_meaning.specs.HeldTypes.{held_types}
use Rattle.fir_meaning.specs.working.Terms.{Term, zeros}
use Rattle.fir_leaf_types.specs.working.TypedTerms.{IsNarrow, one_bit}
use Rattle.fir_leaf_types.specs.working.TypedTerms as typed
use Rattle.fir_leaf_types.specs.working.TypedBlocks.{MayGive}
use Rattle.fir_leaf_types.specs.working.TypedModules.{held_in, IsResetTyped, IsRoleTyped}
use Rattle.fir_leaf_types.proofs.HeldKinds.{IsNumber, alike_kinds, kinds_of_type, numeric_holds, same_ground_kinds, same_kind, without_width}
use Rattle.fir_leaf_types.proofs.StandingTypedTargets.{HaveEach}
use Rattle.fir_leaf_types.proofs.NarrowHolds.{narrow_by_faults, narrow_ports}
use Rattle.fir_leaf_types.proofs.ExpressionsTyped.{KnowsLeaves, condition_termed, expression_typed, first_has, unsigned_termed}
use Rattle.fir_leaf_types.proofs.DeclarationsGrow.{Grows, grows_block, grows_through}
use Rattle.fir_leaf_types.proofs.ConnectsTyped.{term_typed}
use Rattle.fir_leaf_types.proofs.BlocksTyped.{knows_before}

-- roles that no term stands in
abbrev IsFree : Role → Type 0
IsFree source = Unit {0}
IsFree sink = Unit {0}
IsFree (computed e) = ⊥
IsFree (role.register x r) = ⊥
IsFree (reading r) = Unit {0}
IsFree (pipe r x under) = Unit {0}

free_typed : (held : ℕ → LeafType) (t : LeafType) (r : Role) → IsFree r → IsRoleTyped held t r
free_typed held t source h = tt
free_typed held t sink h = tt
free_typed held t (computed e) h = absurd h
free_typed held t (role.register x r) h = absurd h
free_typed held t (reading r) h = tt
free_typed held t (pipe r x under) h = tt

-- as those of ports and of memories
port_free : (d : Direction) (l : TypeLeaf) → IsFree (port_role d l)
port_free d l = by (is_source (flow_under l.flip (port_flow d)))
  where
    by : (b : Bool) → IsFree (if b then source else sink)
    by true = tt
    by false = tt

instance_free : (k : ℕ) (l : TypeLeaf) → IsFree (instance_role k l)
instance_free k l = by l.flip
  where
    by : (b : Bool) → IsFree (if b then sink else source)
    by true = tt
    by false = tt

sinks_free : (n : ℕ) → AllByRecursion IsFree (sinks n)
sinks_free zero = tt
sinks_free (suc n) = (tt, sinks_free n)

read_free : (m : LeafMemory) (needs : List Need) (b i : ℕ) → IsFree (read_role m needs b i)
read_free m needs b i = by m.read_latency refl
  where
    by : (l : ℕ) → m.read_latency ≡ l → IsFree (read_role m needs b i)
    by zero e = rw e tt
    by (suc l) e = rw e tt

reads_free : (m : LeafMemory) (needs : List Need) (b i n : ℕ) → AllByRecursion IsFree (read_roles m needs b i n)
reads_free m needs b i zero = tt
reads_free m needs b i (suc n) = (read_free m needs b i, reads_free m needs b (suc i) n)

port_roles_free : (m : LeafMemory) (b : ℕ) (k : MemoryPortKind) → AllByRecursion IsFree (port_roles m b k)
port_roles_free m b reads =
    all_joined IsFree (sinks 3) (read_roles m (enable b ∷ []) b 0 m.data_leaves) (sinks_free 3) (reads_free m (enable b ∷ []) b 0 m.data_leaves)
port_roles_free m b writes = sinks_free (3 + 2 * m.data_leaves)
port_roles_free m b reads_and_writes =
    let needs : List Need = enable b ∷ record { leaf = mode m.data_leaves b; high = false } ∷ [] in
    let back = sinks (1 + 2 * m.data_leaves) in
    all_joined IsFree (sinks 3 ++ read_roles m needs b 0 m.data_leaves) back
    (all_joined IsFree (sinks 3) (read_roles m needs b 0 m.data_leaves) (sinks_free 3) (reads_free m needs b 0 m.data_leaves))
    (sinks_free (1 + 2 * m.data_leaves))

roles_free : (m : LeafMemory) (b : ℕ) (ks : List MemoryPortKind) → AllByRecursion IsFree (roles_from m b ks)
roles_free m b [] = tt
roles_free m b (k ∷ ks) =
    all_joined IsFree (port_roles m b k) (roles_from m (b + port_size m.data_leaves k) ks) (port_roles_free m b k)
    (roles_free m (b + port_size m.data_leaves k) ks)

role_free : (rs : List Role) (k : ℕ) → AllByRecursion IsFree rs → IsFree (slice_index_or rs k source)
role_free [] k h = tt
role_free (r ∷ rs) zero h = h.0
role_free (r ∷ rs) (suc k) h = role_free rs k h.1

clock_scalar_of : (s : Sized) → bare_type s ≡ clock → (x : Width) × (s ≡ scalar clock_scalar x)
clock_scalar_of (scalar clock_scalar x) e = (x, refl)
clock_scalar_of (scalar unsigned x) e = absurd (cc)
clock_scalar_of (scalar signed x) e = absurd (cc)
clock_scalar_of (scalar reset_scalar x) e = absurd (cc)
clock_scalar_of (scalar async_scalar x) e = absurd (cc)
clock_scalar_of (sized_bundle fs) e = absurd (cc)
clock_scalar_of (sized_vector t n) e = absurd (cc)

reset_holds : (w : Widths) (s : Sized) → bare_type s ≡ reset → held_types w s ≡ one_bit ∷ []
reset_holds w (scalar reset_scalar x) e = refl
reset_holds w (scalar unsigned x) e = absurd (cc)
reset_holds w (scalar signed x) e = absurd (cc)
reset_holds w (scalar clock_scalar x) e = absurd (cc)
reset_holds w (scalar async_scalar x) e = absurd (cc)
reset_holds w (sized_bundle fs) e = absurd (cc)
reset_holds w (sized_vector t n) e = absurd (cc)

async_holds : (w : Widths) (s : Sized) → bare_type s ≡ async_reset → held_types w s ≡ one_bit ∷ []
async_holds w (scalar async_scalar x) e = refl
async_holds w (scalar unsigned x) e = absurd (cc)
async_holds w (scalar signed x) e = absurd (cc)
async_holds w (scalar clock_scalar x) e = absurd (cc)
async_holds w (scalar reset_scalar x) e = absurd (cc)
async_holds w (sized_bundle fs) e = absurd (cc)
async_holds w (sized_vector t n) e = absurd (cc)

number_is : (h : LeafType) → IsNumber h → (u : NumTy) × (h ≡ number u)
number_is (number u) h = (u, refl)
number_is a_clock h = absurd h

-- a register's clock, and its reset
module _ (c : CircuitTree) (held : ℕ → LeafType) (w : Widths) (scope : TypedScope) (sized : SizedScope) (knows : KnowsLeaves held w scope sized) where
  clock_typed : (e : Expression) → HasType scope e clock → shown_within (over_rule w) sized e ≡ [] → shown_within (legal_rule c w) sized e ≡ []
      → typed.HasType held (first_term (terms scope e)) a_clock
  clock_typed e h within legal =
      let x = clock_scalar_of (sized_type sized e) (knows.shape e clock h) in
      first_has held (terms scope e) a_clock []
      (subst (λ s. HaveEach held (terms scope e) (held_types w s)) x.1 (expression_typed c held w scope sized knows e clock h within legal).terms)

  reset_typed : (e : Expression) (u : DataType) → HasType scope e u → MayReset u → shown_within (over_rule w) sized e ≡ []
      → shown_within (legal_rule c w) sized e ≡ [] → condition_faults w (place_of e) (sized_type sized e) ≡ []
      → typed.HasType held (first_term (terms scope e)) one_bit
  reset_typed e (uint width) h may within legal one =
      condition_termed c held w scope sized knows e
      (unsigned_termed c held w scope sized knows e width h (expression_typed c held w scope sized knows e (uint width) h within legal)) one
  reset_typed e reset h may within legal one =
      first_has held (terms scope e) one_bit []
      (subst (HaveEach held (terms scope e)) (reset_holds w (sized_type sized e) (knows.shape e reset h))
      (expression_typed c held w scope sized knows e reset h within legal).terms)
  reset_typed e async_reset h may within legal one =
      first_has held (terms scope e) one_bit []
      (subst (HaveEach held (terms scope e)) (async_holds w (sized_type sized e) (knows.shape e async_reset h))
      (expression_typed c held w scope sized knows e async_reset h within legal).terms)
  reset_typed e (sint width) h may within legal one = absurd (cc)
  reset_typed e clock h may within legal one = absurd (cc)
  reset_typed e (bundle fs) h may within legal one = absurd (cc)
  reset_typed e (vector t n) h may within legal one = absurd (cc)

  -- what a register holds, beside what its init gives
  init_typed : (e : Expression) (s : Sized) (t v : DataType) (k : ℕ) (h : LeafType) → HasType scope e v → bare_type s ≡ bare t → is_equivalent t v ≡ true
      → shown_within (over_rule w) sized e ≡ [] → shown_within (legal_rule c w) sized e ≡ [] → slice_get (held_types w s) k ≡ Some h
      → MayGive held (term_at (terms scope e) k) h
  init_typed e s t v k h has shape same within legal there =
      let kinds =
      kinds_of_type w (sized_type sized e) v (knows.shape e v has)
      ∙ sym (kinds_of_type w s t shape ∙ alike_kinds same_ground same_ground_kinds t v same) in
      let r = beside without_width without_width (held_types w (sized_type sized e)) (held_types w s) kinds k h there in
      record {
        data_type = r.0;
        has =
            inr
            (term_typed held (terms scope e) (held_types w (sized_type sized e)) k r.0
            (expression_typed c held w scope sized knows e v has within legal).terms r.1);
        kind = same_kind r.0 h r.2;
      }

  init_there : (e : Expression) (s : Sized) (t v : DataType) (k : ℕ) (h : LeafType) → HasType scope e v → bare_type s ≡ bare t → is_equivalent t v ≡ true
      → shown_within (over_rule w) sized e ≡ [] → shown_within (legal_rule c w) sized e ≡ [] → slice_get (held_types w s) k ≡ Some h
      → term_at (terms scope e) k ≡ zeros → ⊥
  init_there e s t v k h has shape same within legal there is =
      let kinds =
      kinds_of_type w (sized_type sized e) v (knows.shape e v has)
      ∙ sym (kinds_of_type w s t shape ∙ alike_kinds same_ground same_ground_kinds t v same) in
      let r = beside without_width without_width (held_types w (sized_type sized e)) (held_types w s) kinds k h there in
      subst (λ (x : Term). typed.HasType held x r.0) is
      (term_typed held (terms scope e) (held_types w (sized_type sized e)) k r.0
      (expression_typed c held w scope sized knows e v has within legal).terms r.1)

  resets_typed : (is_async : LeafPath → Bool) (o : Option Reset) (s : Sized) (t : DataType) (k : ℕ) (h : LeafType) → ResetIsLegal scope t o
      → bare_type s ≡ bare t
      → shown_within_reset (over_rule w) sized o ≡ [] → shown_within_reset (legal_rule c w) sized o ≡ [] → slice_get (held_types w s) k ≡ Some h
      → IsResetTyped held h (option_map (leaf_reset is_async scope k) o)
  resets_typed is_async None s t k h legal shape within fine there = tt
  resets_typed is_async (Some r) s t k h legal shape within fine there =
      let over_condition = shown_within (over_rule w) sized r.condition in
      let over_init = shown_within (over_rule w) sized r.init in
      let fine_condition = shown_within (legal_rule c w) sized r.condition in
      let fine_width = condition_faults w (place_of r.condition) (sized_type sized r.condition) in
      let fine_init = shown_within (legal_rule c w) sized r.init in
      let within_condition = empty_left (over_condition ++ []) over_init within in
      let fine_both = empty_left (fine_condition ++ fine_width) fine_init fine in (
        reset_typed r.condition legal.0 legal.2 legal.3 (empty_left over_condition [] within_condition) (empty_left fine_condition fine_width fine_both)
            (empty_right fine_condition fine_width fine_both),
        init_typed r.init s t legal.1 k h legal.4 shape legal.5 (empty_right (over_condition ++ []) over_init within)
            (empty_right (fine_condition ++ fine_width) fine_init fine) there,
        init_there r.init s t legal.1 k h legal.4 shape legal.5 (empty_right (over_condition ++ []) over_init within)
            (empty_right (fine_condition ++ fine_width) fine_init fine) there,
      )

-- widths meet these rules
abbrev pub MeetsEach : Widths → List Rule → Type 0
MeetsEach w rules = (r : Rule) → In rules r → width_under r.at_least w ≤ w r.number

-- each node of a module whose rules are met holds what its expression does
abbrev pub NodesHold : Scene → Type 0
NodesHold s =
    (before : Before) (p : Place) (n : PlacedName) (e : Expression)
    → Grows (with_declaration before n (component.node e)).declared (declarations s.own.inside) → IsLegal s.own.modules before (node p n e)
    → MeetsEach s.widths (rules_in s.own before (node p n e))
    → held_types s.widths (sized_declared s.own before n (component.node e)) ≡ held_types s.widths (sized_type (sized_at s.own before) e)

pub record LeafIsTyped (held : ℕ → LeafType) (l : LeafDeclared) : Type 0 where
  pub narrow : IsNarrow l.holds
  pub gives : IsRoleTyped held l.holds l.role

module _ (c : CircuitTree) (s : Scene) (none : s.own.start.scope ≡ []) (nodes : NodesHold s) where
  abbrev held : ℕ → LeafType
  held = held_in (leafed_module s)

  each_typed : (d : Declared) (place : TypeLeaf → Place) (role_of : ℕ → TypeLeaf → Role) (k : ℕ) (ls : List TypeLeaf) (hs : List LeafType)
      → AllByRecursion IsNarrow hs
      → ((j : ℕ) (l : TypeLeaf) (h : LeafType) → slice_get hs j ≡ Some h → IsRoleTyped (held_in (leafed_module s)) h (role_of (k + j) l))
      → AllByRecursion (LeafIsTyped (held_in (leafed_module s))) (leaves_from d place role_of k ls hs)
  each_typed d place role_of k [] hs narrow gives = tt
  each_typed d place role_of k (l ∷ ls) [] narrow gives = tt
  each_typed d place role_of k (l ∷ ls) (h ∷ hs) narrow gives =
      let first : k + 0 ≡ k = omega arith in (
        record { narrow = narrow.0; gives = rw first at (gives 0 l h refl) },
        each_typed d place role_of (suc k) ls hs narrow.1
            (λ j x y e. let next : suc k + j ≡ k + suc j = omega arith in rw next (gives (suc j) x y e)),
      )

  declared_typed : (d : Declared) (place : TypeLeaf → Place) (role_of : ℕ → TypeLeaf → Role) → AllByRecursion IsNarrow (held_by_declared s d)
      → ((j : ℕ) (l : TypeLeaf) (h : LeafType) → slice_get (held_by_declared s d) j ≡ Some h → IsRoleTyped (held_in (leafed_module s)) h (role_of j l))
      → AllByRecursion (LeafIsTyped (held_in (leafed_module s))) (declared_leaves s d place role_of)
  declared_typed d place role_of narrow gives =
      each_typed d place role_of 0 (leaves_of_data (type_of_declared s d)) (held_by_declared s d) narrow
      (λ j l h e. let none : 0 + j ≡ j = omega arith in rw none (gives j l h e))

  free_leaves : (d : Declared) (place : TypeLeaf → Place) (role_of : ℕ → TypeLeaf → Role) → AllByRecursion IsNarrow (held_by_declared s d)
      → ((j : ℕ) (l : TypeLeaf) → IsFree (role_of j l)) → AllByRecursion (LeafIsTyped (held_in (leafed_module s))) (declared_leaves s d place role_of)
  free_leaves d place role_of narrow free = declared_typed d place role_of narrow (λ j l h e. free_typed held h (role_of j l) (free j l))

  pub ports_typed : (ps : List PortTree) (before : Before) → shown_in_ports (over_rule s.widths) s.own before ps ≡ []
      → AllByRecursion (LeafIsTyped (held_in (leafed_module s))) (leaves_of_ports s before ps)
  ports_typed [] before within = tt
  ports_typed (p ∷ ps) before within =
      let d = component.port p.direction p.data_type in
      let next = with_declaration before p.named d in
      let role_of : ℕ → TypeLeaf → Role = λ k l. port_role p.direction l in
      let own = shown_at (over_rule s.widths) s.own before p.named d in
      let rest = shown_in_ports (over_rule s.widths) s.own next ps in
      all_joined (LeafIsTyped held) (declared_leaves s (record { named = p.named; component = d; before = before }) (λ l. p.named.place) role_of)
      (leaves_of_ports s next ps)
      (free_leaves (record { named = p.named; component = d; before = before }) (λ l. p.named.place) role_of
      (narrow_by_faults s.widths p.named.place (named p.named.name ∷ []) (sized_declared s.own before p.named d) (empty_left own rest within))
      (λ j l. port_free p.direction l))
      (ports_typed ps next (empty_right own rest within))

  mutual
    statement_leaves : (x : Statement) (before : Before) → Grows (behind before x).declared (declarations s.own.inside) → IsLegal s.own.modules before x
        → shown_in (over_rule s.widths) s.own before x ≡ [] → shown_in (legal_rule c s.widths) s.own before x ≡ []
        → MeetsEach s.widths (rules_in s.own before x) → AllByRecursion (LeafIsTyped (held_in (leafed_module s))) (leaves_in s before x)
    statement_leaves (wire p n begins t) before g h within legal met =
        free_leaves (record { named = n; component = component.wire t; before = before }) (λ l. n.place) (λ k l. sink)
        (narrow_by_faults s.widths n.place (named n.name ∷ []) (sized_declared s.own before n (component.wire t)) within) (λ j l. tt)
    statement_leaves (register p n begins t x r) before g h within legal met =
        let sized = sized_declared s.own before n (component.register t) in
        let next = with_declaration before n (component.register t) in
        let over_own = shown_at (over_rule s.widths) s.own before n (component.register t) in
        let over_clock = shown_within (over_rule s.widths) (sized_at s.own before) x in
        let over_reset = shown_within_reset (over_rule s.widths) (sized_at s.own next) r in
        let legal_clock = shown_within (legal_rule c s.widths) (sized_at s.own before) x in
        let legal_reset = shown_within_reset (legal_rule c s.widths) (sized_at s.own next) r in
        let within_front = empty_left (over_own ++ over_clock) over_reset within in
        let legal_front = empty_left ([] ++ legal_clock) legal_reset legal in
        let shape = numbered_bare (Some (numbers_at s.own before).next) t in
        let before_it =
        knows_before c s none before
        (grows_through before.declared next.declared (declarations s.own.inside) (_, refl) g) in
        let behind_it = knows_before c s none next g in
        declared_typed (record { named = n; component = component.register t; before = before }) (λ l. n.place) (register_role s before n t x r)
        (narrow_by_faults s.widths n.place (named n.name ∷ []) sized (empty_left over_own over_clock within_front))
        (λ j l y e. (
          number_is y (all_there IsNumber (held_types s.widths sized) (numeric_holds s.widths sized t shape h.0) j y e),
          clock_typed c held s.widths (scope_at s.own.modules before) (sized_at s.own before) before_it x h.2 (empty_right over_own over_clock within_front)
              legal_front,
          resets_typed c held s.widths (scope_at s.own.modules next) (sized_at s.own next) behind_it s.is_async r sized t j y h.3 shape
              (empty_right (over_own ++ over_clock) over_reset within) (empty_right ([] ++ legal_clock) legal_reset legal) e,
        ))
    statement_leaves (node p n e) before g h within legal met =
        let scope = scope_at s.own.modules before in
        let over_own = shown_at (over_rule s.widths) s.own before n (component.node e) in
        let over_value = shown_within (over_rule s.widths) (sized_at s.own before) e in
        let next = with_declaration before n (component.node e) in
        let knows =
        knows_before c s none before (grows_through before.declared next.declared (declarations s.own.inside) (_, refl) g) in
        let termed =
        expression_typed c held s.widths scope (sized_at s.own before) knows e h.0 h.1 (empty_right over_own over_value within) legal in
        let same = nodes before p n e g h met in
        declared_typed (record { named = n; component = component.node e; before = before }) (λ l. n.place) (λ k l. computed (term_at (terms scope e) k))
        (narrow_by_faults s.widths n.place (named n.name ∷ []) (sized_declared s.own before n (component.node e)) (empty_left over_own over_value within))
        (λ j l y there.
        term_typed held (terms scope e) (held_types s.widths (sized_type (sized_at s.own before) e)) j y termed.terms
        (ap (λ hs. slice_get hs j) (sym same) ∙ there))
    statement_leaves (instance p n other) before g h within legal met =
        free_leaves (record { named = n; component = component.instance other.name; before = before })
        (instance_place n (numbered_module 0 s.own.modules other.name)) instance_role
        (narrow_by_faults s.widths n.place (named n.name ∷ []) (sized_declared s.own before n (component.instance other.name)) within) instance_free
    statement_leaves (memory p n parts) before g h within legal met =
        let m = memory_before s before n parts in
        free_leaves (record { named = n; component = component.memory parts; before = before }) (λ l. n.place) (role_in (memory_roles m))
        (narrow_ports s.widths n.place (named n.name ∷ []) (sized_declared s.own before n (component.memory parts)) (sized_array parts) within)
        (λ j l. role_free (memory_roles m) j (roles_free m m.first m.ports))
    statement_leaves (when p x a b) before g h within legal met =
        let inside = behind_block (opened before) a in
        let first = rules_in_block s.own (opened before) a in
        let second = rules_in_block s.own (reopened before inside) b in
        let wx = shown_within (over_rule s.widths) (sized_at s.own before) x in
        let wa = shown_in_block (over_rule s.widths) s.own (opened before) a in
        let wb = shown_in_block (over_rule s.widths) s.own (reopened before inside) b in
        let lx = shown_within (legal_rule c s.widths) (sized_at s.own before) x in
        let lc = condition_faults s.widths (place_of x) (sized_type (sized_at s.own before) x) in
        let la = shown_in_block (legal_rule c s.widths) s.own (opened before) a in
        let lb = shown_in_block (legal_rule c s.widths) s.own (reopened before inside) b in
        all_joined (LeafIsTyped held) (leaves_in_block s (opened before) a) (leaves_in_block s (reopened before inside) b)
        (block_leaves a (opened before)
        (grows_through inside.declared (behind_block (reopened before inside) b).declared (declarations s.own.inside)
        (grows_block b (reopened before inside)) g)
        h.2 (empty_right (wx ++ []) wa (empty_left ((wx ++ []) ++ wa) wb within))
        (empty_right (lx ++ lc) la (empty_left ((lx ++ lc) ++ la) lb legal)) (λ r i. met r (in_left first second r i)))
        (block_leaves b (reopened before inside) g h.3 (empty_right ((wx ++ []) ++ wa) wb within) (empty_right ((lx ++ lc) ++ la) lb legal)
        (λ r i. met r (in_right first second r i)))
    statement_leaves (connect p d e) before g h within legal met = tt
    statement_leaves (partial_connect p d e) before g h within legal met = tt
    statement_leaves (invalid p d) before g h within legal met = tt
    statement_leaves (skip p) before g h within legal met = tt

    pub block_leaves : (b : Block) (before : Before) → Grows (behind_block before b).declared (declarations s.own.inside) → AreLegal s.own.modules before b
        → shown_in_block (over_rule s.widths) s.own before b ≡ [] → shown_in_block (legal_rule c s.widths) s.own before b ≡ []
        → MeetsEach s.widths (rules_in_block s.own before b) → AllByRecursion (LeafIsTyped (held_in (leafed_module s))) (leaves_in_block s before b)
    block_leaves done before g h within legal met = tt
    block_leaves ((then) x b) before g h within legal met =
        let wx = shown_in (over_rule s.widths) s.own before x in
        let wb = shown_in_block (over_rule s.widths) s.own (behind before x) b in
        let lx = shown_in (legal_rule c s.widths) s.own before x in
        let lb = shown_in_block (legal_rule c s.widths) s.own (behind before x) b in
        all_joined (LeafIsTyped held) (leaves_in s before x) (leaves_in_block s (behind before x) b)
        (statement_leaves x before
        (grows_through (behind before x).declared (behind_block (behind before x) b).declared (declarations s.own.inside) (grows_block b (behind before x)) g)
        h.0 (empty_left wx wb within) (empty_left lx lb legal)
        (λ r i. met r (in_left (rules_in s.own before x) (rules_in_block s.own (behind before x) b) r i)))
        (block_leaves b (behind before x) g h.1 (empty_right wx wb within) (empty_right lx lb legal)
        (λ r i. met r (in_right (rules_in s.own before x) (rules_in_block s.own (behind before x) b) r i)))
