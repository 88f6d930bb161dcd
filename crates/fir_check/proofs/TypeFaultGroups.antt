-- All faults of types and flows are of the fourth group.
use Rattle.std.proofs.Common.{◌≡◌, ℕ, List, [], ◌∷◌, ◌++◌, take, flat_map, Bool, true, false, if◌then◌else◌, Option, Some, None, Result, Ok, Err, refl}
use Rattle.std.specs.Prelude.{◌&&◌, ◌==◌, codes, nat_le, nat_lt}
use Rattle.std.specs.List.{AllByRecursion}
use Rattle.fir_base.proofs.Each.{all_joined}
use Rattle.fir_ast.specs.declared.place.Place.{Place}
use Rattle.fir_ast.specs.Types.{DataType, uint, clock, reset, async_reset}
use Rattle.fir_ast.specs.Expressions.{Expression, reference, literal, operation, mux, validif, Parts, no_parts, subfield, subindex, subaccess, Expressions, no_expressions, expression}
use Rattle.fir_ast.specs.Statements.{PlacedName, MemoryPart, SinkReference, Reset, Statement, wire, register, node, instance, memory, when, connect, partial_connect, invalid, skip, Block, done, then}
use Rattle.fir_ast.specs.Circuits.{ModuleTree, CircuitTree}
use Rattle.fir_bits.specs.declared.operators.PrimOp.{PrimOp}
use Rattle.fir_bits.specs.declared.types.NumTy.{NumTy}
use Rattle.fir_bits.specs.Forms.{form_of, takes}
use Rattle.fir_ast.specs.Faults.{Fault}
use Rattle.fir_pass.specs.Groups.{group_of, first_of}
use Rattle.fir_meaning.specs.Components as component
use Rattle.fir_meaning.specs.Visibility.{Before, with_declaration, opened, reopened, behind, behind_block, behind_ports, at_head}
use Rattle.fir_meaning.specs.Checked.{Checked, after, answer_on, answered, shown_after, shown_on, together}
use Rattle.fir_meaning.specs.TypeKinds.{FieldFound, is_numeric, is_passive, is_sized, bare}
use Rattle.fir_meaning.specs.Equivalence.{is_connectable, is_equivalent, is_partly_connectable}
use Rattle.fir_meaning.specs.ExpressionPlaces.{place_of}
use Rattle.fir_meaning.specs.KindFaults.{wrong_kinds, wrong_types, not_passive, out_of_range, memory_field}
use Rattle.fir_meaning.specs.TypedScopes.{TypedScope}
use Rattle.fir_meaning.specs.LeafPaths.{LeafPath}
use Rattle.fir_meaning.specs.TypeLeaves.{TypeLeaf}
use Rattle.fir_meaning.specs.Flows.{flow_under, is_source}
use Rattle.fir_meaning.specs.ConnectPairs.{Pair, pairs, partial_pairs}
use Rattle.fir_meaning.specs.Reaching.{Reached, any_element, at_element, element_at, field_of_type, further, reached_field, root, to_any, to_field, to_index, vector_of_type}
use Rattle.fir_meaning.specs.OperationTypes.{is_conversion, operand_kinds, operation_on, result_of, type_of_operation}
use Rattle.fir_meaning.specs.ExpressionTypes.{access_form, along_parts, condition_form, expression_type, expression_types, field_form, index_form, passive_at, passive_form, reached_by, reaching, type_of_mux, type_of_validif, unsigned_at}
use Rattle.fir_meaning.specs.MemoryTypes.{data_of_part, depth_of_part, first_one}
use Rattle.fir_meaning.specs.MemoryFaults.{field_faults_unless, flipped_data, is_at_most_one, is_one, memory_faults, read_latency_of_part, read_under_write_of_part, write_latency_of_part}
use Rattle.fir_meaning.specs.ConnectFaults.{connect_faults, driven_faults, driven_leaf, driven_of_pair, flow_at, partial_connect_faults}
use Rattle.fir_meaning.specs.TypeGroup.{clock_faults, flipped_faults, init_at, module_type_faults, register_clock_at, register_type_faults, reset_at, reset_faults, scope_at, sides, type_faults, type_faults_in, type_faults_in_block}

abbrev pub IsOfTypes : Fault → Type 0
IsOfTypes f = group_of f.code ≡ 4

abbrev pub AreOfTypes : List Fault → Type 0
AreOfTypes = AllByRecursion IsOfTypes

-- what a form says itself
abbrev Told : {A : Type 0} → Result A Fault → Type 0
Told (Ok x) = Unit {0}
Told (Err f) = IsOfTypes f

both : (xs ys : List Fault) → AreOfTypes xs → AreOfTypes ys → AreOfTypes (xs ++ ys)
both xs ys h k = all_joined IsOfTypes xs ys h k

each : {X : Type 0} (f : X → List Fault) (xs : List X) → ((x : X) → AreOfTypes (f x)) → AreOfTypes (flat_map f xs)
each f [] h = tt
each f (x ∷ xs) h = both (f x) (flat_map f xs) (h x) (each f xs h)

one_of : (fs : List Fault) → AreOfTypes fs → AreOfTypes (take 1 fs)
one_of [] h = tt
one_of (f ∷ fs) h = (h.0, tt)

either : (b : Bool) (xs ys : List Fault) → AreOfTypes xs → AreOfTypes ys → AreOfTypes (if b then xs else ys)
either true xs ys h k = h
either false xs ys h k = k

either_told : {A : Type 0} (b : Bool) (x y : Result A Fault) → Told x → Told y → Told (if b then x else y)
either_told true x y h k = h
either_told false x y h k = k

answered_told : {A : Type 0} (r : Result A Fault) → Told r → AreOfTypes (answered r).shows
answered_told (Ok x) h = tt
answered_told (Err f) h = (h, tt)

answer_told : {A B : Type 0} (x : Option A) (own : A → Result B Fault) → ((x : A) → Told (own x)) → AreOfTypes (answer_on x own).shows
answer_told None own h = tt
answer_told (Some x) own h = answered_told (own x) (h x)

after_told : {A B : Type 0} (c : Checked A) (own : A → Result B Fault) → AreOfTypes c.shows → ((x : A) → Told (own x)) → AreOfTypes (after c own).shows
after_told c own k h = both c.shows (answer_on c.has own).shows k (answer_told c.has own h)

shown_told : {A : Type 0} (x : Option A) (own : A → List Fault) → ((x : A) → AreOfTypes (own x)) → AreOfTypes (shown_on x own)
shown_told None own h = tt
shown_told (Some x) own h = h x

statement_told : {A : Type 0} (c : Checked A) (own : A → List Fault) → AreOfTypes c.shows → ((x : A) → AreOfTypes (own x)) → AreOfTypes (shown_after c own)
statement_told c own k h = both c.shows (shown_on c.has own) k (shown_told c.has own h)

-- the forms
unsigned_told : (p : Place) (t : DataType) → Told (unsigned_at p t)
unsigned_told p (uint w) = tt
unsigned_told p t = refl

passive_told : (p : Place) (t : DataType) → Told (passive_at p t)
passive_told p t = either_told (is_passive t) (Ok t) (Err (not_passive p t)) tt refl

mux_told : (p : Place) (arms : DataType × DataType) → Told (type_of_mux p arms)
mux_told p arms =
    either_told (is_numeric arms.0 && is_numeric arms.1) (if is_equivalent arms.0 arms.1 then Ok (bare arms.0) else Err (wrong_types p arms.0 arms.1))
    (Err (wrong_kinds p (arms.0 ∷ arms.1 ∷ [])))
    (either_told (is_equivalent arms.0 arms.1) (Ok (bare arms.0)) (Err (wrong_types p arms.0 arms.1)) tt refl) refl

validif_told : (p : Place) (t : DataType) → Told (type_of_validif p t)
validif_told p t = either_told (is_numeric t) (Ok (bare t)) (Err (wrong_kinds p (t ∷ []))) tt refl

kinds_told : (p : Place) (op : PrimOp) (integers : List ℕ) (ts : List DataType) (kinds : Option (List NumTy)) → Told (operation_on p op integers ts kinds)
kinds_told p op integers ts None = refl
kinds_told p op integers ts (Some kinds) = either_told (takes (form_of op) kinds integers) (Ok (result_of op kinds)) (Err (wrong_kinds p ts)) tt refl

operation_told : (p : Place) (op : PrimOp) (integers : List ℕ) (ts : List DataType) → Told (type_of_operation p op integers ts)
operation_told p op integers ts = kinds_told p op integers ts (operand_kinds (is_conversion op) ts)

reached_told : (p : Place) (x : List ℕ) (r : Reached) (f : Option FieldFound) → Told (reached_field p x r f)
reached_told p x r None = refl
reached_told p x r (Some f) = tt

element_told : (p : Place) (i : ℕ) (r : Reached) (v : Option (DataType × ℕ)) → Told (element_at p i r v)
element_told p i r None = refl
element_told p i r (Some (t, n)) = either_told (nat_lt i n) (Ok (at_element i r t)) (Err (out_of_range p i n)) tt refl

any_told : (p : Place) (r : Reached) (v : Option (DataType × ℕ)) → Told (any_element p r v)
any_told p r None = refl
any_told p r (Some v) = tt

-- expressions
condition_told : (e : Expression) (c : Checked DataType) → AreOfTypes c.shows → AreOfTypes (condition_form (place_of e) c).shows
condition_told e c h = after_told c (unsigned_at (place_of e)) h (unsigned_told (place_of e))

arm_told : (e : Expression) (c : Checked DataType) → AreOfTypes c.shows → AreOfTypes (passive_form (place_of e) c).shows
arm_told e c h = after_told c (passive_at (place_of e)) h (passive_told (place_of e))

mutual
  expression_told : (scope : TypedScope) (e : Expression) → AreOfTypes (expression_type scope e).shows
  expression_told scope (reference p n ps) = parts_told scope p (root scope n) ps tt
  expression_told scope (literal l) = tt
  expression_told scope (operation p op es ks) = after_told (expression_types scope es) (type_of_operation p op ks) (expressions_told scope es) (operation_told p op ks)
  expression_told scope (mux p c a b) =
      let first = condition_form (place_of c) (expression_type scope c) in
      let second = passive_form (place_of a) (expression_type scope a) in
      let third = passive_form (place_of b) (expression_type scope b) in
      after_told
      (together (λ t arms. arms) first (together (λ t u. (t, u)) second third))
      (type_of_mux p)
      (both first.shows (second.shows ++ third.shows) (condition_told c (expression_type scope c) (expression_told scope c))
      (both second.shows third.shows (arm_told a (expression_type scope a) (expression_told scope a)) (arm_told b (expression_type scope b) (expression_told scope b))))
      (mux_told p)
  expression_told scope (validif p c a) =
      let first = condition_form (place_of c) (expression_type scope c) in
      let second = passive_form (place_of a) (expression_type scope a) in
      after_told
      (together (λ t u. u) first second)
      (type_of_validif p)
      (both first.shows second.shows (condition_told c (expression_type scope c) (expression_told scope c)) (arm_told a (expression_type scope a) (expression_told scope a)))
      (validif_told p)

  parts_told : (scope : TypedScope) (p : Place) (c : Checked Reached) (ps : Parts) → AreOfTypes c.shows → AreOfTypes (along_parts scope p c ps).shows
  parts_told scope p c no_parts h = h
  parts_told scope p c (subfield first q x rest) h =
      parts_told scope p (field_form p x c) rest (after_told c (to_field p x) h (λ r. reached_told p x r (field_of_type x r.data_type)))
  parts_told scope p c (subindex first q i rest) h =
      parts_told scope p (index_form p i c) rest (after_told c (to_index p i) h (λ r. element_told p i r (vector_of_type r.data_type)))
  parts_told scope p c (subaccess first e rest) h =
      let index = condition_form (place_of e) (expression_type scope e) in
      parts_told scope p (access_form p c index) rest
      (after_told (together (λ r t. r) c index) (to_any p) (both c.shows index.shows h (condition_told e (expression_type scope e) (expression_told scope e)))
      (λ r. any_told p r (vector_of_type r.data_type)))

  expressions_told : (scope : TypedScope) (es : Expressions) → AreOfTypes (expression_types scope es).shows
  expressions_told scope no_expressions = tt
  expressions_told scope (expression e es) = both (expression_type scope e).shows (expression_types scope es).shows (expression_told scope e) (expressions_told scope es)

reaching_told : (scope : TypedScope) (s : SinkReference) → AreOfTypes (reaching scope s).shows
reaching_told scope s = parts_told scope s.place (root scope s.name) s.parts tt

sides_told : (scope : TypedScope) (s : SinkReference) (e : Expression) → AreOfTypes (sides scope s e).shows
sides_told scope s e = both (reaching scope s).shows (expression_type scope e).shows (reaching_told scope s) (expression_told scope e)

-- connects
flow_told : (p : Place) (path : Option LeafPath) → AreOfTypes (flow_at p path)
flow_told p None = tt
flow_told p (Some path) = (refl, tt)

leaf_told : (p : Place) (r : Option Reached) (l : TypeLeaf) → AreOfTypes (driven_leaf p r l)
leaf_told p None l = tt
leaf_told p (Some r) l = either (is_source (flow_under l.flip r.flow)) (flow_at p (further r l.path)) [] (flow_told p (further r l.path)) tt

pair_told : (p : Place) (left right : Option Reached) (q : Pair) → AreOfTypes (driven_of_pair p left right q)
pair_told p left right q = either q.left.flip (driven_leaf p right q.right) (driven_leaf p left q.left) (leaf_told p right q.right) (leaf_told p left q.left)

driven_told : (p : Place) (left right : Option Reached) (ps : List Pair) → AreOfTypes (driven_faults p left right ps)
driven_told p left right ps = one_of (flat_map (driven_of_pair p left right) ps) (each (driven_of_pair p left right) ps (pair_told p left right))

connect_told : (p : Place) (left : Reached) (right : Option Reached) (t : DataType) → AreOfTypes (connect_faults p left right t)
connect_told p left right t =
    either (is_connectable left.data_type t) (driven_faults p (Some left) right (pairs left.data_type t)) (wrong_types p left.data_type t ∷ [])
    (driven_told p (Some left) right (pairs left.data_type t)) (refl, tt)

partial_told : (p : Place) (left : Reached) (right : Option Reached) (t : DataType) → AreOfTypes (partial_connect_faults p left right t)
partial_told p left right t =
    either (is_partly_connectable left.data_type t) (driven_faults p (Some left) right (partial_pairs left.data_type t)) (wrong_types p left.data_type t ∷ [])
    (driven_told p (Some left) right (partial_pairs left.data_type t)) (refl, tt)

-- registers
clock_told : (p : Place) (t : DataType) → Told (register_clock_at p t)
clock_told p clock = tt
clock_told p t = refl

reset_told : (p : Place) (t : DataType) → Told (reset_at p t)
reset_told p (uint w) = tt
reset_told p async_reset = tt
reset_told p reset = tt
reset_told p t = refl

init_told : (p : Place) (t u : DataType) → Told (init_at p t u)
init_told p t u = either_told (is_equivalent t u) (Ok u) (Err (wrong_types p t u)) tt refl

resets_told : (scope : TypedScope) (t : DataType) (r : Option Reset) → AreOfTypes (reset_faults scope t r)
resets_told scope t None = tt
resets_told scope t (Some r) =
    both (after (expression_type scope r.condition) (reset_at (place_of r.condition))).shows (after (expression_type scope r.init) (init_at (place_of r.init) t)).shows
    (after_told (expression_type scope r.condition) (reset_at (place_of r.condition)) (expression_told scope r.condition) (reset_told (place_of r.condition)))
    (after_told (expression_type scope r.init) (init_at (place_of r.init) t) (expression_told scope r.init) (init_told (place_of r.init) t))

flipped_told : (n : PlacedName) (t : DataType) → AreOfTypes (flipped_faults n t)
flipped_told n t = either (is_passive t) [] (not_passive n.place t ∷ []) tt (refl, tt)

own_told : (n : PlacedName) (t : DataType) → AreOfTypes (register_type_faults n t)
own_told n t =
    both (if is_numeric t then [] else wrong_kinds n.place (t ∷ []) ∷ []) (flipped_faults n t)
    (either (is_numeric t) [] (wrong_kinds n.place (t ∷ []) ∷ []) tt (refl, tt)) (flipped_told n t)

-- memories
unless_told : (b : Bool) (n : PlacedName) (word : List ℕ) → AreOfTypes (field_faults_unless b n word)
unless_told b n word = either b [] (memory_field n.place n.name word ∷ []) tt (refl, tt)

data_told : (n : PlacedName) (t : Option DataType) → AreOfTypes (flipped_data n t)
data_told n None = tt
data_told n (Some t) = either (is_passive t) [] (not_passive n.place t ∷ []) tt (refl, tt)

memory_told : (n : PlacedName) (parts : List MemoryPart) → AreOfTypes (memory_faults n parts)
memory_told n parts =
    let a = flipped_data n (first_one (flat_map data_of_part parts)) in
    let b = field_faults_unless (is_one is_sized (flat_map data_of_part parts)) n (codes "data-type") in
    let c = field_faults_unless (is_one (λ words. nat_le 1 words) (flat_map depth_of_part parts)) n (codes "depth") in
    let d = field_faults_unless (is_one (λ l. nat_le l 1) (flat_map read_latency_of_part parts)) n (codes "read-latency") in
    let e = field_faults_unless (is_one (λ l. l == 1) (flat_map write_latency_of_part parts)) n (codes "write-latency") in
    let f = field_faults_unless (is_at_most_one (flat_map read_under_write_of_part parts)) n (codes "read-under-write") in
    both ((((a ++ b) ++ c) ++ d) ++ e) f
    (both (((a ++ b) ++ c) ++ d) e
    (both ((a ++ b) ++ c) d
    (both (a ++ b) c
    (both a b (data_told n (first_one (flat_map data_of_part parts))) (unless_told (is_one is_sized (flat_map data_of_part parts)) n (codes "data-type")))
    (unless_told (is_one (λ words. nat_le 1 words) (flat_map depth_of_part parts)) n (codes "depth")))
    (unless_told (is_one (λ l. nat_le l 1) (flat_map read_latency_of_part parts)) n (codes "read-latency")))
    (unless_told (is_one (λ l. l == 1) (flat_map write_latency_of_part parts)) n (codes "write-latency")))
    (unless_told (is_at_most_one (flat_map read_under_write_of_part parts)) n (codes "read-under-write"))

-- statements
mutual
  in_told : (modules : List ModuleTree) (before : Before) (s : Statement) → AreOfTypes (type_faults_in modules before s)
  in_told modules before (wire p n begins t) = tt
  in_told modules before (register p n begins t c r) =
      let scope = scope_at modules before in
      let inside = scope_at modules (with_declaration before n (component.register t)) in
      both (register_type_faults n t ++ clock_faults scope c) (reset_faults inside t r)
      (both (register_type_faults n t) (clock_faults scope c) (own_told n t)
      (after_told (expression_type scope c) (register_clock_at (place_of c)) (expression_told scope c) (clock_told (place_of c))))
      (resets_told inside t r)
  in_told modules before (node p n e) =
      statement_told (expression_type (scope_at modules before) e) (flipped_faults n) (expression_told (scope_at modules before) e) (flipped_told n)
  in_told modules before (instance p n m) = tt
  in_told modules before (memory p n parts) = memory_told n parts
  in_told modules before (when p c a b) =
      let scope = scope_at modules before in
      let first = (condition_form (place_of c) (expression_type scope c)).shows in
      let second = type_faults_in_block modules (opened before) a in
      let third = type_faults_in_block modules (reopened before (behind_block (opened before) a)) b in
      both (first ++ second) third
      (both first second (condition_told c (expression_type scope c) (expression_told scope c)) (block_told modules (opened before) a))
      (block_told modules (reopened before (behind_block (opened before) a)) b)
  in_told modules before (connect p sink e) =
      let scope = scope_at modules before in
      statement_told (sides scope sink e) (λ found. connect_faults p found.0 (reached_by scope e) found.1) (sides_told scope sink e)
      (λ found. connect_told p found.0 (reached_by scope e) found.1)
  in_told modules before (partial_connect p sink e) =
      let scope = scope_at modules before in
      statement_told (sides scope sink e) (λ found. partial_connect_faults p found.0 (reached_by scope e) found.1) (sides_told scope sink e)
      (λ found. partial_told p found.0 (reached_by scope e) found.1)
  in_told modules before (invalid p sink) = reaching_told (scope_at modules before) sink
  in_told modules before (skip p) = tt

  block_told : (modules : List ModuleTree) (before : Before) (b : Block) → AreOfTypes (type_faults_in_block modules before b)
  block_told modules before done = tt
  block_told modules before ((then) s b) =
      both (type_faults_in modules before s) (type_faults_in_block modules (behind before s) b) (in_told modules before s) (block_told modules (behind before s) b)

pub circuit_told : (c : CircuitTree) → AreOfTypes (type_faults c)
circuit_told c = each (module_type_faults c.modules) c.modules (λ m. block_told c.modules (behind_ports at_head m.ports) m.body)

-- and so is the first
pub first_group : (fs : List Fault) (f : Fault) → AreOfTypes fs → first_of fs ≡ Some f → group_of f.code ≡ 4
first_group [] f h is = absurd cc
first_group (g ∷ fs) f h is = let same : g ≡ f = cc in rw (← same) h.0
