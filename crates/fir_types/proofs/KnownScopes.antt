-- What the code's table of names and its list of types know of a name is what the typed scope knows.
use Rattle.std.proofs.Common.{◌≡◌, ℕ, zero, suc, ◌+◌, ◌≤◌, List, [], ◌∷◌, ◌++◌, map, length, Bool, true, false, if◌then◌else◌, Option, Some, None, refl, sym, ap, ◌∙◌, append_assoc, add-zero, zero-add, arith}
use Rattle.std.specs.Prelude.{slice_get}
use Rattle.std.specs.Str.{bytes_eq}
use Rattle.std.proofs.lemmas.List.{length_push}
use Rattle.std.proofs.lemmas.Option.{none-some, same_Some, slice_get_past}
use Rattle.fir_base.proofs.Elements.{get_behind}
use Rattle.fir_base.proofs.SameNames.{name_is}
use Rattle.fir_ast.specs.Types.{DataType}
use Rattle.fir_ast.specs.Statements.{PlacedName}
use Rattle.fir_ast.specs.Circuits.{ModuleTree}
use Rattle.fir_meaning.specs.Components.{Component, Declarations, port, wire, register, node, instance, memory}
use Rattle.fir_meaning.specs.Visibility.{Before, declaration_at, with_declaration}
use Rattle.fir_meaning.specs.Flows.{flow_of}
use Rattle.fir_meaning.specs.TypedScopes.{Known, TypedScope, known}
use Rattle.fir_meaning.specs.ComponentTypes.{known_as, typed_behind, typed_scope}
use Rattle.fir_meaning.specs.TypeGroup.{scope_at}
use Rattle.fir_names.specs.declared.declaration.Declaration.{Declaration as Entry}
use Rattle.fir_names.specs.declared.names.Names.{Names}
use Rattle.fir_names.specs.working.Numbered.{component_of, names_of}
use Rattle.fir_names.specs.working.Tabulated.{entry_named, entry_of, found}
use Rattle.fir_type_table.specs.declared.kind.TypeId.{TypeId}
use Rattle.fir_type_table.specs.working.Tables.{types_of}
use Rattle.fir_types.specs.declared.found.Found.{Found}
use Rattle.fir_types.specs.declared.scope.Scope.{Scope}
use Rattle.fir_types.specs.working.Seen.{seen}
use Rattle.fir_types.specs.working.Known.{component_flow, known_there, known_at, Knows, position_at, position_there}
use Rattle.fir_types.specs.working.Notes.{position_of}
use Rattle.fir_types.specs.working.Walked.{Begins, IsOfModule, Walks}
use Rattle.fir_types.proofs.GrownScopes.{append_none}

-- names and flows of declarations
abbrev pub Heads : Declarations → TypedScope → Type 0
Heads [] [] = Unit {0}
Heads (d ∷ ds) (k ∷ ks) = (k.name ≡ d.named.name) × (k.flow ≡ flow_of d.component) × Heads ds ks
Heads _ _ = ⊥

heads_more : (ds es : Declarations) (ks ls : TypedScope) → Heads ds ks → Heads es ls → Heads (ds ++ es) (ks ++ ls)
heads_more [] es [] ls h k = k
heads_more (d ∷ ds) es (l ∷ ks) ls h k = (h.0, h.1, heads_more ds es ks ls h.2 k)
heads_more [] es (l ∷ ks) ls h k = absurd h
heads_more (d ∷ ds) es [] ls h k = absurd h

heads_behind : (modules : List ModuleTree) (ds es : Declarations) (ks : TypedScope) → Heads ds ks → Heads (ds ++ es) (typed_behind modules ks es)
heads_behind modules ds [] ks h = rw (append_nil ds) h
  where
    append_nil : (xs : Declarations) → xs ++ [] ≡ xs
    append_nil [] = refl
    append_nil (x ∷ xs) = ap (λ l. x ∷ l) (append_nil xs)
heads_behind modules ds (e ∷ es) ks h =
    rw (sym (append_assoc ds (e ∷ []) es)) (heads_behind modules (ds ++ e ∷ []) es (ks ++ known_as modules ks e ∷ []) (heads_more ds (e ∷ []) ks (known_as modules ks e ∷ []) h (refl, refl, tt)))

pub heads_of : (modules : List ModuleTree) (ds : Declarations) → Heads ds (typed_scope modules ds)
heads_of modules ds = heads_behind modules [] ds [] tt

same_flow : (ns : List PlacedName) (c : Component) → component_flow (component_of ns c) ≡ flow_of c
same_flow ns (port d t) = refl
same_flow ns (wire t) = refl
same_flow ns (register t) = refl
same_flow ns (node e) = refl
same_flow ns (instance name) = refl
same_flow ns (memory parts) = refl

same_known : (a b : Known) → a.name ≡ b.name → a.flow ≡ b.flow → a.data_type ≡ b.data_type → a ≡ b
same_known a b p q r =
    ap (λ x. record { name = x; flow = a.flow; data_type = a.data_type }) p
    ∙ ap (λ x. record { name = b.name; flow = x; data_type = a.data_type }) q
    ∙ ap (λ x. record { name = b.name; flow = b.flow; data_type = x }) r

-- what stands under an entry
abbrev known_by : List DataType → List (Option Found) → List ℕ → Option Entry → Option Known
known_by ts all n None = None
known_by ts all n (Some e) = known_there ts n e.component (slice_get all e.position)

either : {A B : Type 0} (f : A → B) (b : Bool) (x y : A) (z w : B) → (b ≡ true → f x ≡ z) → (b ≡ false → f y ≡ w) → f (if b then x else y) ≡ (if b then z else w)
either f true x y z w h k = h refl
either f false x y z w h k = k refl

same_both : {A : Type 0} (b : Bool) (x : A) → (if b then x else x) ≡ x
same_both true x = refl
same_both false x = refl

-- an entry behind all that is declared so far
past : (ns : List PlacedName) (ts : List DataType) (all : List (Option Found)) (i : ℕ) (rest : Declarations) (n : List ℕ) → length all ≤ i
    → known_by ts all n (entry_named ns i rest n) ≡ None
past ns ts all i [] n h = refl
past ns ts all i (d ∷ ds) n h =
    either (known_by ts all n) (bytes_eq d.named.name n) (Some (entry_of ns i d)) (entry_named ns (suc i) ds n) None None
    (λ e. ap (known_there ts n (component_of ns d.component)) (slice_get_past all i h))
    (λ e. past ns ts all (suc i) ds n (omega (arith, h)))
    ∙ same_both (bytes_eq d.named.name n) None

found_known : (ns : List PlacedName) (ts : List DataType) (front xs : List (Option Found)) (i : ℕ) (ds rest : Declarations) (ks : TypedScope) (n : List ℕ)
    → length front ≡ i → Heads ds ks → map (seen ts) xs ≡ map (λ k. k.data_type) ks → known_by ts (front ++ xs) n (entry_named ns i (ds ++ rest) n) ≡ known ks n
found_known ns ts front [] i [] rest [] n at heads types = past ns ts (front ++ []) i rest n (rw (length_nil front) (omega (arith, at)))
  where
    length_nil : (xs : List (Option Found)) → length (xs ++ []) ≡ length xs
    length_nil [] = refl
    length_nil (x ∷ xs) = ap suc (length_nil xs)
found_known ns ts front (x ∷ xs) i (d ∷ ds) rest (k ∷ ks) n at heads types =
    either (known_by ts (front ++ x ∷ xs) n) (bytes_eq d.named.name n) (Some (entry_of ns i d)) (entry_named ns (suc i) (ds ++ rest) n) (Some k) (known ks n)
    (λ e.
    let there : slice_get (front ++ x ∷ xs) i ≡ Some x = rw (sym at) (get_behind front xs x) in
    ap (known_there ts n (component_of ns d.component)) there
    ∙ ap Some (same_known (record { name = n; flow = component_flow (component_of ns d.component); data_type = seen ts x }) k
    (sym (name_is d.named.name n e) ∙ sym heads.0) (same_flow ns d.component ∙ sym heads.1) (head_is types)))
    (λ e.
    ap (λ all. known_by ts all n (entry_named ns (suc i) (ds ++ rest) n)) (sym (append_assoc front (x ∷ []) xs))
    ∙ found_known ns ts (front ++ x ∷ []) xs (suc i) ds rest ks n (let pushed = length_push front x in omega (arith, pushed, at)) heads.2 (tail_is types))
    ∙ ap (λ name. if bytes_eq name n then Some k else known ks n) (sym heads.0)
  where
    head_is : {y z : Option DataType} {ys zs : List (Option DataType)} → y ∷ ys ≡ z ∷ zs → y ≡ z
    head_is h = cc

    tail_is : {y z : Option DataType} {ys zs : List (Option DataType)} → y ∷ ys ≡ z ∷ zs → ys ≡ zs
    tail_is h = cc
found_known ns ts front (x ∷ xs) i [] rest [] n at heads types = absurd cc
found_known ns ts front [] i (d ∷ ds) rest (k ∷ ks) n at heads types = absurd cc
found_known ns ts front xs i [] rest (k ∷ ks) n at heads types = absurd heads
found_known ns ts front xs i (d ∷ ds) rest [] n at heads types = absurd heads

-- and where it stands
abbrev position_by : List (Option Found) → Option Entry → Option ℕ
position_by all None = None
position_by all (Some e) = position_there e.position (slice_get all e.position)

chosen : {A : Type 0} (f : A → Option ℕ) (b : Bool) (x y : A) (p z w : ℕ) → f (if b then x else y) ≡ Some p → (b ≡ true → f x ≡ Some p → p ≡ z)
    → (b ≡ false → f y ≡ Some p → p ≡ w) → p ≡ (if b then z else w)
chosen f true x y p z w e h k = h refl e
chosen f false x y p z w e h k = k refl e

past_position : (ns : List PlacedName) (all : List (Option Found)) (i : ℕ) (rest : Declarations) (n : List ℕ) → length all ≤ i
    → position_by all (entry_named ns i rest n) ≡ None
past_position ns all i [] n h = refl
past_position ns all i (d ∷ ds) n h =
    either (position_by all) (bytes_eq d.named.name n) (Some (entry_of ns i d)) (entry_named ns (suc i) ds n) None None
    (λ e. ap (position_there i) (slice_get_past all i h))
    (λ e. past_position ns all (suc i) ds n (omega (arith, h)))
    ∙ same_both (bytes_eq d.named.name n) None

found_position : (ns : List PlacedName) (ts : List DataType) (front xs : List (Option Found)) (i : ℕ) (ds rest : Declarations) (ks : TypedScope) (n : List ℕ) (p : ℕ)
    → length front ≡ i → Heads ds ks → map (seen ts) xs ≡ map (λ k. k.data_type) ks → position_by (front ++ xs) (entry_named ns i (ds ++ rest) n) ≡ Some p
    → p ≡ i + position_of ks n
found_position ns ts front [] i [] rest [] n p at heads types is =
    absurd (none-some p (sym (past_position ns (front ++ []) i rest n (rw (sym (append_none front)) (omega (arith, at)))) ∙ is))
found_position ns ts front (x ∷ xs) i (d ∷ ds) rest (k ∷ ks) n p at heads types is =
    chosen (position_by (front ++ x ∷ xs)) (bytes_eq d.named.name n) (Some (entry_of ns i d)) (entry_named ns (suc i) (ds ++ rest) n) p (i + 0) (i + suc (position_of ks n)) is
    (λ e here.
    let there : slice_get (front ++ x ∷ xs) i ≡ Some x = rw (sym at) (get_behind front xs x) in
    sym (same_Some i p (sym (ap (position_there i) there) ∙ here)) ∙ sym (add-zero i))
    (λ e behind.
    found_position ns ts (front ++ x ∷ []) xs (suc i) ds rest ks n p (let pushed = length_push front x in omega (arith, pushed, at)) heads.2 (behind_is types)
    (ap (λ all. position_by all (entry_named ns (suc i) (ds ++ rest) n)) (append_assoc front (x ∷ []) xs) ∙ behind)
    ∙ one_more i (position_of ks n))
    ∙ pulled (bytes_eq d.named.name n) (position_of ks n)
    ∙ ap (λ name. i + (if bytes_eq name n then zero else suc (position_of ks n))) (sym heads.0)
  where
    behind_is : {y z : Option DataType} {ys zs : List (Option DataType)} → y ∷ ys ≡ z ∷ zs → ys ≡ zs
    behind_is h = cc

    one_more : (a b : ℕ) → suc a + b ≡ a + suc b
    one_more a b = omega arith

    pulled : (b : Bool) (q : ℕ) → (if b then i + 0 else i + suc q) ≡ i + (if b then zero else suc q)
    pulled true q = refl
    pulled false q = refl
found_position ns ts front (x ∷ xs) i [] rest [] n p at heads types is = absurd cc
found_position ns ts front [] i (d ∷ ds) rest (k ∷ ks) n p at heads types is = absurd cc
found_position ns ts front xs i [] rest (k ∷ ks) n p at heads types is = absurd heads
found_position ns ts front xs i (d ∷ ds) rest [] n p at heads types is = absurd heads

as_known : (scope : Scope) (n : List ℕ) (e : Option Entry) → known_at scope n e ≡ known_by (types_of scope.table) scope.declared.items n e
as_known scope n None = refl
as_known scope n (Some e) = refl

as_position : (scope : Scope) (e : Option Entry) → position_at scope e ≡ position_by scope.declared.items e
as_position scope None = refl
as_position scope (Some e) = refl

pub knows_scope : (modules : List ModuleTree) (names : Names) (whole : Declarations) (bundles : List TypeId) (scope : Scope) (before : Before)
    → IsOfModule modules names whole → Begins before.declared whole → Walks modules bundles scope before → Knows names scope (scope_at modules before)
knows_scope modules names whole bundles scope before of begins walks = record {
  each = λ n.
      as_known scope n (found names n)
      ∙ ap (known_by (types_of scope.table) scope.declared.items n) (of.tabulated.by_name n ∙ ap (λ ds. entry_named (names_of modules) 0 ds n) begins.1)
      ∙ found_known (names_of modules) (types_of scope.table) [] scope.declared.items 0 before.declared begins.0 (scope_at modules before) n refl
      (heads_of modules before.declared) walks.types;
  position = λ n p is.
      found_position (names_of modules) (types_of scope.table) [] scope.declared.items 0 before.declared begins.0 (scope_at modules before) n p refl
      (heads_of modules before.declared) walks.types
      (sym (ap (position_by scope.declared.items) (of.tabulated.by_name n ∙ ap (λ ds. entry_named (names_of modules) 0 ds n) begins.1))
      ∙ sym (as_position scope (found names n)) ∙ is)
      ∙ zero-add (position_of (scope_at modules before) n);
}

-- what is declared before a place is declared before what is behind it
pub begins_before : (whole ds es : Declarations) → Begins (ds ++ es) whole → Begins ds whole
begins_before whole ds es b = (es ++ b.0, b.1 ∙ append_assoc ds es b.0)

-- and so is known before a declaration what stands before it
pub knows_before : (modules : List ModuleTree) (names : Names) (whole : Declarations) (bundles : List TypeId) (scope : Scope) (before : Before) (n : PlacedName) (c : Component)
    → IsOfModule modules names whole → Begins (with_declaration before n c).declared whole → Walks modules bundles scope before → Knows names scope (scope_at modules before)
knows_before modules names whole bundles scope before n c of begins walks =
    knows_scope modules names whole bundles scope before of (begins_before whole before.declared (declaration_at before n c ∷ []) begins) walks
