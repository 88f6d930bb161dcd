-- A clock that a register names, and that is not there, stands behind an index: in a vector without elements.
use Rattle.std.proofs.Common.{◌≡◌, ℕ, zero, suc, ◌+◌, ◌-◌, ◌<◌, ◌≤◌, List, [], ◌∷◌, map, length, slice_index_or, Bool, true, false, if◌then◌else◌, Option, Some, None, refl, sym, ap, ◌∙◌, subst, arith, length-append}
use Rattle.std.specs.List.{AllByRecursion}
use Rattle.std.proofs.lemmas.List.{get_or-append-add}
use Rattle.fir_base.proofs.Each.{all_at, all_joined}
use Rattle.fir_ast.specs.declared.place.Place.{Place}
use Rattle.fir_ast.specs.Types.{DataType, clock}
use Rattle.fir_ast.specs.Expressions.{Expression, reference, literal, operation, mux, validif, Parts, no_parts, subfield, subindex, subaccess}
use Rattle.fir_ast.specs.Statements.{Statement, wire, register, node, instance, memory, when, connect, partial_connect, invalid, skip, Block, done, then}
use Rattle.fir_meaning.specs.Components as component
use Rattle.fir_meaning.specs.ExpressionPlaces.{place_of}
use Rattle.fir_meaning.specs.Reaching.{Reached, at_any, at_element, at_field, field_of_type, known_reached, vector_of_type}
use Rattle.fir_meaning.specs.ResetJoins.{numbered_module}
use Rattle.fir_meaning.specs.TypedScopes.{TypedScope, known}
use Rattle.fir_meaning.specs.TypeLeaves.{TypeLeaf, type_leaves}
use Rattle.fir_meaning.specs.FoundTypes.{leaves_of_data}
use Rattle.fir_meaning.specs.LeafTypes.{LeafType}
use Rattle.fir_meaning.specs.Visibility.{Before, at_head, behind, behind_block, opened, reopened}
use Rattle.fir_meaning.specs.working.WellTyped.{AreLegal, HasType, IsLegal, Leads}
use Rattle.fir_meaning.specs.working.Leafed.{first_term, leaf_term, leaf_terms, muxes, target_along, terms}
use Rattle.fir_meaning.specs.working.LeafedBlocks.{term_at}
use Rattle.fir_meaning.specs.ModuleScenes.{Declared, Scene, behind_all_ports, held_by_declared, scope_before, type_of_declared}
use Rattle.fir_meaning.specs.working.LeafedModules.{instance_place, instance_role, leafed_module, leaves_from, leaves_in, leaves_in_block, leaves_of_ports, memory_before, module_leaves, register_role, role_in}
use Rattle.fir_meaning.specs.working.LeafMemories.{LeafMemory, memory_roles}
use Rattle.fir_meaning.specs.working.LeafModules as over
use Rattle.fir_meaning.specs.working.LeafModules.{LeafDeclared, Role, leaf_at, no_leaf, role_at}
use Rattle.fir_meaning.specs.working.TermReads.{is_picked}
use Rattle.fir_meaning.specs.working.Terms.{Picks, Term, absent}
use Rattle.fir_meaning.specs.working.Terms as term
use Rattle.fir_meaning.specs.working.Targets.{Target, element_target, field_target, further, named_target, picked_target}
use Rattle.fir_leaf.proofs.DrivenFlips.{roles_pass}
use Rattle.fir_leaf.proofs.NamedPlaces.{reached_type}
use Rattle.fir_leaf.proofs.OncePaths.{at_in}
use Rattle.fir_design.proofs.FineScenes.{IsFineScene}
use Rattle.fir_flatten.specs.working.ClearClocks.{HasClockBehind, StandsBehind}

-- what a reference leads to
record LeadsBehind (r : Target) (t : DataType) : Type 0 where
  behind : r.base ≡ None → is_picked r.picks ≡ true
  data_type : r.data_type ≡ t

none_further : (n : ℕ) (o : Option ℕ) → further n o ≡ None → o ≡ None
none_further n None e = refl
none_further n (Some b) e = absurd (cc)

module _ (scope : TypedScope) where
  named_behind : (name : List ℕ) (begins : Reached) → known_reached (known scope name) ≡ Some begins → LeadsBehind (named_target scope name) begins.data_type
  named_behind name begins h =
      let is = reached_type (known scope name) begins h in
      rw is (record { behind = λ e. absurd (cc); data_type = refl })

  along_behind : (ps : Parts) (begins reached : Reached) (r : Target) → Leads scope begins ps reached → LeadsBehind r begins.data_type
      → LeadsBehind (target_along scope r ps) reached.data_type
  along_behind no_parts begins reached r h s =
      record { behind = s.behind; data_type = s.data_type ∙ ap (λ (z : Reached). z.data_type) (sym h) }
  along_behind (subfield first q x rest) begins reached r h s =
      let found : field_of_type x r.data_type ≡ Some h.0 = ap (field_of_type x) s.data_type ∙ h.1 in
      along_behind rest (at_field x begins h.0) reached (field_target x r) h.2
      (rw found (record { behind = λ e. s.behind (none_further _ r.base e); data_type = refl }))
  along_behind (subindex first q i rest) begins reached r h s =
      let found : vector_of_type r.data_type ≡ Some (h.0, h.1) = ap vector_of_type s.data_type ∙ h.2 in
      along_behind rest (at_element i begins h.0) reached (element_target i r) h.4
      (rw found (record { behind = λ e. s.behind (none_further _ r.base e); data_type = refl }))
  along_behind (subaccess first e rest) begins reached r h s =
      let found : vector_of_type r.data_type ≡ Some (h.1, h.2) = ap vector_of_type s.data_type ∙ h.4 in
      along_behind rest (at_any begins (h.1, h.2)) reached (picked_target (place_of e) (first_term (terms scope e)) r) h.5
      (rw found (record { behind = λ z. refl; data_type = refl }))

leaf_behind : (o : Option ℕ) (ps : Picks) (k : ℕ) (t : DataType) → (o ≡ None → is_picked ps ≡ true) → StandsBehind (leaf_term o ps k t)
leaf_behind None ps k t h = h refl
leaf_behind (Some b) ps k t h = tt

first_behind : (r : Target) (ls : List TypeLeaf) → (r.base ≡ None → is_picked r.picks ≡ true) → StandsBehind (first_term (leaf_terms r 0 ls))
first_behind r [] h = tt
first_behind r (l ∷ ls) h = leaf_behind r.base r.picks 0 l.ground_type h

first_of_muxes : (c : Term) (xs ys : List Term) → StandsBehind (first_term (muxes c xs ys))
first_of_muxes c [] ys = tt
first_of_muxes c (x ∷ xs) [] = tt
first_of_muxes c (x ∷ xs) (y ∷ ys) = tt

first_of_validifs : (c : Term) (xs : List Term) → StandsBehind (first_term (map (term.validif c) xs))
first_of_validifs c [] = tt
first_of_validifs c (x ∷ xs) = tt

clock_behind : (scope : TypedScope) (e : Expression) (t : DataType) → HasType scope e t → StandsBehind (first_term (terms scope e))
clock_behind scope (reference p n ps) t h =
    let to = target_along scope (named_target scope n) ps in
    first_behind to (type_leaves to.data_type) (along_behind scope ps h.0 h.1 (named_target scope n) h.3 (named_behind scope n h.0 h.2)).behind
clock_behind scope (literal l) t h = tt
clock_behind scope (operation p op es ks) t h = tt
clock_behind scope (mux p c a b) t h = first_of_muxes (first_term (terms scope c)) (terms scope a) (terms scope b)
clock_behind scope (validif p c a) t h = first_of_validifs (first_term (terms scope c)) (terms scope a)

-- a test that tells registers
abbrev says : Bool → Role → Bool
says b (over.register c r) = b
says b over.sink = true
says b _ = false

without_clock : (r : Role) → says true r ≡ says false r → HasClockBehind r
without_clock over.source e = tt
without_clock over.sink e = tt
without_clock (over.computed t) e = tt
without_clock (over.register c r) e = absurd (cc)
without_clock (over.reading r) e = tt
without_clock (over.pipe r x under) e = tt

without_clocks : (rs : List Role) (k : ℕ) → map (says true) rs ≡ map (says false) rs → HasClockBehind (slice_index_or rs k over.source)
without_clocks [] k e = tt
without_clocks (r ∷ rs) zero e = without_clock r (cc)
without_clocks (r ∷ rs) (suc k) e = without_clocks rs k (cc)

memory_behind : (m : LeafMemory) (k : ℕ) → HasClockBehind (slice_index_or (memory_roles m) k over.source)
memory_behind m k =
    without_clocks (memory_roles m) k
    (roles_pass (says true) refl (λ r. refl) (λ r c u. refl) m m.first m.ports
    ∙ sym (roles_pass (says false) refl (λ r. refl) (λ r c u. refl) m m.first m.ports))

instance_behind : (b : Bool) → HasClockBehind (if b then over.sink else over.source)
instance_behind true = tt
instance_behind false = tt

abbrev AreBehind : List LeafDeclared → Type 0
AreBehind = AllByRecursion (λ (l : LeafDeclared). HasClockBehind l.role)

each_behind : (d : Declared) (place : TypeLeaf → Place) (role_of : ℕ → TypeLeaf → Role) → ((k : ℕ) (l : TypeLeaf) → HasClockBehind (role_of k l))
    → (k : ℕ) (ls : List TypeLeaf) (hs : List LeafType) → AreBehind (leaves_from d place role_of k ls hs)
each_behind d place role_of h k [] hs = tt
each_behind d place role_of h k (l ∷ ls) [] = tt
each_behind d place role_of h k (l ∷ ls) (x ∷ hs) = (h k l, each_behind d place role_of h (suc k) ls hs)

module _ (s : Scene) where
  declared_behind : (d : Declared) (place : TypeLeaf → Place) (role_of : ℕ → TypeLeaf → Role) → ((k : ℕ) (l : TypeLeaf) → HasClockBehind (role_of k l))
      → AreBehind (leaves_from d place role_of 0 (leaves_of_data (type_of_declared s d)) (held_by_declared s d))
  declared_behind d place role_of h = each_behind d place role_of h 0 (leaves_of_data (type_of_declared s d)) (held_by_declared s d)

  mutual
    statement_behind : (x : Statement) (before : Before) → IsLegal s.own.modules before x
        → AreBehind (leaves_in s before x)
    statement_behind (wire p n begins t) before h =
        declared_behind (record { named = n; component = component.wire t; before = before }) (λ l. n.place) (λ k l. over.sink) (λ k l. tt)
    statement_behind (register p n begins t c r) before h =
        declared_behind (record { named = n; component = component.register t; before = before }) (λ l. n.place) (register_role s before n t c r)
        (λ k l. clock_behind (scope_before s before) c clock h.2)
    statement_behind (node p n e) before h =
        declared_behind (record { named = n; component = component.node e; before = before }) (λ l. n.place)
        (λ k l. over.computed (term_at (terms (scope_before s before) e) k)) (λ k l. tt)
    statement_behind (instance p n other) before h =
        declared_behind (record { named = n; component = component.instance other.name; before = before })
        (instance_place n (numbered_module 0 s.own.modules other.name)) instance_role (λ k l. instance_behind l.flip)
    statement_behind (memory p n parts) before h =
        declared_behind (record { named = n; component = component.memory parts; before = before }) (λ l. n.place)
        (role_in (memory_roles (memory_before s before n parts))) (λ k l. memory_behind (memory_before s before n parts) k)
    statement_behind (when p c a b) before h =
        let first = opened before in
        let second = reopened before (behind_block first a) in
        all_joined (λ (l : LeafDeclared). HasClockBehind l.role) (leaves_in_block s first a) (leaves_in_block s second b)
        (block_behind a first h.2) (block_behind b second h.3)
    statement_behind (connect p d e) before h = tt
    statement_behind (partial_connect p d e) before h = tt
    statement_behind (invalid p d) before h = tt
    statement_behind (skip p) before h = tt

    block_behind : (y : Block) (before : Before) → AreLegal s.own.modules before y
        → AreBehind (leaves_in_block s before y)
    block_behind done before h = tt
    block_behind ((then) x rest) before h =
        all_joined (λ (l : LeafDeclared). HasClockBehind l.role) (leaves_in s before x) (leaves_in_block s (behind before x) rest)
        (statement_behind x before h.0) (block_behind rest (behind before x) h.1)

-- of each leaf of a module that is no port
pub role_behind : (s : Scene) → IsFineScene s → (x : ℕ) → (leafed_module s).port_leaves ≤ x → x < length (module_leaves s)
    → HasClockBehind (role_at (leafed_module s) x)
role_behind s f x le lt =
    let ports = leaves_of_ports s at_head s.own.inside.ports in
    let others = leaves_in_block s (behind_all_ports s.own.inside) s.own.inside.body in
    let is : length ports + (x - length ports) ≡ x = omega (arith, le) in
    let inside : x - length ports < length others = omega (arith, lt, le, length-append ports others) in
    let there : leaf_at (module_leaves s) x ≡ leaf_at others (x - length ports) =
    ap (leaf_at (module_leaves s)) (sym is) ∙ get_or-append-add ports others (x - length ports) no_leaf in
    subst (λ (l : LeafDeclared). HasClockBehind l.role) (sym there)
    (all_at (λ (l : LeafDeclared). HasClockBehind l.role) others (block_behind s s.own.inside.body (behind_all_ports s.own.inside) f.legal)
    (leaf_at others (x - length ports)) (at_in others no_leaf (x - length ports) inside))
