-- A relation between sized types and types that goes to parts and holds of what is declared: it holds of what references reach.
use Rattle.std.proofs.Common.{◌≡◌, ℕ, ◌+◌, List, [], ◌∷◌, ◌++◌, Bool, true, false, if◌then◌else◌, nat_lt, Option, Some, None, option_map, Ok, refl, sym, ap, ◌∙◌, subst}
use Rattle.std.specs.Str.{bytes_eq}
use Rattle.fir_ast.specs.declared.place.Place.{Place}
use Rattle.fir_ast.specs.Types.{DataType}
use Rattle.fir_ast.specs.Expressions.{Expression, reference, Parts, no_parts, subfield, subindex, subaccess}
use Rattle.fir_ast.specs.Circuits.{ModuleTree}
use Rattle.fir_meaning.specs.LeafPaths.{named}
use Rattle.fir_meaning.specs.Components.{Component, port, wire, register, node, instance, memory, Declarations}
use Rattle.fir_meaning.specs.TypeKinds.{FieldFound}
use Rattle.fir_meaning.specs.ExpressionPlaces.{place_of}
use Rattle.fir_meaning.specs.KindFaults.{out_of_range}
use Rattle.fir_meaning.specs.Checked.{Checked, together}
use Rattle.fir_meaning.specs.MemoryTypes.{memory_type}
use Rattle.fir_meaning.specs.TypedScopes.{Known, TypedScope, known}
use Rattle.fir_meaning.specs.Reaching.{Reached, reached_field, to_field, element_at, to_index, any_element, to_any, at_field, at_element, at_any, field_of_type, vector_of_type, known_reached, root}
use Rattle.fir_meaning.specs.ExpressionTypes.{condition_form, field_form, index_form, access_form, expression_type, along_parts}
use Rattle.fir_meaning.specs.ComponentTypes.{instance_type, instance_bundle, find_module, component_type, known_as, typed_behind, typed_scope}
use Rattle.fir_meaning.specs.SizedTypes.{Sized, numbered, renumbered, sized_named, sized_found, fields_in, element_in}
use Rattle.fir_meaning.specs.SizedScopes.{SizedName, SizedScope, sized_in, sized_part, sized_type}
use Rattle.fir_meaning.specs.SizedMemories.{as_written}
use Rattle.fir_meaning.specs.SizedDeclarations.{Numbering, port_numbers, instance_from, sized_component, numbered_with, numbered_behind}
use Rattle.fir_meaning.proofs.FoundForms.{after_has, joined_has, granted}

pub record GoesToParts (R : Sized → DataType → Type 0) : Type 0 where
  pub to_fields : (s : Sized) (t : DataType) (x : List ℕ) (f : FieldFound) → R s t → field_of_type x t ≡ Some f
      → R (sized_found (sized_named x (fields_in s))) f.data_type
  pub to_elements : (s : Sized) (t : DataType) (v : DataType × ℕ) → R s t → vector_of_type t ≡ Some v → R (element_in s) v.0

-- it holds of a type that is written, whatever its numbers, and of a node where it holds of its expression
pub record HoldsOfDeclared (R : Sized → DataType → Type 0) : Type 0 where
  pub written : (at : Option ℕ) (t : DataType) → R (numbered at t) t
  pub anew : (k : ℕ) (s : Sized) (t : DataType) → R s t → R (renumbered k s) t

module _ (R : Sized → DataType → Type 0) where
  -- a name stands for the type that is known
  pub record SameType (k : Known) (s : SizedName) : Type 0 where
    pub name : k.name ≡ s.name
    pub same : (t : DataType) → k.data_type ≡ Some t → R s.sized t

  -- declaration by declaration
  abbrev pub Beside : TypedScope → SizedScope → Type 0
  Beside [] [] = Unit {0}
  Beside (k ∷ ks) (s ∷ ss) = SameType k s × Beside ks ss
  Beside _ _ = ⊥

  beside_more : (typed : TypedScope) (sized : SizedScope) (k : Known) (s : SizedName) → Beside typed sized → SameType k s
      → Beside (typed ++ k ∷ []) (sized ++ s ∷ [])
  beside_more [] [] k s h same = (same, tt)
  beside_more (x ∷ typed) (y ∷ sized) k s h same = (h.0, beside_more typed sized k s h.1 same)
  beside_more [] (y ∷ sized) k s h same = absurd h
  beside_more (x ∷ typed) [] k s h same = absurd h

  found_beside : (typed : TypedScope) (sized : SizedScope) → Beside typed sized → (n : List ℕ) (k : Known) (t : DataType) → known typed n ≡ Some k
      → k.data_type ≡ Some t → R (sized_in sized n) t
  found_beside [] [] h n k t e f = absurd (cc)
  found_beside (x ∷ typed) (y ∷ sized) h n k t e f = by (bytes_eq x.name n) refl (found_beside typed sized h.1 n k t) e
    where
      by : (b : Bool) → bytes_eq x.name n ≡ b → (known typed n ≡ Some k → k.data_type ≡ Some t → R (sized_in sized n) t)
          → (if b then Some x else known typed n) ≡ Some k → R (sized_in (y ∷ sized) n) t
      by true g later i =
          let j = ap (λ (m : List ℕ). bytes_eq m n) (sym h.0.name) ∙ g in
          let same : x ≡ k = cc in
          rw j (h.0.same t (ap (λ (z : Known). z.data_type) same ∙ f))
      by false g later i = let j = ap (λ (m : List ℕ). bytes_eq m n) (sym h.0.name) ∙ g in rw j (later i f)
  found_beside [] (y ∷ sized) h n k t e f = absurd h
  found_beside (x ∷ typed) [] h n k t e f = absurd h

  root_same : (typed : TypedScope) (sized : SizedScope) → Beside typed sized → (n : List ℕ) (r : Reached) → (root typed n).has ≡ Some r
      → R (sized_in sized n) r.data_type
  root_same typed sized beside n r h = by (known typed n) refl h
    where
      typed_as : (k : Known) (o : Option DataType) → k.data_type ≡ o → known typed n ≡ Some k
          → option_map (λ t. record { data_type = t; flow = k.flow; path = Some (named k.name ∷ []) }) o ≡ Some r
          → R (sized_in sized n) r.data_type
      typed_as k None e f i = absurd (cc)
      typed_as k (Some t) e f i = let same : t ≡ r.data_type = cc in rw (← same) (found_beside typed sized beside n k t f e)

      by : (o : Option Known) → known typed n ≡ o → known_reached o ≡ Some r → R (sized_in sized n) r.data_type
      by None e i = absurd (cc)
      by (Some k) e i = typed_as k k.data_type refl e i

  -- from what a reference has reached to what its next part reaches
  module _ (parts : GoesToParts R) where
    field_step : (p : Place) (x : List ℕ) (s : Sized) (r y : Reached) → R s r.data_type → to_field p x r ≡ Ok y
        → R (sized_found (sized_named x (fields_in s))) y.data_type
    field_step p x s r y e h = by (field_of_type x r.data_type) refl h
      where
        by : (o : Option FieldFound) → field_of_type x r.data_type ≡ o → reached_field p x r o ≡ Ok y
            → R (sized_found (sized_named x (fields_in s))) y.data_type
        by None g k = absurd (cc)
        by (Some f) g k = let same : at_field x r f ≡ y = cc in rw (← same) (parts.to_fields s r.data_type x f e g)

    index_step : (p : Place) (i : ℕ) (s : Sized) (r y : Reached) → R s r.data_type → to_index p i r ≡ Ok y → R (element_in s) y.data_type
    index_step p i s r y e h = by (vector_of_type r.data_type) refl h
      where
        by : (o : Option (DataType × ℕ)) → vector_of_type r.data_type ≡ o → element_at p i r o ≡ Ok y → R (element_in s) y.data_type
        by None g k = absurd (cc)
        by (Some v) g k =
            let found : Ok (at_element i r v.0) ≡ Ok y = granted (nat_lt i v.1) (Ok (at_element i r v.0)) (out_of_range p i v.1) y k in
            let same : at_element i r v.0 ≡ y = cc in
            rw (← same) (parts.to_elements s r.data_type v e g)

    any_step : (p : Place) (s : Sized) (r y : Reached) → R s r.data_type → to_any p r ≡ Ok y → R (element_in s) y.data_type
    any_step p s r y e h = by (vector_of_type r.data_type) refl h
      where
        by : (o : Option (DataType × ℕ)) → vector_of_type r.data_type ≡ o → any_element p r o ≡ Ok y → R (element_in s) y.data_type
        by None g k = absurd (cc)
        by (Some v) g k = let same : at_any r v ≡ y = cc in rw (← same) (parts.to_elements s r.data_type v e g)

    parts_same : (typed : TypedScope) (p : Place) (c : Checked Reached) (s : Sized) (ps : Parts) (r : Reached)
        → ((b : Reached) → c.has ≡ Some b → R s b.data_type) → (along_parts typed p c ps).has ≡ Some r → R (sized_part s ps) r.data_type
    parts_same typed p c s no_parts r here h = here r h
    parts_same typed p c s (subfield first q x rest) r here h =
        parts_same typed p (field_form p x c) (sized_found (sized_named x (fields_in s))) rest r
        (λ b e. let a = after_has c (to_field p x) b e in field_step p x s a.0 b (here a.0 a.1) a.2) h
    parts_same typed p c s (subindex first q i rest) r here h =
        parts_same typed p (index_form p i c) (element_in s) rest r
        (λ b e. let a = after_has c (to_index p i) b e in index_step p i s a.0 b (here a.0 a.1) a.2) h
    parts_same typed p c s (subaccess first e rest) r here h =
        let index = condition_form (place_of e) (expression_type typed e) in
        parts_same typed p (access_form p c index) (element_in s) rest r
        (λ b g.
        let a = after_has (together (λ (x : Reached) (t : DataType). x) c index) (to_any p) b g in
        let j = joined_has (λ (x : Reached) (t : DataType). x) c.has index.has a.0 a.1 in
        any_step p s a.0 b (here a.0 (j.2 ∙ ap Some j.4)) a.2) h

    pub reference_same : (typed : TypedScope) (sized : SizedScope) → Beside typed sized → (p : Place) (n : List ℕ) (ps : Parts) (t : DataType)
        → (expression_type typed (reference p n ps)).has ≡ Some t → R (sized_type sized (reference p n ps)) t
    reference_same typed sized beside p n ps t h = by (along_parts typed p (root typed n) ps).has refl h
      where
        by : (o : Option Reached) → (along_parts typed p (root typed n) ps).has ≡ o → option_map (λ (r : Reached). r.data_type) o ≡ Some t
            → R (sized_part (sized_in sized n) ps) t
        by None e k = absurd (cc)
        by (Some r) e k =
            let same : r.data_type ≡ t = cc in
            rw (← same) (parts_same typed p (root typed n) (sized_in sized n) ps r (root_same typed sized beside n) e)

  -- where it holds of each expression in scopes beside one another, the scopes of the same declarations are beside one another
  module _ (declared : HoldsOfDeclared R)
      (each : (typed : TypedScope) (sized : SizedScope) → Beside typed sized → (e : Expression) (t : DataType) → (expression_type typed e).has ≡ Some t
      → R (sized_type sized e) t) where
    -- an instance has its module's ports
    instance_same : (k : ℕ) (modules : List ModuleTree) (name : List ℕ) (t : DataType) → instance_type modules name ≡ Some t
        → R (instance_from k modules name) t
    instance_same k [] name t h = absurd (cc)
    instance_same k (m ∷ ms) name t h = by (bytes_eq m.named.name name) refl (instance_same (k + port_numbers m) ms name t) h
      where
        by : (b : Bool) → bytes_eq m.named.name name ≡ b → (instance_type ms name ≡ Some t → R (instance_from (k + port_numbers m) ms name) t)
            → option_map instance_bundle (if b then Some m else find_module ms name) ≡ Some t
            → R (instance_from k (m ∷ ms) name) t
        by true g later i = let same : instance_bundle m ≡ t = cc in rw (g, ← same) (declared.written (Some k) (instance_bundle m))
        by false g later i = rw g (later i)

    memory_same : (o : Option DataType) (t : DataType) → o ≡ Some t → R (as_written o) t
    memory_same None t e = absurd (cc)
    memory_same (Some u) t e = let same : u ≡ t = cc in rw (← same) (declared.written None u)

    component_same : (modules : List ModuleTree) (typed : TypedScope) (numbers : Numbering) → Beside typed numbers.scope → (p : Place) (c : Component)
        (t : DataType) → component_type modules typed p c ≡ Some t → R (sized_component modules numbers p c) t
    component_same modules typed numbers beside p (port d u) t h = let same : u ≡ t = cc in rw (← same) (declared.written (Some numbers.port) u)
    component_same modules typed numbers beside p (wire u) t h = let same : u ≡ t = cc in rw (← same) (declared.written (Some numbers.next) u)
    component_same modules typed numbers beside p (register u) t h = let same : u ≡ t = cc in rw (← same) (declared.written (Some numbers.next) u)
    component_same modules typed numbers beside p (node e) t h =
        declared.anew numbers.next (sized_type numbers.scope e) t (each typed numbers.scope beside e t h)
    component_same modules typed numbers beside p (instance name) t h = instance_same 0 modules name t h
    component_same modules typed numbers beside p (memory parts) t h = memory_same (memory_type p parts) t h

    behind_beside : (modules : List ModuleTree) (typed : TypedScope) (numbers : Numbering) (ds : Declarations) → Beside typed numbers.scope
        → Beside (typed_behind modules typed ds) (numbered_behind modules numbers ds).scope
    behind_beside modules typed numbers [] beside = beside
    behind_beside modules typed numbers (d ∷ ds) beside =
        behind_beside modules (typed ++ known_as modules typed d ∷ []) (numbered_with modules numbers d) ds
        (beside_more typed numbers.scope (known_as modules typed d)
        (record { name = d.named.name; sized = sized_component modules numbers d.named.place d.component }) beside
        (record { name = refl; same = component_same modules typed numbers beside d.named.place d.component }))

    pub each_behind : (modules : List ModuleTree) (numbers : Numbering) (ds : Declarations) (e : Expression) (t : DataType) → numbers.scope ≡ []
        → (expression_type (typed_scope modules ds) e).has ≡ Some t → R (sized_type (numbered_behind modules numbers ds).scope e) t
    each_behind modules numbers ds e t none h =
        each (typed_scope modules ds) (numbered_behind modules numbers ds).scope
        (behind_beside modules [] numbers ds (subst (Beside []) (sym none) tt)) e t h
