-- Names with their sized types beside names with their types, declaration by declaration, and what their leaves hold, in order.
use Rattle.std.proofs.Common.{◌≡◌, ℕ, ◌+◌, List, [], ◌∷◌, ◌++◌, Bool, true, false, if◌then◌else◌, length, slice_get, Option, Some, None, refl, sym, ap, ◌∙◌, subst, arith, append_assoc}
use Rattle.std.specs.Str.{bytes_eq}
use Rattle.std.proofs.lemmas.List.{append-nil}
use Rattle.fir_ast.specs.declared.place.Place.{Place}
use Rattle.fir_ast.specs.Types.{DataType}
use Rattle.fir_ast.specs.Circuits.{ModuleTree}
use Rattle.fir_meaning.specs.Components.{Component, Declaration, Declarations, port, wire, register, node, instance, memory}
use Rattle.fir_meaning.specs.ComponentTypes.{instance_bundle, instance_type, component_type, known_as, typed_scope}
use Rattle.fir_meaning.specs.Costs.{leaves_where}
use Rattle.fir_meaning.specs.MemoryTypes.{memory_type}
use Rattle.fir_meaning.specs.ResetJoins.{type_of_known}
use Rattle.fir_meaning.specs.TypeKinds.{bare}
use Rattle.fir_meaning.specs.TypedScopes.{Known, TypedScope, known}
use Rattle.fir_meaning.specs.WidthExpressions.{Widths}
use Rattle.fir_meaning.specs.SizedTypes.{Sized, bare_type, numbered}
use Rattle.fir_meaning.specs.SizedScopes.{SizedName, SizedScope, sized_in, sized_type}
use Rattle.fir_meaning.specs.SizedMemories.{as_written}
use Rattle.fir_meaning.specs.SizedDeclarations.{Numbering, port_numbers, instance_from, sized_component, numbered_behind}
use Rattle.fir_meaning.specs.working.Targets.{leaves_ahead}
use Rattle.fir_meaning.proofs.SizedShapes.{numbered_bare, renumbered_bare}
use Rattle.fir_meaning.proofs.SizedExpressions.{sized_as_typed}
use Rattle.fir_meaning.proofs.InferredNodes.{nodes_as_inferred}
use Rattle.fir_meaning.specs.LeafTypes.{LeafType}
use Rattle.fir_meaning.specs.HeldTypes.{held_types}
use Rattle.fir_leaf.proofs.LeafPlaces.{get_left, get_right}
use Rattle.fir_leaf_types.proofs.HeldPlaces.{counted_by_type}
use Rattle.fir_leaf_types.proofs.StandingWidths.{Present, written_present, inferred_present}

module _ (w : Widths) where
  -- a type and its sized type
  pub record TypeStands (t : DataType) (s : Sized) : Type 0 where
    pub shape : bare_type s ≡ bare t
    pub present : Present w t s

  pub record NameStands (k : Known) (s : SizedName) : Type 0 where
    pub name : k.name ≡ s.name
    pub stands : (t : DataType) → k.data_type ≡ Some t → TypeStands t s.sized

  abbrev pub ScopeStands : TypedScope → SizedScope → Type 0
  ScopeStands [] [] = Unit {0}
  ScopeStands (k ∷ ks) (s ∷ ss) = NameStands k s × ScopeStands ks ss
  ScopeStands _ _ = ⊥

  -- what the leaves of names hold
  abbrev pub held_where : Option DataType → Sized → List LeafType
  held_where None s = []
  held_where (Some t) s = held_types w s

  abbrev pub held_along : TypedScope → SizedScope → List LeafType
  held_along (k ∷ ks) (s ∷ ss) = held_where k.data_type s.sized ++ held_along ks ss
  held_along _ _ = []

  pub scope_more : (ks : TypedScope) (ss : SizedScope) (k : Known) (s : SizedName) → ScopeStands ks ss → NameStands k s
      → ScopeStands (ks ++ k ∷ []) (ss ++ s ∷ [])
  scope_more [] [] k s h same = (same, tt)
  scope_more [] (y ∷ ss) k s h same = absurd h
  scope_more (x ∷ ks) [] k s h same = absurd h
  scope_more (x ∷ ks) (y ∷ ss) k s h same = (h.0, scope_more ks ss k s h.1 same)

  pub held_more : (ks : TypedScope) (ss : SizedScope) (k : Known) (s : SizedName) → length ks ≡ length ss
      → held_along (ks ++ k ∷ []) (ss ++ s ∷ []) ≡ held_along ks ss ++ held_where k.data_type s.sized
  held_more [] [] k s e = append-nil (held_where k.data_type s.sized)
  held_more [] (y ∷ ss) k s e = absurd (omega (arith, e))
  held_more (x ∷ ks) [] k s e = absurd (omega (arith, e))
  held_more (x ∷ ks) (y ∷ ss) k s e =
      ap (λ l. held_where x.data_type y.sized ++ l) (held_more ks ss k s (omega (arith, e)))
      ∙ sym (append_assoc (held_where x.data_type y.sized) (held_along ks ss) (held_where k.data_type s.sized))

  where_counted : (k : Known) (s : SizedName) → NameStands k s → length (held_where k.data_type s.sized) ≡ leaves_where k.data_type
  where_counted k s h = by k.data_type (λ t e. h.stands t e)
    where
      by : (o : Option DataType) → ((t : DataType) → o ≡ Some t → TypeStands t s.sized) → length (held_where o s.sized) ≡ leaves_where o
      by None f = refl
      by (Some t) f = counted_by_type w s.sized t (f t refl).shape

  -- the first declaration of a name
  pub named_stands : (ks : TypedScope) (ss : SizedScope) (name : List ℕ) (t : DataType) → ScopeStands ks ss → type_of_known (known ks name) ≡ Some t
      → TypeStands t (sized_in ss name)
  named_stands [] ss name t h e = absurd (cc)
  named_stands (k ∷ ks) [] name t h e = absurd h
  named_stands (k ∷ ks) (s ∷ ss) name t h e = by (bytes_eq k.name name) refl e (named_stands ks ss name t h.1)
    where
      by : (b : Bool) → bytes_eq k.name name ≡ b → type_of_known (if b then Some k else known ks name) ≡ Some t
          → (type_of_known (known ks name) ≡ Some t → TypeStands t (sized_in ss name))
          → TypeStands t (if bytes_eq s.name name then s.sized else sized_in ss name)
      by true g i later = let j = ap (λ (m : List ℕ). bytes_eq m name) (sym h.0.name) ∙ g in rw j (h.0.stands t i)
      by false g i later = let j = ap (λ (m : List ℕ). bytes_eq m name) (sym h.0.name) ∙ g in rw j (later i)

  pub named_holds : (ks : TypedScope) (ss : SizedScope) (name : List ℕ) (t : DataType) → ScopeStands ks ss → type_of_known (known ks name) ≡ Some t
      → (j : ℕ) (h : LeafType) → slice_get (held_types w (sized_in ss name)) j ≡ Some h
      → slice_get (held_along ks ss) (leaves_ahead ks name + j) ≡ Some h
  named_holds [] ss name t stand e j h there = absurd (cc)
  named_holds (k ∷ ks) [] name t stand e j h there = absurd stand
  named_holds (k ∷ ks) (s ∷ ss) name t stand e j h there = by (bytes_eq k.name name) refl e there (named_holds ks ss name t stand.1)
    where
      same : (b : Bool) → bytes_eq k.name name ≡ b → bytes_eq s.name name ≡ b
      same b g = ap (λ (m : List ℕ). bytes_eq m name) (sym stand.0.name) ∙ g

      by : (b : Bool) → bytes_eq k.name name ≡ b → type_of_known (if b then Some k else known ks name) ≡ Some t
          → slice_get (held_types w (if bytes_eq s.name name then s.sized else sized_in ss name)) j ≡ Some h
          → (type_of_known (known ks name) ≡ Some t → (i : ℕ) (x : LeafType) → slice_get (held_types w (sized_in ss name)) i ≡ Some x
          → slice_get (held_along ks ss) (leaves_ahead ks name + i) ≡ Some x)
          → slice_get (held_where k.data_type s.sized ++ held_along ks ss) ((if b then 0 else leaves_where k.data_type + leaves_ahead ks name) + j) ≡ Some h
      by true g i at later =
          let none : 0 + j ≡ j = omega arith in
          let mine : slice_get (held_types w s.sized) j ≡ Some h = rw (same true g) at at in
          rw (none, i) (get_left (held_types w s.sized) (held_along ks ss) j h mine)
      by false g i at later =
          let n = leaves_where k.data_type in
          let more = leaves_ahead ks name in
          let far : (n + more) + j ≡ n + (more + j) = omega arith in
          let mine : slice_get (held_types w (sized_in ss name)) j ≡ Some h = rw (same false g) at at in
          rw far (get_right (held_where k.data_type s.sized) (held_along ks ss) n (more + j) (where_counted k s stand.0) ∙ later i j h mine)

  -- what is declared
  instance_stands : (k : ℕ) (modules : List ModuleTree) (name : List ℕ) (t : DataType) → instance_type modules name ≡ Some t
      → TypeStands t (instance_from k modules name)
  instance_stands k [] name t h = absurd (cc)
  instance_stands k (m ∷ ms) name t h = by (bytes_eq m.named.name name) refl h (instance_stands (k + port_numbers m) ms name t)
    where
      by : (b : Bool) → bytes_eq m.named.name name ≡ b → instance_type (m ∷ ms) name ≡ Some t
          → (instance_type ms name ≡ Some t → TypeStands t (instance_from (k + port_numbers m) ms name))
          → TypeStands t (if b then numbered (Some k) (instance_bundle m) else instance_from (k + port_numbers m) ms name)
      by true g i later =
          let found : Some (instance_bundle m) ≡ Some t = rw g at i in
          let same : instance_bundle m ≡ t = cc in
          rw (← same)
          (record { shape = numbered_bare (Some k) (instance_bundle m); present = written_present w (Some k) (instance_bundle m) })
      by false g i later = later (rw g at i)

  written_stands : (o : Option DataType) (t : DataType) → o ≡ Some t → TypeStands t (as_written o)
  written_stands None t e = absurd (cc)
  written_stands (Some u) t e =
      let same : u ≡ t = cc in rw (← same) (record { shape = numbered_bare None u; present = written_present w None u })

  numbered_stands : (k : ℕ) (u t : DataType) → Some u ≡ Some t → TypeStands t (numbered (Some k) u)
  numbered_stands k u t e =
      let same : u ≡ t = cc in rw (← same) (record { shape = numbered_bare (Some k) u; present = written_present w (Some k) u })

  -- declarations of a module, whose numbers begin with nothing declared
  module _ (modules : List ModuleTree) (start : Numbering) (none : start.scope ≡ []) where
    component_stands : (ds : Declarations) (p : Place) (c : Component) (t : DataType) → component_type modules (typed_scope modules ds) p c ≡ Some t
        → TypeStands t (sized_component modules (numbered_behind modules start ds) p c)
    component_stands ds p (port d u) t e = numbered_stands (numbered_behind modules start ds).port u t e
    component_stands ds p (wire u) t e = numbered_stands (numbered_behind modules start ds).next u t e
    component_stands ds p (register u) t e = numbered_stands (numbered_behind modules start ds).next u t e
    component_stands ds p (node x) t e =
        let k = (numbered_behind modules start ds).next in
        let s = sized_type (numbered_behind modules start ds).scope x in
        record {
          shape = renumbered_bare k s t (sized_as_typed modules start ds x t none e);
          present = subst (Present w t) (sym (nodes_as_inferred modules start ds x t none e k)) (inferred_present w (Some k) t);
        }
    component_stands ds p (instance name) t e = instance_stands 0 modules name t e
    component_stands ds p (memory parts) t e = written_stands (memory_type p parts) t e

    pub declaration_stands : (ds : Declarations) (d : Declaration)
        → NameStands (known_as modules (typed_scope modules ds) d)
        (record { name = d.named.name; sized = sized_component modules (numbered_behind modules start ds) d.named.place d.component })
    declaration_stands ds d = record { name = refl; stands = component_stands ds d.named.place d.component }
