-- The unknowns of what a reference leads to are free, or it leads into a node, which is a source without flips.
use Rattle.std.proofs.Common.{◌≡◌, ℕ, zero, suc, List, [], ◌∷◌, ◌++◌, Bool, true, false, ◌==◌, if◌then◌else◌, nat_lt, Option, Some, None, option_map, refl, sym, ap, ◌∙◌, subst, inl, inr, ◌⊎◌, arith}
use Rattle.std.specs.Str.{bytes_eq}
use Rattle.std.proofs.lemmas.Bool.Decides.{nat_tests}
use Rattle.fir_ast.specs.Types.{DataType, uint, sint, clock, reset, async_reset, bundle, vector, Fields, no_fields, field}
use Rattle.fir_ast.specs.Expressions.{Parts, no_parts, subfield, subindex, subaccess}
use Rattle.fir_meaning.specs.LeafPaths.{LeafPath, named, element}
use Rattle.fir_meaning.specs.Flows.{Flow, flow_under, source}
use Rattle.fir_meaning.specs.Reaching.{Reached, further, known_reached, at_field, at_element, at_any, field_of_type, vector_of_type}
use Rattle.fir_meaning.specs.SharedLeaves.{shared_count}
use Rattle.fir_meaning.specs.TypeKinds.{bare, FieldFound, is_passive}
use Rattle.fir_meaning.specs.TypedScopes.{Known, TypedScope, known}
use Rattle.fir_meaning.specs.SizedTypes.{Sized, SizedFields, scalar, sized_bundle, sized_vector, no_sized_fields, sized_field, past, numbered, numbered_fields, bare_type, sized_named, sized_found, fields_in, element_in}
use Rattle.fir_meaning.specs.SizedScopes.{SizedName, SizedScope, sized_in, sized_part}
use Rattle.fir_meaning.specs.working.WellTyped.{Leads}
use Rattle.fir_meaning.proofs.SizedShapes.{field_bare, element_bare}
use Rattle.fir_leaf_types.proofs.OwnedNumbers.{Owned, none_owned, owned_else, field_owned, element_owned}
use Rattle.fir_leaf_types.proofs.StraightMatches.{passive_found}

-- no unknown stands below a vector of length 0
abbrev pub Nothing : ℕ → Type 0
Nothing j = ⊥

abbrev mutual
  pub EndsWritten : Sized → Type 0
  EndsWritten (scalar s e) = Unit {0}
  EndsWritten (sized_bundle fs) = FieldsEndWritten fs
  EndsWritten (sized_vector t n) = (n ≡ 0 → Owned Nothing t) × EndsWritten t

  pub FieldsEndWritten : SizedFields → Type 0
  FieldsEndWritten no_sized_fields = Unit {0}
  FieldsEndWritten (sized_field p flip x b t rest) = EndsWritten t × FieldsEndWritten rest

zero_written : (at : Option ℕ) (t : DataType) (n : ℕ) → n ≡ 0 → Owned Nothing (numbered (if n == 0 then None else at) t)
zero_written at t zero e = none_owned Nothing t
zero_written at t (suc n) e = absurd (omega (arith, e))

mutual
  pub ends_written : (at : Option ℕ) (t : DataType) → EndsWritten (numbered at t)
  ends_written at (uint w) = tt
  ends_written at (sint w) = tt
  ends_written at clock = tt
  ends_written at reset = tt
  ends_written at async_reset = tt
  ends_written at (bundle fs) = fields_end_written at fs
  ends_written at (vector t n) = (zero_written at t n, ends_written (if n == 0 then None else at) t)

  fields_end_written : (at : Option ℕ) (fs : Fields) → FieldsEndWritten (numbered_fields at fs)
  fields_end_written at no_fields = tt
  fields_end_written at (field p f x b t rest) = (ends_written at t, fields_end_written (past (shared_count t) at) rest)

named_ends : (x : List ℕ) (fs : SizedFields) → FieldsEndWritten fs → EndsWritten (sized_found (sized_named x fs))
named_ends x no_sized_fields h = tt
named_ends x (sized_field p f y b t rest) h = by (bytes_eq y x) (named_ends x rest h.1)
  where
    by : (v : Bool) → EndsWritten (sized_found (sized_named x rest)) → EndsWritten (sized_found (if v then Some t else sized_named x rest))
    by true later = h.0
    by false later = later

field_ends : (x : List ℕ) (s : Sized) → EndsWritten s → EndsWritten (sized_found (sized_named x (fields_in s)))
field_ends x (scalar k e) h = tt
field_ends x (sized_bundle fs) h = named_ends x fs h
field_ends x (sized_vector t n) h = tt

element_ends : (s : Sized) → EndsWritten s → EndsWritten (element_in s)
element_ends (scalar k e) h = tt
element_ends (sized_bundle fs) h = tt
element_ends (sized_vector t n) h = h.1

zero_element : (s : Sized) (t u : DataType) (n : ℕ) → bare_type s ≡ bare t → vector_of_type t ≡ Some (u, n) → EndsWritten s → n ≡ 0
    → Owned Nothing (element_in s)
zero_element (scalar k e) t u n shape h ends none = tt
zero_element (sized_bundle fs) t u n shape h ends none = tt
zero_element (sized_vector v m) (vector t k) u n shape h ends none =
    let long : m ≡ k = cc in
    let same : ◌≡◌ {A = DataType × ℕ} (t, k) (u, n) = cc in
    ends.0 (long ∙ ap (λ (x : DataType × ℕ). x.1) same ∙ none)
zero_element (sized_vector v m) (uint w) u n shape h ends none = absurd (cc)
zero_element (sized_vector v m) (sint w) u n shape h ends none = absurd (cc)
zero_element (sized_vector v m) clock u n shape h ends none = absurd (cc)
zero_element (sized_vector v m) reset u n shape h ends none = absurd (cc)
zero_element (sized_vector v m) async_reset u n shape h ends none = absurd (cc)
zero_element (sized_vector v m) (bundle fs) u n shape h ends none = absurd (cc)

-- what a reference reaches in a node
pub record InNode (r : Reached) (s : Sized) : Type 0 where
  pub flow : r.flow ≡ source
  pub path : LeafPath
  pub reached : r.path ≡ Some path
  pub passive : is_passive r.data_type ≡ true
  pub shape : bare_type s ≡ bare r.data_type
  pub ends : EndsWritten s

passive_field : (t : DataType) (x : List ℕ) (f : FieldFound) → is_passive t ≡ true → field_of_type x t ≡ Some f
    → (f.flip ≡ false) × (is_passive f.data_type ≡ true)
passive_field (bundle fs) x f h e = passive_found x fs f h e
passive_field t x f h e = absurd (cc)

passive_element : (t u : DataType) (n : ℕ) → is_passive t ≡ true → vector_of_type t ≡ Some (u, n) → is_passive u ≡ true
passive_element (vector t m) u n h e =
    let same : ◌≡◌ {A = DataType × ℕ} (t, m) (u, n) = cc in ap (λ (x : DataType × ℕ). is_passive x.0) (sym same) ∙ h
passive_element t u n h e = absurd (cc)

field_flow : (f : Bool) (g : Flow) → f ≡ false → g ≡ source → flow_under f g ≡ source
field_flow true g h k = absurd (cc)
field_flow false g h k = k

module _ (Q : ℕ → Type 0) where
  abbrev pub RefOwned : Reached → Sized → Type 0
  RefOwned r s = Owned Q s ⊎ InNode r s

  field_step : (x : List ℕ) (f : FieldFound) (r : Reached) (s : Sized) → field_of_type x r.data_type ≡ Some f → RefOwned r s
      → RefOwned (at_field x r f) (sized_found (sized_named x (fields_in s)))
  field_step x f r s e (inl h) = inl (field_owned Q x s h)
  field_step x f r s e (inr h) =
      let inside = passive_field r.data_type x f h.passive e in
      inr
      (record {
        flow = field_flow f.flip r.flow inside.0 h.flow;
        path = h.path ++ named x ∷ [];
        reached = ap (option_map (λ path. path ++ named x ∷ [])) h.reached;
        passive = inside.1;
        shape = field_bare s r.data_type x f h.shape e;
        ends = field_ends x s h.ends;
      })

  index_step : (i : ℕ) (t : DataType) (n : ℕ) (r : Reached) (s : Sized) → vector_of_type r.data_type ≡ Some (t, n) → RefOwned r s
      → RefOwned (at_element i r t) (element_in s)
  index_step i t n r s e (inl h) = inl (element_owned Q s h)
  index_step i t n r s e (inr h) =
      inr
      (record {
        flow = h.flow;
        path = h.path ++ element i ∷ [];
        reached = ap (option_map (λ path. path ++ element i ∷ [])) h.reached;
        passive = passive_element r.data_type t n h.passive e;
        shape = element_bare s r.data_type (t, n) h.shape e;
        ends = element_ends s h.ends;
      })

  any_step : (t : DataType) (n : ℕ) (r : Reached) (s : Sized) → vector_of_type r.data_type ≡ Some (t, n) → RefOwned r s
      → RefOwned (at_any r (t, n)) (element_in s)
  any_step t n r s e (inl h) = inl (element_owned Q s h)
  any_step t n r s e (inr h) = by (nat_lt 0 n) refl
    where
      by : (b : Bool) → nat_lt 0 n ≡ b
          → RefOwned (record { data_type = t; flow = r.flow; path = if b then further r (element 0 ∷ []) else None }) (element_in s)
      by true some =
          inr
          (record {
            flow = h.flow;
            path = h.path ++ element 0 ∷ [];
            reached = ap (option_map (λ path. path ++ element 0 ∷ [])) h.reached;
            passive = passive_element r.data_type t n h.passive e;
            shape = element_bare s r.data_type (t, n) h.shape e;
            ends = element_ends s h.ends;
          })
      by false none =
          inl (owned_else Nothing Q (element_in s) (λ k x. absurd x) (zero_element s r.data_type t n h.shape e h.ends (grind (arith, nat_tests, none))))

  pub leads_owned : (scope : TypedScope) (ps : Parts) (begins reached : Reached) (s : Sized) → Leads scope begins ps reached → RefOwned begins s
      → RefOwned reached (sized_part s ps)
  leads_owned scope no_parts begins reached s h k = subst (λ r. RefOwned r s) (sym h) k
  leads_owned scope (subfield first q x rest) begins reached s h k =
      leads_owned scope rest (at_field x begins h.0) reached (sized_found (sized_named x (fields_in s))) h.2 (field_step x h.0 begins s h.1 k)
  leads_owned scope (subindex first q i rest) begins reached s h k =
      leads_owned scope rest (at_element i begins h.0) reached (element_in s) h.4 (index_step i h.0 h.1 begins s h.2 k)
  leads_owned scope (subaccess first e rest) begins reached s h k =
      leads_owned scope rest (at_any begins (h.1, h.2)) reached (element_in s) h.5 (any_step h.1 h.2 begins s h.4 k)

  -- names, declaration by declaration
  pub record NodeEntry (k : Known) (s : Sized) : Type 0 where
    pub flow : k.flow ≡ source
    pub passive : (t : DataType) → k.data_type ≡ Some t → is_passive t ≡ true
    pub shape : (t : DataType) → k.data_type ≡ Some t → bare_type s ≡ bare t
    pub ends : EndsWritten s

  pub record EntryOwned (k : Known) (s : SizedName) : Type 0 where
    pub name : k.name ≡ s.name
    pub owned : Owned Q s.sized ⊎ NodeEntry k s.sized

  abbrev pub ScopeOwned : TypedScope → SizedScope → Type 0
  ScopeOwned [] [] = Unit {0}
  ScopeOwned (k ∷ ks) (s ∷ ss) = EntryOwned k s × ScopeOwned ks ss
  ScopeOwned _ _ = ⊥

  pub scope_owned_more : (ks : TypedScope) (ss : SizedScope) (k : Known) (s : SizedName) → ScopeOwned ks ss → EntryOwned k s
      → ScopeOwned (ks ++ k ∷ []) (ss ++ s ∷ [])
  scope_owned_more [] [] k s h own = (own, tt)
  scope_owned_more [] (y ∷ ss) k s h own = absurd h
  scope_owned_more (x ∷ ks) [] k s h own = absurd h
  scope_owned_more (x ∷ ks) (y ∷ ss) k s h own = (h.0, scope_owned_more ks ss k s h.1 own)

  entry_reached : (k : Known) (s : Sized) (begins : Reached) → known_reached (Some k) ≡ Some begins → Owned Q s ⊎ NodeEntry k s → RefOwned begins s
  entry_reached k s begins e (inl h) = inl h
  entry_reached k s begins e (inr h) = by k.data_type refl e
    where
      by : (o : Option DataType) → k.data_type ≡ o
          → option_map (λ t. record { data_type = t; flow = k.flow; path = Some (named k.name ∷ []) }) o ≡ Some begins → RefOwned begins s
      by None f g = absurd (cc)
      by (Some t) f g =
          let is : record { data_type = t; flow = k.flow; path = Some (named k.name ∷ []) } ≡ begins = cc in
          inr
          (subst (λ (r : Reached). InNode r s) is
          (record { flow = h.flow; path = named k.name ∷ []; reached = refl; passive = h.passive t f; shape = h.shape t f; ends = h.ends }))

  pub name_owned : (ks : TypedScope) (ss : SizedScope) (name : List ℕ) (begins : Reached) → ScopeOwned ks ss → known_reached (known ks name) ≡ Some begins
      → RefOwned begins (sized_in ss name)
  name_owned [] [] name begins h e = absurd (cc)
  name_owned [] (s ∷ ss) name begins h e = absurd h
  name_owned (k ∷ ks) [] name begins h e = absurd h
  name_owned (k ∷ ks) (s ∷ ss) name begins h e = by (bytes_eq k.name name) refl e (name_owned ks ss name begins h.1)
    where
      by : (b : Bool) → bytes_eq k.name name ≡ b → known_reached (if b then Some k else known ks name) ≡ Some begins
          → (known_reached (known ks name) ≡ Some begins → RefOwned begins (sized_in ss name))
          → RefOwned begins (if bytes_eq s.name name then s.sized else sized_in ss name)
      by true g i later =
          let j = ap (λ (m : List ℕ). bytes_eq m name) (sym h.0.name) ∙ g in rw j (entry_reached k s.sized begins i h.0.owned)
      by false g i later = let j = ap (λ (m : List ℕ). bytes_eq m name) (sym h.0.name) ∙ g in rw j (later i)
