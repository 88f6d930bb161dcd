-- Where a connect pairs no leaves, no widths meet.
use Rattle.std.proofs.Common.{◌≡◌, ℕ, zero, suc, ◌+◌, List, [], ◌∷◌, ◌++◌, min, map, Bool, true, false, ◌==◌, if◌then◌else◌, Option, Some, None, option_map, refl, sym, ap, ◌∙◌, subst, arith}
use Rattle.std.proofs.Math.Nat.{suc-mul}
use Rattle.fir_base.proofs.Empty.{empty_left, empty_right}
use Rattle.fir_ast.specs.Types.{DataType, uint, sint, clock, reset, async_reset, bundle, vector, Fields, no_fields, field}
use Rattle.fir_meaning.specs.LeafPaths.{named, element}
use Rattle.fir_meaning.specs.ConnectPairs.{Pair, both_under, element_pairs, partial_pairs, partial_field_pairs}
use Rattle.fir_meaning.specs.Equivalence.{met}
use Rattle.fir_meaning.specs.TypeKinds.{bare, bare_fields, FieldFound, field_named}
use Rattle.fir_meaning.specs.TypeLeaves.{turned, leaf_count, field_count}
use Rattle.fir_meaning.specs.WidthExpressions.{Width}
use Rattle.fir_meaning.specs.SizedTypes.{Scalar, Sized, SizedFields, unsigned, signed, clock_scalar, reset_scalar, async_scalar, scalar, sized_bundle, sized_vector, no_sized_fields, sized_field, bare_type, bare_type_fields, sized_named}
use Rattle.fir_meaning.specs.SizedMatches.{Match, where_met, matches, field_matches}
use Rattle.fir_leaf_types.proofs.StraightMatches.{bare_found, found_bare, sized_field_found}

no_leaf : (s : Scalar) (v : Width) → leaf_count (bare_type (scalar s v)) ≡ 0 → ⊥
no_leaf unsigned v h = absurd (omega (arith, h))
no_leaf signed v h = absurd (omega (arith, h))
no_leaf clock_scalar v h = absurd (omega (arith, h))
no_leaf reset_scalar v h = absurd (omega (arith, h))
no_leaf async_scalar v h = absurd (omega (arith, h))

neither : {A : Type 0} → (b : Bool) (xs : List A) → xs ≡ [] → (if b then [] else xs) ≡ []
neither true xs h = refl
neither false xs h = h

none_met : (f : Sized → List Match) (o : Option Sized) → ((u : Sized) → o ≡ Some u → f u ≡ []) → where_met f o ≡ []
none_met f None h = refl
none_met f (Some u) h = h u refl

joined_empty : {A : Type 0} → (xs ys : List A) → xs ≡ [] → ys ≡ [] → xs ++ ys ≡ []
joined_empty xs ys h k = rw (h, k) refl

none_there : (m : ℕ) (xs : List Match) → (if min zero m == 0 then [] else xs) ≡ []
none_there m xs = let none : min zero m ≡ 0 = omega arith in rw none refl

-- a type without leaves meets nothing
mutual
  pub leafless_matches : (turn : Bool) (a b : Sized) → leaf_count (bare_type a) ≡ 0 → matches turn a b ≡ []
  leafless_matches turn (scalar s v) b h = absurd (no_leaf s v h)
  leafless_matches turn (sized_bundle fs) (scalar s v) h = refl
  leafless_matches turn (sized_bundle fs) (sized_bundle gs) h = leafless_fields turn fs gs h
  leafless_matches turn (sized_bundle fs) (sized_vector u m) h = refl
  leafless_matches turn (sized_vector t n) (scalar s v) h = refl
  leafless_matches turn (sized_vector t n) (sized_bundle gs) h = refl
  leafless_matches turn (sized_vector t zero) (sized_vector u m) h = none_there m (matches turn t u)
  leafless_matches turn (sized_vector t (suc n)) (sized_vector u m) h =
      neither (min (suc n) m == 0) (matches turn t u) (leafless_matches turn t u (omega (arith, h, suc-mul n (leaf_count (bare_type t)))))

  leafless_fields : (turn : Bool) (fs gs : SizedFields) → field_count (bare_type_fields fs) ≡ 0 → field_matches turn fs gs ≡ []
  leafless_fields turn no_sized_fields gs h = refl
  leafless_fields turn (sized_field p f x b t fs) gs h =
      joined_empty (where_met (λ u. matches (turned turn f) t u) (sized_named x gs)) (field_matches turn fs gs)
      (none_met (λ u. matches (turned turn f) t u) (sized_named x gs) (λ u e. leafless_matches (turned turn f) t u (omega (arith, h))))
      (leafless_fields turn fs gs (omega (arith, h)))

-- a partial connect
empty_mapped : {A B : Type 0} → (f : A → B) (xs : List A) → map f xs ≡ [] → xs ≡ []
empty_mapped f [] h = refl
empty_mapped f (x ∷ xs) h = absurd (cc)

no_elements : (i n : ℕ) (ps : List Pair) → element_pairs i (suc n) ps ≡ [] → ps ≡ []
no_elements i n ps h = empty_mapped (both_under false (element i)) ps (empty_left (map (both_under false (element i)) ps) (element_pairs (i + 1) n ps) h)

elements_empty : (i n : ℕ) (ps : List Pair) → ps ≡ [] → element_pairs i n ps ≡ []
elements_empty i zero ps h = refl
elements_empty i (suc n) ps h = rw h (elements_empty (i + 1) n [] refl)

met_empty : (f : Bool) (x : List ℕ) (t : DataType) (o : Option FieldFound)
    → ((u : DataType) → partial_pairs t u ≡ [] → partial_pairs (bare t) (bare u) ≡ [])
    → met [] (λ g. map (both_under f (named x)) (partial_pairs t g.data_type)) o ≡ []
    → met [] (λ g. map (both_under f (named x)) (partial_pairs (bare t) g.data_type)) (option_map bare_found o) ≡ []
met_empty f x t None inside h = refl
met_empty f x t (Some g) inside h =
    ap (map (both_under f (named x))) (inside g.data_type (empty_mapped (both_under f (named x)) (partial_pairs t g.data_type) h))

elements_bare : (i n : ℕ) (ps qs : List Pair) → (ps ≡ [] → qs ≡ []) → element_pairs i n ps ≡ [] → element_pairs i n qs ≡ []
elements_bare i zero ps qs to h = refl
elements_bare i (suc n) ps qs to h = elements_empty i (suc n) qs (to (no_elements i n ps h))

mutual
  pub partial_empty : (t u : DataType) → partial_pairs t u ≡ [] → partial_pairs (bare t) (bare u) ≡ []
  partial_empty (bundle fs) (bundle gs) h = partial_fields_empty fs gs h
  partial_empty (bundle fs) (uint w) h = refl
  partial_empty (bundle fs) (sint w) h = refl
  partial_empty (bundle fs) clock h = refl
  partial_empty (bundle fs) reset h = refl
  partial_empty (bundle fs) async_reset h = refl
  partial_empty (bundle fs) (vector u m) h = refl
  partial_empty (vector t n) (vector u m) h =
      elements_bare 0 (min n m) (partial_pairs t u) (partial_pairs (bare t) (bare u)) (λ e. partial_empty t u e) h
  partial_empty (vector t n) (uint w) h = refl
  partial_empty (vector t n) (sint w) h = refl
  partial_empty (vector t n) clock h = refl
  partial_empty (vector t n) reset h = refl
  partial_empty (vector t n) async_reset h = refl
  partial_empty (vector t n) (bundle gs) h = refl
  partial_empty t (bundle gs) h = refl
  partial_empty t (vector u m) h = refl
  partial_empty t u h = absurd (cc)

  partial_fields_empty : (fs gs : Fields) → partial_field_pairs fs gs ≡ [] → partial_field_pairs (bare_fields fs) (bare_fields gs) ≡ []
  partial_fields_empty no_fields gs h = refl
  partial_fields_empty (field p f x b t fs) gs h =
      let here = met [] (λ g. map (both_under f (named x)) (partial_pairs t g.data_type)) (field_named x gs) in
      let first = met_empty f x t (field_named x gs) (λ u e. partial_empty t u e) (empty_left here (partial_field_pairs fs gs) h) in
      rw (found_bare x gs, first) (partial_fields_empty fs gs (empty_right here (partial_field_pairs fs gs) h))

no_ground : (s t : Scalar) (v w : Width) → partial_pairs (bare_type (scalar s v)) (bare_type (scalar t w)) ≡ [] → ⊥
no_ground unsigned unsigned v w h = absurd (cc)
no_ground unsigned signed v w h = absurd (cc)
no_ground unsigned clock_scalar v w h = absurd (cc)
no_ground unsigned reset_scalar v w h = absurd (cc)
no_ground unsigned async_scalar v w h = absurd (cc)
no_ground signed unsigned v w h = absurd (cc)
no_ground signed signed v w h = absurd (cc)
no_ground signed clock_scalar v w h = absurd (cc)
no_ground signed reset_scalar v w h = absurd (cc)
no_ground signed async_scalar v w h = absurd (cc)
no_ground clock_scalar unsigned v w h = absurd (cc)
no_ground clock_scalar signed v w h = absurd (cc)
no_ground clock_scalar clock_scalar v w h = absurd (cc)
no_ground clock_scalar reset_scalar v w h = absurd (cc)
no_ground clock_scalar async_scalar v w h = absurd (cc)
no_ground reset_scalar unsigned v w h = absurd (cc)
no_ground reset_scalar signed v w h = absurd (cc)
no_ground reset_scalar clock_scalar v w h = absurd (cc)
no_ground reset_scalar reset_scalar v w h = absurd (cc)
no_ground reset_scalar async_scalar v w h = absurd (cc)
no_ground async_scalar unsigned v w h = absurd (cc)
no_ground async_scalar signed v w h = absurd (cc)
no_ground async_scalar clock_scalar v w h = absurd (cc)
no_ground async_scalar reset_scalar v w h = absurd (cc)
no_ground async_scalar async_scalar v w h = absurd (cc)

elements_none : (n m : ℕ) (ps : List Pair) (xs : List Match) → element_pairs 0 (min n m) ps ≡ [] → (ps ≡ [] → xs ≡ [])
    → (if min n m == 0 then [] else xs) ≡ []
elements_none n m ps xs h to = by (min n m) h
  where
    by : (k : ℕ) → element_pairs 0 k ps ≡ [] → (if k == 0 then [] else xs) ≡ []
    by zero e = refl
    by (suc k) e = neither (suc k == 0) xs (to (no_elements 0 k ps e))

mutual
  pub partial_matches : (turn : Bool) (a b : Sized) → partial_pairs (bare_type a) (bare_type b) ≡ [] → matches turn a b ≡ []
  partial_matches turn (scalar s v) (scalar t w) h = absurd (no_ground s t v w h)
  partial_matches turn (scalar s v) (sized_bundle gs) h = refl
  partial_matches turn (scalar s v) (sized_vector u m) h = refl
  partial_matches turn (sized_bundle fs) (scalar s v) h = refl
  partial_matches turn (sized_bundle fs) (sized_bundle gs) h = partial_fields_match turn fs gs h
  partial_matches turn (sized_bundle fs) (sized_vector u m) h = refl
  partial_matches turn (sized_vector t n) (scalar s v) h = refl
  partial_matches turn (sized_vector t n) (sized_bundle gs) h = refl
  partial_matches turn (sized_vector t n) (sized_vector u m) h =
      elements_none n m (partial_pairs (bare_type t) (bare_type u)) (matches turn t u) h (partial_matches turn t u)

  partial_fields_match : (turn : Bool) (fs gs : SizedFields) → partial_field_pairs (bare_type_fields fs) (bare_type_fields gs) ≡ []
      → field_matches turn fs gs ≡ []
  partial_fields_match turn no_sized_fields gs h = refl
  partial_fields_match turn (sized_field p f x b t fs) gs h =
      let inside : Option FieldFound → List Pair = met [] (λ g. map (both_under f (named x)) (partial_pairs (bare_type t) g.data_type)) in
      let here = inside (field_named x (bare_type_fields gs)) in
      let rest = partial_field_pairs (bare_type_fields fs) (bare_type_fields gs) in
      joined_empty (where_met (λ u. matches (turned turn f) t u) (sized_named x gs)) (field_matches turn fs gs)
      (none_met (λ u. matches (turned turn f) t u) (sized_named x gs)
      (λ u e.
      let r = sized_field_found x gs u e in
      let none : inside (Some r.0) ≡ [] = subst (λ o. inside o ≡ []) r.1 (empty_left here rest h) in
      let pairs : partial_pairs (bare_type t) r.0.data_type ≡ [] =
      empty_mapped (both_under f (named x)) (partial_pairs (bare_type t) r.0.data_type) none in
      partial_matches (turned turn f) t u (ap (partial_pairs (bare_type t)) (sym r.2) ∙ pairs)))
      (partial_fields_match turn fs gs (empty_right here rest h))
