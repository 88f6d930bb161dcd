-- What leaves hold without widths: it follows from their types, and types that fit hold the same.
use Rattle.std.proofs.Common.{◌≡◌, ℕ, zero, suc, ◌+◌, List, [], ◌∷◌, ◌++◌, Bool, true, false, ◌==◌, map, refl, ap, ◌∙◌, arith}
use Rattle.std.specs.Bool.{beq}
use Rattle.std.specs.Str.{bytes_eq}
use Rattle.std.specs.List.{AllByRecursion}
use Rattle.std.proofs.lemmas.Bool.{eqb-true}
use Rattle.std.proofs.lemmas.Bool.Decides.{nat_tests}
use Rattle.std.proofs.lemmas.List.{map-append}
use Rattle.fir_base.proofs.Each.{all_joined}
use Rattle.fir_base.proofs.Tests.{both}
use Rattle.fir_ast.specs.Types.{DataType, uint, sint, clock, reset, async_reset, bundle, vector, Fields, no_fields, field}
use Rattle.fir_meaning.specs.LeafPaths.{Step, named, element}
use Rattle.fir_meaning.specs.TypeLeaves.{TypeLeaf, under, element_leaves, type_leaves, field_leaves}
use Rattle.fir_meaning.specs.TypeKinds.{bare, bare_fields, is_numeric, are_numeric}
use Rattle.fir_meaning.specs.Equivalence.{alike, fields_alike, same_ground, fitting_ground}
use Rattle.fir_meaning.specs.WidthExpressions.{Widths}
use Rattle.fir_meaning.specs.SizedTypes.{Sized, SizedFields, unsigned, signed, clock_scalar, reset_scalar, async_scalar, scalar, sized_bundle, sized_vector, no_sized_fields, sized_field, bare_type, bare_type_fields}
use Rattle.fir_meaning.specs.LeafTypes.{LeafType, number, a_clock, number_type}
use Rattle.fir_meaning.specs.HeldTypes.{repeated, held_types, held_field_types}
use Rattle.fir_leaf_types.specs.working.TypedBlocks.{IsSameKind}

abbrev pub of_sign : Bool → LeafType
of_sign is = number (record { signed = is; width = 0 })

abbrev pub without_width : LeafType → LeafType
without_width (number t) = of_sign t.signed
without_width a_clock = a_clock

abbrev pub kinds : List LeafType → List LeafType
kinds = map without_width

-- of a ground type
abbrev pub ground_kind : DataType → LeafType
ground_kind (sint w) = of_sign true
ground_kind clock = a_clock
ground_kind t = of_sign false

abbrev mutual
  pub type_kinds : DataType → List LeafType
  type_kinds (bundle fs) = field_kinds fs
  type_kinds (vector t n) = repeated n (type_kinds t)
  type_kinds t = ground_kind t ∷ []

  pub field_kinds : Fields → List LeafType
  field_kinds no_fields = []
  field_kinds (field p f x b t rest) = type_kinds t ++ field_kinds rest

pub map_repeated : {A B : Type 0} → (f : A → B) (n : ℕ) (xs : List A) → map f (repeated n xs) ≡ repeated n (map f xs)
map_repeated f zero xs = refl
map_repeated f (suc n) xs = map-append f xs (repeated n xs) ∙ ap (λ ys. map f xs ++ ys) (map_repeated f n xs)

-- what a sized type holds
mutual
  pub held_kinds : (w : Widths) (s : Sized) → kinds (held_types w s) ≡ type_kinds (bare_type s)
  held_kinds w (scalar unsigned e) = refl
  held_kinds w (scalar signed e) = refl
  held_kinds w (scalar clock_scalar e) = refl
  held_kinds w (scalar reset_scalar e) = refl
  held_kinds w (scalar async_scalar e) = refl
  held_kinds w (sized_bundle fs) = held_field_kinds w fs
  held_kinds w (sized_vector t n) = map_repeated without_width n (held_types w t) ∙ ap (repeated n) (held_kinds w t)

  pub held_field_kinds : (w : Widths) (fs : SizedFields) → kinds (held_field_types w fs) ≡ field_kinds (bare_type_fields fs)
  held_field_kinds w no_sized_fields = refl
  held_field_kinds w (sized_field p flip x begins t rest) =
      map-append without_width (held_types w t) (held_field_types w rest) ∙ rw (held_kinds w t, held_field_kinds w rest) refl

mutual
  bare_kinds : (t : DataType) → type_kinds (bare t) ≡ type_kinds t
  bare_kinds (bundle fs) = bare_field_kinds fs
  bare_kinds (vector t n) = ap (repeated n) (bare_kinds t)
  bare_kinds (uint w) = refl
  bare_kinds (sint w) = refl
  bare_kinds clock = refl
  bare_kinds reset = refl
  bare_kinds async_reset = refl

  bare_field_kinds : (fs : Fields) → field_kinds (bare_fields fs) ≡ field_kinds fs
  bare_field_kinds no_fields = refl
  bare_field_kinds (field p f x b t rest) = rw (bare_kinds t, bare_field_kinds rest) refl

pub kinds_of_type : (w : Widths) (s : Sized) (t : DataType) → bare_type s ≡ bare t → kinds (held_types w s) ≡ type_kinds t
kinds_of_type w s t e = held_kinds w s ∙ ap type_kinds e ∙ bare_kinds t

-- the leaves of a type are of its kinds
abbrev pub leaf_kinds : List TypeLeaf → List LeafType
leaf_kinds = map (λ (l : TypeLeaf). ground_kind l.ground_type)

kinds_under : (f : Bool) (s : Step) (ls : List TypeLeaf) → leaf_kinds (map (under f s) ls) ≡ leaf_kinds ls
kinds_under f s [] = refl
kinds_under f s (l ∷ ls) = ap (λ ks. ground_kind l.ground_type ∷ ks) (kinds_under f s ls)

kinds_joined : (ls ms : List TypeLeaf) → leaf_kinds (ls ++ ms) ≡ leaf_kinds ls ++ leaf_kinds ms
kinds_joined ls ms = map-append (λ (l : TypeLeaf). ground_kind l.ground_type) ls ms

element_kinds : (i n : ℕ) (ls : List TypeLeaf) → leaf_kinds (element_leaves i n ls) ≡ repeated n (leaf_kinds ls)
element_kinds i zero ls = refl
element_kinds i (suc n) ls =
    kinds_joined (map (under false (element i)) ls) (element_leaves (i + 1) n ls)
    ∙ rw (kinds_under false (element i) ls, element_kinds (i + 1) n ls) refl

mutual
  pub kinds_of_leaves : (t : DataType) → leaf_kinds (type_leaves t) ≡ type_kinds t
  kinds_of_leaves (bundle fs) = kinds_of_fields fs
  kinds_of_leaves (vector t n) = element_kinds 0 n (type_leaves t) ∙ ap (repeated n) (kinds_of_leaves t)
  kinds_of_leaves t = refl

  kinds_of_fields : (fs : Fields) → leaf_kinds (field_leaves fs) ≡ field_kinds fs
  kinds_of_fields no_fields = refl
  kinds_of_fields (field p f x b t rest) =
      kinds_joined (map (under f (named x)) (type_leaves t)) (field_leaves rest)
      ∙ rw (kinds_under f (named x) (type_leaves t), kinds_of_leaves t, kinds_of_fields rest) refl

-- ground types that a connect may join are of one kind
pub fitting_kinds : (t u : DataType) → fitting_ground t u ≡ true → ground_kind t ≡ ground_kind u
fitting_kinds (uint v) (uint w) h = refl
fitting_kinds (uint v) reset h = refl
fitting_kinds (sint v) (sint w) h = refl
fitting_kinds clock clock h = refl
fitting_kinds reset (uint w) h = refl
fitting_kinds reset reset h = refl
fitting_kinds reset async_reset h = refl
fitting_kinds async_reset reset h = refl
fitting_kinds async_reset async_reset h = refl
fitting_kinds t u h = absurd (cc)

pub same_ground_kinds : (t u : DataType) → same_ground t u ≡ true → ground_kind t ≡ ground_kind u
same_ground_kinds (uint v) (uint w) h = refl
same_ground_kinds (sint v) (sint w) h = refl
same_ground_kinds clock clock h = refl
same_ground_kinds reset reset h = refl
same_ground_kinds async_reset async_reset h = refl
same_ground_kinds t u h = absurd (cc)

-- types that are alike
module _ (test : DataType → DataType → Bool) (sound : (t u : DataType) → test t u ≡ true → ground_kind t ≡ ground_kind u) where
  mutual
    pub alike_kinds : (t u : DataType) → alike test t u ≡ true → type_kinds t ≡ type_kinds u
    alike_kinds (bundle fs) (bundle gs) h = alike_field_kinds fs gs h
    alike_kinds (bundle fs) u h = absurd (cc)
    alike_kinds (vector t n) (vector u m) h =
        let tests = both (n == m) (alike test t u) h in
        let e : n ≡ m = eqb-true n m tests.0 in
        ap (repeated n) (alike_kinds t u tests.1) ∙ ap (λ k. repeated k (type_kinds u)) e
    alike_kinds (vector t n) u h = absurd (cc)
    alike_kinds t (bundle gs) h = absurd (cc)
    alike_kinds t (vector u m) h = absurd (cc)
    alike_kinds t u h = ap (λ k. k ∷ []) (sound t u h)

    alike_field_kinds : (fs gs : Fields) → fields_alike test fs gs ≡ true → field_kinds fs ≡ field_kinds gs
    alike_field_kinds no_fields no_fields h = refl
    alike_field_kinds no_fields (field q g y c u gs) h = absurd (cc)
    alike_field_kinds (field p f x b t fs) no_fields h = absurd (cc)
    alike_field_kinds (field p f x b t fs) (field q g y c u gs) h =
        let first = both (beq f g) _ h in
        let second = both (bytes_eq x y) _ first.1 in
        let third = both (alike test t u) _ second.1 in
        rw (alike_kinds t u third.0, alike_field_kinds fs gs third.1) refl

-- leaves of one kind
pub same_kind : (a b : LeafType) → without_width a ≡ without_width b → IsSameKind a b
same_kind (number t) (number u) e = ap (λ (k : LeafType). (number_type k).signed) e
same_kind (number t) a_clock e = absurd (cc)
same_kind a_clock (number u) e = absurd (cc)
same_kind a_clock a_clock e = tt

-- numeric types hold numbers
abbrev pub IsNumber : LeafType → Type 0
IsNumber (number t) = Unit {0}
IsNumber a_clock = ⊥

pub all_repeated : {A : Type 0} → (P : A → Type 0) (n : ℕ) (xs : List A) → AllByRecursion P xs → AllByRecursion P (repeated n xs)
all_repeated P zero xs h = tt
all_repeated P (suc n) xs h = all_joined P xs (repeated n xs) h (all_repeated P n xs h)

pub not_zero : (n : ℕ) → (suc n == 0) ≡ false
not_zero n = grind (arith, nat_tests)

mutual
  numeric_kinds : (t : DataType) → is_numeric t ≡ true → AllByRecursion IsNumber (type_kinds t)
  numeric_kinds (uint w) h = (tt, tt)
  numeric_kinds (sint w) h = (tt, tt)
  numeric_kinds (bundle fs) h = numeric_fields fs h
  numeric_kinds (vector t zero) h = tt
  numeric_kinds (vector t (suc n)) h = all_repeated IsNumber (suc n) (type_kinds t) (numeric_kinds t (rw (not_zero n) at h))
  numeric_kinds t h = absurd (cc)

  numeric_fields : (fs : Fields) → are_numeric fs ≡ true → AllByRecursion IsNumber (field_kinds fs)
  numeric_fields no_fields h = tt
  numeric_fields (field p f x b t rest) h =
      let tests = both (is_numeric t) (are_numeric rest) h in
      all_joined IsNumber (type_kinds t) (field_kinds rest) (numeric_kinds t tests.0) (numeric_fields rest tests.1)

numbers_by_kinds : (hs ks : List LeafType) → kinds hs ≡ ks → AllByRecursion IsNumber ks → AllByRecursion IsNumber hs
numbers_by_kinds [] ks e h = tt
numbers_by_kinds (number t ∷ hs) [] e h = absurd (cc)
numbers_by_kinds (a_clock ∷ hs) [] e h = absurd (cc)
numbers_by_kinds (number t ∷ hs) (k ∷ ks) e h = let rest : kinds hs ≡ ks = cc in (tt, numbers_by_kinds hs ks rest h.1)
numbers_by_kinds (a_clock ∷ hs) (number t ∷ ks) e h = absurd (cc)
numbers_by_kinds (a_clock ∷ hs) (a_clock ∷ ks) e h = absurd h.0

pub numeric_holds : (w : Widths) (s : Sized) (t : DataType) → bare_type s ≡ bare t → is_numeric t ≡ true → AllByRecursion IsNumber (held_types w s)
numeric_holds w s t e h = numbers_by_kinds (held_types w s) (type_kinds t) (kinds_of_type w s t e) (numeric_kinds t h)
