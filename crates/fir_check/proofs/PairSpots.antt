-- Pairs by the orientations and paths of their leaves: those of types without their widths are those of the types, and both leaves of a pair have the same.
use Rattle.std.proofs.Common.{◌≡◌, ℕ, zero, suc, ◌+◌, List, [], ◌∷◌, ◌++◌, map, min, Bool, true, false, Option, Some, None, refl, sym, ap, ◌∙◌}
use Rattle.std.specs.Prelude.{option_map}
use Rattle.fir_ast.specs.Types.{DataType, uint, sint, clock, reset, async_reset, bundle, vector, Fields, no_fields, field}
use Rattle.fir_meaning.specs.LeafPaths.{Step, named, element}
use Rattle.fir_meaning.specs.TypeKinds.{bare, bare_fields, FieldFound, field_named}
use Rattle.fir_meaning.specs.Equivalence.{met}
use Rattle.fir_meaning.specs.ConnectPairs.{Pair, both_under, element_pairs, pairs, field_pairs, partial_pairs, partial_field_pairs}
use Rattle.fir_type_table.specs.working.Tables.{shown}
use Rattle.fir_check.specs.working.Driven.{spot_of_pair}
use Rattle.fir_types.specs.working.Spots.{Spot, spot_of}
use Rattle.fir_types.proofs.BareTypes.{shown_field, bare_field_named}
use Rattle.fir_types.proofs.LeafSpots.{spot_under, element_spots, spots_joined, spots_many}

-- of one side of pairs
abbrev pub right_spot : Pair → Spot
right_spot p = spot_of p.right

abbrev pub lefts : List Pair → List Spot
lefts = map spot_of_pair

abbrev pub rights : List Pair → List Spot
rights = map right_spot

lefts_joined : (f : Bool) (s : Step) (ps qs : List Pair) → lefts (map (both_under f s) ps ++ qs) ≡ map (spot_under f s) (lefts ps) ++ lefts qs
lefts_joined = spots_joined spot_of_pair both_under (λ f s p. refl) element_pairs (λ i ps. refl) (λ i n ps. refl)

lefts_many : (i n : ℕ) (ps : List Pair) → lefts (element_pairs i n ps) ≡ element_spots i n (lefts ps)
lefts_many = spots_many spot_of_pair both_under (λ f s p. refl) element_pairs (λ i ps. refl) (λ i n ps. refl)

rights_joined : (f : Bool) (s : Step) (ps qs : List Pair) → rights (map (both_under f s) ps ++ qs) ≡ map (spot_under f s) (rights ps) ++ rights qs
rights_joined = spots_joined right_spot both_under (λ f s p. refl) element_pairs (λ i ps. refl) (λ i n ps. refl)

rights_many : (i n : ℕ) (ps : List Pair) → rights (element_pairs i n ps) ≡ element_spots i n (rights ps)
rights_many = spots_many right_spot both_under (λ f s p. refl) element_pairs (λ i ps. refl) (λ i n ps. refl)

-- pairs that differ, before others that differ
lefts_alike : (f : Bool) (s : Step) (ps qs more most : List Pair) → lefts ps ≡ lefts qs → lefts more ≡ lefts most
    → lefts (map (both_under f s) ps ++ more) ≡ lefts (map (both_under f s) qs ++ most)
lefts_alike f s ps qs more most h k =
    lefts_joined f s ps more ∙ ap (λ ks. map (spot_under f s) ks ++ lefts more) h ∙ ap (λ ks. map (spot_under f s) (lefts qs) ++ ks) k
    ∙ sym (lefts_joined f s qs most)

-- pairs of a field that the other side may have too
met_left : (f : Bool) (s : Step) (h k : FieldFound → List Pair) (o : Option FieldFound) (more most : List Pair)
    → ((g : FieldFound) → lefts (h g) ≡ lefts (k g)) → lefts more ≡ lefts most
    → lefts (met [] (λ g. map (both_under f s) (h g)) o ++ more) ≡ lefts (met [] (λ g. map (both_under f s) (k g)) o ++ most)
met_left f s h k None more most same rest = rest
met_left f s h k (Some g) more most same rest = lefts_alike f s (h g) (k g) more most (same g) rest

met_bare : (f : Bool) (s : Step) (h : DataType → List Pair) (o : Option FieldFound) (more most : List Pair)
    → ((t : DataType) → lefts (h (bare t)) ≡ lefts (h t)) → lefts more ≡ lefts most
    → lefts (met [] (λ g. map (both_under f s) (h g.data_type)) (option_map (shown_field true) o) ++ more)
    ≡ lefts (met [] (λ g. map (both_under f s) (h g.data_type)) o ++ most)
met_bare f s h None more most same rest = rest
met_bare f s h (Some g) more most same rest = lefts_alike f s (h (bare g.data_type)) (h g.data_type) more most (same g.data_type) rest

mutual
  bare_left : (s t : DataType) → lefts (partial_pairs (bare s) t) ≡ lefts (partial_pairs s t)
  bare_left (bundle fs) (bundle gs) = bare_fields_left fs gs
  bare_left (bundle fs) _ = refl
  bare_left (vector t n) (vector u m) =
      lefts_many 0 (min n m) (partial_pairs (bare t) u) ∙ ap (element_spots 0 (min n m)) (bare_left t u) ∙ sym (lefts_many 0 (min n m) (partial_pairs t u))
  bare_left (vector t n) _ = refl
  bare_left s (bundle gs) = refl
  bare_left s (vector u m) = refl
  bare_left s t = refl

  bare_fields_left : (fs gs : Fields) → lefts (partial_field_pairs (bare_fields fs) gs) ≡ lefts (partial_field_pairs fs gs)
  bare_fields_left no_fields gs = refl
  bare_fields_left (field p f x b t fs) gs =
      met_left f (named x) (λ g. partial_pairs (bare t) g.data_type) (λ g. partial_pairs t g.data_type) (field_named x gs) (partial_field_pairs (bare_fields fs) gs)
      (partial_field_pairs fs gs) (λ g. bare_left t g.data_type) (bare_fields_left fs gs)

mutual
  bare_right : (s t : DataType) → lefts (partial_pairs s (bare t)) ≡ lefts (partial_pairs s t)
  bare_right (bundle fs) (bundle gs) = bare_fields_right fs gs
  bare_right (vector t n) (vector u m) =
      lefts_many 0 (min n m) (partial_pairs t (bare u)) ∙ ap (element_spots 0 (min n m)) (bare_right t u) ∙ sym (lefts_many 0 (min n m) (partial_pairs t u))
  bare_right (bundle fs) _ = refl
  bare_right (vector t n) _ = refl
  bare_right s (bundle gs) = refl
  bare_right s (vector u m) = refl
  bare_right s t = refl

  bare_fields_right : (fs gs : Fields) → lefts (partial_field_pairs fs (bare_fields gs)) ≡ lefts (partial_field_pairs fs gs)
  bare_fields_right no_fields gs = refl
  bare_fields_right (field p f x b t fs) gs =
      let more = partial_field_pairs fs (bare_fields gs) in
      ap (λ o. lefts (met [] (λ g. map (both_under f (named x)) (partial_pairs t g.data_type)) o ++ more)) (bare_field_named x gs)
      ∙ met_bare f (named x) (partial_pairs t) (field_named x gs) more (partial_field_pairs fs gs) (λ u. bare_right t u) (bare_fields_right fs gs)

pub shown_pairs : (one other : Bool) (s t : DataType) → lefts (partial_pairs (shown one s) (shown other t)) ≡ lefts (partial_pairs s t)
shown_pairs true true s t = bare_left s (bare t) ∙ bare_right s t
shown_pairs true false s t = bare_left s t
shown_pairs false true s t = bare_right s t
shown_pairs false false s t = refl

-- both leaves of pairs have the same orientations and paths
twins_joined : (f : Bool) (s : Step) (ps qs : List Pair) → rights ps ≡ lefts ps → rights qs ≡ lefts qs
    → rights (map (both_under f s) ps ++ qs) ≡ lefts (map (both_under f s) ps ++ qs)
twins_joined f s ps qs h k =
    rights_joined f s ps qs ∙ ap (λ ks. map (spot_under f s) ks ++ rights qs) h ∙ ap (λ ks. map (spot_under f s) (lefts ps) ++ ks) k
    ∙ sym (lefts_joined f s ps qs)

twins_many : (n : ℕ) (ps : List Pair) → rights ps ≡ lefts ps → rights (element_pairs 0 n ps) ≡ lefts (element_pairs 0 n ps)
twins_many n ps h = rights_many 0 n ps ∙ ap (element_spots 0 n) h ∙ sym (lefts_many 0 n ps)

mutual
  pub twin_pairs : (s t : DataType) → rights (pairs s t) ≡ lefts (pairs s t)
  twin_pairs (bundle fs) (bundle gs) = twin_field_pairs fs gs
  twin_pairs (vector t n) (vector u m) = twins_many n (pairs t u) (twin_pairs t u)
  twin_pairs (bundle fs) _ = refl
  twin_pairs (vector t n) _ = refl
  twin_pairs s (bundle gs) = refl
  twin_pairs s (vector u m) = refl
  twin_pairs s t = refl

  twin_field_pairs : (fs gs : Fields) → rights (field_pairs fs gs) ≡ lefts (field_pairs fs gs)
  twin_field_pairs (field p f x b t fs) (field q g y c u gs) =
      twins_joined f (named x) (pairs t u) (field_pairs fs gs) (twin_pairs t u) (twin_field_pairs fs gs)
  twin_field_pairs _ _ = refl

twins_met : (f : Bool) (s : Step) (h : DataType → List Pair) (o : Option FieldFound) (more : List Pair)
    → ((t : DataType) → rights (h t) ≡ lefts (h t)) → rights more ≡ lefts more
    → rights (met [] (λ g. map (both_under f s) (h g.data_type)) o ++ more) ≡ lefts (met [] (λ g. map (both_under f s) (h g.data_type)) o ++ more)
twins_met f s h None more same rest = rest
twins_met f s h (Some g) more same rest = twins_joined f s (h g.data_type) more (same g.data_type) rest

mutual
  pub twin_partial_pairs : (s t : DataType) → rights (partial_pairs s t) ≡ lefts (partial_pairs s t)
  twin_partial_pairs (bundle fs) (bundle gs) = twin_partial_fields fs gs
  twin_partial_pairs (vector t n) (vector u m) = twins_many (min n m) (partial_pairs t u) (twin_partial_pairs t u)
  twin_partial_pairs (bundle fs) _ = refl
  twin_partial_pairs (vector t n) _ = refl
  twin_partial_pairs s (bundle gs) = refl
  twin_partial_pairs s (vector u m) = refl
  twin_partial_pairs s t = refl

  twin_partial_fields : (fs gs : Fields) → rights (partial_field_pairs fs gs) ≡ lefts (partial_field_pairs fs gs)
  twin_partial_fields no_fields gs = refl
  twin_partial_fields (field p f x b t fs) gs =
      twins_met f (named x) (partial_pairs t) (field_named x gs) (partial_field_pairs fs gs) (λ u. twin_partial_pairs t u) (twin_partial_fields fs gs)
