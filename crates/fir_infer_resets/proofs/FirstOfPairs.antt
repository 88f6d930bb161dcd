-- The pairs of two types, and those of them that stand for all: with the first elements of vectors.
use Rattle.std.proofs.Common.{◌≡◌, ℕ, zero, suc, ◌+◌, List, [], ◌∷◌, ◌++◌, Bool, true, false, ◌==◌, map, min, Option, Some, None, refl, inl, inr, ⊎_elim, sym, ap, ◌∙◌, subst, append_assoc, arith}
use Rattle.std.proofs.lemmas.List.{append-nil, map-append}
use Rattle.std.proofs.lemmas.Bool.{eqb-true}
use Rattle.std.specs.Bool.{beq}
use Rattle.std.specs.Str.{bytes_eq}
use Rattle.fir_base.specs.Lists.{In}
use Rattle.fir_base.proofs.Members.{in_left, in_right, in_either, in_map, in_map_from}
use Rattle.fir_base.proofs.Tests.{both}
use Rattle.fir_ast.specs.Types.{DataType, uint, sint, clock, reset, async_reset, bundle, vector, Fields, no_fields, field}
use Rattle.fir_meaning.specs.LeafPaths.{Step, LeafPath, named, element}
use Rattle.fir_meaning.specs.TypeKinds.{FieldFound, field_named}
use Rattle.fir_meaning.specs.Equivalence.{met, fitting_ground, fields_alike, is_connectable}
use Rattle.fir_meaning.specs.ConnectPairs.{Pair, both_under, element_pairs, ground_pair, pairs, field_pairs, partial_pairs, partial_field_pairs}
use Rattle.fir_reset.specs.working.ElementPaths.{any_element}
use Rattle.fir_infer_resets.specs.working.FirstPairs.{Met, where_some, first_pairs, first_field_pairs, first_partial_pairs, first_partial_fields}

-- the pair at the path, behind some steps
pub record IsPair (path : LeafPath) (r : Met) (p : Pair) : Type 0 where
  pub left : r.path ≡ path ++ p.left.path
  pub right : r.path ≡ path ++ p.right.path
  pub one : r.one ≡ p.left.ground_type
  pub other : r.other ≡ p.right.ground_type

-- the same but for elements
pub record StandsForPair (path : LeafPath) (r : Met) (p : Pair) : Type 0 where
  pub left : map any_element r.path ≡ map any_element (path ++ p.left.path)
  pub right : map any_element r.path ≡ map any_element (path ++ p.right.path)
  pub one : r.one ≡ p.left.ground_type
  pub other : r.other ≡ p.right.ground_type

abbrev pub OfPairs : LeafPath → List Met → List Pair → Type 0
OfPairs path ms ps = (r : Met) → In ms r → (p : Pair) × In ps p × IsPair path r p

abbrev pub StandForAll : LeafPath → List Met → List Pair → Type 0
StandForAll path ms ps = (p : Pair) → In ps p → (r : Met) × In ms r × StandsForPair path r p

behind_step : (path : LeafPath) (s : Step) (rest : LeafPath) → (path ++ s ∷ []) ++ rest ≡ path ++ s ∷ rest
behind_step path s rest = append_assoc path (s ∷ []) rest

-- behind a step of both sides
of_under : (path : LeafPath) (f : Bool) (s : Step) (ms : List Met) (ps : List Pair) → OfPairs (path ++ s ∷ []) ms ps → OfPairs path ms (map (both_under f s) ps)
of_under path f s ms ps h r m =
    let x = h r m in
    let is = x.2 in (
      both_under f s x.0,
      in_map (both_under f s) ps x.0 x.1,
      record { left = is.left ∙ behind_step path s x.0.left.path; right = is.right ∙ behind_step path s x.0.right.path; one = is.one; other = is.other },
    )

-- and elements alike
step_behind : (path : LeafPath) (s z : Step) (rest : LeafPath) → any_element s ≡ any_element z → map any_element ((path ++ s ∷ []) ++ rest) ≡ map any_element (path ++ z ∷ rest)
step_behind path s z rest e =
    ap (map any_element) (behind_step path s rest) ∙ map-append any_element path (s ∷ rest) ∙ ap (λ y. map any_element path ++ y ∷ map any_element rest) e
    ∙ sym (map-append any_element path (z ∷ rest))

for_under : (path : LeafPath) (f : Bool) (s z : Step) (ms : List Met) (ps : List Pair) → any_element s ≡ any_element z → StandForAll (path ++ s ∷ []) ms ps
    → StandForAll path ms (map (both_under f z) ps)
for_under path f s z ms ps e h p m =
    let from = in_map_from (both_under f z) ps p m in
    let x = h from.0 from.1 in
    let is = x.2 in (
      x.0,
      x.1,
      subst (StandsForPair path x.0) from.2 (record {
        left = is.left ∙ step_behind path s z from.0.left.path e;
        right = is.right ∙ step_behind path s z from.0.right.path e;
        one = is.one;
        other = is.other;
      }),
    )

of_more : (path : LeafPath) (ms ns : List Met) (ps qs : List Pair) → OfPairs path ms ps → OfPairs path ns qs → OfPairs path (ms ++ ns) (ps ++ qs)
of_more path ms ns ps qs h i r m =
    ⊎_elim
    (λ (k : In ms r). let x = h r k in (x.0, in_left ps qs x.0 x.1, x.2))
    (λ (k : In ns r). let x = i r k in (x.0, in_right ps qs x.0 x.1, x.2))
    (in_either ms ns r m)

for_more : (path : LeafPath) (ms ns : List Met) (ps qs : List Pair) → StandForAll path ms ps → StandForAll path ns qs → StandForAll path (ms ++ ns) (ps ++ qs)
for_more path ms ns ps qs h i p m =
    ⊎_elim
    (λ (k : In ps p). let x = h p k in (x.0, in_left ms ns x.0 x.1, x.2))
    (λ (k : In qs p). let x = i p k in (x.0, in_right ms ns x.0 x.1, x.2))
    (in_either ps qs p m)

-- two ground types
of_ground : (path : LeafPath) (s t : DataType) → OfPairs path (record { path = path; one = s; other = t } ∷ []) (ground_pair s t)
of_ground path s t r (inl e) = (
  record { left = record { path = []; flip = false; ground_type = s }; right = record { path = []; flip = false; ground_type = t } },
  inl refl,
  record {
    left = ap (λ (m : Met). m.path) (sym e) ∙ sym (append-nil path);
    right = ap (λ (m : Met). m.path) (sym e) ∙ sym (append-nil path);
    one = ap (λ (m : Met). m.one) (sym e);
    other = ap (λ (m : Met). m.other) (sym e);
  },
)
of_ground path s t r (inr f) = absurd f

for_ground : (path : LeafPath) (s t : DataType) → StandForAll path (record { path = path; one = s; other = t } ∷ []) (ground_pair s t)
for_ground path s t p (inl e) = (
  record { path = path; one = s; other = t },
  inl refl,
  record {
    left = ap (map any_element) (sym (append-nil path)) ∙ ap (λ (q : Pair). map any_element (path ++ q.left.path)) e;
    right = ap (map any_element) (sym (append-nil path)) ∙ ap (λ (q : Pair). map any_element (path ++ q.right.path)) e;
    one = ap (λ (q : Pair). q.left.ground_type) e;
    other = ap (λ (q : Pair). q.right.ground_type) e;
  },
)
for_ground path s t p (inr f) = absurd f

-- the elements of two vectors, of which so many meet
of_elements_met : (path : LeafPath) (n m : ℕ) (ms : List Met) (ps : List Pair) → OfPairs (path ++ element 0 ∷ []) ms ps → OfPairs path (where_some n m ms) (element_pairs 0 (min n m) ps)
of_elements_met path zero m ms ps h r k = absurd k
of_elements_met path (suc n) zero ms ps h r k = absurd k
of_elements_met path (suc n) (suc m) ms ps h r k =
    let more : suc (min n m) ≡ min (suc n) (suc m) = omega arith in
    let x = of_under path false (element 0) ms ps h r k in
    (x.0, subst (λ z. In (element_pairs 0 z ps) x.0) more (in_left (map (both_under false (element 0)) ps) (element_pairs 1 (min n m) ps) x.0 x.1), x.2)

for_each_element : (path : LeafPath) (i n : ℕ) (ms : List Met) (ps : List Pair) → StandForAll (path ++ element 0 ∷ []) ms ps → StandForAll path ms (element_pairs i n ps)
for_each_element path i zero ms ps h p k = absurd k
for_each_element path i (suc n) ms ps h p k =
    ⊎_elim
    (λ (a : In (map (both_under false (element i)) ps) p). for_under path false (element 0) (element i) ms ps refl h p a)
    (λ (a : In (element_pairs (i + 1) n ps) p). for_each_element path (i + 1) n ms ps h p a)
    (in_either (map (both_under false (element i)) ps) (element_pairs (i + 1) n ps) p k)

for_elements_met : (path : LeafPath) (n m : ℕ) (ms : List Met) (ps : List Pair) → StandForAll (path ++ element 0 ∷ []) ms ps
    → StandForAll path (where_some n m ms) (element_pairs 0 (min n m) ps)
for_elements_met path zero m ms ps h p k = let none : min zero m ≡ zero = omega arith in absurd (subst (λ z. In (element_pairs 0 z ps) p) none k)
for_elements_met path (suc n) zero ms ps h p k = let none : min (suc n) zero ≡ zero = omega arith in absurd (subst (λ z. In (element_pairs 0 z ps) p) none k)
for_elements_met path (suc n) (suc m) ms ps h p k = for_each_element path 0 (min (suc n) (suc m)) ms ps h p k

same_min : (n m : ℕ) → n ≡ m → min n m ≡ n
same_min n m e = omega (arith, e)

mutual
  -- of `<=`: each is a pair, and where the types fit they stand for all
  pub of_pairs : (path : LeafPath) (t u : DataType) → is_connectable t u ≡ true → OfPairs path (first_pairs path t u) (pairs t u)
  of_pairs path (bundle fs) (bundle gs) h = of_field_pairs path fs gs h
  of_pairs path (bundle fs) b h = absurd (cc)
  of_pairs path (vector t n) (vector u m) h =
      let tests = both (n == m) (is_connectable t u) h in
      let e : n ≡ m = eqb-true n m tests.0 in
      subst (λ k. OfPairs path (where_some n m (first_pairs (path ++ element 0 ∷ []) t u)) (element_pairs 0 k (pairs t u))) (same_min n m e)
      (of_elements_met path n m (first_pairs (path ++ element 0 ∷ []) t u) (pairs t u) (of_pairs (path ++ element 0 ∷ []) t u tests.1))
  of_pairs path (vector t n) b h = absurd (cc)
  of_pairs path s (bundle gs) h = absurd (cc)
  of_pairs path s (vector u m) h = absurd (cc)
  of_pairs path s t h = of_ground path s t

  of_field_pairs : (path : LeafPath) (fs gs : Fields) → fields_alike fitting_ground fs gs ≡ true → OfPairs path (first_field_pairs path fs gs) (field_pairs fs gs)
  of_field_pairs path no_fields gs h r m = absurd m
  of_field_pairs path (field p f x b t fs) no_fields h r m = absurd m
  of_field_pairs path (field p f x b t fs) (field q g y c u gs) h r m =
      let first = both (beq f g) _ h in
      let second = both (bytes_eq x y) _ first.1 in
      let third = both (is_connectable t u) _ second.1 in
      of_more path (first_pairs (path ++ named x ∷ []) t u) (first_field_pairs path fs gs) (map (both_under f (named x)) (pairs t u)) (field_pairs fs gs)
      (of_under path f (named x) (first_pairs (path ++ named x ∷ []) t u) (pairs t u) (of_pairs (path ++ named x ∷ []) t u third.0))
      (of_field_pairs path fs gs third.1) r m

mutual
  pub for_pairs : (path : LeafPath) (t u : DataType) → is_connectable t u ≡ true → StandForAll path (first_pairs path t u) (pairs t u)
  for_pairs path (bundle fs) (bundle gs) h = for_field_pairs path fs gs h
  for_pairs path (bundle fs) b h = absurd (cc)
  for_pairs path (vector t n) (vector u m) h =
      let tests = both (n == m) (is_connectable t u) h in
      let e : n ≡ m = eqb-true n m tests.0 in
      subst (λ k. StandForAll path (where_some n m (first_pairs (path ++ element 0 ∷ []) t u)) (element_pairs 0 k (pairs t u))) (same_min n m e)
      (for_elements_met path n m (first_pairs (path ++ element 0 ∷ []) t u) (pairs t u) (for_pairs (path ++ element 0 ∷ []) t u tests.1))
  for_pairs path (vector t n) b h = absurd (cc)
  for_pairs path s (bundle gs) h = absurd (cc)
  for_pairs path s (vector u m) h = absurd (cc)
  for_pairs path s t h = for_ground path s t

  for_field_pairs : (path : LeafPath) (fs gs : Fields) → fields_alike fitting_ground fs gs ≡ true → StandForAll path (first_field_pairs path fs gs) (field_pairs fs gs)
  for_field_pairs path no_fields gs h p m = absurd m
  for_field_pairs path (field p f x b t fs) no_fields h q m = absurd m
  for_field_pairs path (field p f x b t fs) (field q g y c u gs) h r m =
      let first = both (beq f g) _ h in
      let second = both (bytes_eq x y) _ first.1 in
      let third = both (is_connectable t u) _ second.1 in
      for_more path (first_pairs (path ++ named x ∷ []) t u) (first_field_pairs path fs gs) (map (both_under f (named x)) (pairs t u)) (field_pairs fs gs)
      (for_under path f (named x) (named x) (first_pairs (path ++ named x ∷ []) t u) (pairs t u) refl (for_pairs (path ++ named x ∷ []) t u third.0))
      (for_field_pairs path fs gs third.1) r m

-- with a field that the right side may have
module _ (path : LeafPath) (f : Bool) (x : List ℕ) (t : DataType) where
  abbrev met_here : Option FieldFound → List Met
  met_here o = met [] (λ g. first_partial_pairs (path ++ named x ∷ []) t g.data_type) o

  abbrev pairs_here : Option FieldFound → List Pair
  pairs_here o = met [] (λ g. map (both_under f (named x)) (partial_pairs t g.data_type)) o

  of_found : (o : Option FieldFound) → ((u : DataType) → OfPairs (path ++ named x ∷ []) (first_partial_pairs (path ++ named x ∷ []) t u) (partial_pairs t u))
      → OfPairs path (met_here o) (pairs_here o)
  of_found None h r m = absurd m
  of_found (Some g) h r m = of_under path f (named x) (first_partial_pairs (path ++ named x ∷ []) t g.data_type) (partial_pairs t g.data_type) (h g.data_type) r m

  for_found : (o : Option FieldFound) → ((u : DataType) → StandForAll (path ++ named x ∷ []) (first_partial_pairs (path ++ named x ∷ []) t u) (partial_pairs t u))
      → StandForAll path (met_here o) (pairs_here o)
  for_found None h p m = absurd m
  for_found (Some g) h p m =
      for_under path f (named x) (named x) (first_partial_pairs (path ++ named x ∷ []) t g.data_type) (partial_pairs t g.data_type) refl (h g.data_type) p m

mutual
  -- of `<-`
  pub of_partial : (path : LeafPath) (t u : DataType) → OfPairs path (first_partial_pairs path t u) (partial_pairs t u)
  of_partial path (bundle fs) (bundle gs) r m = of_partial_fields path fs gs r m
  of_partial path (vector t n) (vector u k) r m =
      of_elements_met path n k (first_partial_pairs (path ++ element 0 ∷ []) t u) (partial_pairs t u) (of_partial (path ++ element 0 ∷ []) t u) r m
  of_partial path (bundle fs) u r m = absurd m
  of_partial path (vector t n) u r m = absurd m
  of_partial path (uint w) (bundle gs) r m = absurd m
  of_partial path (sint w) (bundle gs) r m = absurd m
  of_partial path clock (bundle gs) r m = absurd m
  of_partial path reset (bundle gs) r m = absurd m
  of_partial path async_reset (bundle gs) r m = absurd m
  of_partial path (uint w) (vector u k) r m = absurd m
  of_partial path (sint w) (vector u k) r m = absurd m
  of_partial path clock (vector u k) r m = absurd m
  of_partial path reset (vector u k) r m = absurd m
  of_partial path async_reset (vector u k) r m = absurd m
  of_partial path s t r m = of_ground path s t r m

  of_partial_fields : (path : LeafPath) (fs gs : Fields) → OfPairs path (first_partial_fields path fs gs) (partial_field_pairs fs gs)
  of_partial_fields path no_fields gs r m = absurd m
  of_partial_fields path (field q f x b t fs) gs r m =
      of_more path (met_here path f x t (field_named x gs)) (first_partial_fields path fs gs) (pairs_here path f x t (field_named x gs)) (partial_field_pairs fs gs)
      (of_found path f x t (field_named x gs) (λ u. of_partial (path ++ named x ∷ []) t u)) (of_partial_fields path fs gs) r m

mutual
  pub for_partial : (path : LeafPath) (t u : DataType) → StandForAll path (first_partial_pairs path t u) (partial_pairs t u)
  for_partial path (bundle fs) (bundle gs) p m = for_partial_fields path fs gs p m
  for_partial path (vector t n) (vector u k) p m =
      for_elements_met path n k (first_partial_pairs (path ++ element 0 ∷ []) t u) (partial_pairs t u) (for_partial (path ++ element 0 ∷ []) t u) p m
  for_partial path (bundle fs) u p m = absurd m
  for_partial path (vector t n) u p m = absurd m
  for_partial path (uint w) (bundle gs) p m = absurd m
  for_partial path (sint w) (bundle gs) p m = absurd m
  for_partial path clock (bundle gs) p m = absurd m
  for_partial path reset (bundle gs) p m = absurd m
  for_partial path async_reset (bundle gs) p m = absurd m
  for_partial path (uint w) (vector u k) p m = absurd m
  for_partial path (sint w) (vector u k) p m = absurd m
  for_partial path clock (vector u k) p m = absurd m
  for_partial path reset (vector u k) p m = absurd m
  for_partial path async_reset (vector u k) p m = absurd m
  for_partial path s t p m = for_ground path s t p m

  for_partial_fields : (path : LeafPath) (fs gs : Fields) → StandForAll path (first_partial_fields path fs gs) (partial_field_pairs fs gs)
  for_partial_fields path no_fields gs p m = absurd m
  for_partial_fields path (field q f x b t fs) gs p m =
      for_more path (met_here path f x t (field_named x gs)) (first_partial_fields path fs gs) (pairs_here path f x t (field_named x gs)) (partial_field_pairs fs gs)
      (for_found path f x t (field_named x gs) (λ u. for_partial (path ++ named x ∷ []) t u)) (for_partial_fields path fs gs) p m
