-- Where the leaves of a field, of an element and of a declaration stand.
-- They stand in a row from an offset on, so that a leaf of the part is one of the whole, so many further.
use Rattle.std.proofs.Common.{◌≡◌, ℕ, zero, suc, ◌+◌, ◌*◌, ◌<◌, ◌≤◌, List, [], ◌∷◌, ◌++◌, Bool, true, false, map, length, slice_get, refl, ap, ◌∙◌, arith, length-append, Option, Some, option_map, ⊎_elim}
use Rattle.std.specs.Str.{bytes_eq}
use Rattle.std.proofs.lemmas.List.{length-map}
use Rattle.std.proofs.lemmas.Option.{slice_get-map}
use Rattle.std.proofs.Math.Nat.{suc-mul}
use Rattle.fir_ast.specs.Types.{DataType, bundle, vector, Fields, no_fields, field}
use Rattle.fir_meaning.specs.LeafPaths.{Step, named, element}
use Rattle.fir_meaning.specs.TypeLeaves.{TypeLeaf, under, element_leaves, type_leaves, field_leaves, leaf_count, field_count}
use Rattle.fir_meaning.specs.TypeKinds.{FieldFound, field_named}
use Rattle.fir_base.proofs.SameNames.{name_is}
use Rattle.fir_base.proofs.Tests.{chosen}
use Rattle.fir_meaning.specs.working.FieldSizes.{leaves_before_field}

-- an element of joined lists
pub get_left : {A : Type 0} (xs ys : List A) (k : ℕ) (x : A) → slice_get xs k ≡ Some x → slice_get (xs ++ ys) k ≡ Some x
get_left [] ys k x e = absurd (cc)
get_left (z ∷ xs) ys zero x e = e
get_left (z ∷ xs) ys (suc k) x e = get_left xs ys k x e

pub get_right : {A : Type 0} (xs ys : List A) (n k : ℕ) → length xs ≡ n → slice_get (xs ++ ys) (n + k) ≡ slice_get ys k
get_right [] ys n k e = let same : n + k ≡ k = omega arith in rw same refl
get_right (z ∷ xs) ys zero k e = absurd (omega arith)
get_right (z ∷ xs) ys (suc n) k e = let same : suc n + k ≡ suc (n + k) = omega arith in rw same (get_right xs ys n k (omega arith))

pub get_mapped : {A B : Type 0} (f : A → B) (xs : List A) (k : ℕ) (x : A) → slice_get xs k ≡ Some x → slice_get (map f xs) k ≡ Some (f x)
get_mapped f xs k x e = slice_get-map f xs k ∙ ap (option_map f) e

-- a type has as many leaves as are counted
element_count : (i n : ℕ) (ls : List TypeLeaf) → length (element_leaves i n ls) ≡ n * length ls
element_count i zero ls = omega arith
element_count i (suc n) ls =
    let one = length-map ls (under false (element i)) in
    let all = length-append (map (under false (element i)) ls) (element_leaves (i + 1) n ls) in
    omega (arith, all, one, suc-mul n (length ls), element_count (i + 1) n ls)

mutual
  pub leaves_counted : (t : DataType) → length (type_leaves t) ≡ leaf_count t
  leaves_counted (bundle fs) = fields_counted fs
  leaves_counted (vector t n) = element_count 0 n (type_leaves t) ∙ ap (λ x. n * x) (leaves_counted t)
  leaves_counted t = refl

  fields_counted : (fs : Fields) → length (field_leaves fs) ≡ field_count fs
  fields_counted no_fields = refl
  fields_counted (field p f x b t rest) =
      let one = length-map (type_leaves t) (under f (named x)) in
      let all = length-append (map (under f (named x)) (type_leaves t)) (field_leaves rest) in
      omega (arith, all, one, leaves_counted t, fields_counted rest)

-- the leaves of one part stand in those of the whole, all behind one step, from an offset on
pub record StandsFrom (whole : List TypeLeaf) (first : ℕ) (flip : Bool) (s : Step) (part : List TypeLeaf) : Type 0 where
  pub each : (k : ℕ) (l : TypeLeaf) → slice_get part k ≡ Some l → slice_get whole (first + k) ≡ Some (under flip s l)

here : (flip : Bool) (s : Step) (ls more : List TypeLeaf) → StandsFrom (map (under flip s) ls ++ more) 0 flip s ls
here flip s ls more = record {
  each = λ k l e. let same : 0 + k ≡ k = omega arith in rw same (get_left (map (under flip s) ls) more k (under flip s l) (get_mapped (under flip s) ls k l e));
}

further : (before whole : List TypeLeaf) (n first : ℕ) (flip : Bool) (s : Step) (part : List TypeLeaf) → length before ≡ n
    → StandsFrom whole first flip s part → StandsFrom (before ++ whole) (n + first) flip s part
further before whole n first flip s part long h = record {
  each = λ k l e.
      let same : (n + first) + k ≡ n + (first + k) = omega arith in
      rw same (get_right before whole n (first + k) long ∙ h.each k l e);
}

-- those of a field
pub field_stands_from : (fs : Fields) (x : List ℕ) (f : FieldFound) → field_named x fs ≡ Some f
    → StandsFrom (field_leaves fs) (leaves_before_field x fs) f.flip (named x) (type_leaves f.data_type)
field_stands_from no_fields x f h = absurd (cc)
field_stands_from (field p g y b t rest) x f h =
    ⊎_elim
    (λ (c : (bytes_eq y x ≡ true) × (◌≡◌ {A = Option FieldFound} (Some (record { flip = g; data_type = t })) (Some f))).
    let is : record { flip = g; data_type = t } ≡ f = cc in
    rw (c.0, ← is, ← name_is y x c.0) (here g (named y) (type_leaves t) (field_leaves rest)))
    (λ (c : (bytes_eq y x ≡ false) × (field_named x rest ≡ Some f)).
    rw c.0
    (further (map (under g (named y)) (type_leaves t)) (field_leaves rest) (leaf_count t) (leaves_before_field x rest) f.flip (named x)
    (type_leaves f.data_type)
    (length-map (type_leaves t) (under g (named y)) ∙ leaves_counted t) (field_stands_from rest x f c.1)))
    (chosen (bytes_eq y x) (Some (record { flip = g; data_type = t })) (field_named x rest) (Some f) h)

pub field_within : (fs : Fields) (x : List ℕ) (f : FieldFound) → field_named x fs ≡ Some f → leaves_before_field x fs + leaf_count f.data_type ≤ field_count fs
field_within no_fields x f h = absurd (cc)
field_within (field p g y b t rest) x f h =
    ⊎_elim
    (λ (c : (bytes_eq y x ≡ true) × (◌≡◌ {A = Option FieldFound} (Some (record { flip = g; data_type = t })) (Some f))).
    let is : record { flip = g; data_type = t } ≡ f = cc in
    rw (c.0, ← is) (omega arith))
    (λ (c : (bytes_eq y x ≡ false) × (field_named x rest ≡ Some f)).
    let more = field_within rest x f c.1 in
    rw c.0 (omega arith))
    (chosen (bytes_eq y x) (Some (record { flip = g; data_type = t })) (field_named x rest) (Some f) h)

-- those of an element
elements_stand_from : (i n j : ℕ) (ls : List TypeLeaf) (c : ℕ) → length ls ≡ c → j < n → StandsFrom (element_leaves i n ls) (j * c) false (element (i + j)) ls
elements_stand_from i zero j ls c long lt = absurd (omega arith)
elements_stand_from i (suc n) zero ls c long lt =
    let e : i + 0 ≡ i = omega arith in
    let z : 0 * c ≡ 0 = omega arith in
    rw (e, z) (here false (element i) ls (element_leaves (i + 1) n ls))
elements_stand_from i (suc n) (suc j) ls c long lt =
    let e : i + suc j ≡ (i + 1) + j = omega arith in
    let z : suc j * c ≡ c + j * c = omega (arith, suc-mul j c) in
    rw (e, z)
    (further (map (under false (element i)) ls) (element_leaves (i + 1) n ls) c (j * c) false (element ((i + 1) + j)) ls
    (length-map ls (under false (element i)) ∙ long) (elements_stand_from (i + 1) n j ls c long (omega arith)))

pub element_stands_from : (t : DataType) (n j : ℕ) → j < n → StandsFrom (type_leaves (vector t n)) (j * leaf_count t) false (element j) (type_leaves t)
element_stands_from t n j lt =
    let e : 0 + j ≡ j = omega arith in
    rw e at (elements_stand_from 0 n j (type_leaves t) (leaf_count t) (leaves_counted t) lt)

pub element_within : (n j c : ℕ) → j < n → j * c + c ≤ n * c
element_within zero j c lt = absurd (omega arith)
element_within (suc n) zero c lt = omega (arith, suc-mul n c)
element_within (suc n) (suc j) c lt = omega (arith, suc-mul n c, suc-mul j c, element_within n j c (omega arith))
