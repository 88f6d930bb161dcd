-- The number of a leaf, found by offsets, is its place among the leaves.
use Rattle.std.proofs.Common.{◌≡◌, ℕ, zero, suc, ◌+◌, ◌*◌, ◌<◌, List, [], ◌∷◌, ◌++◌, Bool, true, false, map, length, slice_get, refl, sym, ap, ◌∙◌, arith, length-append, add-one, Option, Some, None, option_map, inl, inr, ⊎_elim}
use Rattle.std.specs.Str.{bytes_eq}
use Rattle.std.proofs.lemmas.List.{length-map}
use Rattle.std.proofs.lemmas.Bool.{lt-ltb}
use Rattle.std.proofs.Math.Nat.{suc-mul, zero-add}
use Rattle.fir_base.specs.Lists.{In}
use Rattle.fir_ast.specs.declared.place.Place.{Place}
use Rattle.fir_ast.specs.Types.{DataType, bundle, vector, Fields, no_fields, field}
use Rattle.fir_meaning.specs.LeafPaths.{Step, named, element, LeafPath}
use Rattle.fir_meaning.specs.TypeLeaves.{TypeLeaf, under, element_leaves, type_leaves, field_leaves, leaf_count, field_count}
use Rattle.fir_meaning.specs.working.TypeNumbers.{leaf_number, field_number}
use Rattle.fir_meaning.specs.working.TypeLaws.{LeavesHaveNumbers}
use Rattle.fir_base.proofs.SameNames.{name_is, name_same, name_other}
use Rattle.fir_base.proofs.Tests.{chosen}
use Rattle.fir_meaning.proofs.FreshFields.{field_names, HasFreshFields, AreFresh, fresh_fields}

element_count : (i n : ℕ) (ls : List TypeLeaf) → length (element_leaves i n ls) ≡ n * length ls
element_count i zero ls = omega arith
element_count i (suc n) ls =
    omega (arith, length-append (map (under false (element i)) ls) (element_leaves (i + 1) n ls), length-map ls (under false (element i)), suc-mul n (length ls), element_count (i + 1) n ls)

mutual
  count_leaves : (t : DataType) → length (type_leaves t) ≡ leaf_count t
  count_leaves (bundle fs) = count_fields fs
  count_leaves (vector t n) = element_count 0 n (type_leaves t) ∙ ap (λ x. n * x) (count_leaves t)
  count_leaves t = refl

  count_fields : (fs : Fields) → length (field_leaves fs) ≡ field_count fs
  count_fields no_fields = refl
  count_fields (field p f x b t rest) =
      omega (arith, length-append (map (under f (named x)) (type_leaves t)) (field_leaves rest), length-map (type_leaves t) (under f (named x)), count_leaves t, count_fields rest)

count_under : (f : Bool) (s : Step) (t : DataType) → length (map (under f s) (type_leaves t)) ≡ leaf_count t
count_under f s t = length-map (type_leaves t) (under f s) ∙ count_leaves t

-- leaves whose paths have their places as numbers, from a number on
abbrev Numbered : (LeafPath → Option ℕ) → ℕ → List TypeLeaf → Type 0
Numbered f b [] = Unit {0}
Numbered f b (l ∷ ls) = (f l.path ≡ Some b) × Numbered f (b + 1) ls

numbered_at : (f : LeafPath → Option ℕ) (b : ℕ) (ls : List TypeLeaf) → Numbered f b ls → (k : ℕ) (l : TypeLeaf) → slice_get ls k ≡ Some l → f l.path ≡ Some (b + k)
numbered_at f b [] h k l e = absurd (cc)
numbered_at f b (x ∷ ls) h zero l e = let same : x ≡ l = cc in let n : b + 0 ≡ b = omega arith in rw (← same, n) h.0
numbered_at f b (x ∷ ls) h (suc k) l e = let n : b + suc k ≡ (b + 1) + k = omega arith in rw n (numbered_at f (b + 1) ls h.1 k l e)

numbered_joined : (f : LeafPath → Option ℕ) (b : ℕ) (xs ys : List TypeLeaf) → Numbered f b xs → Numbered f (b + length xs) ys → Numbered f b (xs ++ ys)
numbered_joined f b [] ys h k = let e : b + 0 ≡ b = omega arith in rw e at k
numbered_joined f b (x ∷ xs) ys h k =
    let e : b + length (x ∷ xs) ≡ (b + 1) + length xs = omega arith in (h.0, numbered_joined f (b + 1) xs ys h.1 (rw e at k))

-- behind a step, from an offset on
numbered_under : (g h : LeafPath → Option ℕ) (c b : ℕ) (f : Bool) (s : Step) (ls : List TypeLeaf)
    → ((p : LeafPath) (k : ℕ) → h p ≡ Some k → g (s ∷ p) ≡ Some (c + k)) → Numbered h b ls → Numbered g (c + b) (map (under f s) ls)
numbered_under g h c b f s [] to n = tt
numbered_under g h c b f s (l ∷ ls) to n =
    let e : (c + b) + 1 ≡ c + (b + 1) = omega arith in (to l.path b n.0, rw e (numbered_under g h c (b + 1) f s ls to n.1))

numbered_later : (g h : LeafPath → Option ℕ) (c b : ℕ) (ls : List TypeLeaf)
    → ((p : LeafPath) (k : ℕ) → h p ≡ Some k → g p ≡ Some (c + k)) → Numbered h b ls → Numbered g (c + b) ls
numbered_later g h c b [] to n = tt
numbered_later g h c b (l ∷ ls) to n =
    let e : (c + b) + 1 ≡ c + (b + 1) = omega arith in (to l.path b n.0, rw e (numbered_later g h c (b + 1) ls to n.1))

numbered_elements : (t : DataType) (n i m : ℕ) → i + m ≡ n → Numbered (leaf_number t) 0 (type_leaves t)
    → Numbered (leaf_number (vector t n)) (i * leaf_count t) (element_leaves i m (type_leaves t))
numbered_elements t n i zero e h = tt
numbered_elements t n i (suc m) e h =
    let lt : i < n = omega arith in
    let next : (i + 1) + m ≡ n = omega arith in
    let z : i * leaf_count t + 0 ≡ i * leaf_count t = omega arith in
    let here : Numbered (leaf_number (vector t n)) (i * leaf_count t + 0) (map (under false (element i)) (type_leaves t)) =
    numbered_under (leaf_number (vector t n)) (leaf_number t) (i * leaf_count t) 0 false (element i) (type_leaves t) (λ p k q. rw (lt-ltb i n lt, q) refl) h in
    let there : (i + 1) * leaf_count t ≡ i * leaf_count t + length (map (under false (element i)) (type_leaves t)) =
    omega (arith, suc-mul i (leaf_count t), count_under false (element i) t, ap (λ x. x * leaf_count t) (add-one i)) in
    numbered_joined (leaf_number (vector t n)) (i * leaf_count t) _ _ (rw z at here) (rw there at (numbered_elements t n (i + 1) m next h))

some_of : (c : ℕ) (o : Option ℕ) (k : ℕ) → option_map (λ x. c + x) o ≡ Some k → (j : ℕ) × (o ≡ Some j)
some_of c None k e = absurd (cc)
some_of c (Some j) k e = (j, refl)

-- a path that has a number begins with a name of the fields
numbered_name : (fs : Fields) (y : List ℕ) (p : LeafPath) (k : ℕ) → field_number y fs p ≡ Some k → In (field_names fs) y
numbered_name no_fields y p k e = cc
numbered_name (field q f z b t rest) y p k e =
    ⊎_elim
    (λ (c : (bytes_eq z y ≡ true) × (leaf_number t p ≡ Some k)). inl (name_is z y c.0))
    (λ (c : (bytes_eq z y ≡ false) × (option_map (λ j. leaf_count t + j) (field_number y rest p) ≡ Some k)).
    let r = some_of (leaf_count t) (field_number y rest p) k c.1 in inr (numbered_name rest y p r.0 r.1))
    (chosen (bytes_eq z y) (leaf_number t p) (option_map (λ j. leaf_count t + j) (field_number y rest p)) (Some k) e)

-- so the later fields keep their numbers behind a new one
module _ (q b : Place) (f : Bool) (x : List ℕ) (t : DataType) (rest : Fields) (new : In (field_names rest) x → ⊥) where
  later_number : (p : LeafPath) (k : ℕ) → leaf_number (bundle rest) p ≡ Some k → leaf_number (bundle (field q f x b t rest)) p ≡ Some (leaf_count t + k)
  later_number [] k e = absurd (cc)
  later_number (element i ∷ p) k e = absurd (cc)
  later_number (named y ∷ p) k e =
      let other = name_other x y (λ s. new (rw s (numbered_name rest y p k e))) in rw (other, e) refl

mutual
  numbered : (t : DataType) → HasFreshFields t → Numbered (leaf_number t) 0 (type_leaves t)
  numbered (bundle fs) h = numbered_fields fs h
  numbered (vector t n) h =
      let z : 0 * leaf_count t ≡ 0 = omega arith in rw z at (numbered_elements t n 0 n (zero-add n) (numbered t h))
  numbered t h = (refl, tt)

  numbered_fields : (fs : Fields) → AreFresh fs → Numbered (leaf_number (bundle fs)) 0 (field_leaves fs)
  numbered_fields no_fields h = tt
  numbered_fields (field q f x b t rest) h =
      let number = leaf_number (bundle (field q f x b t rest)) in
      let z : leaf_count t + 0 ≡ 0 + length (map (under f (named x)) (type_leaves t)) = omega (arith, count_under f (named x) t) in
      numbered_joined number 0 _ _
      (numbered_under number (leaf_number t) 0 0 f (named x) (type_leaves t) (λ p k e. rw (name_same x, e) (ap (λ j. Some j) (sym (zero-add k)))) (numbered t h.1))
      (rw z at (numbered_later number (leaf_number (bundle rest)) (leaf_count t) 0 (field_leaves rest) (later_number q b f x t rest h.0) (numbered_fields rest h.2)))

pub numbers_leaves : LeavesHaveNumbers
numbers_leaves t h = record {
  count = count_leaves t;
  number = λ k l e. numbered_at (leaf_number t) 0 (type_leaves t) (numbered t (fresh_fields t h)) k l e ∙ ap (λ j. Some j) (zero-add k);
}
