-- Offsets of leaves: each leaf of a type has one, and leaves of one type have one offset exactly where they differ in indices alone.
use Rattle.std.proofs.Common.{◌≡◌, ℕ, zero, suc, ◌+◌, ◌<◌, List, [], ◌∷◌, map, Bool, true, false, if◌then◌else◌, Option, Some, None, refl, inl, inr, ◌⊎◌, ⊎_elim, ap, sym, ◌∙◌, subst, arith}
use Rattle.std.specs.Prelude.{nat_lt}
use Rattle.std.specs.Str.{bytes_eq}
use Rattle.std.proofs.lemmas.Bool.{lt-ltb}
use Rattle.std.proofs.lemmas.Option.{same_Some, none-some}
use Rattle.fir_base.specs.Lists.{In}
use Rattle.fir_base.proofs.Members.{in_either, in_map_from}
use Rattle.fir_base.proofs.SameNames.{name_is, name_same, name_other, name_apart}
use Rattle.fir_base.proofs.Tests.{chosen}
use Rattle.fir_ast.specs.declared.place.Place.{Place}
use Rattle.fir_ast.specs.Types.{DataType, bundle, vector, Fields, no_fields, field}
use Rattle.fir_meaning.specs.LeafPaths.{LeafPath, named, element}
use Rattle.fir_meaning.specs.TypeLeaves.{TypeLeaf, under, element_leaves, type_leaves, field_leaves}
use Rattle.fir_meaning.specs.SharedLeaves.{shared_count, shared_field_count}
use Rattle.fir_meaning.proofs.FreshFields.{field_names, HasFreshFields, AreFresh}
use Rattle.fir_reset.specs.working.ElementPaths.{any_element}
use Rattle.fir_reset.specs.working.LeafClasses.{behind_so_many, offset_in, offset_in_fields}

-- where a leaf of elements comes from
pub record ElementLeaf (i n : ℕ) (ls : List TypeLeaf) (l : TypeLeaf) : Type 0 where
  pub index : ℕ
  pub within : index < i + n
  pub inner : TypeLeaf
  pub is_leaf : In ls inner
  pub is : under false (element index) inner ≡ l

pub element_leaf : (i n : ℕ) (ls : List TypeLeaf) (l : TypeLeaf) → In (element_leaves i n ls) l → ElementLeaf i n ls l
element_leaf i zero ls l m = absurd m
element_leaf i (suc n) ls l m =
    ⊎_elim
    (λ (k : In (map (under false (element i)) ls) l).
    let r = in_map_from (under false (element i)) ls l k in record { index = i; within = omega arith; inner = r.0; is_leaf = r.1; is = r.2 })
    (λ (k : In (element_leaves (i + 1) n ls) l).
    let r = element_leaf (i + 1) n ls l k in record { index = r.index; within = omega (arith, r.within); inner = r.inner; is_leaf = r.is_leaf; is = r.is })
    (in_either (map (under false (element i)) ls) (element_leaves (i + 1) n ls) l m)

-- a leaf of fields begins with the name of one
pub record FieldLeaf (fs : Fields) (l : TypeLeaf) : Type 0 where
  pub name : List ℕ
  pub rest : LeafPath
  pub is : l.path ≡ named name ∷ rest
  pub among : In (field_names fs) name

pub field_leaf : (fs : Fields) (l : TypeLeaf) → In (field_leaves fs) l → FieldLeaf fs l
field_leaf no_fields l m = absurd m
field_leaf (field p f x b t rest) l m =
    ⊎_elim
    (λ (k : In (map (under f (named x)) (type_leaves t)) l).
    let r = in_map_from (under f (named x)) (type_leaves t) l k in
    record { name = x; rest = r.0.path; is = ap (λ (y : TypeLeaf). y.path) (sym r.2); among = inl refl })
    (λ (k : In (field_leaves rest) l). let r = field_leaf rest l k in record { name = r.name; rest = r.rest; is = r.is; among = inr r.among })
    (in_either (map (under f (named x)) (type_leaves t)) (field_leaves rest) l m)

-- an offset among fields is that in the first of the name, or that among the others behind it
abbrev pub FieldOffset : List ℕ → DataType → Fields → List ℕ → LeafPath → ℕ → Type 0
FieldOffset x t rest y path k =
    ((x ≡ y) × (offset_in t path ≡ Some k)) ⊎ ((x ≡ y → ⊥) × ((j : ℕ) × (offset_in_fields rest y path ≡ Some j) × (shared_count t + j ≡ k)))

behind_from : (n : ℕ) (o : Option ℕ) (k : ℕ) → behind_so_many n o ≡ Some k → (j : ℕ) × (o ≡ Some j) × (n + j ≡ k)
behind_from n None k e = absurd (none-some k e)
behind_from n (Some j) k e = (j, refl, same_Some (n + j) k e)

field_offset : (x : List ℕ) (t : DataType) (rest : Fields) (y : List ℕ) (path : LeafPath) (k : ℕ)
    → (if bytes_eq x y then offset_in t path else behind_so_many (shared_count t) (offset_in_fields rest y path)) ≡ Some k → FieldOffset x t rest y path k
field_offset x t rest y path k e =
    ⊎_elim
    (λ (c : (bytes_eq x y ≡ true) × (offset_in t path ≡ Some k)). inl (name_is x y c.0, c.1))
    (λ (c : (bytes_eq x y ≡ false) × (behind_so_many (shared_count t) (offset_in_fields rest y path) ≡ Some k)).
    inr (name_apart x y c.0, behind_from (shared_count t) (offset_in_fields rest y path) k c.1))
    (chosen (bytes_eq x y) (offset_in t path) (behind_so_many (shared_count t) (offset_in_fields rest y path)) (Some k) e)

-- that of an element is that in the element's type
element_offset : (t : DataType) (n i : ℕ) (path : LeafPath) (k : ℕ) → offset_in (vector t n) (element i ∷ path) ≡ Some k → offset_in t path ≡ Some k
element_offset t n i path k e =
    ⊎_elim
    (λ (c : (nat_lt i n ≡ true) × (offset_in t path ≡ Some k)). c.1)
    (λ (c : (nat_lt i n ≡ false) × (None ≡ Some k)). absurd (none-some k c.1))
    (chosen (nat_lt i n) (offset_in t path) None (Some k) e)

-- a path whose offset is found among the other fields has one behind a field of another name
later_offset : (p : Place) (f : Bool) (x : List ℕ) (b : Place) (t : DataType) (rest : Fields) (l : TypeLeaf) (k : ℕ) → (In (field_names rest) x → ⊥) → FieldLeaf rest l
    → offset_in (bundle rest) l.path ≡ Some k → offset_in (bundle (field p f x b t rest)) l.path ≡ Some (shared_count t + k)
later_offset p f x b t rest l k new at e =
    let inside : offset_in_fields rest at.name at.rest ≡ Some k = ap (offset_in (bundle rest)) (sym at.is) ∙ e in
    let apart = name_other x at.name (λ same. new (subst (In (field_names rest)) (sym same) at.among)) in
    ap (offset_in (bundle (field p f x b t rest))) at.is ∙ rw (apart, inside) refl

mutual
  -- each leaf has an offset
  pub offset_there : (t : DataType) (l : TypeLeaf) → HasFreshFields t → In (type_leaves t) l → (k : ℕ) × (offset_in t l.path ≡ Some k)
  offset_there (bundle fs) l h m = field_offset_there fs l h m
  offset_there (vector t n) l h m =
      let from = element_leaf 0 n (type_leaves t) l m in
      let r = offset_there t from.inner h from.is_leaf in
      let within : from.index < n = omega (arith, from.within) in
      let there : offset_in (vector t n) (element from.index ∷ from.inner.path) ≡ Some r.0 = rw (lt-ltb from.index n within, r.1) refl in
      (r.0, ap (λ (y : TypeLeaf). offset_in (vector t n) y.path) (sym from.is) ∙ there)
  offset_there t l h (inl e) = (0, ap (λ (y : TypeLeaf). offset_in t y.path) (sym e))
  offset_there t l h (inr f) = absurd f

  field_offset_there : (fs : Fields) (l : TypeLeaf) → AreFresh fs → In (field_leaves fs) l → (k : ℕ) × (offset_in (bundle fs) l.path ≡ Some k)
  field_offset_there no_fields l h m = absurd m
  field_offset_there (field p f x b t rest) l h m =
      ⊎_elim
      (λ (k : In (map (under f (named x)) (type_leaves t)) l).
      let from = in_map_from (under f (named x)) (type_leaves t) l k in
      let r = offset_there t from.0 h.1 from.1 in
      let there : offset_in (bundle (field p f x b t rest)) (named x ∷ from.0.path) ≡ Some r.0 = rw (name_same x, r.1) refl in
      (r.0, ap (λ (y : TypeLeaf). offset_in (bundle (field p f x b t rest)) y.path) (sym from.2) ∙ there))
      (λ (k : In (field_leaves rest) l).
      let r = field_offset_there rest l h.2 k in
      (shared_count t + r.0, later_offset p f x b t rest l r.0 h.0 (field_leaf rest l k) r.1))
      (in_either (map (under f (named x)) (type_leaves t)) (field_leaves rest) l m)

mutual
  -- an offset is below the number of leaves
  pub offset_below : (t : DataType) (path : LeafPath) (k : ℕ) → offset_in t path ≡ Some k → k < shared_count t
  offset_below (bundle fs) [] k e = absurd (none-some k e)
  offset_below (bundle fs) (element i ∷ path) k e = absurd (none-some k e)
  offset_below (bundle fs) (named x ∷ path) k e = field_offset_below fs x path k e
  offset_below (vector t n) [] k e = absurd (none-some k e)
  offset_below (vector t n) (named x ∷ path) k e = absurd (none-some k e)
  offset_below (vector t n) (element i ∷ path) k e = offset_below t path k (element_offset t n i path k e)
  offset_below t [] k e = let same : 0 ≡ k = same_Some 0 k e in omega (arith, same)
  offset_below t (s ∷ path) k e = absurd (none-some k e)

  field_offset_below : (fs : Fields) (x : List ℕ) (path : LeafPath) (k : ℕ) → offset_in_fields fs x path ≡ Some k → k < shared_field_count fs
  field_offset_below no_fields x path k e = absurd (none-some k e)
  field_offset_below (field p f y b t rest) x path k e =
      ⊎_elim
      (λ (c : (y ≡ x) × (offset_in t path ≡ Some k)). omega (arith, offset_below t path k c.1))
      (λ (c : (y ≡ x → ⊥) × ((j : ℕ) × (offset_in_fields rest x path ≡ Some j) × (shared_count t + j ≡ k))).
      omega (arith, field_offset_below rest x path c.1.0 c.1.1, c.1.2))
      (field_offset y t rest x path k e)

mutual
  -- paths of one offset differ in indices alone
  pub offset_paths : (t : DataType) (p q : LeafPath) (k : ℕ) → offset_in t p ≡ Some k → offset_in t q ≡ Some k → map any_element p ≡ map any_element q
  offset_paths (bundle fs) (named x ∷ p) (named y ∷ q) k e f = field_offset_paths fs x y p q k e f
  offset_paths (bundle fs) [] q k e f = absurd (none-some k e)
  offset_paths (bundle fs) (element i ∷ p) q k e f = absurd (none-some k e)
  offset_paths (bundle fs) (named x ∷ p) [] k e f = absurd (none-some k f)
  offset_paths (bundle fs) (named x ∷ p) (element j ∷ q) k e f = absurd (none-some k f)
  offset_paths (vector t n) (element i ∷ p) (element j ∷ q) k e f =
      ap (λ l. element 0 ∷ l) (offset_paths t p q k (element_offset t n i p k e) (element_offset t n j q k f))
  offset_paths (vector t n) [] q k e f = absurd (none-some k e)
  offset_paths (vector t n) (named x ∷ p) q k e f = absurd (none-some k e)
  offset_paths (vector t n) (element i ∷ p) [] k e f = absurd (none-some k f)
  offset_paths (vector t n) (element i ∷ p) (named y ∷ q) k e f = absurd (none-some k f)
  offset_paths t [] [] k e f = refl
  offset_paths t (s ∷ p) q k e f = absurd (none-some k e)
  offset_paths t [] (s ∷ q) k e f = absurd (none-some k f)

  field_offset_paths : (fs : Fields) (x y : List ℕ) (p q : LeafPath) (k : ℕ) → offset_in_fields fs x p ≡ Some k → offset_in_fields fs y q ≡ Some k
      → map any_element (named x ∷ p) ≡ map any_element (named y ∷ q)
  field_offset_paths no_fields x y p q k e f = absurd (none-some k e)
  field_offset_paths (field r g z b t rest) x y p q k e f = by (field_offset z t rest x p k e) (field_offset z t rest y q k f)
      (λ h i. offset_paths t p q k h i) (λ j h i. field_offset_paths rest x y p q j h i)
    where
      by : FieldOffset z t rest x p k → FieldOffset z t rest y q k
          → (offset_in t p ≡ Some k → offset_in t q ≡ Some k → map any_element p ≡ map any_element q)
          → ((j : ℕ) → offset_in_fields rest x p ≡ Some j → offset_in_fields rest y q ≡ Some j → map any_element (named x ∷ p) ≡ map any_element (named y ∷ q))
          → map any_element (named x ∷ p) ≡ map any_element (named y ∷ q)
      by (inl c) (inl d) here there =
          ap (λ l. named x ∷ l) (here c.1 d.1) ∙ ap (λ w. named w ∷ map any_element q) (sym c.0 ∙ d.0)
      by (inl c) (inr d) here there = absurd (omega (arith, offset_below t p k c.1, d.1.2))
      by (inr c) (inl d) here there = absurd (omega (arith, offset_below t q k d.1, c.1.2))
      by (inr c) (inr d) here there =
          let same : d.1.0 ≡ c.1.0 = omega (arith, c.1.2, d.1.2) in there c.1.0 c.1.1 (d.1.1 ∙ ap (λ i. Some i) same)

mutual
  -- and such paths have one offset
  pub paths_offset : (t : DataType) (p q : LeafPath) (j k : ℕ) → offset_in t p ≡ Some j → offset_in t q ≡ Some k → map any_element p ≡ map any_element q → j ≡ k
  paths_offset (bundle fs) (named x ∷ p) (named y ∷ q) j k e f h =
      let name : x ≡ y = cc in let rest : map any_element p ≡ map any_element q = cc in field_paths_offset fs x y p q j k e f name rest
  paths_offset (bundle fs) [] q j k e f h = absurd (none-some j e)
  paths_offset (bundle fs) (element i ∷ p) q j k e f h = absurd (none-some j e)
  paths_offset (bundle fs) (named x ∷ p) [] j k e f h = absurd (none-some k f)
  paths_offset (bundle fs) (named x ∷ p) (element l ∷ q) j k e f h = absurd (none-some k f)
  paths_offset (vector t n) (element i ∷ p) (element l ∷ q) j k e f h =
      let rest : map any_element p ≡ map any_element q = cc in
      paths_offset t p q j k (element_offset t n i p j e) (element_offset t n l q k f) rest
  paths_offset (vector t n) [] q j k e f h = absurd (none-some j e)
  paths_offset (vector t n) (named x ∷ p) q j k e f h = absurd (none-some j e)
  paths_offset (vector t n) (element i ∷ p) [] j k e f h = absurd (none-some k f)
  paths_offset (vector t n) (element i ∷ p) (named y ∷ q) j k e f h = absurd (none-some k f)
  paths_offset t [] [] j k e f h = sym (same_Some 0 j e) ∙ same_Some 0 k f
  paths_offset t (s ∷ p) q j k e f h = absurd (none-some j e)
  paths_offset t [] (s ∷ q) j k e f h = absurd (none-some k f)

  field_paths_offset : (fs : Fields) (x y : List ℕ) (p q : LeafPath) (j k : ℕ) → offset_in_fields fs x p ≡ Some j → offset_in_fields fs y q ≡ Some k
      → x ≡ y → map any_element p ≡ map any_element q → j ≡ k
  field_paths_offset no_fields x y p q j k e f h i = absurd (none-some j e)
  field_paths_offset (field r g z b t rest) x y p q j k e f h i = by (field_offset z t rest x p j e) (field_offset z t rest y q k f)
      (λ c d. paths_offset t p q j k c d i) (λ m n c d. field_paths_offset rest x y p q m n c d h i)
    where
      by : FieldOffset z t rest x p j → FieldOffset z t rest y q k
          → (offset_in t p ≡ Some j → offset_in t q ≡ Some k → j ≡ k)
          → ((m n : ℕ) → offset_in_fields rest x p ≡ Some m → offset_in_fields rest y q ≡ Some n → m ≡ n) → j ≡ k
      by (inl c) (inl d) here there = here c.1 d.1
      by (inl c) (inr d) here there = absurd (d.0 (c.0 ∙ h))
      by (inr c) (inl d) here there = absurd (c.0 (d.0 ∙ sym h))
      by (inr c) (inr d) here there = sym c.1.2 ∙ ap (λ n. shared_count t + n) (there c.1.0 d.1.0 c.1.1 d.1.1) ∙ d.1.2

mutual
  -- leaves whose paths differ in indices alone have one ground type
  pub same_ground : (t : DataType) (l m : TypeLeaf) → HasFreshFields t → In (type_leaves t) l → In (type_leaves t) m
      → map any_element l.path ≡ map any_element m.path → l.ground_type ≡ m.ground_type
  same_ground (bundle fs) l m h i j e = same_field_ground fs l m h i j e
  same_ground (vector t n) l m h i j e =
      let one = element_leaf 0 n (type_leaves t) l i in
      let other = element_leaf 0 n (type_leaves t) m j in
      let paths : element 0 ∷ map any_element one.inner.path ≡ element 0 ∷ map any_element other.inner.path =
      ap (λ (y : TypeLeaf). map any_element y.path) one.is ∙ e ∙ ap (λ (y : TypeLeaf). map any_element y.path) (sym other.is) in
      let inside : map any_element one.inner.path ≡ map any_element other.inner.path = cc in
      ap (λ (y : TypeLeaf). y.ground_type) (sym one.is) ∙ same_ground t one.inner other.inner h one.is_leaf other.is_leaf inside
      ∙ ap (λ (y : TypeLeaf). y.ground_type) other.is
  same_ground t l m h (inl a) (inl b) e = ap (λ (y : TypeLeaf). y.ground_type) (sym a ∙ b)
  same_ground t l m h (inr f) j e = absurd f
  same_ground t l m h i (inr f) e = absurd f

  same_field_ground : (fs : Fields) (l m : TypeLeaf) → AreFresh fs → In (field_leaves fs) l → In (field_leaves fs) m
      → map any_element l.path ≡ map any_element m.path → l.ground_type ≡ m.ground_type
  same_field_ground no_fields l m h i j e = absurd i
  same_field_ground (field p f x b t rest) l m h i j e =
      by (in_either (map (under f (named x)) (type_leaves t)) (field_leaves rest) l i) (in_either (map (under f (named x)) (type_leaves t)) (field_leaves rest) m j)
      (λ u v c d k. same_ground t u v h.1 c d k) (λ c d. same_field_ground rest l m h.2 c d e)
    where
      -- the one begins with the name, the other with that of a later field
      unlike : (u v : TypeLeaf) → In (map (under f (named x)) (type_leaves t)) u → In (field_leaves rest) v → map any_element u.path ≡ map any_element v.path → ⊥
      unlike u v c d k =
          let from = in_map_from (under f (named x)) (type_leaves t) u c in
          let at = field_leaf rest v d in
          let paths : named x ∷ map any_element from.0.path ≡ named at.name ∷ map any_element at.rest =
          ap (λ (y : TypeLeaf). map any_element y.path) from.2 ∙ k ∙ ap (map any_element) at.is in
          let names : at.name ≡ x = cc in
          h.0 (subst (In (field_names rest)) names at.among)

      by : In (map (under f (named x)) (type_leaves t)) l ⊎ In (field_leaves rest) l → In (map (under f (named x)) (type_leaves t)) m ⊎ In (field_leaves rest) m
          → ((u v : TypeLeaf) → In (type_leaves t) u → In (type_leaves t) v → map any_element u.path ≡ map any_element v.path → u.ground_type ≡ v.ground_type)
          → (In (field_leaves rest) l → In (field_leaves rest) m → l.ground_type ≡ m.ground_type) → l.ground_type ≡ m.ground_type
      by (inl c) (inl d) here there =
          let one = in_map_from (under f (named x)) (type_leaves t) l c in
          let other = in_map_from (under f (named x)) (type_leaves t) m d in
          let paths : named x ∷ map any_element one.0.path ≡ named x ∷ map any_element other.0.path =
          ap (λ (y : TypeLeaf). map any_element y.path) one.2 ∙ e ∙ ap (λ (y : TypeLeaf). map any_element y.path) (sym other.2) in
          let inside : map any_element one.0.path ≡ map any_element other.0.path = cc in
          ap (λ (y : TypeLeaf). y.ground_type) (sym one.2) ∙ here one.0 other.0 one.1 other.1 inside ∙ ap (λ (y : TypeLeaf). y.ground_type) other.2
      by (inl c) (inr d) here there = absurd (unlike l m c d e)
      by (inr c) (inl d) here there = absurd (unlike m l d c (sym e))
      by (inr c) (inr d) here there = there c d
