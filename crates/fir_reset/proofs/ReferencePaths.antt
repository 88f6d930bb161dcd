-- The paths to which the parts of a reference lead: all lead to leaves, they differ in elements alone, and the first of them is among them where each index
-- picks of some elements.
use Rattle.std.proofs.Common.{◌≡◌, ℕ, zero, suc, ◌+◌, ◌<◌, ◌≤◌, List, [], ◌∷◌, ◌++◌, Bool, true, false, if◌then◌else◌, map, Some, refl, inl, inr, ⊎_elim, sym, ap, ◌∙◌, subst, append_assoc, arith}
use Rattle.std.proofs.lemmas.List.{append-nil, map-append}
use Rattle.std.proofs.lemmas.Option.{same_Some, none-some}
use Rattle.std.specs.Str.{bytes_eq}
use Rattle.fir_base.specs.Lists.{In}
use Rattle.fir_base.proofs.Members.{in_left, in_right, in_either, in_map}
use Rattle.fir_base.proofs.SameNames.{name_is}
use Rattle.fir_ast.specs.Types.{DataType, bundle, vector, Fields, no_fields, field}
use Rattle.fir_ast.specs.Expressions.{Parts, no_parts, subfield, subindex, subaccess}
use Rattle.fir_meaning.specs.LeafPaths.{Step, LeafPath, named, element}
use Rattle.fir_meaning.specs.TypeKinds.{FieldFound, field_named}
use Rattle.fir_meaning.specs.TypeLeaves.{TypeLeaf, under, element_leaves, type_leaves, field_leaves, leaf_count}
use Rattle.fir_meaning.specs.TypedScopes.{TypedScope}
use Rattle.fir_meaning.specs.Reaching.{Reached, at_field, at_element, at_any, field_of_type, vector_of_type}
use Rattle.fir_meaning.specs.working.WellTyped.{Leads}
use Rattle.fir_types.specs.working.Notes.{Pick, LeafRange, field_range, element_range, picked_range, range_behind}
use Rattle.fir_types.specs.working.Seen.{steps_of}
use Rattle.fir_meaning.specs.ResetItems.{type_of_field, type_of_element, length_of_vector, of_elements, paths_along, has_access}
use Rattle.fir_reset.specs.working.ElementPaths.{any_element}

-- the leaves of a field that is found, and of an element, behind their step
in_named : (x : List ℕ) (fs : Fields) (f : FieldFound) (k : TypeLeaf) → field_named x fs ≡ Some f → In (type_leaves f.data_type) k
    → In (field_leaves fs) (under f.flip (named x) k)
in_named x no_fields f k e m = absurd (none-some f e)
in_named x (field p flip y b t rest) f k e m = by (bytes_eq y x) refl e (λ i. in_named x rest f k i m)
  where
    here : List TypeLeaf
    here = map (under flip (named y)) (type_leaves t)

    by : (b : Bool) → bytes_eq y x ≡ b → (if b then Some (record { flip = flip; data_type = t }) else field_named x rest) ≡ Some f
        → (field_named x rest ≡ Some f → In (field_leaves rest) (under f.flip (named x) k)) → In (here ++ field_leaves rest) (under f.flip (named x) k)
    by true h i later =
        let same : record { flip = flip; data_type = t } ≡ f = same_Some _ f i in
        let inside = in_map (under flip (named y)) (type_leaves t) k (subst (λ (g : FieldFound). In (type_leaves g.data_type) k) (sym same) m) in
        in_left here (field_leaves rest) (under f.flip (named x) k)
        (subst (λ n. In here (under f.flip (named n) k)) (name_is y x h) (subst (λ (g : FieldFound). In here (under g.flip (named y) k)) same inside))
    by false h i later = in_right here (field_leaves rest) (under f.flip (named x) k) (later i)

in_field : (x : List ℕ) (t : DataType) (f : FieldFound) (k : TypeLeaf) → field_of_type x t ≡ Some f → In (type_leaves f.data_type) k → In (type_leaves t) (under f.flip (named x) k)
in_field x (bundle fs) f k e m = in_named x fs f k e m
in_field x t f k e m = absurd (none-some f e)

in_elements : (j n i : ℕ) (ls : List TypeLeaf) (k : TypeLeaf) → i < n → In ls k → In (element_leaves j n ls) (under false (element (j + i)) k)
in_elements j zero i ls k h m = absurd (omega (arith, h))
in_elements j (suc n) zero ls k h m =
    let same : j ≡ j + 0 = omega arith in
    in_left (map (under false (element j)) ls) (element_leaves (j + 1) n ls) (under false (element (j + 0)) k)
    (subst (λ z. In (map (under false (element j)) ls) (under false (element z) k)) same (in_map (under false (element j)) ls k m))
in_elements j (suc n) (suc i) ls k h m =
    let same : j + 1 + i ≡ j + suc i = omega arith in
    in_right (map (under false (element j)) ls) (element_leaves (j + 1) n ls) (under false (element (j + suc i)) k)
    (subst (λ z. In (element_leaves (j + 1) n ls) (under false (element z) k)) same (in_elements (j + 1) n i ls k (omega (arith, h)) m))

pub in_vector : (t : DataType) (u : DataType) (n i : ℕ) (k : TypeLeaf) → vector_of_type t ≡ Some (u, n) → i < n → In (type_leaves u) k → In (type_leaves t) (under false (element i) k)
in_vector (vector v m) u n i k e h j =
    let one : DataType × ℕ = (v, m) in
    let other : DataType × ℕ = (u, n) in
    let pair : one ≡ other = same_Some one other e in
    let types : v ≡ u = ap (λ (x : DataType × ℕ). x.0) pair in
    let lengths : m ≡ n = ap (λ (x : DataType × ℕ). x.1) pair in
    let zero_more : 0 + i ≡ i = omega arith in
    subst (λ z. In (element_leaves 0 m (type_leaves v)) (under false (element z) k)) zero_more
    (in_elements 0 m i (type_leaves v) k (omega (arith, h, lengths)) (subst (λ w. In (type_leaves w) k) (sym types) j))
in_vector t u n i k e h j = absurd (none-some (u, n) e)

-- one of the elements
record OfElement (j n : ℕ) (f : ℕ → List LeafPath) (q : LeafPath) : Type 0 where
  index : ℕ
  least : j ≤ index
  within : index < j + n
  among : In (f index) q

of_element : (j n : ℕ) (f : ℕ → List LeafPath) (q : LeafPath) → In (of_elements j n f) q → OfElement j n f q
of_element j zero f q m = absurd m
of_element j (suc n) f q m =
    ⊎_elim
    (λ (k : In (f j) q). record { index = j; least = omega arith; within = omega arith; among = k })
    (λ (k : In (of_elements (suc j) n f) q).
    let r = of_element (suc j) n f q k in
    record { index = r.index; least = omega (arith, r.least); within = omega (arith, r.within); among = r.among })
    (in_either (f j) (of_elements (suc j) n f) q m)

-- a leaf of what is reached, as one of what the walk begins with
pub record IsLeafBehind (path q : LeafPath) (t : DataType) (l : TypeLeaf) : Type 0 where
  pub leaf : TypeLeaf
  pub among : In (type_leaves t) leaf
  pub path_is : q ++ l.path ≡ path ++ leaf.path
  pub ground_type : leaf.ground_type ≡ l.ground_type

step_further : (path : LeafPath) (s : Step) (rest : LeafPath) → (path ++ s ∷ []) ++ rest ≡ path ++ s ∷ rest
step_further path s rest = append_assoc path (s ∷ []) rest

module _ (scope : TypedScope) where
  pub leaf_behind : (r s : Reached) (ps : Parts) → Leads scope r ps s → (path q : LeafPath) → In (paths_along path r.data_type ps) q → (l : TypeLeaf) → In (type_leaves s.data_type) l
      → IsLeafBehind path q r.data_type l
  leaf_behind r s no_parts h path q (inl e) l m =
      record { leaf = l; among = subst (λ (x : Reached). In (type_leaves x.data_type) l) h m; path_is = ap (λ z. z ++ l.path) (sym e); ground_type = refl }
  leaf_behind r s no_parts h path q (inr f) l m = absurd f
  leaf_behind r s (subfield first p x rest) h path q i l m =
      let f = h.0 in
      let type : type_of_field (field_of_type x r.data_type) ≡ f.data_type = ap type_of_field h.1 in
      let b = leaf_behind (at_field x r f) s rest h.2 (path ++ named x ∷ []) q (subst (λ t. In (paths_along (path ++ named x ∷ []) t rest) q) type i) l m in
      record {
        leaf = under f.flip (named x) b.leaf;
        among = in_field x r.data_type f b.leaf h.1 b.among;
        path_is = b.path_is ∙ step_further path (named x) b.leaf.path;
        ground_type = b.ground_type;
      }
  leaf_behind r s (subindex first p j rest) h path q i l m =
      let type : type_of_element (vector_of_type r.data_type) ≡ h.0 = ap type_of_element h.2 in
      let b = leaf_behind (at_element j r h.0) s rest h.4 (path ++ element j ∷ []) q (subst (λ t. In (paths_along (path ++ element j ∷ []) t rest) q) type i) l m in
      record {
        leaf = under false (element j) b.leaf;
        among = in_vector r.data_type h.0 h.1 j b.leaf h.2 h.3 b.among;
        path_is = b.path_is ∙ step_further path (element j) b.leaf.path;
        ground_type = b.ground_type;
      }
  leaf_behind r s (subaccess first e rest) h path q i l m =
      let type : type_of_element (vector_of_type r.data_type) ≡ h.1 = ap type_of_element h.4 in
      let length : length_of_vector (vector_of_type r.data_type) ≡ h.2 = ap length_of_vector h.4 in
      let o = of_element 0 (length_of_vector (vector_of_type r.data_type))
      (λ j. paths_along (path ++ element j ∷ []) (type_of_element (vector_of_type r.data_type)) rest) q i in
      let j = o.index in
      let b = leaf_behind (at_any r (h.1, h.2)) s rest h.5 (path ++ element j ∷ []) q (subst (λ t. In (paths_along (path ++ element j ∷ []) t rest) q) type o.among) l m in
      record {
        leaf = under false (element j) b.leaf;
        among = in_vector r.data_type h.1 h.2 j b.leaf h.4 (omega (arith, o.within, length)) b.among;
        path_is = b.path_is ∙ step_further path (element j) b.leaf.path;
        ground_type = b.ground_type;
      }

-- all paths are alike
like_step : (path : LeafPath) (s z : Step) (rest : LeafPath) → any_element s ≡ any_element z → map any_element ((path ++ s ∷ []) ++ rest) ≡ map any_element (path ++ z ∷ rest)
like_step path s z rest e =
    ap (map any_element) (step_further path s rest) ∙ map-append any_element path (s ∷ rest) ∙ ap (λ y. map any_element path ++ y ∷ map any_element rest) e
    ∙ sym (map-append any_element path (z ∷ rest))

pub paths_alike : (ps : Parts) (t : DataType) (path q : LeafPath) → In (paths_along path t ps) q → map any_element q ≡ map any_element (path ++ steps_of ps)
paths_alike no_parts t path q (inl e) = ap (map any_element) (sym e ∙ sym (append-nil path))
paths_alike no_parts t path q (inr f) = absurd f
paths_alike (subfield first p x rest) t path q m =
    paths_alike rest (type_of_field (field_of_type x t)) (path ++ named x ∷ []) q m ∙ like_step path (named x) (named x) (steps_of rest) refl
paths_alike (subindex first p i rest) t path q m =
    paths_alike rest (type_of_element (vector_of_type t)) (path ++ element i ∷ []) q m ∙ like_step path (element i) (element i) (steps_of rest) refl
paths_alike (subaccess first e rest) t path q m =
    let u = type_of_element (vector_of_type t) in
    let o = of_element 0 (length_of_vector (vector_of_type t)) (λ j. paths_along (path ++ element j ∷ []) u rest) q m in
    paths_alike rest u (path ++ element o.index ∷ []) q o.among ∙ like_step path (element o.index) (element 0) (steps_of rest) refl

-- the lengths of the vectors in which dynamic indices pick
abbrev pub lengths_along : DataType → Parts → List ℕ
lengths_along t no_parts = []
lengths_along t (subfield first p x rest) = lengths_along (type_of_field (field_of_type x t)) rest
lengths_along t (subindex first p i rest) = lengths_along (type_of_element (vector_of_type t)) rest
lengths_along t (subaccess first e rest) = length_of_vector (vector_of_type t) ∷ lengths_along (type_of_element (vector_of_type t)) rest

abbrev pub AllSome : List ℕ → Type 0
AllSome [] = Unit {0}
AllSome (zero ∷ ns) = ⊥
AllSome (suc n ∷ ns) = AllSome ns

some_elements : (n : ℕ) (ns : List ℕ) → AllSome (n ∷ ns) → (0 < n) × AllSome ns
some_elements zero ns h = absurd h
some_elements (suc n) ns h = (omega arith, h)

all_some : (n : ℕ) (ns : List ℕ) → 0 < n → AllSome ns → AllSome (n ∷ ns)
all_some zero ns h i = absurd (omega (arith, h))
all_some (suc n) ns h i = i

first_element : (n : ℕ) (f : ℕ → List LeafPath) (q : LeafPath) → 0 < n → In (f 0) q → In (of_elements 0 n f) q
first_element zero f q h m = absurd (omega (arith, h))
first_element (suc n) f q h m = in_left (f 0) (of_elements 1 n f) q m

-- where each is some the first path is there; and where one is none no path is
pub first_path : (ps : Parts) (t : DataType) (path : LeafPath) → AllSome (lengths_along t ps) → In (paths_along path t ps) (path ++ steps_of ps)
first_path no_parts t path h = inl (sym (append-nil path))
first_path (subfield first p x rest) t path h =
    subst (In (paths_along (path ++ named x ∷ []) (type_of_field (field_of_type x t)) rest)) (step_further path (named x) (steps_of rest))
    (first_path rest (type_of_field (field_of_type x t)) (path ++ named x ∷ []) h)
first_path (subindex first p i rest) t path h =
    subst (In (paths_along (path ++ element i ∷ []) (type_of_element (vector_of_type t)) rest)) (step_further path (element i) (steps_of rest))
    (first_path rest (type_of_element (vector_of_type t)) (path ++ element i ∷ []) h)
first_path (subaccess first e rest) t path h =
    let u = type_of_element (vector_of_type t) in
    let some = some_elements (length_of_vector (vector_of_type t)) (lengths_along u rest) h in
    first_element (length_of_vector (vector_of_type t)) (λ j. paths_along (path ++ element j ∷ []) u rest) (path ++ element 0 ∷ steps_of rest) some.0
    (subst (In (paths_along (path ++ element 0 ∷ []) u rest)) (step_further path (element 0) (steps_of rest)) (first_path rest u (path ++ element 0 ∷ []) some.1))

pub path_some : (ps : Parts) (t : DataType) (path q : LeafPath) → In (paths_along path t ps) q → AllSome (lengths_along t ps)
path_some no_parts t path q m = tt
path_some (subfield first p x rest) t path q m = path_some rest (type_of_field (field_of_type x t)) (path ++ named x ∷ []) q m
path_some (subindex first p i rest) t path q m = path_some rest (type_of_element (vector_of_type t)) (path ++ element i ∷ []) q m
path_some (subaccess first e rest) t path q m =
    let u = type_of_element (vector_of_type t) in
    let n = length_of_vector (vector_of_type t) in
    let o = of_element 0 n (λ j. paths_along (path ++ element j ∷ []) u rest) q m in
    all_some n (lengths_along u rest) (omega (arith, o.within)) (path_some rest u (path ++ element o.index ∷ []) q o.among)

-- an index is dynamic exactly where there is a length
pub no_access : (ps : Parts) (t : DataType) → lengths_along t ps ≡ [] → has_access ps ≡ false
no_access no_parts t h = refl
no_access (subfield first p x rest) t h = no_access rest (type_of_field (field_of_type x t)) h
no_access (subindex first p i rest) t h = no_access rest (type_of_element (vector_of_type t)) h
no_access (subaccess first e rest) t h = cc

pub some_access : (ps : Parts) (t : DataType) (n : ℕ) (ns : List ℕ) → lengths_along t ps ≡ n ∷ ns → has_access ps ≡ true
some_access no_parts t n ns h = cc
some_access (subfield first p x rest) t n ns h = some_access rest (type_of_field (field_of_type x t)) n ns h
some_access (subindex first p i rest) t n ns h = some_access rest (type_of_element (vector_of_type t)) n ns h
some_access (subaccess first e rest) t n ns h = refl

-- the code's note of a reference has the type that is reached, and these lengths
pub record RangeIs (scope : TypedScope) (range : LeafRange) (t : DataType) (ps : Parts) (s : Reached) : Type 0 where
  pub data_type : (range_behind range ps).data_type ≡ s.data_type
  pub lengths : map (λ (p : Pick). p.length) (range_behind range ps).picks ≡ map (λ (p : Pick). p.length) range.picks ++ lengths_along t ps

abbrev lengths_of : List Pick → List ℕ
lengths_of = map (λ (p : Pick). p.length)

pub range_is : (scope : TypedScope) (r s : Reached) (ps : Parts) → Leads scope r ps s → (range : LeafRange) → range.data_type ≡ r.data_type → RangeIs scope range r.data_type ps s
range_is scope r s no_parts h range e = record { data_type = e ∙ ap (λ (x : Reached). x.data_type) (sym h); lengths = sym (append-nil (lengths_of range.picks)) }
range_is scope r s (subfield first p x rest) h range e =
    let f = h.0 in
    let found : field_of_type x range.data_type ≡ Some f = ap (field_of_type x) e ∙ h.1 in
    let next = field_range x range (Some f) in
    let i = range_is scope (at_field x r f) s rest h.2 next refl in
    let there : range_behind (field_range x range (field_of_type x range.data_type)) rest ≡ range_behind next rest = ap (λ o. range_behind (field_range x range o) rest) found in
    let type : type_of_field (field_of_type x r.data_type) ≡ f.data_type = ap type_of_field h.1 in
    record {
      data_type = ap (λ (z : LeafRange). z.data_type) there ∙ i.data_type;
      lengths = ap (λ (z : LeafRange). lengths_of z.picks) there ∙ i.lengths ∙ ap (λ t. lengths_of range.picks ++ lengths_along t rest) (sym type);
    }
range_is scope r s (subindex first p j rest) h range e =
    let v : DataType × ℕ = (h.0, h.1) in
    let found : vector_of_type range.data_type ≡ Some v = ap vector_of_type e ∙ h.2 in
    let next = element_range j range (Some v) in
    let i = range_is scope (at_element j r h.0) s rest h.4 next refl in
    let there : range_behind (element_range j range (vector_of_type range.data_type)) rest ≡ range_behind next rest = ap (λ o. range_behind (element_range j range o) rest) found in
    let type : type_of_element (vector_of_type r.data_type) ≡ h.0 = ap type_of_element h.2 in
    record {
      data_type = ap (λ (z : LeafRange). z.data_type) there ∙ i.data_type;
      lengths = ap (λ (z : LeafRange). lengths_of z.picks) there ∙ i.lengths ∙ ap (λ t. lengths_of range.picks ++ lengths_along t rest) (sym type);
    }
range_is scope r s (subaccess first x rest) h range e =
    let v : DataType × ℕ = (h.1, h.2) in
    let found : vector_of_type range.data_type ≡ Some v = ap vector_of_type e ∙ h.4 in
    let next = picked_range range (Some v) in
    let i = range_is scope (at_any r v) s rest h.5 next refl in
    let there : range_behind (picked_range range (vector_of_type range.data_type)) rest ≡ range_behind next rest = ap (λ o. range_behind (picked_range range o) rest) found in
    let type : type_of_element (vector_of_type r.data_type) ≡ h.1 = ap type_of_element h.4 in
    let length : length_of_vector (vector_of_type r.data_type) ≡ h.2 = ap length_of_vector h.4 in
    record {
      data_type = ap (λ (z : LeafRange). z.data_type) there ∙ i.data_type;
      lengths =
          ap (λ (z : LeafRange). lengths_of z.picks) there ∙ i.lengths
          ∙ ap (λ l. l ++ lengths_along h.1 rest) (map-append (λ (p : Pick). p.length) range.picks (record { stride = leaf_count h.1; length = h.2 } ∷ []))
          ∙ append_assoc (lengths_of range.picks) (h.2 ∷ []) (lengths_along h.1 rest)
          ∙ ap (λ t. lengths_of range.picks ++ h.2 ∷ lengths_along t rest) (sym type)
          ∙ ap (λ n. lengths_of range.picks ++ n ∷ lengths_along (type_of_element (vector_of_type r.data_type)) rest) (sym length);
    }
