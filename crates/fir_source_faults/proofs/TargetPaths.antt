-- The leaves that a target may name at a leaf of its type have the paths of that leaf behind each of some paths: of a name, and one part further.
use Rattle.std.proofs.Common.{◌≡◌, ℕ, zero, suc, ◌+◌, ◌*◌, ◌<◌, List, [], ◌∷◌, ◌++◌, Bool, true, false, map, slice_get, refl, sym, ap, ap₂, ◌∙◌, arith, append_assoc, Option, Some, None, nat_lt, if◌then◌else◌, flat_map}
use Rattle.std.proofs.lemmas.Bool.{ltb-true, lt-ltb}
use Rattle.std.proofs.lemmas.List.{map-append}
use Rattle.std.proofs.Math.Nat.{suc-mul}
use Rattle.fir_ast.specs.declared.place.Place.{Place}
use Rattle.fir_ast.specs.Types.{DataType, bundle, vector}
use Rattle.fir_meaning.specs.working.FieldSizes.{leaves_before}
use Rattle.fir_meaning.specs.LeafPaths.{LeafPath, Step, named, element}
use Rattle.fir_meaning.specs.Reaching.{field_of_type, vector_of_type}
use Rattle.fir_meaning.specs.ResetJoins.{type_of_known}
use Rattle.fir_meaning.specs.working.Targets.{Target, named_target, stride_from, field_target, element_target, picked_target, further}
use Rattle.fir_meaning.specs.working.TermReads.{multiples, reached}
use Rattle.fir_meaning.specs.working.Terms.{Term, Picks, no_picks, pick}
use Rattle.fir_meaning.specs.TypeKinds.{FieldFound}
use Rattle.fir_meaning.specs.TypeLeaves.{TypeLeaf, under, type_leaves, leaf_count}
use Rattle.fir_meaning.specs.TypedScopes.{TypedScope, known}
use Rattle.fir_leaf.specs.working.LeafLaws.{path_at, Begins}
use Rattle.fir_leaf.proofs.LeafPlaces.{StandsFrom, field_stands_from, element_stands_from}
use Rattle.fir_leaf.proofs.NamedPlaces.{path_of_named}
use Rattle.fir_source_faults.specs.working.ReadsByPath.{leaves_from, leaves_of_target}
use Rattle.fir_source_faults.proofs.PathsAlong.{elements_of, none_spread, spread, stepped, stepped_on}

-- so many leaves further
multiples_more : (k m n each : ℕ) → multiples (k + m) n each ≡ map (λ y. y + m) (multiples k n each)
unfolding multiples
multiples_more k m zero each = refl
multiples_more k m (suc n) each =
    let same : (k + m) + each ≡ (k + each) + m = omega arith in
    ap (λ ys. (k + m) ∷ ys) (ap (λ z. multiples z n each) same ∙ multiples_more (k + each) m n each)

each_more : (m n each : ℕ) (zs : List ℕ)
    → flat_map (λ k. multiples k n each) (map (λ y. y + m) zs) ≡ map (λ y. y + m) (flat_map (λ k. multiples k n each) zs)
each_more m n each [] = refl
each_more m n each (z ∷ zs) =
    ap₂ (λ (xs ys : List ℕ). xs ++ ys) (multiples_more z m n each) (each_more m n each zs)
    ∙ sym (map-append (λ y. y + m) (multiples z n each) (flat_map (λ k. multiples k n each) zs))

reached_more : (b m : ℕ) (ps : Picks) → reached (b + m) ps ≡ map (λ y. y + m) (reached b ps)
reached_more b m no_picks = refl
reached_more b m (pick ps p i n each) = ap (flat_map (λ k. multiples k n each)) (reached_more b m ps) ∙ each_more m n each (reached b ps)

leaves_further : (o : Option ℕ) (n k : ℕ) (ps : Picks) → leaves_from (further n o) ps k ≡ leaves_from o ps (n + k)
leaves_further None n k ps = refl
leaves_further (Some b) n k ps = let same : (b + n) + k ≡ b + (n + k) = omega arith in ap (λ z. reached z ps) same

module _ (whole : TypedScope) where
  pub record HasPaths (r : Target) (paths : List LeafPath) : Type 0 where
    pub each : (k : ℕ) (l : TypeLeaf) → slice_get (type_leaves r.data_type) k ≡ Some l
        → map (path_at whole) (leaves_of_target r k) ≡ map (λ path. path ++ l.path) paths

  pub named_paths : (scope : TypedScope) (name : List ℕ) (t : DataType) → Begins scope whole → type_of_known (known scope name) ≡ Some t
      → HasPaths (named_target scope name) ((named name ∷ []) ∷ [])
  named_paths scope name t b h = rw h (record { each = λ k l e. ap (λ path. path ∷ []) (path_of_named scope whole name t b h k l e) })

  -- a part of a type, whose leaves stand in a row behind one step
  part_paths : (r : Target) (paths : List LeafPath) (n : ℕ) (flip : Bool) (s : Step) (u : DataType)
      → StandsFrom (type_leaves r.data_type) n flip s (type_leaves u) → HasPaths r paths
      → HasPaths (record { base = further n r.base; picks = r.picks; data_type = u }) (stepped s paths)
  part_paths r paths n flip s u part h = record {
    each = λ k l e.
        ap (map (path_at whole)) (leaves_further r.base n k r.picks) ∙ h.each (n + k) (under flip s l) (part.each k l e)
        ∙ stepped_on s l.path paths;
  }

  pub field_paths : (x : List ℕ) (f : FieldFound) (r : Target) (paths : List LeafPath) → field_of_type x r.data_type ≡ Some f → HasPaths r paths
      → HasPaths (field_target x r) (stepped (named x) paths)
  field_paths x f r paths h has =
      rw h (part_paths r paths (leaves_before x r.data_type) f.flip (named x) f.data_type (by r.data_type h) has)
    where
      by : (t : DataType) → field_of_type x t ≡ Some f → StandsFrom (type_leaves t) (leaves_before x t) f.flip (named x) (type_leaves f.data_type)
      by (bundle fs) e = field_stands_from fs x f e
      by t e = absurd (cc)

  element_part : (t u : DataType) (n i : ℕ) → vector_of_type t ≡ Some (u, n) → i < n
      → StandsFrom (type_leaves t) (i * leaf_count u) false (element i) (type_leaves u)
  element_part (vector t m) u n i h lt =
      let same : ◌≡◌ {A = DataType × ℕ} (t, m) (u, n) = cc in
      let is : t ≡ u = ap (λ (v : DataType × ℕ). v.0) same in
      let long : m ≡ n = ap (λ (v : DataType × ℕ). v.1) same in
      let less : i < m = omega arith in
      rw (← is) (element_stands_from t m i less)
  element_part t u n i h lt = absurd (cc)

  pub element_paths : (i : ℕ) (u : DataType) (n : ℕ) (r : Target) (paths : List LeafPath) → vector_of_type r.data_type ≡ Some (u, n) → i < n → HasPaths r paths
      → HasPaths (element_target i r) (stepped (element i) paths)
  element_paths i u n r paths h lt has =
      rw h (part_paths r paths (i * leaf_count u) false (element i) u (element_part r.data_type u n i h lt) has)

  -- the elements that an index may pick, from one leaf and one path on
  one_spread : (i n y c : ℕ) (path q : LeafPath) → ((j : ℕ) → j < n → path_at whole (y + j * c) ≡ path ++ element (i + j) ∷ q)
      → map (path_at whole) (multiples y n c) ≡ map (λ (p : LeafPath). p ++ q) (elements_of path i n)
  unfolding multiples
  one_spread i zero y c path q h = refl
  one_spread i (suc n) y c path q h =
      let none : y + 0 * c ≡ y = omega arith in
      let first : i + 0 ≡ i = omega arith in
      let here : path_at whole y ≡ path ++ element i ∷ q = rw (none, first) at (h 0 (omega arith)) in
      ap₂ (λ (one : LeafPath) (rest : List LeafPath). one ∷ rest) (here ∙ sym (append_assoc path (element i ∷ []) q))
      (one_spread (suc i) n (y + c) c path q (λ j lt.
      let far : (y + c) + j * c ≡ y + suc j * c = omega (arith, suc-mul j c) in
      let next : suc i + j ≡ i + suc j = omega arith in
      rw (far, next) (h (suc j) (omega arith))))

  all_spread : (n c : ℕ) (q : LeafPath) (zs : List ℕ) (paths : List LeafPath) → 0 < n
      → ((i : ℕ) → i < n → map (path_at whole) (map (λ z. z + i * c) zs) ≡ map (λ (path : LeafPath). path ++ element i ∷ q) paths)
      → map (path_at whole) (flat_map (λ z. multiples z n c) zs) ≡ map (λ (path : LeafPath). path ++ q) (spread n paths)
  all_spread n c q [] [] some h = refl
  all_spread n c q [] (path ∷ paths) some h = absurd (let e = h 0 some in cc)
  all_spread n c q (z ∷ zs) [] some h = absurd (let e = h 0 some in cc)
  all_spread n c q (z ∷ zs) (path ∷ paths) some h =
      map-append (path_at whole) (multiples z n c) (flat_map (λ y. multiples y n c) zs)
      ∙ ap₂ (λ (xs ys : List LeafPath). xs ++ ys)
      (one_spread 0 n z c path q (λ i lt. let e = h i lt in let same : 0 + i ≡ i = omega arith in rw same (cc)))
      (all_spread n c q zs paths some (λ i lt. let e = h i lt in cc))
      ∙ sym (map-append (λ (p : LeafPath). p ++ q) (elements_of path 0 n) (spread n paths))

  picked_each : (o : Option ℕ) (ps : Picks) (p : Place) (index : Term) (n c k : ℕ) (q : LeafPath) (paths : List LeafPath) → 0 < n
      → ((i : ℕ) → i < n → map (path_at whole) (leaves_from o ps (i * c + k)) ≡ map (λ (path : LeafPath). path ++ element i ∷ q) paths)
      → map (path_at whole) (leaves_from o (pick ps p index n (stride_from o c)) k) ≡ map (λ (path : LeafPath). path ++ q) (spread n paths)
  picked_each None ps p index n c k q [] some h = refl
  picked_each None ps p index n c k q (path ∷ paths) some h = absurd (let e = h 0 some in cc)
  picked_each (Some b) ps p index n c k q paths some h =
      all_spread n c q (reached (b + k) ps) paths some (λ i lt.
      let far : b + (i * c + k) ≡ (b + k) + i * c = omega arith in
      ap (map (path_at whole)) (sym (ap (λ z. reached z ps) far ∙ reached_more (b + k) (i * c) ps)) ∙ h i lt)

  pub picked_paths : (p : Place) (index : Term) (u : DataType) (n : ℕ) (r : Target) (paths : List LeafPath) → vector_of_type r.data_type ≡ Some (u, n)
      → HasPaths r paths → HasPaths (picked_target p index r) (spread n paths)
  picked_paths p index u n r paths h has = rw h (by (nat_lt 0 n) refl)
    where
      by : (t : Bool) → nat_lt 0 n ≡ t
          → HasPaths
          (record {
            base = if t then r.base else None;
            picks = pick r.picks p index n (stride_from (if t then r.base else None) (leaf_count u));
            data_type = u;
          })
          (spread n paths)
      by true some = record {
        each = λ k l e.
            picked_each r.base r.picks p index n (leaf_count u) k l.path paths (ltb-true 0 n some) (λ i lt.
            has.each (i * leaf_count u + k) (under false (element i) l) ((element_part r.data_type u n i h lt).each k l e));
      }
      by false none =
          let zeros : n ≡ 0 = empty n none in
          let nothing : spread n paths ≡ [] = ap (λ m. spread m paths) zeros ∙ none_spread paths in
          record { each = λ k l e. rw nothing refl }
        where
          empty : (m : ℕ) → nat_lt 0 m ≡ false → m ≡ 0
          empty zero e = refl
          empty (suc m) e = absurd (let f = lt-ltb 0 (suc m) (omega arith) in cc)
