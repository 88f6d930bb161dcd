-- Targets by numbers that stand for aims by paths: of a name, and one part further.
use Rattle.std.proofs.Common.{◌≡◌, ℕ, ◌+◌, ◌*◌, ◌<◌, ◌≤◌, List, [], ◌∷◌, Bool, true, false, length, slice_get, refl, sym, ap, ◌∙◌, arith, append_assoc, Option, Some, None, option_map, nat_lt, if◌then◌else◌}
use Rattle.std.proofs.lemmas.Bool.{ltb-true, lt-ltb}
use Rattle.fir_ast.specs.declared.place.Place.{Place}
use Rattle.fir_ast.specs.Types.{DataType, bundle, vector}
use Rattle.fir_meaning.specs.LeafPaths.{LeafPath, Step, named, element}
use Rattle.fir_meaning.specs.Reaching.{field_of_type, vector_of_type}
use Rattle.fir_meaning.specs.ResetJoins.{type_of_known}
use Rattle.fir_meaning.specs.TypeKinds.{FieldFound}
use Rattle.fir_meaning.specs.TypeLeaves.{TypeLeaf, under, type_leaves, leaf_count}
use Rattle.fir_meaning.specs.TypedScopes.{TypedScope, known}
use Rattle.fir_meaning.specs.working.FieldSizes.{leaves_before}
use Rattle.fir_leaf.specs.working.LeafLaws.{numbered, path_at, scope_paths, Begins}
use Rattle.fir_leaf.specs.working.Standing.{Stands, leaf_from}
use Rattle.fir_meaning.specs.working.Targets.{Target, leaves_ahead, named_target, stride_from, field_target, element_target, picked_target, further}
use Rattle.fir_meaning.specs.working.Terms.{Term, Picks, no_picks, pick}
use Rattle.fir_meaning.specs.working.TermValues.{Holds, eval, leaf_of}
use Rattle.fir_meaning.specs.TreeAims.{Aim, one_step_further, named_aim, step_aim, field_aim, element_aim, picked_aim}
use Rattle.fir_meaning.specs.TreeValues.{TypesByPath, ValuesByPath, leaf_where}
use Rattle.fir_leaf.proofs.LeafPlaces.{StandsFrom, field_stands_from, field_within, element_stands_from, element_within}
use Rattle.fir_leaf.proofs.NamedPlaces.{path_of_named, named_in_whole}

-- so many leaves further
leaf_of_more : (h : Holds) (e : ℕ → ℕ) (b m : ℕ) (ps : Picks) → leaf_of h e (b + m) ps ≡ option_map (λ k. k + m) (leaf_of h e b ps)
leaf_of_more h e b m no_picks = refl
leaf_of_more h e b m (pick ps p i n each) = rw (leaf_of_more h e b m ps) (by (nat_lt (eval h e i).value.number n) (leaf_of h e b ps))
  where
    v : ℕ
    v = (eval h e i).value.number

    swap : (k : ℕ) → (k + m) + v * each ≡ (k + v * each) + m
    swap k = omega arith

    by : (t : Bool) (o : Option ℕ)
        → (if t then option_map (λ k. k + v * each) (option_map (λ k. k + m) o) else None)
        ≡ option_map (λ k. k + m) (if t then option_map (λ k. k + v * each) o else None)
    by true None = refl
    by true (Some k) = ap Some (swap k)
    by false o = refl

leaf_further : (h : Holds) (e : ℕ → ℕ) (o : Option ℕ) (n k : ℕ) (ps : Picks) → leaf_from h e (further n o) ps k ≡ leaf_from h e o ps (n + k)
leaf_further h e None n k ps = refl
leaf_further h e (Some b) n k ps = let same : (b + n) + k ≡ b + (n + k) = omega arith in rw same refl

first_further : {A : Type 0} (f : ℕ → A) (o : Option ℕ) (n k : ℕ) → option_map (λ b. f (b + k)) (further n o) ≡ option_map (λ b. f (b + (n + k))) o
first_further f None n k = refl
first_further f (Some b) n k = let same : (b + n) + k ≡ b + (n + k) = omega arith in rw same refl

where_behind : (o : Option LeafPath) (s : Step) (q : LeafPath) → leaf_where (one_step_further o s) q ≡ leaf_where o (s ∷ q)
where_behind None s q = refl
where_behind (Some p) s q = ap Some (append_assoc p (s ∷ []) q)

before_further : (o : Option ℕ) (n b : ℕ) → further n o ≡ Some b → (first : ℕ) × (o ≡ Some first) × (first + n ≡ b)
before_further None n b e = absurd (cc)
before_further (Some first) n b e = (first, refl, cc)

-- the leaf that one more index picks
picked_leaf : (h : Holds) (e : ℕ → ℕ) (o : Option ℕ) (ps : Picks) (p : Place) (index : Term) (n c k : ℕ)
    → leaf_from h e o (pick ps p index n (stride_from o c)) k
    ≡ (if nat_lt (eval h e index).value.number n then leaf_from h e o ps ((eval h e index).value.number * c + k) else None)
picked_leaf h e None ps p index n c k = by (nat_lt (eval h e index).value.number n)
  where
    by : (t : Bool) → ◌≡◌ {A = Option ℕ} None (if t then None else None)
    by true = refl
    by false = refl
picked_leaf h e (Some b) ps p index n c k = by (nat_lt (eval h e index).value.number n)
  where
    v : ℕ
    v = (eval h e index).value.number

    far : b + (v * c + k) ≡ (b + k) + v * c
    far = omega arith

    by : (t : Bool) → (if t then option_map (λ y. y + v * c) (leaf_of h e (b + k) ps) else None) ≡ (if t then leaf_of h e (b + (v * c + k)) ps else None)
    by true = sym (ap (λ y. leaf_of h e y ps) far ∙ leaf_of_more h e (b + k) (v * c) ps)
    by false = refl

-- a part of a type: its leaves stand in a row, all behind one step
record IsPart (t : DataType) (first : ℕ) (flip : Bool) (s : Step) (u : DataType) : Type 0 where
  stands : StandsFrom (type_leaves t) first flip s (type_leaves u)
  within : first + leaf_count u ≤ leaf_count t

field_part : (t : DataType) (x : List ℕ) (f : FieldFound) → field_of_type x t ≡ Some f → IsPart t (leaves_before x t) f.flip (named x) f.data_type
field_part (bundle fs) x f h = record { stands = field_stands_from fs x f h; within = field_within fs x f h }
field_part t x f h = absurd (cc)

element_part : (t u : DataType) (n i : ℕ) → vector_of_type t ≡ Some (u, n) → i < n → IsPart t (i * leaf_count u) false (element i) u
element_part (vector t m) u n i h lt =
    let same : ◌≡◌ {A = DataType × ℕ} (t, m) (u, n) = cc in
    let is : t ≡ u = ap (λ (v : DataType × ℕ). v.0) same in
    let long : m ≡ n = ap (λ (v : DataType × ℕ). v.1) same in
    let less : i < m = omega arith in
    rw (← is) (record { stands = element_stands_from t m i less; within = element_within m i (leaf_count t) less })
element_part t u n i h lt = absurd (cc)

module _ (whole : TypedScope) (holds : TypesByPath) (env : ValuesByPath) where
  pub named_stands : (scope : TypedScope) (name : List ℕ) (t : DataType) → Begins scope whole → type_of_known (known scope name) ≡ Some t
      → Stands whole holds env (named_target scope name) (named_aim scope name)
  named_stands scope name t b h =
      rw h (record {
        data_type = refl;
        at = λ k l e. ap Some (sym (path_of_named scope whole name t b h k l e));
        within = λ k y lt e.
            let is : leaves_ahead scope name + k ≡ y = cc in
            omega (arith, is, named_in_whole scope whole name t b h);
        first = λ k l e. ap Some (sym (path_of_named scope whole name t b h k l e));
        first_within = λ k y lt e.
            let is : leaves_ahead scope name ≡ y = cc in
            omega (arith, is, named_in_whole scope whole name t b h);
      })

  -- a step into a part
  part_stands : (r : Target) (a : Aim) (n : ℕ) (flip : Bool) (s : Step) (u : DataType) → IsPart r.data_type n flip s u → Stands whole holds env r a
      → Stands whole holds env (record { base = further n r.base; picks = r.picks; data_type = u }) (step_aim s u a)
  part_stands r a n flip s u part h = record {
    data_type = refl;
    at = λ k l e.
        where_behind a.at s l.path ∙ h.at (n + k) (under flip s l) (part.stands.each k l e)
        ∙ ap (option_map (path_at whole)) (sym (leaf_further (numbered whole holds) (numbered whole env) r.base n k r.picks));
    within = λ k y lt e.
        h.within (n + k) y (omega (arith, part.within)) (sym (leaf_further (numbered whole holds) (numbered whole env) r.base n k r.picks) ∙ e);
    first = λ k l e.
        where_behind a.first s l.path ∙ h.first (n + k) (under flip s l) (part.stands.each k l e) ∙ sym (first_further (path_at whole) r.base n k);
    first_within = λ k b lt e.
        let before = before_further r.base n b e in
        let there = h.first_within (n + k) before.0 (omega (arith, part.within)) before.1 in
        omega (arith, there, before.2);
  }

  pub field_stands : (x : List ℕ) (f : FieldFound) (r : Target) (a : Aim) → field_of_type x r.data_type ≡ Some f → Stands whole holds env r a
      → Stands whole holds env (field_target x r) (field_aim x a)
  field_stands x f r a h s =
      let of_aim : field_of_type x a.data_type ≡ Some f = ap (field_of_type x) (sym s.data_type) ∙ h in
      rw (h, of_aim) (part_stands r a (leaves_before x r.data_type) f.flip (named x) f.data_type (field_part r.data_type x f h) s)

  pub element_stands : (i : ℕ) (u : DataType) (n : ℕ) (r : Target) (a : Aim) → vector_of_type r.data_type ≡ Some (u, n) → i < n → Stands whole holds env r a
      → Stands whole holds env (element_target i r) (element_aim i a)
  element_stands i u n r a h lt s =
      let of_aim : vector_of_type a.data_type ≡ Some (u, n) = ap vector_of_type (sym s.data_type) ∙ h in
      rw (h, of_aim) (part_stands r a (i * leaf_count u) false (element i) u (element_part r.data_type u n i h lt) s)

  -- an element that an index picks, of the value that the index has
  pub picked_stands : (p : Place) (index : Term) (u : DataType) (n : ℕ) (r : Target) (a : Aim) → vector_of_type r.data_type ≡ Some (u, n)
      → Stands whole holds env r a
      → Stands whole holds env (picked_target p index r) (picked_aim (eval (numbered whole holds) (numbered whole env) index).value.number a)
  picked_stands p index u n r a h s =
      let of_aim : vector_of_type a.data_type ≡ Some (u, n) = ap vector_of_type (sym s.data_type) ∙ h in
      rw (h, of_aim) (by (nat_lt 0 n) refl)
    where
      types : Holds
      types = numbered whole holds

      numbers : ℕ → ℕ
      numbers = numbered whole env

      number : ℕ
      number = (eval (numbered whole holds) (numbered whole env) index).value.number

      elements : (i : ℕ) → i < n → IsPart r.data_type (i * leaf_count u) false (element i) u
      elements i lt = element_part r.data_type u n i h lt

      -- what the index picks
      reached : (t : Bool) → nat_lt number n ≡ t → (k : ℕ) (l : TypeLeaf) → slice_get (type_leaves u) k ≡ Some l
          → leaf_where (if t then one_step_further a.at (element number) else None) l.path
          ≡ option_map (path_at whole) (if t then leaf_from (numbered whole holds) (numbered whole env) r.base r.picks (number * leaf_count u + k) else None)
      reached true lt k l e =
          where_behind a.at (element number) l.path
          ∙ s.at (number * leaf_count u + k) (under false (element number) l) ((elements number (ltb-true number n lt)).stands.each k l e)
      reached false lt k l e = refl

      reached_within : (t : Bool) → nat_lt number n ≡ t → (k y : ℕ) → k < leaf_count u
          → (if t then leaf_from (numbered whole holds) (numbered whole env) r.base r.picks (number * leaf_count u + k) else None) ≡ Some y
          → y < length (scope_paths whole)
      reached_within true lt k y less e =
          s.within (number * leaf_count u + k) y (omega (arith, (elements number (ltb-true number n lt)).within)) e
      reached_within false lt k y less e = absurd (cc)

      none_reached : (t : Bool) → nat_lt number n ≡ t → nat_lt 0 n ≡ false → (q : LeafPath)
          → leaf_where (if t then one_step_further a.at (element number) else None) q ≡ None
      none_reached true lt none q = let less : number < n = ltb-true number n lt in let some : nat_lt 0 n ≡ true = lt-ltb 0 n (omega arith) in absurd (cc)
      none_reached false lt none q = refl

      by : (t : Bool) → nat_lt 0 n ≡ t
          → Stands whole holds env
          (record {
            base = if t then r.base else None;
            picks = pick r.picks p index n (stride_from (if t then r.base else None) (leaf_count u));
            data_type = u;
          })
          (record {
            at = if nat_lt number n then one_step_further a.at (element number) else None;
            first = if t then one_step_further a.first (element 0) else None;
            data_type = u;
          })
      by true some =
          let zeroth = elements 0 (ltb-true 0 n some) in
          record {
            data_type = refl;
            at = λ k l e.
                reached (nat_lt number n) refl k l e
                ∙ ap (option_map (path_at whole)) (sym (picked_leaf types numbers r.base r.picks p index n (leaf_count u) k));
            within = λ k y lt e.
                reached_within (nat_lt number n) refl k y lt (sym (picked_leaf types numbers r.base r.picks p index n (leaf_count u) k) ∙ e);
            first = λ k l e.
                let same : 0 * leaf_count u + k ≡ k = omega arith in
                where_behind a.first (element 0) l.path
                ∙ rw same at (s.first (0 * leaf_count u + k) (under false (element 0) l) (zeroth.stands.each k l e));
            first_within = λ k b lt e. s.first_within k b (omega (arith, zeroth.within)) e;
          }
      by false none = record {
        data_type = refl;
        at = λ k l e. none_reached (nat_lt number n) refl none l.path;
        within = λ k y lt e. absurd (cc);
        first = λ k l e. refl;
        first_within = λ k b lt e. absurd (cc);
      }
