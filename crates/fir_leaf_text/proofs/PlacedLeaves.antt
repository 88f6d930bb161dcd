-- Among the leaves of all declarations one is told by the number of its declaration, and by how many of the same declaration stand before it.
use Rattle.std.proofs.Common.{◌≡◌, ◌==◌, ℕ, zero, suc, ◌+◌, ◌-◌, ◌<◌, ◌≤◌, List, [], ◌∷◌, ◌++◌, ⊎_elim, Bool, count_by, map, take, length, cond, Option, Some, refl, ap, sym, ◌∙◌, arith}
use Rattle.std.specs.Prelude.{slice_get}
use Rattle.std.proofs.lemmas.Bool.{cases_lt, eq-eqb, ne_eqb}
use Rattle.std.proofs.lemmas.List.{length-map}
use Rattle.std.proofs.lemmas.List.Sums.{sum_by-cons}
use Rattle.std.proofs.lemmas.Option.{none-some, same_Some}
use Rattle.fir_base.proofs.Elements.{get_left, there}
use Rattle.fir_meaning.specs.FoundTypes.{leaves_of_data}
use Rattle.fir_meaning.specs.LeafPaths.{LeafPath, named}
use Rattle.fir_meaning.specs.TypeLeaves.{TypeLeaf}
use Rattle.fir_meaning.specs.TypedScopes.{Known, TypedScope}
use Rattle.fir_leaf.specs.working.LeafLaws.{known_paths, scope_paths}
use Rattle.fir_leaf.proofs.LeafPlaces.{get_mapped, get_right}
use Rattle.fir_leaf_text.specs.working.TypePaths.{paths_of}
use Rattle.fir_leaf_text.proofs.NumberedLeaves.{numbers_from}

-- how many of a number stand before a place
abbrev pub same_before : List ℕ → ℕ → ℕ → ℕ
same_before ns d x = count_by (λ n. n == d) (take x ns)

abbrev all_of : ℕ → List TypeLeaf → List ℕ
all_of n ls = map (λ l. n) ls

abbrev pub one_where : Bool → ℕ
one_where b = cond b 1 0

next_same : (d : ℕ) (ns : List ℕ) (x : ℕ) → same_before (d ∷ ns) d (suc x) ≡ suc (same_before ns d x)
next_same d ns x =
    let one = sum_by-cons (λ n. one_where (n == d)) d (take x ns) in
    let same : one_where (d == d) ≡ 1 = ap one_where (eq-eqb d d refl) in
    omega (arith, one, same)

next_other : (n d : ℕ) → n < d → (ns : List ℕ) (x : ℕ) → same_before (n ∷ ns) d (suc x) ≡ same_before ns d x
next_other n d less ns x =
    let one = sum_by-cons (λ k. one_where (k == d)) n (take x ns) in
    let other : one_where (n == d) ≡ 0 = ap one_where (ne_eqb n d (λ e. absurd (omega arith))) in
    omega (arith, one, other)

counted_within : (d : ℕ) (ls : List TypeLeaf) (rest : List ℕ) (x : ℕ) → x ≤ length ls → same_before (all_of d ls ++ rest) d x ≡ x
counted_within d ls rest zero h = refl
counted_within d [] rest (suc x) h = absurd (omega arith)
counted_within d (l ∷ ls) rest (suc x) h = next_same d (all_of d ls ++ rest) x ∙ ap suc (counted_within d ls rest x (omega arith))

counted_behind : (n d : ℕ) → n < d → (ls : List TypeLeaf) (rest : List ℕ) (x y : ℕ) → x ≡ length ls + y
    → same_before (all_of n ls ++ rest) d x ≡ same_before rest d y
counted_behind n d less [] rest x y h = ap (same_before rest d) (omega arith)
counted_behind n d less (l ∷ ls) rest zero y h = absurd (omega arith)
counted_behind n d less (l ∷ ls) rest (suc x) y h =
    next_other n d less (all_of n ls ++ rest) x ∙ counted_behind n d less ls rest x y (omega arith)

-- the leaf of a number among those of what is known at a position
pub record IsPlaced (ks : TypedScope) (position number : ℕ) (path : Option LeafPath) : Type 0 where
  pub known : Known
  pub steps : LeafPath
  pub is_known : slice_get ks position ≡ Some known
  pub among : slice_get (paths_of (leaves_of_data known.data_type)) number ≡ Some steps
  pub is_path : path ≡ Some (named known.name ∷ steps)

-- those of the first declaration stand in front
module _ (k : Known) (ks : TypedScope) (n d x : ℕ) (at : slice_get (numbers_from n (k ∷ ks)) x ≡ Some d) where
  abbrev own : List TypeLeaf
  own = leaves_of_data k.data_type

  abbrev numbers : List ℕ
  numbers = all_of n own ++ numbers_from (suc n) ks

  abbrev Placed : Type 0
  Placed = (n ≤ d) × IsPlaced (k ∷ ks) (d - n) (same_before numbers d x) (slice_get (scope_paths (k ∷ ks)) x)

  here : x < length own → Placed
  here less =
      let l = there own x less in
      let mine : slice_get (all_of n own) x ≡ Some n = get_mapped (λ y. n) own x l.0 l.1 in
      let same : n ≡ d =
      same_Some n d (sym (get_left (all_of n own) (numbers_from (suc n) ks) x (omega (arith, length-map own (λ y. n))) ∙ mine) ∙ at) in
      let first : d - n ≡ 0 = omega arith in
      let counted : same_before numbers d x ≡ x =
      ap (λ m. same_before numbers m x) (sym same) ∙ counted_within n own (numbers_from (suc n) ks) x (omega arith) in (
        omega arith,
        record {
          known = k;
          steps = (l.0).path;
          is_known = ap (slice_get (k ∷ ks)) first;
          among = ap (slice_get (paths_of own)) counted ∙ get_mapped (λ (y : TypeLeaf). y.path) own x l.0 l.1;
          is_path = get_left (known_paths k) (scope_paths ks) x (omega (arith, length-map own (λ (y : TypeLeaf). named k.name ∷ y.path)))
              ∙ get_mapped (λ (y : TypeLeaf). named k.name ∷ y.path) own x l.0 l.1;
        },
      )

  later : (y : ℕ) → x ≡ length own + y
      → (slice_get (numbers_from (suc n) ks) y ≡ Some d
      → (suc n ≤ d) × IsPlaced ks (d - suc n) (same_before (numbers_from (suc n) ks) d y) (slice_get (scope_paths ks) y))
      → Placed
  later y behind placed =
      let at_rest =
      sym (get_right (all_of n own) (numbers_from (suc n) ks) (length own) y (length-map own (λ z. n))) ∙ ap (slice_get numbers) (sym behind) ∙ at in
      let rest = placed at_rest in
      let next : d - n ≡ suc (d - suc n) = omega (arith, rest.0) in
      let p = rest.1 in (
        omega (arith, rest.0),
        record {
          known = p.known;
          steps = p.steps;
          is_known = ap (slice_get (k ∷ ks)) next ∙ p.is_known;
          among = ap (slice_get (paths_of (leaves_of_data p.known.data_type)))
              (counted_behind n d rest.0 own (numbers_from (suc n) ks) x y behind)
              ∙ p.among;
          is_path = ap (slice_get (scope_paths (k ∷ ks))) behind
              ∙ get_right (known_paths k) (scope_paths ks) (length own) y (length-map own (λ (z : TypeLeaf). named k.name ∷ z.path))
              ∙ p.is_path;
        },
      )

-- a leaf of a number, where the first declaration has a number
pub placed : (ks : TypedScope) (n d x : ℕ) → slice_get (numbers_from n ks) x ≡ Some d
    → (n ≤ d) × IsPlaced ks (d - n) (same_before (numbers_from n ks) d x) (slice_get (scope_paths ks) x)
placed [] n d x at = absurd (none-some d at)
placed (k ∷ ks) n d x at =
    let more = length (leaves_of_data k.data_type) in
    ⊎_elim (λ (h : x < more). here k ks n d x at h)
    (λ (h : more ≤ x). later k ks n d x at (x - more) (omega arith) (λ rest. placed ks (suc n) d (x - more) rest))
    (cases_lt x more)
