-- The numbers of what references name: each leaf of a target is below a bound, also each that its indices may pick.
use Rattle.std.proofs.Common.{◌≡◌, ℕ, zero, suc, ◌+◌, ◌*◌, ◌<◌, ◌≤◌, List, [], ◌∷◌, Bool, true, false, if◌then◌else◌, nat_lt, length, Option, Some, None, refl, ap, ◌∙◌, subst, inl, inr, arith}
use Rattle.std.specs.Prelude.{flat_map}
use Rattle.std.proofs.lemmas.Bool.{ltb-true}
use Rattle.fir_base.specs.Lists.{In}
use Rattle.fir_base.proofs.Members.{in_flat_map, in_flat_map_from}
use Rattle.fir_ast.specs.declared.place.Place.{Place}
use Rattle.fir_ast.specs.Types.{DataType, bundle, vector}
use Rattle.fir_meaning.specs.TypeLeaves.{leaf_count}
use Rattle.fir_meaning.specs.TypeKinds.{FieldFound}
use Rattle.fir_meaning.specs.TypedScopes.{TypedScope, known}
use Rattle.fir_meaning.specs.Reaching.{field_of_type, vector_of_type}
use Rattle.fir_meaning.specs.ResetJoins.{type_of_known}
use Rattle.fir_meaning.specs.working.FieldSizes.{leaves_before}
use Rattle.fir_meaning.specs.working.Terms.{Term, Picks, no_picks, pick}
use Rattle.fir_meaning.specs.working.TermReads.{multiples, reached}
use Rattle.fir_meaning.specs.working.Targets.{Target, leaves_ahead, named_target, stride_from, field_target, element_target, picked_target, further}
use Rattle.fir_leaf.specs.working.LeafNumbers.{AllBelow, TermWithin, PicksWithin}
use Rattle.fir_leaf.specs.working.LeafLaws.{scope_paths, Begins}
use Rattle.fir_leaf.proofs.LeafPlaces.{field_within, element_within}
use Rattle.fir_leaf.proofs.NamedPlaces.{named_in_whole}
use Rattle.fir_leaf.proofs.PickedLeaves.{in_multiples}

-- what an index may pick is one of the elements
from_multiples : (k n each y : ℕ) → In (multiples k n each) y → (i : ℕ) × (i < n) × (y ≡ k + i * each)
unfolding multiples
from_multiples k zero each y m = absurd m
from_multiples k (suc n) each y (inl e) = (0, omega arith, omega (arith, e))
from_multiples k (suc n) each y (inr m) = let r = from_multiples (k + each) n each y m in (suc r.0, omega arith, r.2 ∙ grind arith)

-- so many leaves further
reached_more : (b d y : ℕ) (ps : Picks) → In (reached b ps) y → In (reached (b + d) ps) (y + d)
reached_more b d y no_picks (inl e) = inl (ap (λ z. z + d) e)
reached_more b d y no_picks (inr m) = absurd m
reached_more b d y (pick ps p i n each) m =
    let r = in_flat_map_from (λ k. multiples k n each) (reached b ps) y m in
    let at = from_multiples r.0 n each y r.2 in
    in_flat_map (λ k. multiples k n each) (reached (b + d) ps) (r.0 + d) (y + d) (reached_more b d r.0 ps r.1)
    (in_multiples at.0 (r.0 + d) n each (y + d) at.1 (omega (arith, at.2)))

-- each leaf of the target's type
pub record TargetWithin (n : ℕ) (r : Target) : Type 0 where
  pub picks : PicksWithin n r.picks
  pub leaf : (b k : ℕ) → r.base ≡ Some b → k < leaf_count r.data_type → b + k < n
  pub each : (b k : ℕ) → r.base ≡ Some b → k < leaf_count r.data_type → AllBelow n (reached (b + k) r.picks)

before_further : (o : Option ℕ) (n b : ℕ) → further n o ≡ Some b → (first : ℕ) × (o ≡ Some first) × (first + n ≡ b)
before_further None n b e = absurd (cc)
before_further (Some first) n b e = (first, refl, cc)

pub named_numbers : (scope whole : TypedScope) (name : List ℕ) (t : DataType) → Begins scope whole → type_of_known (known scope name) ≡ Some t
    → TargetWithin (length (scope_paths whole)) (named_target scope name)
named_numbers scope whole name t front h =
    rw h (record {
      picks = tt;
      leaf = λ b k e lt. let is : leaves_ahead scope name ≡ b = cc in omega (arith, is, named_in_whole scope whole name t front h);
      each = λ b k e lt. λ y m. let is : leaves_ahead scope name ≡ b = cc in one (b + k) y (omega (arith, is, named_in_whole scope whole name t front h)) m;
    })
  where
    one : (z y : ℕ) → z < length (scope_paths whole) → In (z ∷ []) y → y < length (scope_paths whole)
    one z y lt (inl e) = omega (arith, e)
    one z y lt (inr m) = absurd m

-- a part of a type
part_numbers : (n : ℕ) (r : Target) (first : ℕ) (u : DataType) → first + leaf_count u ≤ leaf_count r.data_type → TargetWithin n r
    → TargetWithin n (record { base = further first r.base; picks = r.picks; data_type = u })
part_numbers n r first u part h = record {
  picks = h.picks;
  leaf = λ b k e lt.
      let before = before_further r.base first b e in
      let there = h.leaf before.0 (first + k) before.1 (omega (arith, part)) in
      omega (arith, there, before.2);
  each = λ b k e lt.
      let before = before_further r.base first b e in
      let same : before.0 + (first + k) ≡ b + k = omega (arith, before.2) in
      subst (λ z. AllBelow n (reached z r.picks)) same (h.each before.0 (first + k) before.1 (omega (arith, part)));
}

pub field_numbers : (n : ℕ) (x : List ℕ) (f : FieldFound) (r : Target) → field_of_type x r.data_type ≡ Some f → TargetWithin n r
    → TargetWithin n (field_target x r)
field_numbers n x f r h within = rw h (part_numbers n r (leaves_before x r.data_type) f.data_type (by r.data_type h) within)
  where
    by : (t : DataType) → field_of_type x t ≡ Some f → leaves_before x t + leaf_count f.data_type ≤ leaf_count t
    by (bundle fs) e = field_within fs x f e
    by t e = absurd (cc)

elements_within : (t u : DataType) (n i : ℕ) → vector_of_type t ≡ Some (u, n) → i < n → i * leaf_count u + leaf_count u ≤ leaf_count t
elements_within (vector t m) u n i h lt =
    let same : ◌≡◌ {A = DataType × ℕ} (t, m) (u, n) = cc in
    let is : t ≡ u = ap (λ (v : DataType × ℕ). v.0) same in
    let long : m ≡ n = ap (λ (v : DataType × ℕ). v.1) same in
    let less : i < m = omega arith in
    rw (← is) (element_within m i (leaf_count t) less)
elements_within t u n i h lt = absurd (cc)

pub element_numbers : (n i : ℕ) (u : DataType) (count : ℕ) (r : Target) → vector_of_type r.data_type ≡ Some (u, count) → i < count → TargetWithin n r
    → TargetWithin n (element_target i r)
element_numbers n i u count r h lt within = rw h (part_numbers n r (i * leaf_count u) u (elements_within r.data_type u count i h lt) within)

-- the elements that an index picks
pub picked_numbers : (n : ℕ) (p : Place) (index : Term) (u : DataType) (count : ℕ) (r : Target) → vector_of_type r.data_type ≡ Some (u, count)
    → TermWithin n index → TargetWithin n r → TargetWithin n (picked_target p index r)
picked_numbers n p index u count r h inside within = rw h (by (nat_lt 0 count) refl)
  where
    -- an element further is in range
    picked : (b k y : ℕ) → r.base ≡ Some b → k < leaf_count u
        → In (flat_map (λ z. multiples z count (leaf_count u)) (reached (b + k) r.picks)) y → y < n
    picked b k y e lt m =
        let from = in_flat_map_from (λ z. multiples z count (leaf_count u)) (reached (b + k) r.picks) y m in
        let at = from_multiples from.0 count (leaf_count u) y from.2 in
        let far : In (reached ((b + k) + at.0 * leaf_count u) r.picks) (from.0 + at.0 * leaf_count u) =
        reached_more (b + k) (at.0 * leaf_count u) from.0 r.picks from.1 in
        let same : (b + k) + at.0 * leaf_count u ≡ b + (at.0 * leaf_count u + k) = omega arith in
        let long = elements_within r.data_type u count at.0 h at.1 in
        let there = within.each b (at.0 * leaf_count u + k) e (omega (arith, long)) (from.0 + at.0 * leaf_count u) (rw same at far) in
        omega (arith, there, at.2)

    by : (t : Bool) → nat_lt 0 count ≡ t
        → TargetWithin n
        (record {
          base = if t then r.base else None;
          picks = pick r.picks p index count (stride_from (if t then r.base else None) (leaf_count u));
          data_type = u;
        })
    by true some = record {
      picks = (within.picks, inside);
      leaf = λ b k e lt. within.leaf b k e (omega (arith, elements_within r.data_type u count 0 h (ltb-true 0 count some)));
      each = λ b k e lt y m. picked b k y e lt (rw e at m);
    }
    by false none = record { picks = (within.picks, inside); leaf = λ b k e lt. absurd (cc); each = λ b k e lt. absurd (cc) }
