-- The same of the parts of what a reference names: of a field, of an element, and of the elements that an index picks.
use Rattle.std.proofs.Common.{◌≡◌, ℕ, ◌+◌, ◌*◌, ◌-◌, ◌<◌, ◌≤◌, List, Bool, true, false, if◌then◌else◌, nat_lt, length, Option, Some, None, refl, ap, ◌∙◌, subst, inl, inr, ⊎_elim, arith}
use Rattle.std.proofs.lemmas.Bool.{ltb-true}
use Rattle.fir_ast.specs.declared.place.Place.{Place}
use Rattle.fir_ast.specs.Types.{DataType, bundle, vector}
use Rattle.fir_meaning.specs.TypeLeaves.{leaf_count}
use Rattle.fir_meaning.specs.TypeKinds.{FieldFound}
use Rattle.fir_meaning.specs.Reaching.{field_of_type, vector_of_type}
use Rattle.fir_meaning.specs.working.FieldSizes.{leaves_before}
use Rattle.fir_meaning.specs.working.LeafModules.{LeafModule}
use Rattle.fir_leaf.specs.working.SoundDesigns.{last_of}
use Rattle.fir_design_faults.proofs.AllTerms.{AllTermIn}
use Rattle.fir_meaning.specs.working.Terms.{Term, Picks, no_picks, pick}
use Rattle.fir_meaning.specs.working.Targets.{Target, stride_from, field_target, element_target, picked_target, further}
use Rattle.fir_leaf.proofs.LeafPlaces.{field_within, element_within}
use Rattle.fir_design_faults.proofs.ReadTargets.{IsBehind, IsTargetIn, LastBelow}

last_more : (b d : ℕ) (ps : Picks) → last_of (b + d) ps ≡ last_of b ps + d
last_more b d no_picks = refl
last_more b d (pick ps p i n each) = omega (arith, last_more b d ps)

before_further : (o : Option ℕ) (n b : ℕ) → further n o ≡ Some b → (first : ℕ) × (o ≡ Some first) × (first + n ≡ b)
before_further None n b e = absurd (cc)
before_further (Some first) n b e = (first, refl, cc)

elements_within : (t u : DataType) (n i : ℕ) → vector_of_type t ≡ Some (u, n) → i < n → i * leaf_count u + leaf_count u ≤ leaf_count t
elements_within (vector t m) u n i h lt =
    let same : ◌≡◌ {A = DataType × ℕ} (t, m) (u, n) = cc in
    let is : t ≡ u = ap (λ (v : DataType × ℕ). v.0) same in
    let long : m ≡ n = ap (λ (v : DataType × ℕ). v.1) same in
    let less : i < m = omega (arith, lt, long) in
    rw (← is) (element_within m i (leaf_count t) less)
elements_within t u n i h lt = absurd (cc)

-- a part of what a target names
part_below : (n : ℕ) (r : Target) (first : ℕ) (u : DataType) → first + leaf_count u ≤ leaf_count r.data_type → LastBelow n r
    → LastBelow n (record { base = further first r.base; picks = r.picks; data_type = u })
part_below n r first u part h = record {
  each = λ b k e lt.
      let before = before_further r.base first b e in
      let same : before.0 + (first + k) ≡ b + k = omega (arith, before.2) in
      subst (λ z. last_of z r.picks < n) same (h.each before.0 (first + k) before.1 (omega (arith, part, lt)));
}

part_behind : (n : ℕ) (r : Target) (first : ℕ) (u : DataType) → IsBehind n r
    → IsBehind n (record { base = further first r.base; picks = r.picks; data_type = u })
part_behind n r first u h = record {
  base = λ b e. let before = before_further r.base first b e in omega (arith, h.base before.0 before.1, before.2);
}

-- the elements that an index picks
picked_below : (n : ℕ) (p : Place) (index : Term) (u : DataType) (count : ℕ) (r : Target) → vector_of_type r.data_type ≡ Some (u, count)
    → 0 < count
    → LastBelow n r
    → LastBelow n (record { base = r.base; picks = pick r.picks p index count (stride_from r.base (leaf_count u)); data_type = u })
picked_below n p index u count r h some below = record {
  each = λ b k e lt.
      let last : count - 1 < count = omega (arith, some) in
      let far = (count - 1) * leaf_count u in
      let room = elements_within r.data_type u count (count - 1) h last in
      let there : last_of (b + (k + far)) r.picks < n = below.each b (k + far) e (omega (arith, room, lt)) in
      let same : b + (k + far) ≡ (b + k) + far = omega arith in
      let further_on : last_of (b + (k + far)) r.picks ≡ last_of (b + k) r.picks + far =
      ap (λ z. last_of z r.picks) same ∙ last_more (b + k) far r.picks in
      let stride : (count - 1) * stride_from r.base (leaf_count u) ≡ far = ap (λ o. (count - 1) * stride_from o (leaf_count u)) e in
      omega (arith, there, further_on, stride);
}

module _ (m : LeafModule) where
  part_in : (r : Target) (first : ℕ) (u : DataType) → first + leaf_count u ≤ leaf_count r.data_type → IsTargetIn m r
      → IsTargetIn m (record { base = further first r.base; picks = r.picks; data_type = u })
  part_in r first u part h = record {
    picks = h.picks;
    within = part_below (length m.leaves) r first u part h.within;
    ports =
        ⊎_elim (λ (l : LastBelow m.port_leaves r). inl (part_below m.port_leaves r first u part l))
        (λ (x : IsBehind m.port_leaves r). inr (part_behind m.port_leaves r first u x)) h.ports;
  }

  pub field_in : (x : List ℕ) (f : FieldFound) (r : Target) → field_of_type x r.data_type ≡ Some f → IsTargetIn m r
      → IsTargetIn m (field_target x r)
  field_in x f r h inside = rw h (part_in r (leaves_before x r.data_type) f.data_type (by r.data_type h) inside)
    where
      by : (t : DataType) → field_of_type x t ≡ Some f → leaves_before x t + leaf_count f.data_type ≤ leaf_count t
      by (bundle fs) e = field_within fs x f e
      by t e = absurd (cc)

  pub element_in : (i : ℕ) (u : DataType) (count : ℕ) (r : Target) → vector_of_type r.data_type ≡ Some (u, count) → i < count
      → IsTargetIn m r
      → IsTargetIn m (element_target i r)
  element_in i u count r h lt inside = rw h (part_in r (i * leaf_count u) u (elements_within r.data_type u count i h lt) inside)

  pub picked_in : (p : Place) (index : Term) (u : DataType) (count : ℕ) (r : Target) → vector_of_type r.data_type ≡ Some (u, count)
      → AllTermIn m index
      → IsTargetIn m r → IsTargetIn m (picked_target p index r)
  picked_in p index u count r h inside target = rw h (by (nat_lt 0 count) refl)
    where
      by : (t : Bool) → nat_lt 0 count ≡ t
          → IsTargetIn m
          (record {
            base = if t then r.base else None;
            picks = pick r.picks p index count (stride_from (if t then r.base else None) (leaf_count u));
            data_type = u;
          })
      by true some =
          let more = ltb-true 0 count some in
          record {
            picks = (target.picks, inside);
            within = picked_below (length m.leaves) p index u count r h more target.within;
            ports =
                ⊎_elim (λ (l : LastBelow m.port_leaves r). inl (picked_below m.port_leaves p index u count r h more l))
                (λ (x : IsBehind m.port_leaves r). inr (record { base = x.base })) target.ports;
          }
      by false none = record {
        picks = (target.picks, inside);
        within = record { each = λ b k e lt. absurd (cc) };
        ports = inl (record { each = λ b k e lt. absurd (cc) });
      }
