-- What leaves hold that a target names: what its sized type does, and so all leaves that its indices may pick.
use Rattle.std.proofs.Common.{◌≡◌, ℕ, zero, suc, ◌+◌, ◌*◌, ◌<◌, List, [], ◌∷◌, Bool, true, false, if◌then◌else◌, nat_lt, length, slice_get, Option, Some, None, refl, sym, ap, ◌∙◌, subst, inl, inr, arith}
use Rattle.std.specs.Prelude.{flat_map}
use Rattle.std.proofs.lemmas.Bool.{ltb-true}
use Rattle.std.proofs.lemmas.Bool.Decides.{nat_tests}
use Rattle.std.specs.List.{AllByRecursion}
use Rattle.fir_base.specs.Lists.{In}
use Rattle.fir_base.proofs.Members.{in_flat_map, in_flat_map_from}
use Rattle.fir_ast.specs.declared.place.Place.{Place}
use Rattle.fir_ast.specs.Types.{DataType}
use Rattle.fir_meaning.specs.working.FieldSizes.{leaves_before}
use Rattle.fir_meaning.specs.Reaching.{field_of_type, vector_of_type}
use Rattle.fir_meaning.specs.TypeKinds.{bare, FieldFound}
use Rattle.fir_meaning.specs.TypeLeaves.{TypeLeaf, type_leaves, leaf_count}
use Rattle.fir_meaning.specs.WidthExpressions.{Widths}
use Rattle.fir_meaning.specs.SizedTypes.{Sized, bare_type, sized_named, sized_found, fields_in, element_in}
use Rattle.fir_meaning.specs.working.Terms.{Term, Picks, no_picks, pick}
use Rattle.fir_meaning.specs.working.TermReads.{multiples, reached}
use Rattle.fir_meaning.specs.working.Targets.{Target, stride_from, field_target, element_target, picked_target, further}
use Rattle.fir_meaning.specs.working.Leafed.{leaf_term, leaf_terms, target_terms}
use Rattle.fir_meaning.specs.LeafTypes.{LeafType, number}
use Rattle.fir_meaning.specs.HeldTypes.{held_types}
use Rattle.fir_leaf.proofs.LeafPlaces.{leaves_counted}
use Rattle.fir_leaf.proofs.PickedLeaves.{in_multiples}
use Rattle.fir_leaf_types.specs.working.TypedTerms.{AreAlike, AreIndices, HasType, IsNarrow}
use Rattle.fir_leaf_types.proofs.HeldPlaces.{counted_by_type}
use Rattle.fir_leaf_types.proofs.StandingWidths.{Absent, Present}
use Rattle.fir_leaf_types.proofs.AbsentLeaves.{AreAbsent, absent_leaves}
use Rattle.fir_leaf_types.proofs.StandingParts.{IsPart, field_part, element_part, any_element}

-- what an index may pick is one of the elements
from_multiples : (k n each y : ℕ) → In (multiples k n each) y → (i : ℕ) × (i < n) × (y ≡ k + i * each)
unfolding multiples
from_multiples k zero each y m = absurd m
from_multiples k (suc n) each y (inl e) = (0, omega arith, omega (arith, e))
from_multiples k (suc n) each y (inr m) = let r = from_multiples (k + each) n each y m in (suc r.0, omega arith, r.2 ∙ grind arith)

-- so many leaves further
reached_more : (b d y : ℕ) (ps : Picks) → In (reached b ps) y → In (reached (b + d) ps) (y + d)
reached_more b d y no_picks (inl e) = inl (ap (λ z. z + d) e)
reached_more b d y no_picks (inr m) = absurd m
reached_more b d y (pick ps p i n each) m =
    let r = in_flat_map_from (λ k. multiples k n each) (reached b ps) y m in
    let at = from_multiples r.0 n each y r.2 in
    in_flat_map (λ k. multiples k n each) (reached (b + d) ps) (r.0 + d) (y + d) (reached_more b d r.0 ps r.1)
    (in_multiples at.0 (r.0 + d) n each (y + d) at.1 (omega (arith, at.2)))

-- term by term, each of its type
module _ (held : ℕ → LeafType) where
  abbrev pub HaveEach : List Term → List LeafType → Type 0
  HaveEach [] [] = Unit {0}
  HaveEach (t ∷ ts) (h ∷ hs) = HasType held t h × HaveEach ts hs
  HaveEach _ _ = ⊥

module _ (held : ℕ → LeafType) (w : Widths) where
  -- a leaf, and all that indices may pick for it
  pub record HoldsAt (b : ℕ) (ps : Picks) (h : LeafType) : Type 0 where
    pub first : held b ≡ h
    pub each : AreAlike held (reached b ps) h

  pub record StandsTyped (r : Target) (s : Sized) : Type 0 where
    pub shape : bare_type s ≡ bare r.data_type
    pub picks : AreIndices held r.picks
    pub leaf : (b k : ℕ) (h : LeafType) → r.base ≡ Some b → slice_get (held_types w s) k ≡ Some h → HoldsAt (b + k) r.picks h
    pub present : Present w r.data_type s
    pub absent : r.base ≡ None → Absent w r.data_type s

  before_further : (o : Option ℕ) (n b : ℕ) → further n o ≡ Some b → (first : ℕ) × (o ≡ Some first) × (first + n ≡ b)
  before_further None n b e = absurd (cc)
  before_further (Some first) n b e = (first, refl, cc)

  none_further : (o : Option ℕ) (n : ℕ) → further n o ≡ None → o ≡ None
  none_further None n e = refl
  none_further (Some first) n e = absurd (cc)

  part_typed : (r : Target) (s : Sized) (first : ℕ) (u : DataType) (v : Sized) → IsPart w r.data_type s first u v → StandsTyped r s
      → StandsTyped (record { base = further first r.base; picks = r.picks; data_type = u }) v
  part_typed r s first u v part h = record {
    shape = part.shape;
    picks = h.picks;
    leaf = λ b k x e there.
        let before = before_further r.base first b e in
        let same : before.0 + (first + k) ≡ b + k = omega (arith, before.2) in
        subst (λ z. HoldsAt z r.picks x) same (h.leaf before.0 (first + k) x before.1 (part.within k x there));
    present = part.present;
    absent = λ e. part.absent (h.absent (none_further r.base first e));
  }

  pub field_typed : (x : List ℕ) (f : FieldFound) (r : Target) (s : Sized) → field_of_type x r.data_type ≡ Some f → StandsTyped r s
      → StandsTyped (field_target x r) (sized_found (sized_named x (fields_in s)))
  field_typed x f r s e h =
      rw e
      (part_typed r s (leaves_before x r.data_type) f.data_type (sized_found (sized_named x (fields_in s)))
      (field_part w r.data_type s x f e h.shape h.present) h)

  pub element_typed : (i : ℕ) (u : DataType) (n : ℕ) (r : Target) (s : Sized) → vector_of_type r.data_type ≡ Some (u, n) → i < n → StandsTyped r s
      → StandsTyped (element_target i r) (element_in s)
  element_typed i u n r s e lt h =
      rw e (part_typed r s (i * leaf_count u) u (element_in s) (element_part w r.data_type s u n i e lt h.shape h.present) h)

  -- an element that an index picks
  pub picked_typed : (p : Place) (index : Term) (width : ℕ) (u : DataType) (n : ℕ) (r : Target) (s : Sized) → vector_of_type r.data_type ≡ Some (u, n)
      → HasType held index (number (record { signed = false; width = width })) → StandsTyped r s
      → StandsTyped (picked_target p index r) (element_in s)
  picked_typed p index width u n r s e has h = rw e (by (nat_lt 0 n) refl)
    where
      inside : (bare_type (element_in s) ≡ bare u) × Present w u (element_in s) × (n ≡ 0 → Absent w u (element_in s))
      inside = any_element w r.data_type s u n e h.shape h.present

      each : (b k : ℕ) (x : LeafType) → r.base ≡ Some b → slice_get (held_types w (element_in s)) k ≡ Some x
          → (y : ℕ) → In (flat_map (λ z. multiples z n (leaf_count u)) (reached (b + k) r.picks)) y → held y ≡ x
      each b k x i there y m =
          let from = in_flat_map_from (λ z. multiples z n (leaf_count u)) (reached (b + k) r.picks) y m in
          let at = from_multiples from.0 n (leaf_count u) y from.2 in
          let far : In (reached ((b + k) + at.0 * leaf_count u) r.picks) (from.0 + at.0 * leaf_count u) =
          reached_more (b + k) (at.0 * leaf_count u) from.0 r.picks from.1 in
          let same : (b + k) + at.0 * leaf_count u ≡ b + (at.0 * leaf_count u + k) = omega arith in
          let part = element_part w r.data_type s u n at.0 e at.1 h.shape h.present in
          let holds = h.leaf b (at.0 * leaf_count u + k) x i (part.within k x there) in
          ap held at.2 ∙ holds.each (from.0 + at.0 * leaf_count u) (rw same at far)

      by : (t : Bool) → nat_lt 0 n ≡ t
          → StandsTyped
          (record {
            base = if t then r.base else None;
            picks = pick r.picks p index n (stride_from (if t then r.base else None) (leaf_count u));
            data_type = u;
          })
          (element_in s)
      by true some =
          let zeroth = element_part w r.data_type s u n 0 e (ltb-true 0 n some) h.shape h.present in
          record {
            shape = inside.0;
            picks = (h.picks, width, has);
            leaf = λ b k x i there.
                let holds = h.leaf b (0 * leaf_count u + k) x i (zeroth.within k x there) in
                let none : b + (0 * leaf_count u + k) ≡ b + k = omega arith in
                record { first = ap held (sym none) ∙ holds.first; each = rw i (each b k x i there) };
            present = inside.1;
            absent = λ i. zeroth.absent (h.absent i);
          }
      by false none = record {
        shape = inside.0;
        picks = (h.picks, width, has);
        leaf = λ b k x i there. absurd (cc);
        present = inside.1;
        absent = λ i. inside.2 (grind (arith, nat_tests, none));
      }

  -- the terms of a target
  leaves_typed : (r : Target) (k : ℕ) (ls : List TypeLeaf) (hs : List LeafType) → length ls ≡ length hs → AreIndices held r.picks
      → ((b j : ℕ) (h : LeafType) → r.base ≡ Some b → slice_get hs j ≡ Some h → HoldsAt (b + (k + j)) r.picks h)
      → (r.base ≡ None → AreAbsent ls hs) → AllByRecursion IsNarrow hs → HaveEach held (leaf_terms r k ls) hs
  leaves_typed r k [] [] same ps at none narrow = tt
  leaves_typed r k [] (h ∷ hs) same ps at none narrow = absurd (omega (arith, same))
  leaves_typed r k (l ∷ ls) [] same ps at none narrow = absurd (omega (arith, same))
  leaves_typed r k (l ∷ ls) (h ∷ hs) same ps at none narrow = (
    one r.base refl,
    leaves_typed r (suc k) ls hs (omega (arith, same)) ps
        (λ b j x e there. let next : b + (suc k + j) ≡ b + (k + suc j) = omega arith in rw next (at b (suc j) x e there))
        (λ e. (none e).1) narrow.1,
  )
    where
      one : (o : Option ℕ) → r.base ≡ o → HasType held (leaf_term o r.picks k l.ground_type) h
      one None e = ((none e).0 narrow.0, narrow.0, ps)
      one (Some b) e =
          let first : b + (k + 0) ≡ b + k = omega arith in
          let holds : HoldsAt (b + k) r.picks h = rw first at (at b 0 h e refl) in
          (holds.first, narrow.0, holds.each, ps)

  pub target_typed : (r : Target) (s : Sized) → StandsTyped r s → AllByRecursion IsNarrow (held_types w s) → HaveEach held (target_terms r) (held_types w s)
  target_typed r s h narrow =
      leaves_typed r 0 (type_leaves r.data_type) (held_types w s) (leaves_counted r.data_type ∙ sym (counted_by_type w s r.data_type h.shape)) h.picks
      (λ b j x e there. let none : b + (0 + j) ≡ b + j = omega arith in rw none (h.leaf b j x e there))
      (λ e. absent_leaves w r.data_type s (h.absent e)) narrow
