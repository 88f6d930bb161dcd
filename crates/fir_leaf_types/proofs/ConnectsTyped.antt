-- What connects and invalids drive has types: of each pair of leaves the one may be given to the other.
use Rattle.std.proofs.Common.{◌≡◌, ℕ, zero, suc, ◌+◌, ◌≤◌, List, [], ◌∷◌, Bool, true, false, ◌==◌, if◌then◌else◌, length, map, slice_get, Option, Some, None, refl, sym, ◌∙◌, subst, arith, inl, inr}
use Rattle.std.specs.Bool.{beq}
use Rattle.std.specs.Str.{bytes_eq}
use Rattle.std.specs.List.{AllByRecursion}
use Rattle.fir_base.proofs.Each.{all_joined, all_mapped}
use Rattle.fir_base.proofs.Elements.{beside, there}
use Rattle.fir_base.proofs.Tests.{both}
use Rattle.fir_ast.specs.declared.place.Place.{Place}
use Rattle.fir_ast.specs.Types.{DataType, bundle, vector, Fields, no_fields, field}
use Rattle.fir_meaning.specs.LeafPaths.{named, element}
use Rattle.fir_meaning.specs.Equivalence.{fitting_ground, is_connectable, fields_alike}
use Rattle.fir_meaning.specs.ConnectPairs.{Pair, both_under, element_pairs, pairs, field_pairs}
use Rattle.fir_meaning.specs.TypeKinds.{bare}
use Rattle.fir_meaning.specs.TypeLeaves.{TypeLeaf, type_leaves, leaf_count}
use Rattle.fir_meaning.specs.WidthExpressions.{Widths}
use Rattle.fir_meaning.specs.SizedTypes.{Sized, bare_type}
use Rattle.fir_meaning.specs.working.Terms.{Term, zeros}
use Rattle.fir_meaning.specs.working.LeafBlocks.{LeafBlock, joined}
use Rattle.fir_meaning.specs.working.LeafBlocks as over
use Rattle.fir_meaning.specs.working.Targets.{Target}
use Rattle.fir_meaning.specs.working.LeafPairs.{LeafPair}
use Rattle.fir_meaning.specs.working.LeafedBlocks.{alone, driven, driven_from, driven_where, term_at, Sides, pair_block, pairs_block, invalid_leaf, invalid_leaves, invalid_block}
use Rattle.fir_meaning.specs.LeafTypes.{LeafType, a_clock, number}
use Rattle.fir_meaning.specs.HeldTypes.{held_types}
use Rattle.fir_leaf.proofs.PairsByNumber.{IsPair, ArePairs}
use Rattle.fir_leaf_types.specs.working.TypedTerms.{HasType}
use Rattle.fir_leaf_types.specs.working.TypedBlocks.{AreTyped, IsSameKind, MayGive}
use Rattle.fir_leaf_types.proofs.HeldKinds.{fitting_kinds, ground_kind, kinds_of_leaves, kinds_of_type, same_kind, without_width}
use Rattle.fir_leaf_types.proofs.HeldPlaces.{counted_by_type}
use Rattle.fir_leaf_types.proofs.StandingTypedTargets.{HaveEach, StandsTyped}

-- the leaves of a pair that a connect has fit
abbrev pub Fits : Pair → Type 0
Fits p = fitting_ground p.left.ground_type p.right.ground_type ≡ true

elements_fit : (i n : ℕ) (ps : List Pair) → AllByRecursion Fits ps → AllByRecursion Fits (element_pairs i n ps)
elements_fit i zero ps h = tt
elements_fit i (suc n) ps h =
    all_joined Fits (map (both_under false (element i)) ps) (element_pairs (i + 1) n ps) (all_mapped Fits (both_under false (element i)) ps h)
    (elements_fit (i + 1) n ps h)

mutual
  pub pairs_fit : (t u : DataType) → is_connectable t u ≡ true → AllByRecursion Fits (pairs t u)
  pairs_fit (bundle fs) (bundle gs) h = fields_fit fs gs h
  pairs_fit (bundle fs) u h = absurd (cc)
  pairs_fit (vector t n) (vector u m) h =
      let tests = both (n == m) (is_connectable t u) h in elements_fit 0 n (pairs t u) (pairs_fit t u tests.1)
  pairs_fit (vector t n) u h = absurd (cc)
  pairs_fit t (bundle gs) h = absurd (cc)
  pairs_fit t (vector u m) h = absurd (cc)
  pairs_fit t u h = (h, tt)

  fields_fit : (fs gs : Fields) → fields_alike fitting_ground fs gs ≡ true → AllByRecursion Fits (field_pairs fs gs)
  fields_fit no_fields no_fields h = tt
  fields_fit no_fields (field q g y c u gs) h = absurd (cc)
  fields_fit (field p f x b t fs) no_fields h = absurd (cc)
  fields_fit (field p f x b t fs) (field q g y c u gs) h =
      let first = both (beq f g) _ h in
      let second = both (bytes_eq x y) _ first.1 in
      let third = both (is_connectable t u) _ second.1 in
      all_joined Fits (map (both_under f (named x)) (pairs t u)) (field_pairs fs gs)
      (all_mapped Fits (both_under f (named x)) (pairs t u) (pairs_fit t u third.0)) (fields_fit fs gs third.1)

-- what the leaf of a number holds is of the leaf's kind
pub record LeafHolds (w : Widths) (s : Sized) (k : ℕ) (l : TypeLeaf) : Type 0 where
  pub data_type : LeafType
  pub there : slice_get (held_types w s) k ≡ Some data_type
  pub kind : without_width data_type ≡ ground_kind l.ground_type

pub leaf_holds : (w : Widths) (s : Sized) (t : DataType) → bare_type s ≡ bare t → (k : ℕ) (l : TypeLeaf) → slice_get (type_leaves t) k ≡ Some l
    → LeafHolds w s k l
leaf_holds w s t e k l there =
    let r =
    beside without_width (λ (l : TypeLeaf). ground_kind l.ground_type) (held_types w s) (type_leaves t)
    (kinds_of_type w s t e ∙ sym (kinds_of_leaves t)) k l there in
    record { data_type = r.0; there = r.1; kind = r.2 }

same_as_itself : (h : LeafType) → IsSameKind h h
same_as_itself (number t) = refl
same_as_itself a_clock = tt

module _ (held : ℕ → LeafType) where
  pub joined_typed : (b c : LeafBlock) → AreTyped held b → AreTyped held c → AreTyped held (joined b c)
  joined_typed over.done c h k = k
  joined_typed (over.then s b) c h k = (h.0, joined_typed b c h.1 k)

  -- the term of a number has the type of that number
  pub term_typed : (ts : List Term) (hs : List LeafType) (k : ℕ) (h : LeafType) → HaveEach held ts hs → slice_get hs k ≡ Some h
      → HasType held (term_at ts k) h
  term_typed [] [] k h f e = absurd (cc)
  term_typed [] (x ∷ hs) k h f e = absurd f
  term_typed (t ∷ ts) [] k h f e = absurd f
  term_typed (t ∷ ts) (x ∷ hs) zero h f e = let is : x ≡ h = cc in subst (HasType held t) is f.0
  term_typed (t ∷ ts) (x ∷ hs) (suc k) h f e = term_typed ts hs k h f.1 e

  module _ (w : Widths) where
    driven_typed : (p : Place) (r : Target) (s : Sized) (k : ℕ) (h : LeafType) (t : Term) → StandsTyped held w r s → slice_get (held_types w s) k ≡ Some h
        → MayGive held t h → AreTyped held (driven p r k t)
    driven_typed p r s k h t stands there gives = by r.base refl
      where
        by : (o : Option ℕ) → r.base ≡ o → AreTyped held (driven_from p o r k t)
        by None e = tt
        by (Some b) e =
            let holds = stands.leaf b k h e there in
            ((subst (MayGive held t) (sym holds.first) gives, λ y m. holds.each y m ∙ sym holds.first, stands.picks), tt)

    -- both sides of a connect
    pub record SidesTyped (s : Sides) (left right : Sized) (t u : DataType) : Type 0 where
      pub target : StandsTyped held w s.left left
      pub source : (r : Target) → s.right ≡ Some r → StandsTyped held w r right
      pub left_shape : bare_type left ≡ bare t
      pub right_shape : bare_type right ≡ bare u
      pub gives : HaveEach held s.gives (held_types w right)
      pub gives_back : HaveEach held s.gives_back (held_types w left)

    module _ (p : Place) (s : Sides) (left right : Sized) (t u : DataType) (sides : SidesTyped s left right t u) where
      pair_typed : (m : LeafPair) (q : Pair) → IsPair (type_leaves t) (type_leaves u) m q → Fits q → AreTyped held (pair_block p s m)
      pair_typed m q is fits =
          by m.flip (back s.right refl)
          (driven_typed p s.left left m.left there.data_type (term_at s.gives m.right) sides.target there.there
          (record {
            data_type = here.data_type;
            has = inr (term_typed s.gives (held_types w right) m.right here.data_type sides.gives here.there);
            kind = same_kind here.data_type there.data_type (sym kinds);
          }))
        where
          there : LeafHolds w left m.left q.left
          there = leaf_holds w left t sides.left_shape m.left q.left is.left

          here : LeafHolds w right m.right q.right
          here = leaf_holds w right u sides.right_shape m.right q.right is.right

          kinds : without_width there.data_type ≡ without_width here.data_type
          kinds = there.kind ∙ fitting_kinds q.left.ground_type q.right.ground_type fits ∙ sym here.kind

          back : (o : Option Target) → s.right ≡ o → AreTyped held (driven_where p o m.right (term_at s.gives_back m.left))
          back None e = tt
          back (Some r) e =
              driven_typed p r right m.right here.data_type (term_at s.gives_back m.left) (sides.source r e) here.there
              (record {
                data_type = there.data_type;
                has = inr (term_typed s.gives_back (held_types w left) m.left there.data_type sides.gives_back there.there);
                kind = same_kind there.data_type here.data_type kinds;
              })

          by : (b : Bool) → AreTyped held (driven_where p s.right m.right (term_at s.gives_back m.left))
              → AreTyped held (driven p s.left m.left (term_at s.gives m.right))
              → AreTyped held
              (if b then driven_where p s.right m.right (term_at s.gives_back m.left) else driven p s.left m.left (term_at s.gives m.right))
          by true x y = x
          by false x y = y

      pub pairs_typed : (ms : List LeafPair) (qs : List Pair) → ArePairs (IsPair (type_leaves t) (type_leaves u)) ms qs → AllByRecursion Fits qs
          → AreTyped held (pairs_block p s ms)
      pairs_typed [] qs h f = tt
      pairs_typed (m ∷ ms) [] h f = absurd h
      pairs_typed (m ∷ ms) (q ∷ qs) h f =
          joined_typed (pair_block p s m) (pairs_block p s ms) (pair_typed m q h.0 f.0) (pairs_typed ms qs h.1 f.1)

    -- zero may be given to each leaf
    module _ (may : ℕ → Bool) (p : Place) (r : Target) (s : Sized) (stands : StandsTyped held w r s) where
      invalids_typed : (k count : ℕ) → k + count ≤ length (held_types w s) → AreTyped held (invalid_leaves may p r k count)
      invalids_typed k zero long = tt
      invalids_typed k (suc count) long =
          joined_typed (invalid_leaf may p r.base r k) (invalid_leaves may p r (suc k) count) (one r.base refl) (invalids_typed (suc k) count (omega arith))
        where
          leaf : (h : LeafType) × (slice_get (held_types w s) k ≡ Some h)
          leaf = there (held_types w s) k (omega (arith, long))

          driven_if : (c : Bool) (b : ℕ) → r.base ≡ Some b → AreTyped held (if c then alone (over.drive p (b + k) r.picks zeros) else over.done)
          driven_if true b e =
              let holds = stands.leaf b k leaf.0 e leaf.1 in (
                (
                  record { data_type = held (b + k); has = inl refl; kind = same_as_itself (held (b + k)) },
                  λ y m. holds.each y m ∙ sym holds.first,
                  stands.picks,
                ),
                tt,
              )
          driven_if false b e = tt

          one : (o : Option ℕ) → r.base ≡ o → AreTyped held (invalid_leaf may p o r k)
          one None e = tt
          one (Some b) e = driven_if (may (b + k)) b e

      pub invalid_typed : AreTyped held (invalid_block may p r)
      invalid_typed =
          let same = counted_by_type w s r.data_type stands.shape in invalids_typed 0 (leaf_count r.data_type) (omega (arith, same))
