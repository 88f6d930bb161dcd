-- The types of muxes and validifs, leaf by leaf: what their sized types hold.
use Rattle.std.proofs.Common.{◌≡◌, ℕ, zero, suc, ◌≤◌, max, List, [], ◌∷◌, ◌++◌, true, false, ◌&&◌, ◌||◌, ◌==◌, if◌then◌else◌, nat_lt, length, map, refl, sym, ap, ◌∙◌, subst, arith}
use Rattle.std.specs.Bool.{beq}
use Rattle.std.specs.Str.{bytes_eq}
use Rattle.std.specs.List.{AllByRecursion}
use Rattle.std.proofs.lemmas.Bool.{eqb-true}
use Rattle.std.proofs.lemmas.Bool.Decides.{nat_tests}
use Rattle.fir_base.proofs.Tests.{both}
use Rattle.fir_ast.specs.Types.{DataType, uint, sint, clock, reset, async_reset, bundle, vector, Fields, no_fields, field}
use Rattle.fir_meaning.specs.TypeKinds.{bare, bare_fields, is_numeric, are_numeric}
use Rattle.fir_meaning.specs.Equivalence.{alike, fields_alike, same_ground}
use Rattle.fir_meaning.specs.WidthExpressions.{Width, Widths, width_under}
use Rattle.fir_meaning.specs.SizedTypes.{Scalar, Sized, SizedFields, unsigned, signed, clock_scalar, reset_scalar, async_scalar, scalar, sized_bundle, sized_vector, no_sized_fields, sized_field, bare_type, bare_type_fields}
use Rattle.fir_meaning.specs.SizedOperations.{greater_of, greater_fields, guarded_by, guarded_fields}
use Rattle.fir_meaning.specs.working.Terms.{Term}
use Rattle.fir_meaning.specs.working.Terms as over
use Rattle.fir_meaning.specs.working.Leafed.{muxes}
use Rattle.fir_meaning.specs.LeafTypes.{LeafType, number, a_clock, number_type}
use Rattle.fir_meaning.specs.HeldTypes.{repeated, held_types, held_field_types}
use Rattle.fir_leaf_types.specs.working.TypedTerms.{HasType, one_bit}
use Rattle.fir_leaf_types.proofs.HeldKinds.{kinds, held_kinds, alike_kinds, same_ground_kinds, IsNumber, not_zero}
use Rattle.fir_leaf_types.proofs.StandingTypedTargets.{HaveEach}

-- widths do not count for equivalence, nor for what is numeric
mutual
  alike_bare : (t u : DataType) → alike same_ground (bare t) (bare u) ≡ alike same_ground t u
  alike_bare (bundle fs) (bundle gs) = alike_bare_fields fs gs
  alike_bare (vector t n) (vector u m) = ap (λ b. (n == m) && b) (alike_bare t u)
  alike_bare (bundle fs) (uint w) = refl
  alike_bare (bundle fs) (sint w) = refl
  alike_bare (bundle fs) clock = refl
  alike_bare (bundle fs) reset = refl
  alike_bare (bundle fs) async_reset = refl
  alike_bare (bundle fs) (vector u m) = refl
  alike_bare t (bundle gs) = refl
  alike_bare t (vector u m) = refl
  alike_bare t (uint w) = refl
  alike_bare t (sint w) = refl
  alike_bare t clock = refl
  alike_bare t reset = refl
  alike_bare t async_reset = refl

  alike_bare_fields : (fs gs : Fields) → fields_alike same_ground (bare_fields fs) (bare_fields gs) ≡ fields_alike same_ground fs gs
  alike_bare_fields no_fields no_fields = refl
  alike_bare_fields no_fields (field q g y c u gs) = refl
  alike_bare_fields (field p f x b t fs) no_fields = refl
  alike_bare_fields (field p f x b t fs) (field q g y c u gs) = rw (alike_bare t u, alike_bare_fields fs gs) refl

mutual
  pub numeric_bare : (t : DataType) → is_numeric (bare t) ≡ is_numeric t
  numeric_bare (bundle fs) = numeric_bare_fields fs
  numeric_bare (vector t n) = ap (λ b. (n == 0) || b) (numeric_bare t)
  numeric_bare (uint w) = refl
  numeric_bare (sint w) = refl
  numeric_bare clock = refl
  numeric_bare reset = refl
  numeric_bare async_reset = refl

  numeric_bare_fields : (fs : Fields) → are_numeric (bare_fields fs) ≡ are_numeric fs
  numeric_bare_fields no_fields = refl
  numeric_bare_fields (field p f x b t rest) = rw (numeric_bare t, numeric_bare_fields rest) refl

-- the greater of two, leaf by leaf
abbrev greater_types : List LeafType → List LeafType → List LeafType
greater_types (a ∷ as_) (b ∷ bs) =
    number (record { signed = (number_type a).signed; width = max (number_type a).width (number_type b).width }) ∷ greater_types as_ bs
greater_types _ _ = []

greater_joined : (xs ys us vs : List LeafType) → length xs ≡ length us → greater_types (xs ++ ys) (us ++ vs) ≡ greater_types xs us ++ greater_types ys vs
greater_joined [] ys [] vs e = refl
greater_joined [] ys (u ∷ us) vs e = absurd (omega (arith, e))
greater_joined (x ∷ xs) ys [] vs e = absurd (omega (arith, e))
greater_joined (x ∷ xs) ys (u ∷ us) vs e =
    ap (λ l. number (record { signed = (number_type x).signed; width = max (number_type x).width (number_type u).width }) ∷ l)
    (greater_joined xs ys us vs (omega (arith, e)))

greater_repeated : (n : ℕ) (xs us : List LeafType) → length xs ≡ length us
    → greater_types (repeated n xs) (repeated n us) ≡ repeated n (greater_types xs us)
greater_repeated zero xs us e = refl
greater_repeated (suc n) xs us e =
    greater_joined xs (repeated n xs) us (repeated n us) e ∙ ap (λ l. greater_types xs us ++ l) (greater_repeated n xs us e)

by_kinds : (xs us : List LeafType) → kinds xs ≡ kinds us → length xs ≡ length us
by_kinds [] [] e = refl
by_kinds [] (u ∷ us) e = absurd (cc)
by_kinds (x ∷ xs) [] e = absurd (cc)
by_kinds (x ∷ xs) (u ∷ us) e = let rest : kinds xs ≡ kinds us = cc in ap suc (by_kinds xs us rest)

module _ (w : Widths) (c : Width) (within : width_under c w ≤ 128) where
  guard_passes : (n : ℕ) → (if nat_lt (width_under c w) 129 then n else 129) ≡ n
  guard_passes n = let less : nat_lt (width_under c w) 129 ≡ true = grind (arith, nat_tests, within) in rw less refl

  -- what is guarded holds the same
  mutual
    pub guarded_holds : (s : Sized) → held_types w (guarded_by c s) ≡ held_types w s
    guarded_holds (scalar unsigned e) = ap (λ n. number (record { signed = false; width = n }) ∷ []) (guard_passes (width_under e w))
    guarded_holds (scalar signed e) = ap (λ n. number (record { signed = true; width = n }) ∷ []) (guard_passes (width_under e w))
    guarded_holds (scalar clock_scalar e) = refl
    guarded_holds (scalar reset_scalar e) = refl
    guarded_holds (scalar async_scalar e) = refl
    guarded_holds (sized_bundle fs) = guarded_fields_hold fs
    guarded_holds (sized_vector t n) = ap (repeated n) (guarded_holds t)

    guarded_fields_hold : (fs : SizedFields) → held_field_types w (guarded_fields c fs) ≡ held_field_types w fs
    guarded_fields_hold no_sized_fields = refl
    guarded_fields_hold (sized_field p f x b t rest) = rw (guarded_holds t, guarded_fields_hold rest) refl

module _ (w : Widths) where
  same_counts : (s t : Sized) → alike same_ground (bare_type s) (bare_type t) ≡ true → length (held_types w s) ≡ length (held_types w t)
  same_counts s t h =
      by_kinds (held_types w s) (held_types w t)
      (held_kinds w s ∙ alike_kinds same_ground same_ground_kinds (bare_type s) (bare_type t) h ∙ sym (held_kinds w t))

  no_bundle : (fs : Fields) (j : Scalar) (v : Width) → alike same_ground (bundle fs) (bare_type (scalar j v)) ≡ true → ⊥
  no_bundle fs unsigned v h = absurd (cc)
  no_bundle fs signed v h = absurd (cc)
  no_bundle fs clock_scalar v h = absurd (cc)
  no_bundle fs reset_scalar v h = absurd (cc)
  no_bundle fs async_scalar v h = absurd (cc)

  no_vector : (t : DataType) (n : ℕ) (j : Scalar) (v : Width) → alike same_ground (vector t n) (bare_type (scalar j v)) ≡ true → ⊥
  no_vector t n unsigned v h = absurd (cc)
  no_vector t n signed v h = absurd (cc)
  no_vector t n clock_scalar v h = absurd (cc)
  no_vector t n reset_scalar v h = absurd (cc)
  no_vector t n async_scalar v h = absurd (cc)

  -- arms of one shape, which is numeric
  mutual
    greater_holds : (s t : Sized) → alike same_ground (bare_type s) (bare_type t) ≡ true → is_numeric (bare_type s) ≡ true
        → held_types w (greater_of s t) ≡ greater_types (held_types w s) (held_types w t)
    greater_holds (scalar unsigned v) (scalar unsigned u) h k = refl
    greater_holds (scalar signed v) (scalar signed u) h k = refl
    greater_holds (sized_bundle fs) (sized_bundle gs) h k = greater_fields_hold fs gs h k
    greater_holds (sized_vector t zero) (sized_vector u m) h k = refl
    greater_holds (sized_vector t (suc n)) (sized_vector u m) h k =
        let tests = both (suc n == m) (alike same_ground (bare_type t) (bare_type u)) h in
        let long : suc n ≡ m = eqb-true (suc n) m tests.0 in
        let inside : is_numeric (bare_type t) ≡ true = rw (not_zero n) at k in
        ap (repeated (suc n)) (greater_holds t u tests.1 inside)
        ∙ sym (greater_repeated (suc n) (held_types w t) (held_types w u) (same_counts t u tests.1))
        ∙ ap (λ j. greater_types (repeated (suc n) (held_types w t)) (repeated j (held_types w u))) long
    greater_holds (sized_bundle fs) (scalar j v) h k = absurd (no_bundle (bare_type_fields fs) j v h)
    greater_holds (sized_vector t n) (scalar j v) h k = absurd (no_vector (bare_type t) n j v h)
    greater_holds s t h k = cc

    greater_fields_hold : (fs gs : SizedFields) → fields_alike same_ground (bare_type_fields fs) (bare_type_fields gs) ≡ true
        → are_numeric (bare_type_fields fs) ≡ true
        → held_field_types w (greater_fields fs gs) ≡ greater_types (held_field_types w fs) (held_field_types w gs)
    greater_fields_hold no_sized_fields no_sized_fields h k = refl
    greater_fields_hold no_sized_fields (sized_field q g y c u gs) h k = refl
    greater_fields_hold (sized_field p f x b t fs) no_sized_fields h k = cc
    greater_fields_hold (sized_field p f x b t fs) (sized_field q g y c u gs) h k =
        let first = both (beq f g) _ h in
        let second = both (bytes_eq x y) _ first.1 in
        let third = both (alike same_ground (bare_type t) (bare_type u)) _ second.1 in
        let tests = both (is_numeric (bare_type t)) (are_numeric (bare_type_fields fs)) k in
        rw (greater_holds t u third.0 tests.0, greater_fields_hold fs gs third.1 tests.1)
        (sym
        (greater_joined (held_types w t) (held_field_types w fs) (held_types w u) (held_field_types w gs) (same_counts t u third.0)))

module _ (held : ℕ → LeafType) where
  muxes_typed : (c : Term) (firsts seconds : List Term) (hs gs : List LeafType) → HasType held c one_bit → HaveEach held firsts hs → HaveEach held seconds gs
      → kinds hs ≡ kinds gs → AllByRecursion IsNumber hs → HaveEach held (muxes c firsts seconds) (greater_types hs gs)
  muxes_typed c [] seconds [] gs one f g same numbers = tt
  muxes_typed c [] seconds (h ∷ hs) gs one f g same numbers = absurd f
  muxes_typed c (a ∷ firsts) seconds [] gs one f g same numbers = absurd f
  muxes_typed c (a ∷ firsts) [] (h ∷ hs) [] one f g same numbers = tt
  muxes_typed c (a ∷ firsts) [] (h ∷ hs) (x ∷ gs) one f g same numbers = absurd g
  muxes_typed c (a ∷ firsts) (b ∷ seconds) (h ∷ hs) [] one f g same numbers = absurd g
  muxes_typed c (a ∷ firsts) (b ∷ seconds) (number t ∷ hs) (number u ∷ gs) one f g same numbers =
      let rest : kinds hs ≡ kinds gs = cc in
      let one_kind : number (record { signed = t.signed; width = 0 }) ≡ number (record { signed = u.signed; width = 0 }) = cc in (
        (one, t, u, f.0, g.0, ap (λ (k : LeafType). (number_type k).signed) one_kind, refl),
        muxes_typed c firsts seconds hs gs one f.1 g.1 rest numbers.1,
      )
  muxes_typed c (a ∷ firsts) (b ∷ seconds) (number t ∷ hs) (a_clock ∷ gs) one f g same numbers = absurd (cc)
  muxes_typed c (a ∷ firsts) (b ∷ seconds) (a_clock ∷ hs) (x ∷ gs) one f g same numbers = absurd numbers.0

  pub validifs_typed : (c : Term) (ts : List Term) (hs : List LeafType) → HasType held c one_bit → HaveEach held ts hs → AllByRecursion IsNumber hs
      → HaveEach held (map (over.validif c) ts) hs
  validifs_typed c [] [] one f numbers = tt
  validifs_typed c [] (h ∷ hs) one f numbers = absurd f
  validifs_typed c (t ∷ ts) [] one f numbers = absurd f
  validifs_typed c (t ∷ ts) (number u ∷ hs) one f numbers = ((one, u, f.0, refl), validifs_typed c ts hs one f.1 numbers.1)
  validifs_typed c (t ∷ ts) (a_clock ∷ hs) one f numbers = absurd numbers.0

  -- a mux of two arms, whose types are equivalent and numeric
  pub arms_typed : (w : Widths) (guard : Width) (c : Term) (firsts seconds : List Term) (s t : Sized) (u v : DataType) → width_under guard w ≤ 128
      → HasType held c one_bit → HaveEach held firsts (held_types w s) → HaveEach held seconds (held_types w t) → bare_type s ≡ bare u → bare_type t ≡ bare v
      → alike same_ground u v ≡ true → AllByRecursion IsNumber (held_types w s) → is_numeric u ≡ true
      → HaveEach held (muxes c firsts seconds) (held_types w (guarded_by guard (greater_of s t)))
  arms_typed w guard c firsts seconds s t u v within one f g e d h numbers k =
      let same : alike same_ground (bare_type s) (bare_type t) ≡ true =
      ap (λ x. alike same_ground x (bare_type t)) e ∙ ap (λ x. alike same_ground (bare u) x) d ∙ alike_bare u v ∙ h in
      let is : is_numeric (bare_type s) ≡ true = ap is_numeric e ∙ numeric_bare u ∙ k in
      let of_kind : kinds (held_types w s) ≡ kinds (held_types w t) =
      held_kinds w s ∙ alike_kinds same_ground same_ground_kinds (bare_type s) (bare_type t) same ∙ sym (held_kinds w t) in
      subst (HaveEach held (muxes c firsts seconds)) (sym (guarded_holds w guard within (greater_of s t) ∙ greater_holds w s t same is))
      (muxes_typed c firsts seconds (held_types w s) (held_types w t) one f g of_kind numbers)
