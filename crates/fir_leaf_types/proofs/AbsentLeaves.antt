-- The leaves of what stands below a vector of length 0: those that are not too wide would hold what their types say.
use Rattle.std.proofs.Common.{◌≡◌, ℕ, zero, suc, ◌+◌, List, [], ◌∷◌, ◌++◌, Bool, true, false, Option, refl}
use Rattle.std.specs.Prelude.{unwrap_or, map}
use Rattle.fir_bits.specs.declared.types.NumTy.{NumTy}
use Rattle.fir_ast.specs.Types.{DataType, uint, sint, clock, reset, async_reset, bundle, vector, Fields, no_fields, field}
use Rattle.fir_meaning.specs.LeafPaths.{Step, named, element}
use Rattle.fir_meaning.specs.TypeLeaves.{TypeLeaf, under, element_leaves, type_leaves, field_leaves}
use Rattle.fir_meaning.specs.WidthExpressions.{Widths, width_under}
use Rattle.fir_meaning.specs.SizedTypes.{Sized, SizedFields, unsigned, signed, clock_scalar, reset_scalar, async_scalar, scalar, sized_bundle, sized_vector, no_sized_fields, sized_field}
use Rattle.fir_meaning.specs.FoundTypes.{absent_type}
use Rattle.fir_meaning.specs.LeafTypes.{LeafType, number_type}
use Rattle.fir_meaning.specs.HeldTypes.{repeated, held_types, held_field_types}
use Rattle.fir_leaf_types.specs.working.TypedTerms.{IsNarrow}
use Rattle.fir_leaf_types.proofs.StandingWidths.{Absent, FieldsAbsent}

-- leaf by leaf
abbrev pub AreAbsent : List TypeLeaf → List LeafType → Type 0
AreAbsent [] [] = Unit {0}
AreAbsent (l ∷ ls) (h ∷ hs) = (IsNarrow h → number_type h ≡ absent_type l.ground_type) × AreAbsent ls hs
AreAbsent _ _ = ⊥

absent_joined : (ls ms : List TypeLeaf) (hs gs : List LeafType) → AreAbsent ls hs → AreAbsent ms gs → AreAbsent (ls ++ ms) (hs ++ gs)
absent_joined [] ms [] gs h k = k
absent_joined [] ms (x ∷ hs) gs h k = absurd h
absent_joined (l ∷ ls) ms [] gs h k = absurd h
absent_joined (l ∷ ls) ms (x ∷ hs) gs h k = (h.0, absent_joined ls ms hs gs h.1 k)

absent_under : (f : Bool) (s : Step) (ls : List TypeLeaf) (hs : List LeafType) → AreAbsent ls hs → AreAbsent (map (under f s) ls) hs
absent_under f s [] [] h = tt
absent_under f s [] (x ∷ hs) h = absurd h
absent_under f s (l ∷ ls) [] h = absurd h
absent_under f s (l ∷ ls) (x ∷ hs) h = (h.0, absent_under f s ls hs h.1)

absent_elements : (i n : ℕ) (ls : List TypeLeaf) (hs : List LeafType) → AreAbsent ls hs → AreAbsent (element_leaves i n ls) (repeated n hs)
absent_elements i zero ls hs h = tt
absent_elements i (suc n) ls hs h =
    absent_joined (map (under false (element i)) ls) (element_leaves (i + 1) n ls) hs (repeated n hs) (absent_under false (element i) ls hs h)
    (absent_elements (i + 1) n ls hs h)

sign_only : (is : Bool) (a : Option ℕ) (n : ℕ) → unwrap_or a 0 ≡ n
    → ◌≡◌ {A = NumTy} (record { signed = is; width = n }) (record { signed = is; width = unwrap_or a 0 })
sign_only is a n e = rw e refl

module _ (w : Widths) where
  mutual
    pub absent_leaves : (t : DataType) (s : Sized) → Absent w t s → AreAbsent (type_leaves t) (held_types w s)
    absent_leaves (uint a) (scalar unsigned e) h = (λ k. sign_only false a (width_under e w) (h k), tt)
    absent_leaves (sint a) (scalar signed e) h = (λ k. sign_only true a (width_under e w) (h k), tt)
    absent_leaves clock (scalar clock_scalar e) h = (λ k. refl, tt)
    absent_leaves reset (scalar reset_scalar e) h = (λ k. refl, tt)
    absent_leaves async_reset (scalar async_scalar e) h = (λ k. refl, tt)
    absent_leaves (bundle fs) (sized_bundle gs) h = absent_field_leaves fs gs h
    absent_leaves (vector t n) (sized_vector s m) h =
        rw (← h.0) (absent_elements 0 n (type_leaves t) (held_types w s) (absent_leaves t s h.1))
    absent_leaves t s h = absurd h

    absent_field_leaves : (fs : Fields) (gs : SizedFields) → FieldsAbsent w fs gs → AreAbsent (field_leaves fs) (held_field_types w gs)
    absent_field_leaves no_fields no_sized_fields h = tt
    absent_field_leaves (field p f x b t fs) (sized_field q g y c s gs) h =
        absent_joined (map (under f (named x)) (type_leaves t)) (field_leaves fs) (held_types w s) (held_field_types w gs)
        (absent_under f (named x) (type_leaves t) (held_types w s) (absent_leaves t s h.1)) (absent_field_leaves fs gs h.2)
    absent_field_leaves no_fields (sized_field q g y c s gs) h = absurd h
    absent_field_leaves (field p f x b t fs) no_sized_fields h = absurd h
