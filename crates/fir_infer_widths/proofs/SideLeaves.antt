-- The leaves of a side are those of the sized type that it stands for: the same paths and orientations, and the numbers have the widths.
use Rattle.std.proofs.Common.{◌≡◌, ℕ, ◌+◌, ◌==◌, List, [], ◌∷◌, ◌++◌, map, Bool, true, false, if◌then◌else◌, refl, ap, subst}
use Rattle.fir_ast.specs.Types.{DataType, uint, sint, clock, reset, async_reset, bundle, vector, Fields, no_fields, field}
use Rattle.fir_meaning.specs.LeafPaths.{Step, named, element}
use Rattle.fir_meaning.specs.TypeKinds.{bare, bare_fields}
use Rattle.fir_meaning.specs.TypeLeaves.{turned}
use Rattle.fir_meaning.specs.SharedLeaves.{shared_count}
use Rattle.fir_meaning.specs.WidthExpressions.{Width}
use Rattle.fir_meaning.specs.SizedTypes.{Scalar, unsigned, signed, clock_scalar, reset_scalar, async_scalar, Sized, scalar, sized_bundle, sized_vector, SizedFields, no_sized_fields, sized_field, bare_type, bare_type_fields}
use Rattle.fir_meaning.specs.SizedLeaves.{SizedLeaf, sized_leaves, sized_field_leaves, sized_under}
use Rattle.fir_types.specs.working.Seen.{found_type}
use Rattle.fir_width.specs.declared.side.Side.{Side}
use Rattle.fir_width.specs.working.FlatWidths.{flat, flat_fields}
use Rattle.fir_width.specs.working.StandingWidths.{Has, Stands}
use Rattle.fir_infer_widths.specs.working.NumberedLeaves.{NumberedLeaf, numbered_leaves, numbered_field_leaves, numbered_under}
use Rattle.fir_width.specs.working.Sides.{IsSide}
use Rattle.fir_infer_widths.specs.working.SpotFaults.{leaves_of_side}
use Rattle.fir_width.proofs.FlatShapes.{flat_counted}
use Rattle.fir_width.proofs.StandingWidths.{stands_left, stands_right, stands_head}

-- which number and ground type may stand beside a width
abbrev pub Fitting : Type 1
Fitting = ℕ → DataType → Width → Type 0

pub record IsAlike (Fits : Fitting) (l : NumberedLeaf) (s : SizedLeaf) : Type 0 where
  pub path : l.path ≡ s.path
  pub flip : l.flip ≡ s.flip
  pub fits : Fits l.number l.ground_type s.width

-- leaf by leaf
abbrev pub AreAlike : Fitting → List NumberedLeaf → List SizedLeaf → Type 0
AreAlike Fits [] [] = Unit {0}
AreAlike Fits (l ∷ ls) (s ∷ ss) = IsAlike Fits l s × AreAlike Fits ls ss
AreAlike Fits _ _ = ⊥

module _ (Fits : Fitting) where
  pub joined_alike : (ls ms : List NumberedLeaf) (ss us : List SizedLeaf) → AreAlike Fits ls ss → AreAlike Fits ms us → AreAlike Fits (ls ++ ms) (ss ++ us)
  joined_alike [] ms [] us h k = k
  joined_alike [] ms (s ∷ ss) us h k = absurd h
  joined_alike (l ∷ ls) ms [] us h k = absurd h
  joined_alike (l ∷ ls) ms (s ∷ ss) us h k = (h.0, joined_alike ls ms ss us h.1 k)

  pub under_alike : (flip : Bool) (step : Step) (ls : List NumberedLeaf) (ss : List SizedLeaf) → AreAlike Fits ls ss
      → AreAlike Fits (map (numbered_under flip step) ls) (map (sized_under flip step) ss)
  under_alike flip step [] [] h = h
  under_alike flip step [] (s ∷ ss) h = absurd h
  under_alike flip step (l ∷ ls) [] h = absurd h
  under_alike flip step (l ∷ ls) (s ∷ ss) h =
      (record { path = ap (λ p. step ∷ p) h.0.path; flip = ap (turned flip) h.0.flip; fits = h.0.fits }, under_alike flip step ls ss h.1)

  pub elements_alike : (n : ℕ) (ls : List NumberedLeaf) (ss : List SizedLeaf) → (n == 0 ≡ false → AreAlike Fits ls ss)
      → AreAlike Fits (if n == 0 then [] else map (numbered_under false (element 0)) ls) (if n == 0 then [] else map (sized_under false (element 0)) ss)
  elements_alike n ls ss h = by (n == 0) refl where
    by : (b : Bool) → n == 0 ≡ b
        → AreAlike Fits (if b then [] else map (numbered_under false (element 0)) ls) (if b then [] else map (sized_under false (element 0)) ss)
    by true e = tt
    by false e = under_alike false (element 0) ls ss (h e)

-- a ground type is not the shape of a bundle or a vector
not_bundle : (k : Scalar) (w : Width) (gs : Fields) → bare_type (scalar k w) ≡ bundle gs → ⊥
not_bundle unsigned w gs e = cc
not_bundle signed w gs e = cc
not_bundle clock_scalar w gs e = cc
not_bundle reset_scalar w gs e = cc
not_bundle async_scalar w gs e = cc

not_vector : (k : Scalar) (w : Width) (t : DataType) (n : ℕ) → bare_type (scalar k w) ≡ vector t n → ⊥
not_vector unsigned w t n e = cc
not_vector signed w t n e = cc
not_vector clock_scalar w t n e = cc
not_vector reset_scalar w t n e = cc
not_vector async_scalar w t n e = cc

module _ (meant : List Width) where
  -- the number has the width
  abbrev pub HasWidth : Fitting
  HasWidth = λ number t w. Has meant number w

  one_alike : (first : ℕ) (t : DataType) (w : Width) → Stands meant first (w ∷ [])
      → AreAlike HasWidth (record { path = []; flip = false; number = first; ground_type = t } ∷ []) (record { path = []; flip = false; width = w } ∷ [])
  one_alike first t w h = (record { path = refl; flip = refl; fits = stands_head meant first w [] h }, tt)

  mutual
    alike : (first : ℕ) (t : DataType) (s : Sized) → bare_type s ≡ bare t → Stands meant first (flat s) → AreAlike HasWidth (numbered_leaves first t) (sized_leaves s)
    alike first (uint k) (scalar r w) e h = one_alike first (uint k) w h
    alike first (sint k) (scalar r w) e h = one_alike first (sint k) w h
    alike first clock (scalar r w) e h = one_alike first clock w h
    alike first reset (scalar r w) e h = one_alike first reset w h
    alike first async_reset (scalar r w) e h = one_alike first async_reset w h
    alike first (bundle fs) (sized_bundle gs) e h = let same : bare_type_fields gs ≡ bare_fields fs = cc in fields_alike first fs gs same h
    alike first (vector t n) (sized_vector s m) e h =
        let same : bare_type s ≡ bare t = cc in
        let long : m ≡ n = cc in
        rw long (elements_alike HasWidth n (numbered_leaves first t) (sized_leaves s) (λ some. alike first t s same h))
    alike first (bundle fs) (scalar r w) e h = absurd (not_bundle r w (bare_fields fs) e)
    alike first (vector t n) (scalar r w) e h = absurd (not_vector r w (bare t) n e)
    alike first (vector t n) (sized_bundle gs) e h = absurd (cc)
    alike first (bundle fs) (sized_vector s m) e h = absurd (cc)
    alike first (uint k) (sized_bundle gs) e h = absurd (cc)
    alike first (uint k) (sized_vector s m) e h = absurd (cc)
    alike first (sint k) (sized_bundle gs) e h = absurd (cc)
    alike first (sint k) (sized_vector s m) e h = absurd (cc)
    alike first clock (sized_bundle gs) e h = absurd (cc)
    alike first clock (sized_vector s m) e h = absurd (cc)
    alike first reset (sized_bundle gs) e h = absurd (cc)
    alike first reset (sized_vector s m) e h = absurd (cc)
    alike first async_reset (sized_bundle gs) e h = absurd (cc)
    alike first async_reset (sized_vector s m) e h = absurd (cc)

    fields_alike : (first : ℕ) (fs : Fields) (gs : SizedFields) → bare_type_fields gs ≡ bare_fields fs → Stands meant first (flat_fields gs)
        → AreAlike HasWidth (numbered_field_leaves first fs) (sized_field_leaves gs)
    fields_alike first no_fields no_sized_fields e h = tt
    fields_alike first no_fields (sized_field q turn y starts s more) e h = absurd (cc)
    fields_alike first (field p flip x begins t rest) no_sized_fields e h = absurd (cc)
    fields_alike first (field p flip x begins t rest) (sized_field q turn y starts s more) e h =
        let same : bare_type s ≡ bare t = cc in
        let behind : bare_type_fields more ≡ bare_fields rest = cc in
        let turned : turn ≡ flip = cc in
        let name : y ≡ x = cc in
        let here = alike first t s same (stands_left meant first (flat s) (flat_fields more) h) in
        let there = subst (λ k. Stands meant (first + k) (flat_fields more)) (flat_counted s t same) (stands_right meant first (flat s) (flat_fields more) h) in
        rw (turned, name) (joined_alike HasWidth (map (numbered_under flip (named x)) (numbered_leaves first t)) (numbered_field_leaves (first + shared_count t) rest)
        (map (sized_under flip (named x)) (sized_leaves s)) (sized_field_leaves more) (under_alike HasWidth flip (named x) (numbered_leaves first t) (sized_leaves s) here)
        (fields_alike (first + shared_count t) rest more behind there))

pub side_alike : (ts : List DataType) (meant : List Width) (side : Side) (s : Sized) → IsSide ts meant side s → AreAlike (HasWidth meant) (leaves_of_side ts side) (sized_leaves s)
side_alike ts meant side s is = alike meant side.first (found_type ts side.found) s is.shape is.stands
