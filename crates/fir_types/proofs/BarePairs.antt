-- Which types fit a type without its widths: those that fit the type.
use Rattle.std.proofs.Common.{◌≡◌, refl, ap, ◌∙◌, Bool, true, false, ◌&&◌, Option, Some, None}
use Rattle.std.specs.Prelude.{◌==◌, option_map}
use Rattle.std.specs.Bool.{beq}
use Rattle.std.specs.Str.{bytes_eq}
use Rattle.fir_ast.specs.Types.{DataType, uint, sint, clock, reset, async_reset, bundle, vector, Fields, no_fields, field}
use Rattle.fir_meaning.specs.TypeKinds.{bare, bare_fields, FieldFound, field_named}
use Rattle.fir_meaning.specs.Equivalence.{same_ground, fitting_ground, alike, fields_alike, is_equivalent, is_connectable, met, is_partly_connectable, fields_partly_connectable}
use Rattle.fir_type_table.specs.working.Tables.{shown}
use Rattle.fir_types.proofs.BareTypes.{shown_field, bare_field_named}

-- a test of ground types that asks for no width
record AsksNoWidth (test : DataType → DataType → Bool) : Type 0 where
  left : (s t : DataType) → test (bare s) t ≡ test s t
  right : (s t : DataType) → test s (bare t) ≡ test s t

same_left : (s t : DataType) → same_ground (bare s) t ≡ same_ground s t
same_left (uint w) t = refl
same_left (sint w) t = refl
same_left clock t = refl
same_left reset t = refl
same_left async_reset t = refl
same_left (bundle fs) t = refl
same_left (vector u n) t = refl

same_right : (s t : DataType) → same_ground s (bare t) ≡ same_ground s t
same_right (uint v) (uint w) = refl
same_right (sint v) (sint w) = refl
same_right clock clock = refl
same_right reset reset = refl
same_right async_reset async_reset = refl
same_right _ _ = refl

fitting_left : (s t : DataType) → fitting_ground (bare s) t ≡ fitting_ground s t
fitting_left (uint w) t = refl
fitting_left (sint w) t = refl
fitting_left clock t = refl
fitting_left reset t = refl
fitting_left async_reset t = refl
fitting_left (bundle fs) t = refl
fitting_left (vector u n) t = refl

fitting_right : (s t : DataType) → fitting_ground s (bare t) ≡ fitting_ground s t
fitting_right (uint v) (uint w) = refl
fitting_right (sint v) (sint w) = refl
fitting_right clock clock = refl
fitting_right reset reset = refl
fitting_right async_reset async_reset = refl
fitting_right _ _ = refl

mutual
  alike_left : (test : DataType → DataType → Bool) → AsksNoWidth test → (s t : DataType) → alike test (bare s) t ≡ alike test s t
  alike_left test asks (bundle fs) (bundle gs) = fields_alike_left test asks fs gs
  alike_left test asks (bundle fs) _ = refl
  alike_left test asks (vector t n) (vector u m) = ap (λ y. n == m && y) (alike_left test asks t u)
  alike_left test asks (vector t n) _ = refl
  alike_left test asks s (bundle gs) = refl
  alike_left test asks s (vector u m) = refl
  alike_left test asks s t = asks.left s t

  fields_alike_left : (test : DataType → DataType → Bool) → AsksNoWidth test → (fs gs : Fields) → fields_alike test (bare_fields fs) gs ≡ fields_alike test fs gs
  fields_alike_left test asks no_fields gs = refl
  fields_alike_left test asks (field p f x b t fs) no_fields = refl
  fields_alike_left test asks (field p f x b t fs) (field q g y c u gs) =
      ap (λ z. beq f g && (bytes_eq x y && (z && fields_alike test (bare_fields fs) gs))) (alike_left test asks t u)
      ∙ ap (λ z. beq f g && (bytes_eq x y && (alike test t u && z))) (fields_alike_left test asks fs gs)

mutual
  alike_right : (test : DataType → DataType → Bool) → AsksNoWidth test → (s t : DataType) → alike test s (bare t) ≡ alike test s t
  alike_right test asks (bundle fs) (bundle gs) = fields_alike_right test asks fs gs
  alike_right test asks (bundle fs) _ = refl
  alike_right test asks (vector t n) (vector u m) = ap (λ y. n == m && y) (alike_right test asks t u)
  alike_right test asks (vector t n) _ = refl
  alike_right test asks s (bundle gs) = refl
  alike_right test asks s (vector u m) = refl
  alike_right test asks s t = asks.right s t

  fields_alike_right : (test : DataType → DataType → Bool) → AsksNoWidth test → (fs gs : Fields) → fields_alike test fs (bare_fields gs) ≡ fields_alike test fs gs
  fields_alike_right test asks fs no_fields = refl
  fields_alike_right test asks no_fields (field q g y c u gs) = refl
  fields_alike_right test asks (field p f x b t fs) (field q g y c u gs) =
      ap (λ z. beq f g && (bytes_eq x y && (z && fields_alike test fs (bare_fields gs)))) (alike_right test asks t u)
      ∙ ap (λ z. beq f g && (bytes_eq x y && (alike test t u && z))) (fields_alike_right test asks fs gs)

alike_shown : (test : DataType → DataType → Bool) → AsksNoWidth test → (one other : Bool) (s t : DataType) → alike test (shown one s) (shown other t) ≡ alike test s t
alike_shown test asks true true s t = alike_left test asks s (bare t) ∙ alike_right test asks s t
alike_shown test asks true false s t = alike_left test asks s t
alike_shown test asks false true s t = alike_right test asks s t
alike_shown test asks false false s t = refl

pub equivalent_shown : (one other : Bool) (s t : DataType) → is_equivalent (shown one s) (shown other t) ≡ is_equivalent s t
equivalent_shown = alike_shown same_ground (record { left = same_left; right = same_right })

pub connectable_shown : (one other : Bool) (s t : DataType) → is_connectable (shown one s) (shown other t) ≡ is_connectable s t
connectable_shown = alike_shown fitting_ground (record { left = fitting_left; right = fitting_right })

met_alike : {A : Type 0} (none : A) (h k : FieldFound → A) → ((f : FieldFound) → h f ≡ k f) → (o : Option FieldFound) → met none h o ≡ met none k o
met_alike none h k same None = refl
met_alike none h k same (Some f) = same f

met_shown : {A : Type 0} (none : A) (h : FieldFound → A) (o : Option FieldFound) → met none h (option_map (shown_field true) o) ≡ met none (λ f. h (shown_field true f)) o
met_shown none h None = refl
met_shown none h (Some f) = refl

mutual
  partly_left : (s t : DataType) → is_partly_connectable (bare s) t ≡ is_partly_connectable s t
  partly_left (bundle fs) (bundle gs) = fields_partly_left fs gs
  partly_left (bundle fs) _ = refl
  partly_left (vector t n) (vector u m) = partly_left t u
  partly_left (vector t n) _ = refl
  partly_left s (bundle gs) = refl
  partly_left s (vector u m) = refl
  partly_left s t = fitting_left s t

  fields_partly_left : (fs gs : Fields) → fields_partly_connectable (bare_fields fs) gs ≡ fields_partly_connectable fs gs
  fields_partly_left no_fields gs = refl
  fields_partly_left (field p f x b t fs) gs =
      ap (λ z. z && fields_partly_connectable (bare_fields fs) gs) (met_alike true (λ g. beq f g.flip && is_partly_connectable (bare t) g.data_type) (λ g. beq f g.flip && is_partly_connectable t g.data_type) (λ g. ap (λ z. beq f g.flip && z) (partly_left t g.data_type)) (field_named x gs))
      ∙ ap (λ z. met true (λ g. beq f g.flip && is_partly_connectable t g.data_type) (field_named x gs) && z) (fields_partly_left fs gs)

mutual
  partly_right : (s t : DataType) → is_partly_connectable s (bare t) ≡ is_partly_connectable s t
  partly_right (bundle fs) (bundle gs) = fields_partly_right fs gs
  partly_right (bundle fs) _ = refl
  partly_right (vector t n) (vector u m) = partly_right t u
  partly_right (vector t n) _ = refl
  partly_right s (bundle gs) = refl
  partly_right s (vector u m) = refl
  partly_right s t = fitting_right s t

  fields_partly_right : (fs gs : Fields) → fields_partly_connectable fs (bare_fields gs) ≡ fields_partly_connectable fs gs
  fields_partly_right no_fields gs = refl
  fields_partly_right (field p f x b t fs) gs =
      ap (λ o. met true (λ g. beq f g.flip && is_partly_connectable t g.data_type) o && fields_partly_connectable fs (bare_fields gs)) (bare_field_named x gs)
      ∙ ap (λ z. z && fields_partly_connectable fs (bare_fields gs)) (met_shown true (λ g. beq f g.flip && is_partly_connectable t g.data_type) (field_named x gs)
      ∙ met_alike true (λ g. beq f g.flip && is_partly_connectable t (bare g.data_type)) (λ g. beq f g.flip && is_partly_connectable t g.data_type) (λ g. ap (λ z. beq f g.flip && z) (partly_right t g.data_type)) (field_named x gs))
      ∙ ap (λ z. met true (λ g. beq f g.flip && is_partly_connectable t g.data_type) (field_named x gs) && z) (fields_partly_right fs gs)

pub partly_shown : (one other : Bool) (s t : DataType) → is_partly_connectable (shown one s) (shown other t) ≡ is_partly_connectable s t
partly_shown true true s t = partly_left s (bare t) ∙ partly_right s t
partly_shown true false s t = partly_left s t
partly_shown false true s t = partly_right s t
partly_shown false false s t = refl
