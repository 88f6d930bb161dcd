-- The parts of two sides that meet in a connect: elements of vectors, and fields of bundles.
use Rattle.std.proofs.Common.{◌≡◌, ℕ, ◌+◌, ◌<◌, ◌^◌, List, [], length, Bool, true, false, if◌then◌else◌, Some, None, refl, sym, ap, ◌∙◌, subst}
use Rattle.std.specs.Str.{bytes_eq}
use Rattle.fir_ast.specs.Types.{DataType, uint, sint, clock, reset, async_reset, bundle, vector, Fields, no_fields, field}
use Rattle.fir_meaning.specs.TypeKinds.{bare, bare_fields, FieldFound, field_named}
use Rattle.fir_meaning.specs.Reaching.{field_of_type}
use Rattle.fir_meaning.specs.WidthExpressions.{Width}
use Rattle.fir_meaning.specs.SizedTypes.{unsigned, signed, clock_scalar, reset_scalar, async_scalar, Sized, scalar, sized_bundle, sized_vector, SizedFields, no_sized_fields, sized_field, bare_type, bare_type_fields, fields_in, sized_found, sized_named}
use Rattle.fir_meaning.specs.SizedMatches.{Match, matches, field_matches, where_met}
use Rattle.fir_type_table.specs.declared.kind.TypeId.{TypeId}
use Rattle.fir_type_table.specs.declared.entry.Member.{Member}
use Rattle.fir_type_table.specs.working.Saturated.{saturated}
use Rattle.fir_meaning.specs.working.FieldSizes.{shared_before}
use Rattle.fir_type_table.specs.working.Tables.{type_at, member_fields, shown}
use Rattle.fir_types.specs.declared.found.Found.TheVariants as found
use Rattle.fir_types.specs.working.Seen.{found_type}
use Rattle.fir_types.proofs.BareTypes.{shown_bare}
use Rattle.fir_width.specs.declared.side.Side.{Side}
use Rattle.fir_width.specs.working.FlatWidths.{flat}
use Rattle.fir_infer_widths.specs.working.Meetings.{AreFields}
use Rattle.fir_width.specs.working.StandingWidths.{Stands}
use Rattle.fir_width.specs.working.Sides.{IsSide}
use Rattle.fir_infer_widths.proofs.RangeSides.{field_stands, stands_saturated}

-- the left side is a bundle
pub record IsBundleSide (ts : List DataType) (meant : List Width) (number : ℕ) (ms : List Member) (s : Sized) : Type 0 where
  pub fields : SizedFields
  pub is : s ≡ sized_bundle fields
  pub are : AreFields ts meant number ms fields

bundle_shape : (ts : List DataType) (meant : List Width) (number : ℕ) (ms : List Member) (s : Sized) → bare_type s ≡ bundle (bare_fields (member_fields ts ms))
    → Stands meant number (flat s) → IsBundleSide ts meant number ms s
bundle_shape ts meant number ms (sized_bundle fs) e h = record { fields = fs; is = refl; are = record { shape = cc; stands = h } }
bundle_shape ts meant number ms (sized_vector t n) e h = absurd (cc)
bundle_shape ts meant number ms (scalar unsigned w) e h = absurd (cc)
bundle_shape ts meant number ms (scalar signed w) e h = absurd (cc)
bundle_shape ts meant number ms (scalar clock_scalar w) e h = absurd (cc)
bundle_shape ts meant number ms (scalar reset_scalar w) e h = absurd (cc)
bundle_shape ts meant number ms (scalar async_scalar w) e h = absurd (cc)

pub bundle_side : (ts : List DataType) (meant : List Width) (side : Side) (s : Sized) (is_bare : Bool) (t : DataType) (ms : List Member)
    → IsSide ts meant side s → found_type ts side.found ≡ shown is_bare t → t ≡ bundle (member_fields ts ms) → IsBundleSide ts meant side.first ms s
bundle_side ts meant side s is_bare t ms h seen is =
    bundle_shape ts meant side.first ms s (h.shape ∙ ap bare seen ∙ shown_bare is_bare t ∙ ap bare is) h.stands

-- or a vector
pub record IsVectorSide (ts : List DataType) (meant : List Width) (element : Side) (n : ℕ) (s : Sized) : Type 0 where
  pub part : Sized
  pub is : s ≡ sized_vector part n
  pub side : IsSide ts meant element part

vector_shape : (ts : List DataType) (meant : List Width) (element : Side) (n : ℕ) (s : Sized) → bare_type s ≡ vector (bare (found_type ts element.found)) n
    → Stands meant element.first (flat s) → IsVectorSide ts meant element n s
vector_shape ts meant element n (sized_vector u m) e h =
    let same : m ≡ n = cc in
    record { part = u; is = ap (sized_vector u) same; side = record { shape = cc; stands = h } }
vector_shape ts meant element n (sized_bundle fs) e h = absurd (cc)
vector_shape ts meant element n (scalar unsigned w) e h = absurd (cc)
vector_shape ts meant element n (scalar signed w) e h = absurd (cc)
vector_shape ts meant element n (scalar clock_scalar w) e h = absurd (cc)
vector_shape ts meant element n (scalar reset_scalar w) e h = absurd (cc)
vector_shape ts meant element n (scalar async_scalar w) e h = absurd (cc)

pub vector_side : (ts : List DataType) (meant : List Width) (side : Side) (s : Sized) (is_bare : Bool) (t : DataType) (id : TypeId) (n : ℕ)
    → IsSide ts meant side s → found_type ts side.found ≡ shown is_bare t → t ≡ vector (type_at ts id.number) n
    → IsVectorSide ts meant (record { found = found.Type id true; first = side.first }) n s
vector_side ts meant side s is_bare t id n h seen is =
    vector_shape ts meant (record { found = found.Type id true; first = side.first }) n s
    (h.shape ∙ ap bare seen ∙ shown_bare is_bare t ∙ ap bare is ∙ ap (λ u. vector u n) (sym (shown_bare true (type_at ts id.number)))) h.stands

-- a bundle and a side that may have fields
no_fields_met : (turn : Bool) (fs : SizedFields) → field_matches turn fs no_sized_fields ≡ []
no_fields_met turn no_sized_fields = refl
no_fields_met turn (sized_field p flip x begins t rest) = no_fields_met turn rest

pub fields_met : (turn : Bool) (fs : SizedFields) (t : Sized) → field_matches turn fs (fields_in t) ≡ matches turn (sized_bundle fs) t
fields_met turn fs (sized_bundle gs) = refl
fields_met turn fs (scalar k w) = no_fields_met turn fs
fields_met turn fs (sized_vector u n) = no_fields_met turn fs

-- the field of a name of the right side
missing_field : (gs : SizedFields) (fs : Fields) (x : List ℕ) → bare_type_fields gs ≡ bare_fields fs → field_named x fs ≡ None → sized_named x gs ≡ None
missing_field no_sized_fields fs x e h = refl
missing_field (sized_field q turn z starts s more) no_fields x e h = absurd (cc)
missing_field (sized_field q turn z starts s more) (field p flip y begins t rest) x e h =
    by (bytes_eq y x) refl (λ later. missing_field more rest x (let d : bare_type_fields more ≡ bare_fields rest = cc in d) later) h
  where
    same : z ≡ y
    same = cc

    by : (b : Bool) → bytes_eq y x ≡ b → (field_named x rest ≡ None → sized_named x more ≡ None)
        → (if b then Some (record { flip = flip; data_type = t }) else field_named x rest) ≡ None → (if bytes_eq z x then Some s else sized_named x more) ≡ None
    by true i later k = absurd (cc)
    by false i later k = rw (same, i) (later k)

found_field : (gs : SizedFields) (fs : Fields) (x : List ℕ) (f : FieldFound) → bare_type_fields gs ≡ bare_fields fs → field_named x fs ≡ Some f
    → (u : Sized) × (sized_named x gs ≡ Some u)
found_field gs no_fields x f e h = absurd (cc)
found_field no_sized_fields (field p flip y begins t rest) x f e h = absurd (cc)
found_field (sized_field q turn z starts s more) (field p flip y begins t rest) x f e h =
    by (bytes_eq y x) refl (λ later. found_field more rest x f (let d : bare_type_fields more ≡ bare_fields rest = cc in d) later) h
  where
    same : z ≡ y
    same = cc

    by : (b : Bool) → bytes_eq y x ≡ b → (field_named x rest ≡ Some f → (u : Sized) × (sized_named x more ≡ Some u))
        → (if b then Some (record { flip = flip; data_type = t }) else field_named x rest) ≡ Some f
        → (u : Sized) × ((if bytes_eq z x then Some s else sized_named x more) ≡ Some u)
    by true i later k = (s, rw (same, i) refl)
    by false i later k = let r = later k in (r.0, rw (same, i) r.1)

pub no_field_met : (ts : List DataType) (meant : List Width) (side : Side) (t : Sized) (x : List ℕ) (of_both : Sized → List Match) → IsSide ts meant side t
    → field_of_type x (found_type ts side.found) ≡ None → [] ≡ where_met of_both (sized_named x (fields_in t))
no_field_met ts meant side (scalar k w) x of_both h e = refl
no_field_met ts meant side (sized_vector u n) x of_both h e = refl
no_field_met ts meant side (sized_bundle gs) x of_both h e = ap (where_met of_both) (sym (by (found_type ts side.found) h.shape e))
  where
    by : (t : DataType) → bundle (bare_type_fields gs) ≡ bare t → field_of_type x t ≡ None → sized_named x gs ≡ None
    by (bundle fs) i k = missing_field gs fs x (cc) k
    by (vector u n) i k = absurd (cc)
    by (uint w) i k = absurd (cc)
    by (sint w) i k = absurd (cc)
    by clock i k = absurd (cc)
    by reset i k = absurd (cc)
    by async_reset i k = absurd (cc)

-- there is one, with its leaves behind those before it
pub record IsFieldSide (ts : List DataType) (meant : List Width) (side : Side) (x : List ℕ) (t : Sized) : Type 0 where
  pub part : Sized
  pub named : sized_named x (fields_in t) ≡ Some part
  pub is : IsSide ts meant side part

named_part : (t : Sized) (u : DataType) (x : List ℕ) (f : FieldFound) → bare_type t ≡ bare u → field_of_type x u ≡ Some f
    → (s : Sized) × (sized_named x (fields_in t) ≡ Some s)
named_part t (vector u n) x f e h = absurd (cc)
named_part t (uint w) x f e h = absurd (cc)
named_part t (sint w) x f e h = absurd (cc)
named_part t clock x f e h = absurd (cc)
named_part t reset x f e h = absurd (cc)
named_part t async_reset x f e h = absurd (cc)
named_part (sized_bundle gs) (bundle fs) x f e h = found_field gs fs x f (cc) h
named_part (sized_vector u n) (bundle fs) x f e h = absurd (cc)
named_part (scalar unsigned w) (bundle fs) x f e h = absurd (cc)
named_part (scalar signed w) (bundle fs) x f e h = absurd (cc)
named_part (scalar clock_scalar w) (bundle fs) x f e h = absurd (cc)
named_part (scalar reset_scalar w) (bundle fs) x f e h = absurd (cc)
named_part (scalar async_scalar w) (bundle fs) x f e h = absurd (cc)

pub field_side : (ts : List DataType) (meant : List Width) (side own : Side) (t : Sized) (x : List ℕ) (f : FieldFound) → length meant < 2 ^ 64
    → IsSide ts meant side t → field_of_type x (found_type ts side.found) ≡ Some f → found_type ts own.found ≡ f.data_type
    → own.first ≡ saturated (side.first + saturated (shared_before x (found_type ts side.found))) → IsFieldSide ts meant own x t
field_side ts meant side own t x f short h e seen first =
    let u : DataType = found_type ts side.found in
    let part = named_part t u x f h.shape e in
    let behind = field_stands meant side.first t u x f (record { shape = h.shape; stands = h.stands }) e in
    let same : sized_found (sized_named x (fields_in t)) ≡ part.0 = ap sized_found part.1 in
    record {
      part = part.0;
      named = part.1;
      is = record {
        shape = sym (ap bare_type same) ∙ behind.shape ∙ ap bare (sym seen);
        stands =
            subst (λ n. Stands meant n (flat part.0)) (sym first)
            (stands_saturated meant (flat part.0) side.first (shared_before x u) short
            (subst (λ s. Stands meant (side.first + shared_before x u) (flat s)) same behind.stands));
      };
    }
