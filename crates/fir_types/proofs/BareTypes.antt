-- A type without its widths: what it may be used for, and its parts, are those of the type.
use Rattle.std.proofs.Common.{◌≡◌, ℕ, ◌+◌, ◌*◌, List, refl, ap, ◌∙◌, Bool, true, false, ◌&&◌, Option, Some, None}
use Rattle.std.specs.Prelude.{not, ◌||◌, ◌==◌, option_map, if◌then◌else◌}
use Rattle.std.specs.Str.{bytes_eq}
use Rattle.fir_ast.specs.Types.{DataType, uint, sint, clock, reset, async_reset, bundle, vector, Fields, no_fields, field}
use Rattle.fir_meaning.specs.TypeKinds.{is_passive, are_passive, is_numeric, are_numeric, bare, bare_fields, FieldFound, field_named}
use Rattle.fir_meaning.specs.Reaching.{field_of_type}
use Rattle.fir_meaning.specs.TypeLeaves.{field_count, leaf_count}
use Rattle.fir_meaning.specs.SharedLeaves.{shared_count, shared_field_count}
use Rattle.fir_meaning.specs.working.FieldSizes.{leaves_before, leaves_before_field, shared_before, shared_before_field}
use Rattle.fir_type_table.specs.working.Tables.{shown}

mutual
  bare_passive : (t : DataType) → is_passive (bare t) ≡ is_passive t
  bare_passive (bundle fs) = bare_fields_passive fs
  bare_passive (vector t n) = bare_passive t
  bare_passive (uint w) = refl
  bare_passive (sint w) = refl
  bare_passive clock = refl
  bare_passive reset = refl
  bare_passive async_reset = refl

  bare_fields_passive : (fs : Fields) → are_passive (bare_fields fs) ≡ are_passive fs
  bare_fields_passive no_fields = refl
  bare_fields_passive (field p flip x b t fs) =
      ap (λ y. not flip && (y && are_passive (bare_fields fs))) (bare_passive t) ∙ ap (λ y. not flip && (is_passive t && y)) (bare_fields_passive fs)

pub shown_passive : (is_bare : Bool) (t : DataType) → is_passive (shown is_bare t) ≡ is_passive t
shown_passive true t = bare_passive t
shown_passive false t = refl

mutual
  bare_numeric : (t : DataType) → is_numeric (bare t) ≡ is_numeric t
  bare_numeric (bundle fs) = bare_fields_numeric fs
  bare_numeric (vector t n) = ap (λ y. n == 0 || y) (bare_numeric t)
  bare_numeric (uint w) = refl
  bare_numeric (sint w) = refl
  bare_numeric clock = refl
  bare_numeric reset = refl
  bare_numeric async_reset = refl

  bare_fields_numeric : (fs : Fields) → are_numeric (bare_fields fs) ≡ are_numeric fs
  bare_fields_numeric no_fields = refl
  bare_fields_numeric (field p flip x b t fs) =
      ap (λ y. y && are_numeric (bare_fields fs)) (bare_numeric t) ∙ ap (λ y. is_numeric t && y) (bare_fields_numeric fs)

pub shown_numeric : (is_bare : Bool) (t : DataType) → is_numeric (shown is_bare t) ≡ is_numeric t
shown_numeric true t = bare_numeric t
shown_numeric false t = refl

mutual
  bare_again : (t : DataType) → bare (bare t) ≡ bare t
  bare_again (bundle fs) = ap bundle (bare_fields_again fs)
  bare_again (vector t n) = ap (λ u. vector u n) (bare_again t)
  bare_again (uint w) = refl
  bare_again (sint w) = refl
  bare_again clock = refl
  bare_again reset = refl
  bare_again async_reset = refl

  bare_fields_again : (fs : Fields) → bare_fields (bare_fields fs) ≡ bare_fields fs
  bare_fields_again no_fields = refl
  bare_fields_again (field p flip x b t fs) =
      ap (λ u. field p flip x b u (bare_fields (bare_fields fs))) (bare_again t) ∙ ap (field p flip x b (bare t)) (bare_fields_again fs)

pub shown_bare : (is_bare : Bool) (t : DataType) → bare (shown is_bare t) ≡ bare t
shown_bare true t = bare_again t
shown_bare false t = refl

-- a field with or without its widths
abbrev pub shown_field : Bool → FieldFound → FieldFound
shown_field is_bare f = record { flip = f.flip; data_type = shown is_bare f.data_type }

bare_either : (same : Bool) (flip : Bool) (t : DataType) (rest bare_rest : Option FieldFound) → bare_rest ≡ option_map (shown_field true) rest
    → (if same then Some (record { flip = flip; data_type = bare t }) else bare_rest) ≡ option_map (shown_field true) (if same then Some (record { flip = flip; data_type = t }) else rest)
bare_either true flip t rest bare_rest e = refl
bare_either false flip t rest bare_rest e = e

pub bare_field_named : (x : List ℕ) (fs : Fields) → field_named x (bare_fields fs) ≡ option_map (shown_field true) (field_named x fs)
bare_field_named x no_fields = refl
bare_field_named x (field p flip y b t fs) = bare_either (bytes_eq y x) flip t (field_named x fs) (field_named x (bare_fields fs)) (bare_field_named x fs)

bare_field_of_type : (x : List ℕ) (t : DataType) → field_of_type x (bare t) ≡ option_map (shown_field true) (field_of_type x t)
bare_field_of_type x (bundle fs) = bare_field_named x fs
bare_field_of_type x (vector t n) = refl
bare_field_of_type x (uint w) = refl
bare_field_of_type x (sint w) = refl
bare_field_of_type x clock = refl
bare_field_of_type x reset = refl
bare_field_of_type x async_reset = refl

same_field : (f : Option FieldFound) → f ≡ option_map (shown_field false) f
same_field None = refl
same_field (Some f) = refl

pub shown_field_of_type : (is_bare : Bool) (x : List ℕ) (t : DataType) → field_of_type x (shown is_bare t) ≡ option_map (shown_field is_bare) (field_of_type x t)
shown_field_of_type true x t = bare_field_of_type x t
shown_field_of_type false x t = same_field (field_of_type x t)

mutual
  bare_leaf_count : (t : DataType) → leaf_count (bare t) ≡ leaf_count t
  bare_leaf_count (bundle fs) = bare_field_count fs
  bare_leaf_count (vector t n) = ap (λ k. n * k) (bare_leaf_count t)
  bare_leaf_count (uint w) = refl
  bare_leaf_count (sint w) = refl
  bare_leaf_count clock = refl
  bare_leaf_count reset = refl
  bare_leaf_count async_reset = refl

  bare_field_count : (fs : Fields) → field_count (bare_fields fs) ≡ field_count fs
  bare_field_count no_fields = refl
  bare_field_count (field p flip x b t fs) =
      ap (λ k. k + field_count (bare_fields fs)) (bare_leaf_count t) ∙ ap (λ k. leaf_count t + k) (bare_field_count fs)

pub shown_leaf_count : (is_bare : Bool) (t : DataType) → leaf_count (shown is_bare t) ≡ leaf_count t
shown_leaf_count true t = bare_leaf_count t
shown_leaf_count false t = refl

mutual
  bare_shared_count : (t : DataType) → shared_count (bare t) ≡ shared_count t
  bare_shared_count (bundle fs) = bare_shared_field_count fs
  bare_shared_count (vector t n) = bare_shared_count t
  bare_shared_count (uint w) = refl
  bare_shared_count (sint w) = refl
  bare_shared_count clock = refl
  bare_shared_count reset = refl
  bare_shared_count async_reset = refl

  bare_shared_field_count : (fs : Fields) → shared_field_count (bare_fields fs) ≡ shared_field_count fs
  bare_shared_field_count no_fields = refl
  bare_shared_field_count (field p flip x b t fs) =
      ap (λ k. k + shared_field_count (bare_fields fs)) (bare_shared_count t) ∙ ap (λ k. shared_count t + k) (bare_shared_field_count fs)

pub shown_shared_count : (is_bare : Bool) (t : DataType) → shared_count (shown is_bare t) ≡ shared_count t
shown_shared_count true t = bare_shared_count t
shown_shared_count false t = refl

bare_before_field : (name : List ℕ) (fs : Fields) → leaves_before_field name (bare_fields fs) ≡ leaves_before_field name fs
bare_before_field name no_fields = refl
bare_before_field name (field p flip x b t fs) =
    ap (λ k. if bytes_eq x name then 0 else k + leaves_before_field name (bare_fields fs)) (bare_leaf_count t)
    ∙ ap (λ k. if bytes_eq x name then 0 else leaf_count t + k) (bare_before_field name fs)

bare_shared_before_field : (name : List ℕ) (fs : Fields) → shared_before_field name (bare_fields fs) ≡ shared_before_field name fs
bare_shared_before_field name no_fields = refl
bare_shared_before_field name (field p flip x b t fs) =
    ap (λ k. if bytes_eq x name then 0 else k + shared_before_field name (bare_fields fs)) (bare_shared_count t)
    ∙ ap (λ k. if bytes_eq x name then 0 else shared_count t + k) (bare_shared_before_field name fs)

bare_before : (name : List ℕ) (t : DataType) → leaves_before name (bare t) ≡ leaves_before name t
bare_before name (bundle fs) = bare_before_field name fs
bare_before name (vector t n) = refl
bare_before name (uint w) = refl
bare_before name (sint w) = refl
bare_before name clock = refl
bare_before name reset = refl
bare_before name async_reset = refl

bare_shared_before : (name : List ℕ) (t : DataType) → shared_before name (bare t) ≡ shared_before name t
bare_shared_before name (bundle fs) = bare_shared_before_field name fs
bare_shared_before name (vector t n) = refl
bare_shared_before name (uint w) = refl
bare_shared_before name (sint w) = refl
bare_shared_before name clock = refl
bare_shared_before name reset = refl
bare_shared_before name async_reset = refl

pub shown_leaves_before : (is_bare : Bool) (name : List ℕ) (t : DataType) → leaves_before name (shown is_bare t) ≡ leaves_before name t
shown_leaves_before true name t = bare_before name t
shown_leaves_before false name t = refl

pub shown_shared_before : (is_bare : Bool) (name : List ℕ) (t : DataType) → shared_before name (shown is_bare t) ≡ shared_before name t
shown_shared_before true name t = bare_shared_before name t
shown_shared_before false name t = refl
