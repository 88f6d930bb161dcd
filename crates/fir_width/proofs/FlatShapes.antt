-- A sized type has as many leaves as its type, where all elements of a vector share theirs; and so has a type whose leaves are numbered.
use Rattle.std.proofs.Common.{◌≡◌, ℕ, ◌+◌, length, Option, None, if◌then◌else◌, refl, ap, ◌∙◌, true, arith, length-append}
use Rattle.std.specs.Prelude.{◌==◌}
use Rattle.fir_ast.specs.Types.{DataType, uint, sint, clock, reset, async_reset, bundle, vector, Fields, no_fields, field}
use Rattle.fir_meaning.specs.TypeKinds.{bare}
use Rattle.fir_meaning.specs.SharedLeaves.{shared_count, shared_field_count}
use Rattle.fir_meaning.specs.SizedTypes.{past, numbered, numbered_fields, unsigned, signed, clock_scalar, reset_scalar, async_scalar, Sized, scalar, sized_bundle, sized_vector, SizedFields, no_sized_fields, sized_field, bare_type, bare_type_fields}
use Rattle.fir_types.proofs.BareTypes.{shown_shared_count}
use Rattle.fir_width.specs.working.FlatWidths.{flat, flat_fields}

mutual
  flat_length : (s : Sized) → length (flat s) ≡ shared_count (bare_type s)
  flat_length (scalar unsigned w) = refl
  flat_length (scalar signed w) = refl
  flat_length (scalar clock_scalar w) = refl
  flat_length (scalar reset_scalar w) = refl
  flat_length (scalar async_scalar w) = refl
  flat_length (sized_bundle fs) = flat_fields_length fs
  flat_length (sized_vector t n) = flat_length t

  flat_fields_length : (fs : SizedFields) → length (flat_fields fs) ≡ shared_field_count (bare_type_fields fs)
  flat_fields_length no_sized_fields = refl
  flat_fields_length (sized_field p flip x begins t rest) = omega (arith, length-append (flat t) (flat_fields rest), flat_length t, flat_fields_length rest)

pub flat_counted : (s : Sized) (t : DataType) → bare_type s ≡ bare t → length (flat s) ≡ shared_count t
flat_counted s t e = flat_length s ∙ (ap shared_count e ∙ shown_shared_count true t)

-- a type has as many widths as it has leaves
mutual
  pub flat_long : (at : Option ℕ) (t : DataType) → length (flat (numbered at t)) ≡ shared_count t
  flat_long at (uint w) = refl
  flat_long at (sint w) = refl
  flat_long at clock = refl
  flat_long at reset = refl
  flat_long at async_reset = refl
  flat_long at (bundle fs) = flat_fields_long at fs
  flat_long at (vector t n) = flat_long (if n == 0 then None else at) t

  pub flat_fields_long : (at : Option ℕ) (fs : Fields) → length (flat_fields (numbered_fields at fs)) ≡ shared_field_count fs
  flat_fields_long at no_fields = refl
  flat_fields_long at (field p flip x begins t rest) =
      length-append (flat (numbered at t)) (flat_fields (numbered_fields (past (shared_count t) at) rest))
      ∙ ap (λ n. n + length (flat_fields (numbered_fields (past (shared_count t) at) rest))) (flat_long at t)
      ∙ ap (λ n. shared_count t + n) (flat_fields_long (past (shared_count t) at) rest)
