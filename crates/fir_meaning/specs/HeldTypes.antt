-- What each leaf of a type holds, in the order of the type, with the widths of the circuit (FIRRTL spec, "Ground Types", "Aggregate Types").
use Rattle.std.specs.Prelude.{ℕ, zero, suc, List, [], ◌∷◌, ◌++◌, true, false}
use Rattle.fir_meaning.specs.WidthExpressions.{Width, Widths, width_under}
use Rattle.fir_meaning.specs.SizedTypes.{Scalar, Sized, SizedFields, unsigned, signed, clock_scalar, reset_scalar, async_scalar, scalar, sized_bundle, sized_vector, no_sized_fields, sized_field}
use Rattle.fir_meaning.specs.LeafTypes.{LeafType, a_clock, number}

abbrev pub scalar_type : Widths → Scalar → Width → LeafType
scalar_type w unsigned e = number (record { signed = false; width = width_under e w })
scalar_type w signed e = number (record { signed = true; width = width_under e w })
scalar_type w clock_scalar e = a_clock
scalar_type w reset_scalar e = number (record { signed = false; width = 1 })
scalar_type w async_scalar e = number (record { signed = false; width = 1 })

abbrev pub repeated : {A : Type 0} → ℕ → List A → List A
repeated zero xs = []
repeated (suc n) xs = xs ++ repeated n xs

-- what each leaf of a type holds
abbrev mutual
  pub held_types : Widths → Sized → List LeafType
  held_types w (scalar s e) = scalar_type w s e ∷ []
  held_types w (sized_bundle fs) = held_field_types w fs
  held_types w (sized_vector t n) = repeated n (held_types w t)

  pub held_field_types : Widths → SizedFields → List LeafType
  held_field_types w no_sized_fields = []
  held_field_types w (sized_field p flip x begins t rest) = held_types w t ++ held_field_types w rest
