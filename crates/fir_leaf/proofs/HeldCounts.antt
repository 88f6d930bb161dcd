-- What is declared holds as many types as its own type has leaves: its sized type is that type without widths.
use Rattle.std.proofs.Common.{◌≡◌, ℕ, zero, suc, ◌+◌, ◌*◌, List, [], ◌∷◌, length, Bool, true, false, if◌then◌else◌, Option, Some, None, option_map, refl, ap, ◌∙◌, arith, length-append}
use Rattle.std.specs.Str.{bytes_eq}
use Rattle.std.proofs.Math.Nat.{suc-mul}
use Rattle.fir_ast.specs.Types.{DataType, uint, sint, clock, reset, async_reset, bundle, vector, Fields, no_fields, field}
use Rattle.fir_ast.specs.Statements.{PlacedName}
use Rattle.fir_ast.specs.Circuits.{ModuleTree}
use Rattle.fir_meaning.specs.TypeKinds.{bare, bare_fields}
use Rattle.fir_meaning.specs.TypeLeaves.{leaf_count, field_count}
use Rattle.fir_meaning.specs.Components.{Component, port, wire, register, node, instance, memory}
use Rattle.fir_meaning.specs.Visibility.{Before}
use Rattle.fir_meaning.specs.ComponentTypes.{instance_bundle, find_module, instance_type, component_type}
use Rattle.fir_meaning.specs.TypeGroup.{scope_at}
use Rattle.fir_meaning.specs.MemoryTypes.{memory_type}
use Rattle.fir_meaning.specs.WidthExpressions.{Widths}
use Rattle.fir_meaning.specs.SizedTypes.{Sized, SizedFields, unsigned, signed, clock_scalar, reset_scalar, async_scalar, scalar, sized_bundle, sized_vector, no_sized_fields, sized_field, numbered, bare_type, bare_type_fields}
use Rattle.fir_meaning.specs.SizedScopes.{sized_type}
use Rattle.fir_meaning.specs.SizedMemories.{as_written}
use Rattle.fir_meaning.specs.SizedDeclarations.{NumberedModule, port_numbers, instance_from, numbers_at, sized_declared}
use Rattle.fir_meaning.proofs.SizedShapes.{numbered_bare, renumbered_bare}
use Rattle.fir_meaning.proofs.SizedExpressions.{sized_as_typed}
use Rattle.fir_meaning.specs.HeldTypes.{repeated, held_types, held_field_types}

-- a sized type holds a type for each leaf
repeated_counted : {A : Type 0} (n : ℕ) (xs : List A) → length (repeated n xs) ≡ n * length xs
repeated_counted zero xs = omega arith
repeated_counted (suc n) xs = omega (arith, length-append xs (repeated n xs), suc-mul n (length xs), repeated_counted n xs)

mutual
  held_counted : (w : Widths) (t : Sized) → length (held_types w t) ≡ leaf_count (bare_type t)
  held_counted w (scalar unsigned e) = refl
  held_counted w (scalar signed e) = refl
  held_counted w (scalar clock_scalar e) = refl
  held_counted w (scalar reset_scalar e) = refl
  held_counted w (scalar async_scalar e) = refl
  held_counted w (sized_bundle fs) = fields_counted w fs
  held_counted w (sized_vector t n) = repeated_counted n (held_types w t) ∙ ap (λ k. n * k) (held_counted w t)

  fields_counted : (w : Widths) (fs : SizedFields) → length (held_field_types w fs) ≡ field_count (bare_type_fields fs)
  fields_counted w no_sized_fields = refl
  fields_counted w (sized_field p flip x begins t rest) =
      omega (arith, length-append (held_types w t) (held_field_types w rest), held_counted w t, fields_counted w rest)

-- widths do not count
mutual
  bare_counted : (t : DataType) → leaf_count (bare t) ≡ leaf_count t
  bare_counted (uint w) = refl
  bare_counted (sint w) = refl
  bare_counted clock = refl
  bare_counted reset = refl
  bare_counted async_reset = refl
  bare_counted (bundle fs) = bare_fields_counted fs
  bare_counted (vector t n) = ap (λ k. n * k) (bare_counted t)

  bare_fields_counted : (fs : Fields) → field_count (bare_fields fs) ≡ field_count fs
  bare_fields_counted no_fields = refl
  bare_fields_counted (field p flip x begins t rest) = rw (bare_counted t, bare_fields_counted rest) refl

-- an instance has its module's ports, and a memory its own
instance_bare : (k : ℕ) (modules : List ModuleTree) (name : List ℕ) (t : DataType) → instance_type modules name ≡ Some t
    → bare_type (instance_from k modules name) ≡ bare t
instance_bare k [] name t h = cc
instance_bare k (m ∷ ms) name t h = by (bytes_eq m.named.name name) h (instance_bare (k + port_numbers m) ms name t)
  where
    by : (b : Bool) → option_map instance_bundle (if b then Some m else find_module ms name) ≡ Some t
        → (instance_type ms name ≡ Some t → bare_type (instance_from (k + port_numbers m) ms name) ≡ bare t)
        → bare_type (if b then numbered (Some k) (instance_bundle m) else instance_from (k + port_numbers m) ms name) ≡ bare t
    by true i later = let same : instance_bundle m ≡ t = cc in numbered_bare (Some k) (instance_bundle m) ∙ ap bare same
    by false i later = later i

written_bare : (o : Option DataType) (t : DataType) → o ≡ Some t → bare_type (as_written o) ≡ bare t
written_bare None t e = cc
written_bare (Some u) t e = let same : u ≡ t = cc in numbered_bare None u ∙ ap bare same

-- the numbers of a module begin with nothing declared
module _ (m : NumberedModule) (none : m.start.scope ≡ []) where
  declared_bare : (before : Before) (n : PlacedName) (c : Component) (t : DataType) → component_type m.modules (scope_at m.modules before) n.place c ≡ Some t
      → bare_type (sized_declared m before n c) ≡ bare t
  declared_bare before n (port d u) t h = let same : u ≡ t = cc in numbered_bare (Some (numbers_at m before).port) u ∙ ap bare same
  declared_bare before n (wire u) t h = let same : u ≡ t = cc in numbered_bare (Some (numbers_at m before).next) u ∙ ap bare same
  declared_bare before n (register u) t h = let same : u ≡ t = cc in numbered_bare (Some (numbers_at m before).next) u ∙ ap bare same
  declared_bare before n (node e) t h =
      renumbered_bare (numbers_at m before).next (sized_type (numbers_at m before).scope e) t (sized_as_typed m.modules m.start before.declared e t none h)
  declared_bare before n (instance name) t h = instance_bare 0 m.modules name t h
  declared_bare before n (memory parts) t h = written_bare (memory_type n.place parts) t h

  pub held_by_type : (w : Widths) (before : Before) (n : PlacedName) (c : Component) (t : DataType)
      → component_type m.modules (scope_at m.modules before) n.place c ≡ Some t → length (held_types w (sized_declared m before n c)) ≡ leaf_count t
  held_by_type w before n c t h = held_counted w (sized_declared m before n c) ∙ ap leaf_count (declared_bare before n c t h) ∙ bare_counted t
