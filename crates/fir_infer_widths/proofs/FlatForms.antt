-- The leaves of muxes and validifs: one by one those of their arms.
use Rattle.std.proofs.Common.{◌≡◌, ℕ, List, [], ◌∷◌, ◌++◌, length, true, ◌&&◌, refl, sym, ap, ◌∙◌, length-append, arith}
use Rattle.std.specs.Prelude.{◌==◌}
use Rattle.std.specs.Bool.{beq}
use Rattle.std.specs.Str.{bytes_eq}
use Rattle.fir_base.proofs.Tests.{both}
use Rattle.fir_ast.specs.Types.{DataType, Fields, bundle, vector}
use Rattle.fir_meaning.specs.Equivalence.{fields_alike, is_equivalent, same_ground}
use Rattle.fir_meaning.specs.TypeKinds.{bare}
use Rattle.fir_meaning.specs.WidthExpressions.{Width, guarded}
use Rattle.fir_meaning.specs.SizedTypes.{Scalar, unsigned, signed, clock_scalar, reset_scalar, async_scalar, Sized, scalar, sized_bundle, sized_vector, SizedFields, no_sized_fields, sized_field, bare_type, bare_type_fields}
use Rattle.fir_meaning.specs.SizedOperations.{greater_of, greater_fields, guarded_by, guarded_fields}
use Rattle.fir_types.proofs.BarePairs.{equivalent_shown}
use Rattle.fir_width.specs.working.FlatWidths.{flat, flat_fields, greater_each, guarded_each}

-- each is guarded
guarded_joined : (c : Width) (vs ws : List Width) → guarded_each c (vs ++ ws) ≡ guarded_each c vs ++ guarded_each c ws
guarded_joined c [] ws = refl
guarded_joined c (v ∷ vs) ws = ap (λ xs. guarded c v ∷ xs) (guarded_joined c vs ws)

pub guarded_counted : (c : Width) (ws : List Width) → length (guarded_each c ws) ≡ length ws
guarded_counted c [] = refl
guarded_counted c (w ∷ ws) = rw (guarded_counted c ws) refl

mutual
  pub flat_guarded : (c : Width) (s : Sized) → flat (guarded_by c s) ≡ guarded_each c (flat s)
  flat_guarded c (scalar s w) = refl
  flat_guarded c (sized_bundle fs) = flat_guarded_fields c fs
  flat_guarded c (sized_vector t n) = flat_guarded c t

  flat_guarded_fields : (c : Width) (fs : SizedFields) → flat_fields (guarded_fields c fs) ≡ guarded_each c (flat_fields fs)
  flat_guarded_fields c no_sized_fields = refl
  flat_guarded_fields c (sized_field p flip x begins t rest) =
      rw (flat_guarded c t, flat_guarded_fields c rest) (sym (guarded_joined c (flat t) (flat_fields rest)))

-- types that are equivalent have one form
abbrev mutual
  pub Alike : Sized → Sized → Type 0
  Alike (scalar s v) (scalar t w) = Unit {0}
  Alike (sized_bundle fs) (sized_bundle gs) = FieldsAlike fs gs
  Alike (sized_vector t n) (sized_vector u m) = Alike t u
  Alike _ _ = ⊥

  FieldsAlike : SizedFields → SizedFields → Type 0
  FieldsAlike no_sized_fields no_sized_fields = Unit {0}
  FieldsAlike (sized_field p flip x begins t rest) (sized_field q turn y starts u more) = Alike t u × FieldsAlike rest more
  FieldsAlike _ _ = ⊥

no_bundle : (s : Scalar) (w : Width) (fs : Fields) → is_equivalent (bare_type (scalar s w)) (bundle fs) ≡ true → ⊥
no_bundle unsigned w fs e = cc
no_bundle signed w fs e = cc
no_bundle clock_scalar w fs e = cc
no_bundle reset_scalar w fs e = cc
no_bundle async_scalar w fs e = cc

no_vector : (s : Scalar) (w : Width) (t : DataType) (n : ℕ) → is_equivalent (bare_type (scalar s w)) (vector t n) ≡ true → ⊥
no_vector unsigned w t n e = cc
no_vector signed w t n e = cc
no_vector clock_scalar w t n e = cc
no_vector reset_scalar w t n e = cc
no_vector async_scalar w t n e = cc

bundle_no_scalar : (fs : Fields) (s : Scalar) (w : Width) → is_equivalent (bundle fs) (bare_type (scalar s w)) ≡ true → ⊥
bundle_no_scalar fs unsigned w e = cc
bundle_no_scalar fs signed w e = cc
bundle_no_scalar fs clock_scalar w e = cc
bundle_no_scalar fs reset_scalar w e = cc
bundle_no_scalar fs async_scalar w e = cc

vector_no_scalar : (t : DataType) (n : ℕ) (s : Scalar) (w : Width) → is_equivalent (vector t n) (bare_type (scalar s w)) ≡ true → ⊥
vector_no_scalar t n unsigned w e = cc
vector_no_scalar t n signed w e = cc
vector_no_scalar t n clock_scalar w e = cc
vector_no_scalar t n reset_scalar w e = cc
vector_no_scalar t n async_scalar w e = cc

mutual
  shapes_alike : (s t : Sized) → is_equivalent (bare_type s) (bare_type t) ≡ true → Alike s t
  shapes_alike (scalar s v) (scalar t w) h = tt
  shapes_alike (scalar s v) (sized_bundle gs) h = absurd (no_bundle s v (bare_type_fields gs) h)
  shapes_alike (scalar s v) (sized_vector u m) h = absurd (no_vector s v (bare_type u) m h)
  shapes_alike (sized_bundle fs) (scalar t w) h = absurd (bundle_no_scalar (bare_type_fields fs) t w h)
  shapes_alike (sized_bundle fs) (sized_bundle gs) h = fields_shapes_alike fs gs h
  shapes_alike (sized_bundle fs) (sized_vector u m) h = cc
  shapes_alike (sized_vector t n) (scalar u w) h = absurd (vector_no_scalar (bare_type t) n u w h)
  shapes_alike (sized_vector t n) (sized_bundle gs) h = cc
  shapes_alike (sized_vector t n) (sized_vector u m) h = shapes_alike t u (both (n == m) (is_equivalent (bare_type t) (bare_type u)) h).1

  fields_shapes_alike : (fs gs : SizedFields) → fields_alike same_ground (bare_type_fields fs) (bare_type_fields gs) ≡ true → FieldsAlike fs gs
  fields_shapes_alike no_sized_fields no_sized_fields h = tt
  fields_shapes_alike no_sized_fields (sized_field q turn y starts u more) h = cc
  fields_shapes_alike (sized_field p flip x begins t rest) no_sized_fields h = cc
  fields_shapes_alike (sized_field p flip x begins t rest) (sized_field q turn y starts u more) h =
      let same = is_equivalent (bare_type t) (bare_type u) in
      let others = fields_alike same_ground (bare_type_fields rest) (bare_type_fields more) in
      let one = both (beq flip turn) (bytes_eq x y && (same && others)) h in
      let two = both (bytes_eq x y) (same && others) one.1 in
      let three = both same others two.1 in
      (shapes_alike t u three.0, fields_shapes_alike rest more three.1)

pub arms_alike : (s t : Sized) (u v : DataType) → bare_type s ≡ bare u → bare_type t ≡ bare v → is_equivalent u v ≡ true → Alike s t
arms_alike s t u v one other h = shapes_alike s t (rw (one, other) (equivalent_shown true true u v ∙ h))

-- so they have as many leaves, and the greater of each two are those of the greater type
mutual
  pub alike_counted : (s t : Sized) → Alike s t → length (flat s) ≡ length (flat t)
  alike_counted (scalar s v) (scalar t w) h = refl
  alike_counted (sized_bundle fs) (sized_bundle gs) h = alike_fields_counted fs gs h
  alike_counted (sized_vector t n) (sized_vector u m) h = alike_counted t u h
  alike_counted (scalar s v) (sized_bundle gs) h = absurd h
  alike_counted (scalar s v) (sized_vector u m) h = absurd h
  alike_counted (sized_bundle fs) (scalar t w) h = absurd h
  alike_counted (sized_bundle fs) (sized_vector u m) h = absurd h
  alike_counted (sized_vector t n) (scalar u w) h = absurd h
  alike_counted (sized_vector t n) (sized_bundle gs) h = absurd h

  alike_fields_counted : (fs gs : SizedFields) → FieldsAlike fs gs → length (flat_fields fs) ≡ length (flat_fields gs)
  alike_fields_counted no_sized_fields no_sized_fields h = refl
  alike_fields_counted no_sized_fields (sized_field q turn y starts u more) h = absurd h
  alike_fields_counted (sized_field p flip x begins t rest) no_sized_fields h = absurd h
  alike_fields_counted (sized_field p flip x begins t rest) (sized_field q turn y starts u more) h =
      length-append (flat t) (flat_fields rest) ∙ rw (alike_counted t u h.0, alike_fields_counted rest more h.1) (sym (length-append (flat u) (flat_fields more)))

greater_joined : (ks bs vs ws : List Width) → length ks ≡ length bs → greater_each (ks ++ vs) (bs ++ ws) ≡ greater_each ks bs ++ greater_each vs ws
greater_joined [] [] vs ws e = refl
greater_joined [] (b ∷ bs) vs ws e = absurd (omega arith)
greater_joined (a ∷ ks) [] vs ws e = absurd (omega arith)
greater_joined (a ∷ ks) (b ∷ bs) vs ws e = rw (greater_joined ks bs vs ws (omega arith)) refl

pub greater_counted : (vs ws : List Width) → length vs ≡ length ws → length (greater_each vs ws) ≡ length vs
greater_counted [] [] e = refl
greater_counted [] (w ∷ ws) e = absurd (omega arith)
greater_counted (v ∷ vs) [] e = absurd (omega arith)
greater_counted (v ∷ vs) (w ∷ ws) e = let rest = greater_counted vs ws (omega arith) in omega arith

mutual
  pub flat_greater : (s t : Sized) → Alike s t → flat (greater_of s t) ≡ greater_each (flat s) (flat t)
  flat_greater (scalar s v) (scalar t w) h = refl
  flat_greater (sized_bundle fs) (sized_bundle gs) h = flat_greater_fields fs gs h
  flat_greater (sized_vector t n) (sized_vector u m) h = flat_greater t u h
  flat_greater (scalar s v) (sized_bundle gs) h = absurd h
  flat_greater (scalar s v) (sized_vector u m) h = absurd h
  flat_greater (sized_bundle fs) (scalar t w) h = absurd h
  flat_greater (sized_bundle fs) (sized_vector u m) h = absurd h
  flat_greater (sized_vector t n) (scalar u w) h = absurd h
  flat_greater (sized_vector t n) (sized_bundle gs) h = absurd h

  flat_greater_fields : (fs gs : SizedFields) → FieldsAlike fs gs → flat_fields (greater_fields fs gs) ≡ greater_each (flat_fields fs) (flat_fields gs)
  flat_greater_fields no_sized_fields no_sized_fields h = refl
  flat_greater_fields no_sized_fields (sized_field q turn y starts u more) h = absurd h
  flat_greater_fields (sized_field p flip x begins t rest) no_sized_fields h = absurd h
  flat_greater_fields (sized_field p flip x begins t rest) (sized_field q turn y starts u more) h =
      rw (flat_greater t u h.0, flat_greater_fields rest more h.1)
      (sym (greater_joined (flat t) (flat u) (flat_fields rest) (flat_fields more) (alike_counted t u h.0)))
