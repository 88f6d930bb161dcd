-- The numbers of the unknowns in a sized type: those of a declaration are its own, and so are those of what a reference leads to.
use Rattle.std.proofs.Common.{◌≡◌, ℕ, ◌+◌, ◌<◌, ◌≤◌, List, Bool, true, false, ◌==◌, if◌then◌else◌, Option, Some, None, refl, sym, ap, ◌∙◌, subst, arith}
use Rattle.std.specs.Str.{bytes_eq}
use Rattle.fir_ast.specs.Types.{DataType, uint, sint, clock, reset, async_reset, bundle, vector, Fields, no_fields, field}
use Rattle.fir_ast.specs.Expressions.{Parts, no_parts, subfield, subindex, subaccess}
use Rattle.fir_meaning.specs.SharedLeaves.{shared_count, shared_field_count}
use Rattle.fir_meaning.specs.TypeKinds.{bare, bare_fields}
use Rattle.fir_meaning.specs.WidthExpressions.{Width, known, unknown, single, pair, greater, guarded}
use Rattle.fir_meaning.specs.SizedTypes.{Sized, SizedFields, scalar, sized_bundle, sized_vector, no_sized_fields, sized_field, leaf_width, numbered, numbered_fields, bare_type, node_type, renumbered, sized_named, sized_found, fields_in, element_in}
use Rattle.fir_meaning.specs.SizedOperations.{guarded_by, guarded_fields}
use Rattle.fir_meaning.specs.SizedScopes.{sized_part}
use Rattle.fir_meaning.proofs.SizedShapes.{node_bare}

module _ (Q : ℕ → Type 0) where
  abbrev pub IsOwned : Width → Type 0
  IsOwned (known n) = Unit {0}
  IsOwned (unknown k) = Q k
  IsOwned (single op is a n m) = Unit {0}
  IsOwned (pair op is a b) = Unit {0}
  IsOwned (greater a b) = Unit {0}
  IsOwned (guarded c a) = Unit {0}

  abbrev mutual
    pub Owned : Sized → Type 0
    Owned (scalar s e) = IsOwned e
    Owned (sized_bundle fs) = FieldsOwned fs
    Owned (sized_vector t n) = Owned t

    pub FieldsOwned : SizedFields → Type 0
    FieldsOwned no_sized_fields = Unit {0}
    FieldsOwned (sized_field p flip x begins t rest) = Owned t × FieldsOwned rest

-- whatever they own
owned_width : (Q R : ℕ → Type 0) (e : Width) → ((k : ℕ) → Q k → R k) → IsOwned Q e → IsOwned R e
owned_width Q R (known n) to h = tt
owned_width Q R (unknown k) to h = to k h
owned_width Q R (single op is a n m) to h = tt
owned_width Q R (pair op is a b) to h = tt
owned_width Q R (greater a b) to h = tt
owned_width Q R (guarded c a) to h = tt

mutual
  pub owned_else : (Q R : ℕ → Type 0) (s : Sized) → ((k : ℕ) → Q k → R k) → Owned Q s → Owned R s
  owned_else Q R (scalar k e) to h = owned_width Q R e to h
  owned_else Q R (sized_bundle fs) to h = owned_fields_else Q R fs to h
  owned_else Q R (sized_vector t n) to h = owned_else Q R t to h

  pub owned_fields_else : (Q R : ℕ → Type 0) (fs : SizedFields) → ((k : ℕ) → Q k → R k) → FieldsOwned Q fs → FieldsOwned R fs
  owned_fields_else Q R no_sized_fields to h = tt
  owned_fields_else Q R (sized_field p f x b t rest) to h = (owned_else Q R t to h.0, owned_fields_else Q R rest to h.1)

-- without numbers
module _ (Q : ℕ → Type 0) where
  written_width : (o : Option ℕ) → IsOwned Q (leaf_width None o)
  written_width None = tt
  written_width (Some n) = tt

  either_way : (b : Bool) (t : DataType) → Owned Q (numbered None t) → Owned Q (numbered (if b then None else None) t)
  either_way true t h = h
  either_way false t h = h

  mutual
    pub none_owned : (t : DataType) → Owned Q (numbered None t)
    none_owned (uint w) = written_width w
    none_owned (sint w) = written_width w
    none_owned clock = tt
    none_owned reset = tt
    none_owned async_reset = tt
    none_owned (bundle fs) = none_fields_owned fs
    none_owned (vector t n) = either_way (n == 0) t (none_owned t)

    none_fields_owned : (fs : Fields) → FieldsOwned Q (numbered_fields None fs)
    none_fields_owned no_fields = tt
    none_fields_owned (field p f x b t rest) = (none_owned t, none_fields_owned rest)

  -- what is guarded is no unknown
  mutual
    pub guarded_owned : (c : Width) (s : Sized) → Owned Q (guarded_by c s)
    guarded_owned c (scalar k e) = tt
    guarded_owned c (sized_bundle fs) = guarded_fields_owned c fs
    guarded_owned c (sized_vector t n) = guarded_owned c t

    guarded_fields_owned : (c : Width) (fs : SizedFields) → FieldsOwned Q (guarded_fields c fs)
    guarded_fields_owned c no_sized_fields = tt
    guarded_fields_owned c (sized_field p f x b t rest) = (guarded_owned c t, guarded_fields_owned c rest)

  -- parts
  pub named_owned : (x : List ℕ) (fs : SizedFields) → FieldsOwned Q fs → (u : Sized) → sized_named x fs ≡ Some u → Owned Q u
  named_owned x no_sized_fields h u e = absurd (cc)
  named_owned x (sized_field p f y b t rest) h u e = by (bytes_eq y x) e (named_owned x rest h.1 u)
    where
      by : (v : Bool) → (if v then Some t else sized_named x rest) ≡ Some u → (sized_named x rest ≡ Some u → Owned Q u) → Owned Q u
      by true k later = let same : t ≡ u = cc in subst (Owned Q) same h.0
      by false k later = later k

  pub field_owned : (x : List ℕ) (s : Sized) → Owned Q s → Owned Q (sized_found (sized_named x (fields_in s)))
  field_owned x s h = by (sized_named x (fields_in s)) refl (inside s h)
    where
      inside : (s : Sized) → Owned Q s → FieldsOwned Q (fields_in s)
      inside (scalar k e) h = tt
      inside (sized_bundle fs) h = h
      inside (sized_vector t n) h = tt

      by : (o : Option Sized) → sized_named x (fields_in s) ≡ o → FieldsOwned Q (fields_in s) → Owned Q (sized_found o)
      by None e k = tt
      by (Some u) e k = named_owned x (fields_in s) k u e

  pub element_owned : (s : Sized) → Owned Q s → Owned Q (element_in s)
  element_owned (scalar k e) h = tt
  element_owned (sized_bundle fs) h = tt
  element_owned (sized_vector t n) h = h

  pub part_owned : (s : Sized) (ps : Parts) → Owned Q s → Owned Q (sized_part s ps)
  part_owned s no_parts h = h
  part_owned s (subfield first p x rest) h = part_owned (sized_found (sized_named x (fields_in s))) rest (field_owned x s h)
  part_owned s (subindex first p i rest) h = part_owned (element_in s) rest (element_owned s h)
  part_owned s (subaccess first e rest) h = part_owned (element_in s) rest (element_owned s h)

-- the numbers that a type takes
abbrev pub Within : ℕ → ℕ → ℕ → Type 0
Within k n j = (k ≤ j) × (j < k + n)

numbered_width : (k : ℕ) (o : Option ℕ) → IsOwned (Within k 1) (leaf_width (Some k) o)
numbered_width k None = (omega arith, omega arith)
numbered_width k (Some n) = tt

either_number : (k n : ℕ) (b : Bool) (t : DataType) → Owned (Within k n) (numbered (Some k) t) → Owned (Within k n) (numbered (if b then None else Some k) t)
either_number k n true t h = none_owned (Within k n) t
either_number k n false t h = h

mutual
  pub numbered_owned : (k : ℕ) (t : DataType) → Owned (Within k (shared_count t)) (numbered (Some k) t)
  numbered_owned k (uint w) = numbered_width k w
  numbered_owned k (sint w) = numbered_width k w
  numbered_owned k clock = tt
  numbered_owned k reset = tt
  numbered_owned k async_reset = tt
  numbered_owned k (bundle fs) = numbered_fields_owned k fs
  numbered_owned k (vector t n) = either_number k (shared_count t) (n == 0) t (numbered_owned k t)

  pub numbered_fields_owned : (k : ℕ) (fs : Fields) → FieldsOwned (Within k (shared_field_count fs)) (numbered_fields (Some k) fs)
  numbered_fields_owned k no_fields = tt
  numbered_fields_owned k (field p f x b t rest) = (
    owned_else (Within k (shared_count t)) (Within k (shared_count t + shared_field_count rest)) (numbered (Some k) t)
        (λ j h. (h.0, omega (arith, h.1))) (numbered_owned k t),
    owned_fields_else (Within (k + shared_count t) (shared_field_count rest)) (Within k (shared_count t + shared_field_count rest))
        (numbered_fields (Some (k + shared_count t)) rest) (λ j h. (omega (arith, h.0), omega (arith, h.1))) (numbered_fields_owned (k + shared_count t) rest),
  )

-- the type of a node takes as many as that of its expression
mutual
  shared_bare : (t : DataType) → shared_count (bare t) ≡ shared_count t
  shared_bare (uint w) = refl
  shared_bare (sint w) = refl
  shared_bare clock = refl
  shared_bare reset = refl
  shared_bare async_reset = refl
  shared_bare (bundle fs) = shared_bare_fields fs
  shared_bare (vector t n) = shared_bare t

  shared_bare_fields : (fs : Fields) → shared_field_count (bare_fields fs) ≡ shared_field_count fs
  shared_bare_fields no_fields = refl
  shared_bare_fields (field p f x b t rest) = rw (shared_bare t, shared_bare_fields rest) refl

pub node_shared : (s : Sized) → shared_count (node_type s) ≡ shared_count (bare_type s)
node_shared s = sym (shared_bare (node_type s)) ∙ ap shared_count (node_bare s)

pub renumbered_owned : (k : ℕ) (s : Sized) → Owned (Within k (shared_count (bare_type s))) (renumbered k s)
renumbered_owned k s = subst (λ n. Owned (Within k n) (renumbered k s)) (node_shared s) (numbered_owned k (node_type s))
