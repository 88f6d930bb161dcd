-- Types of nodes without the widths that are found anew: parts and declarations keep that a sized type gives the same as a type.
use Rattle.std.proofs.Common.{◌≡◌, ℕ, ◌==◌, List, Bool, true, false, if◌then◌else◌, Option, Some, None, refl, sym, ap, ◌∙◌}
use Rattle.std.specs.Str.{bytes_eq}
use Rattle.fir_ast.specs.Types.{DataType, uint, sint, clock, reset, async_reset, bundle, vector, Fields, no_fields, field}
use Rattle.fir_meaning.specs.TypeKinds.{bare, bare_fields, FieldFound, field_named}
use Rattle.fir_meaning.specs.Reaching.{field_of_type, vector_of_type}
use Rattle.fir_meaning.specs.SharedLeaves.{shared_count, shared_field_count}
use Rattle.fir_meaning.specs.WidthExpressions.{Width}
use Rattle.fir_meaning.specs.SizedTypes.{Scalar, unsigned, signed, clock_scalar, reset_scalar, async_scalar, Sized, scalar, sized_bundle, sized_vector, SizedFields, no_sized_fields, sized_field, past, numbered, numbered_fields, bare_type, bare_type_fields, written_type, written_fields, node_type, node_fields, renumbered, sized_named, sized_found, fields_in, element_in}
use Rattle.fir_meaning.specs.SizedOperations.{guarded_by, guarded_fields}
use Rattle.fir_meaning.specs.working.InferredTypes.{inferred, inferred_fields}
use Rattle.fir_meaning.proofs.SizedShapes.{numbered_bare, bare_again, node_bare, guarded_bare}
use Rattle.fir_meaning.proofs.SizedReferences.{GoesToParts, HoldsOfDeclared}

-- a node's type is the written one without the widths that are found anew
mutual
  inferred_written : (s : Sized) → inferred (written_type s) ≡ node_type s
  inferred_written (scalar unsigned w) = refl
  inferred_written (scalar signed w) = refl
  inferred_written (scalar clock_scalar w) = refl
  inferred_written (scalar reset_scalar w) = refl
  inferred_written (scalar async_scalar w) = refl
  inferred_written (sized_bundle fs) = ap bundle (inferred_fields_written fs)
  inferred_written (sized_vector t n) = ap (λ u. vector u n) (by (n == 0) (inferred_written t))
    where
      by : (b : Bool) → inferred (written_type t) ≡ node_type t
          → (if b then written_type t else inferred (written_type t)) ≡ (if b then written_type t else node_type t)
      by true inside = refl
      by false inside = inside

  inferred_fields_written : (fs : SizedFields) → inferred_fields (written_fields fs) ≡ node_fields fs
  inferred_fields_written no_sized_fields = refl
  inferred_fields_written (sized_field p flip x begins t rest) = rw (inferred_written t, inferred_fields_written rest) refl

-- they are left out once
mutual
  inferred_again : (t : DataType) → inferred (inferred t) ≡ inferred t
  inferred_again (uint w) = refl
  inferred_again (sint w) = refl
  inferred_again clock = refl
  inferred_again reset = refl
  inferred_again async_reset = refl
  inferred_again (bundle fs) = ap bundle (inferred_fields_again fs)
  inferred_again (vector t n) = ap (λ u. vector u n) (by (n == 0) (inferred_again t))
    where
      by : (b : Bool) → inferred (inferred t) ≡ inferred t
          → (if b then if b then t else inferred t else inferred (if b then t else inferred t)) ≡ (if b then t else inferred t)
      by true inside = refl
      by false inside = inside

  inferred_fields_again : (fs : Fields) → inferred_fields (inferred_fields fs) ≡ inferred_fields fs
  inferred_fields_again no_fields = refl
  inferred_fields_again (field p flip x begins t rest) = rw (inferred_again t, inferred_fields_again rest) refl

node_again : (s : Sized) → inferred (node_type s) ≡ node_type s
node_again s = ap inferred (sym (inferred_written s)) ∙ (inferred_again (written_type s) ∙ inferred_written s)

-- the shape stays
mutual
  inferred_bare : (t : DataType) → bare (inferred t) ≡ bare t
  inferred_bare (uint w) = refl
  inferred_bare (sint w) = refl
  inferred_bare clock = refl
  inferred_bare reset = refl
  inferred_bare async_reset = refl
  inferred_bare (bundle fs) = ap bundle (inferred_fields_bare fs)
  inferred_bare (vector t n) = ap (λ u. vector u n) (by (n == 0) (inferred_bare t))
    where
      by : (b : Bool) → bare (inferred t) ≡ bare t → bare (if b then t else inferred t) ≡ bare t
      by true inside = refl
      by false inside = inside

  inferred_fields_bare : (fs : Fields) → bare_fields (inferred_fields fs) ≡ bare_fields fs
  inferred_fields_bare no_fields = refl
  inferred_fields_bare (field p flip x begins t rest) = rw (inferred_bare t, inferred_fields_bare rest) refl

-- and the leaves hang on it alone
mutual
  count_bare : (t : DataType) → shared_count (bare t) ≡ shared_count t
  count_bare (uint w) = refl
  count_bare (sint w) = refl
  count_bare clock = refl
  count_bare reset = refl
  count_bare async_reset = refl
  count_bare (bundle fs) = count_fields_bare fs
  count_bare (vector t n) = count_bare t

  count_fields_bare : (fs : Fields) → shared_field_count (bare_fields fs) ≡ shared_field_count fs
  count_fields_bare no_fields = refl
  count_fields_bare (field p flip x begins t rest) = rw (count_bare t, count_fields_bare rest) refl

same_count : (t u : DataType) → bare t ≡ bare u → shared_count t ≡ shared_count u
same_count t u e = sym (count_bare t) ∙ (ap shared_count e ∙ count_bare u)

-- a type without numbers is as it is written, and its node is as the type itself
mutual
  numbered_written : (t : DataType) → numbered None (written_type (numbered None t)) ≡ numbered None t
  numbered_written (uint None) = refl
  numbered_written (uint (Some w)) = refl
  numbered_written (sint None) = refl
  numbered_written (sint (Some w)) = refl
  numbered_written clock = refl
  numbered_written reset = refl
  numbered_written async_reset = refl
  numbered_written (bundle fs) = ap sized_bundle (numbered_fields_written fs)
  numbered_written (vector t n) = ap (λ u. sized_vector u n) (by (n == 0) (numbered_written t))
    where
      by : (b : Bool) → numbered None (written_type (numbered None t)) ≡ numbered None t
          → numbered (if b then None else None) (written_type (numbered (if b then None else None) t)) ≡ numbered (if b then None else None) t
      by true inside = inside
      by false inside = inside

  numbered_fields_written : (fs : Fields) → numbered_fields None (written_fields (numbered_fields None fs)) ≡ numbered_fields None fs
  numbered_fields_written no_fields = refl
  numbered_fields_written (field p flip x begins t rest) = rw (numbered_written t, numbered_fields_written rest) refl

mutual
  numbered_again : (at before : Option ℕ) (t : DataType) → numbered at (node_type (numbered before t)) ≡ numbered at (inferred t)
  numbered_again at before (uint w) = refl
  numbered_again at before (sint w) = refl
  numbered_again at before clock = refl
  numbered_again at before reset = refl
  numbered_again at before async_reset = refl
  numbered_again at before (bundle fs) = ap sized_bundle (numbered_fields_again at before fs)
  numbered_again at before (vector t n) = ap (λ u. sized_vector u n) (by (n == 0) (numbered_again at before t))
    where
      by : (b : Bool) → numbered at (node_type (numbered before t)) ≡ numbered at (inferred t)
          → numbered (if b then None else at)
          (if b then written_type (numbered (if b then None else before) t) else node_type (numbered (if b then None else before) t))
          ≡ numbered (if b then None else at) (if b then t else inferred t)
      by true inside = numbered_written t
      by false inside = inside

  numbered_fields_again : (at before : Option ℕ) (fs : Fields)
      → numbered_fields at (node_fields (numbered_fields before fs)) ≡ numbered_fields at (inferred_fields fs)
  numbered_fields_again at before no_fields = refl
  numbered_fields_again at before (field p flip x begins t rest) =
      let count = same_count (node_type (numbered before t)) (inferred t)
      (node_bare (numbered before t) ∙ (numbered_bare before t ∙ sym (inferred_bare t))) in
      rw (count, numbered_again at before t, numbered_fields_again (past (shared_count (inferred t)) at) (past (shared_count t) before) rest) refl

-- the node of an expression is as the type, without numbers and so with any
abbrev pub SameNode : Sized → DataType → Type 0
SameNode s t = numbered None (node_type s) ≡ numbered None (inferred t)

pub with_numbers : (s : Sized) (t : DataType) → SameNode s t → (at : Option ℕ) → numbered at (node_type s) ≡ numbered at (inferred t)
with_numbers s t e at =
    let left = numbered_again at None (node_type s) ∙ ap (numbered at) (node_again s) in
    let right = numbered_again at None (inferred t) ∙ ap (numbered at) (inferred_again t) in
    sym left ∙ (ap (λ u. numbered at (node_type u)) e ∙ right)

-- then the shapes are the same
pub node_shape : (s : Sized) (t : DataType) → SameNode s t → bare_type s ≡ bare t
node_shape s t e =
    let left = numbered_bare None (node_type s) ∙ node_bare s in
    let right = numbered_bare None (inferred t) ∙ inferred_bare t in
    sym left ∙ (ap bare_type e ∙ right)

-- a scalar
pub scalar_node : (k : Scalar) (w : Width) (t : DataType) → bare_type (scalar k w) ≡ bare t → SameNode (scalar k w) t
scalar_node k w (uint v) e = ap (numbered None) e
scalar_node k w (sint v) e = ap (numbered None) e
scalar_node k w clock e = ap (numbered None) e
scalar_node k w reset e = ap (numbered None) e
scalar_node k w async_reset e = ap (numbered None) e
scalar_node unsigned w (bundle fs) e = absurd (cc)
scalar_node signed w (bundle fs) e = absurd (cc)
scalar_node clock_scalar w (bundle fs) e = absurd (cc)
scalar_node reset_scalar w (bundle fs) e = absurd (cc)
scalar_node async_scalar w (bundle fs) e = absurd (cc)
scalar_node unsigned w (vector t n) e = absurd (cc)
scalar_node signed w (vector t n) e = absurd (cc)
scalar_node clock_scalar w (vector t n) e = absurd (cc)
scalar_node reset_scalar w (vector t n) e = absurd (cc)
scalar_node async_scalar w (vector t n) e = absurd (cc)

-- what is guarded has no width that is written
mutual
  written_guarded : (c : Width) (s : Sized) → written_type (guarded_by c s) ≡ bare_type s
  written_guarded c (scalar unsigned w) = refl
  written_guarded c (scalar signed w) = refl
  written_guarded c (scalar clock_scalar w) = refl
  written_guarded c (scalar reset_scalar w) = refl
  written_guarded c (scalar async_scalar w) = refl
  written_guarded c (sized_bundle fs) = ap bundle (written_fields_guarded c fs)
  written_guarded c (sized_vector t n) = ap (λ u. vector u n) (written_guarded c t)

  written_fields_guarded : (c : Width) (fs : SizedFields) → written_fields (guarded_fields c fs) ≡ bare_type_fields fs
  written_fields_guarded c no_sized_fields = refl
  written_fields_guarded c (sized_field p flip x begins t rest) = rw (written_guarded c t, written_fields_guarded c rest) refl

pub guarded_node : (c : Width) (s : Sized) (u t : DataType) → bare_type (guarded_by c s) ≡ bare t → t ≡ bare u → SameNode (guarded_by c s) t
guarded_node c s u t e is =
    let plain = sym (guarded_bare c s) ∙ (e ∙ (ap bare is ∙ (bare_again u ∙ sym is))) in
    ap (numbered None) (sym (inferred_written (guarded_by c s)) ∙ ap inferred (written_guarded c s ∙ plain))

-- fields
bundle_node : (s : Sized) (gs : SizedFields) → numbered None (node_type s) ≡ sized_bundle gs → numbered_fields None (node_fields (fields_in s)) ≡ gs
bundle_node (scalar unsigned w) gs e = cc
bundle_node (scalar signed w) gs e = cc
bundle_node (scalar clock_scalar w) gs e = cc
bundle_node (scalar reset_scalar w) gs e = cc
bundle_node (scalar async_scalar w) gs e = cc
bundle_node (sized_bundle fs) gs e = cc
bundle_node (sized_vector t n) gs e = cc

fields_node : (gs : SizedFields) (fs : Fields) (x : List ℕ) (f : FieldFound) → numbered_fields None (node_fields gs) ≡ numbered_fields None (inferred_fields fs)
    → field_named x fs ≡ Some f → SameNode (sized_found (sized_named x gs)) f.data_type
fields_node gs no_fields x f e h = absurd (cc)
fields_node no_sized_fields (field p flip y begins t rest) x f e h = absurd (cc)
fields_node (sized_field q turn z starts s more) (field p flip y begins t rest) x f e h =
    by (bytes_eq y x) refl
    (fields_node more rest x f (let d : numbered_fields None (node_fields more) ≡ numbered_fields None (inferred_fields rest) = cc in d)) h
  where
    same : z ≡ y
    same = cc

    by : (b : Bool) → bytes_eq y x ≡ b → (field_named x rest ≡ Some f → SameNode (sized_found (sized_named x more)) f.data_type)
        → (if b then Some (record { flip = flip; data_type = t }) else field_named x rest) ≡ Some f
        → SameNode (sized_found (if bytes_eq z x then Some s else sized_named x more)) f.data_type
    by true g later k =
        let here : SameNode s t = cc in
        let is : t ≡ f.data_type = cc in
        rw (same, g) (here ∙ ap (λ u. numbered None (inferred u)) is)
    by false g later k = rw (same, g) (later k)

field_node : (s : Sized) (t : DataType) (x : List ℕ) (f : FieldFound) → SameNode s t → field_of_type x t ≡ Some f
    → SameNode (sized_found (sized_named x (fields_in s))) f.data_type
field_node s (bundle fs) x f e h = fields_node (fields_in s) fs x f (bundle_node s (numbered_fields None (inferred_fields fs)) e) h
field_node s (uint w) x f e h = absurd (cc)
field_node s (sint w) x f e h = absurd (cc)
field_node s clock x f e h = absurd (cc)
field_node s reset x f e h = absurd (cc)
field_node s async_reset x f e h = absurd (cc)
field_node s (vector t n) x f e h = absurd (cc)

-- elements, also where all that is written stays
written_node : (s : Sized) (t : DataType) → numbered None (written_type s) ≡ numbered None t → SameNode s t
written_node s t e =
    let left = numbered_again None None (written_type s) ∙ ap (numbered None) (inferred_written s) in
    sym left ∙ (ap (λ u. numbered None (node_type u)) e ∙ numbered_again None None t)

vector_node : (s u : Sized) (n : ℕ) → numbered None (node_type s) ≡ sized_vector u n
    → numbered (if n == 0 then None else None) (if n == 0 then written_type (element_in s) else node_type (element_in s)) ≡ u
vector_node (scalar unsigned w) u n e = absurd (cc)
vector_node (scalar signed w) u n e = absurd (cc)
vector_node (scalar clock_scalar w) u n e = absurd (cc)
vector_node (scalar reset_scalar w) u n e = absurd (cc)
vector_node (scalar async_scalar w) u n e = absurd (cc)
vector_node (sized_bundle fs) u n e = absurd (cc)
vector_node (sized_vector t m) u n e = let same : m ≡ n = cc in rw (← same) (cc)

element_node : (s : Sized) (t : DataType) (v : DataType × ℕ) → SameNode s t → vector_of_type t ≡ Some v → SameNode (element_in s) v.0
element_node s (vector t n) v e h =
    let is : t ≡ v.0 = cc in
    rw (← is) (by (n == 0) (vector_node s (numbered (if n == 0 then None else None) (if n == 0 then t else inferred t)) n e))
  where
    by : (b : Bool)
        → numbered (if b then None else None) (if b then written_type (element_in s) else node_type (element_in s))
        ≡ numbered (if b then None else None) (if b then t else inferred t)
        → SameNode (element_in s) t
    by true here = written_node (element_in s) t here
    by false here = here
element_node s (uint w) v e h = absurd (cc)
element_node s (sint w) v e h = absurd (cc)
element_node s clock v e h = absurd (cc)
element_node s reset v e h = absurd (cc)
element_node s async_reset v e h = absurd (cc)
element_node s (bundle fs) v e h = absurd (cc)

pub nodes_to_parts : GoesToParts SameNode
nodes_to_parts = record { to_fields = field_node; to_elements = element_node }

-- the node of a node is as the node
node_anew : (k : ℕ) (s : Sized) (t : DataType) → SameNode s t → SameNode (renumbered k s) t
node_anew k s t e = numbered_again None (Some k) (node_type s) ∙ (ap (numbered None) (node_again s) ∙ e)

pub nodes_declared : HoldsOfDeclared SameNode
nodes_declared = record { written = numbered_again None; anew = node_anew }
