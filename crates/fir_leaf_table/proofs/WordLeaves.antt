-- The leaves of a type as the text writes it, each with what it holds.
use Rattle.std.proofs.Common.{◌≡◌, ℕ, suc, ◌+◌, ◌*◌, ◌<◌, ◌≤◌, List, [], ◌∷◌, ◌++◌, map, drop, length, get_or, Bool, true, false, if◌then◌else◌, Option, None, Box, ◌⊎◌, ⊎_elim, Global, refl, sym, ap, ◌∙◌, arith, append_assoc}
use Rattle.std.specs.Prelude.{◌==◌}
use Rattle.std.proofs.lemmas.List.{append-nil, drop-map, drop_all, drop_at, drop_more, length-append, length-map, map-append, map_push}
use Rattle.fir_ast.specs.declared.types.Field.{Field}
use Rattle.fir_ast.specs.declared.types.Ty.{Ty, fold-roll-Ty}
use Rattle.fir_ast.specs.declared.types.Ty.TheOpen.{Ty-F}
use Rattle.fir_ast.specs.declared.types.Ty.TheVariants.{AsyncReset, Reset, Vector, rolls-AsyncReset, rolls-Reset, rolls-Vector}
use Rattle.fir_ast.specs.Types.{DataType, uint, sint, clock, reset, async_reset, bundle, vector, Fields, no_fields, field}
use Rattle.fir_ast.specs.View.{fields_of}
use Rattle.fir_ast.specs.working.TypeViews.{field_step, type_of, type_step}
use Rattle.fir_ast.specs.working.BundleText.{field_of}
use Rattle.fir_ast.proofs.Fields.{field_of-is}
use Rattle.fir_meaning.specs.SizedTypes.{numbered, numbered_fields, past}
use Rattle.fir_meaning.specs.SharedLeaves.{shared_count}
use Rattle.fir_meaning.specs.TypeLeaves.{field_count, leaf_count}
use Rattle.fir_meaning.specs.WidthExpressions.{Widths}
use Rattle.fir_meaning.specs.LeafTypes.{LeafType, number}
use Rattle.fir_meaning.specs.HeldTypes.{held_field_types, held_types, repeated}
use Rattle.fir_leaf_circuit.specs.declared.leaf.LeafType.{LeafType as TypeOfCode}
use Rattle.fir_leaf_circuit.specs.working.Seen.{type_seen}
use Rattle.fir_leaf_table.specs.working.TypedLeaves.{types_seen}
use Rattle.fir_leaf_table.proofs.RepeatedLists.{length_repeated, map_repeated}

-- types as the code has them
pub vector_view : (e : Box Ty Global) (n : ℕ) → type_of (Vector e n) ≡ vector (type_of e.value) n
vector_view e n = ap type_of (sym (rolls-Vector e n)) ∙ fold-roll-Ty DataType (Fields → Fields) type_step field_step (Ty-F.Vector e n)

reset_view : type_of Reset ≡ reset
reset_view = ap type_of (sym rolls-Reset) ∙ fold-roll-Ty DataType (Fields → Fields) type_step field_step Ty-F.Reset

async_view : type_of AsyncReset ≡ async_reset
async_view = ap type_of (sym rolls-AsyncReset) ∙ fold-roll-Ty DataType (Fields → Fields) type_step field_step Ty-F.AsyncReset

module _ (w : Widths) where
  abbrev pub fields_held : List Field → List LeafType
  fields_held fs = held_field_types w (numbered_fields None (fields_of (map field_of fs)))

  -- a leaf that is put behind others
  pub pushed_held : (before new : List TypeOfCode) (x : TypeOfCode) (h : LeafType) (held : List LeafType) → new ≡ before ++ x ∷ []
      → type_seen x ≡ h → held ≡ h ∷ [] → types_seen new ≡ types_seen before ++ held
  pushed_held before new x h held pushed is one =
      ap types_seen pushed ∙ map_push type_seen before x ∙ ap (λ y. types_seen before ++ y ∷ []) is
      ∙ ap (λ hs. types_seen before ++ hs) (sym one)

  -- field by field
  pub fields_next : (start so_far new : List TypeOfCode) (fields : List Field) (i : ℕ) (f : Field)
      → types_seen so_far ++ fields_held (drop i fields) ≡ types_seen start ++ fields_held fields → i < length fields
      → f ≡ get_or fields i f
      → types_seen new ≡ types_seen so_far ++ held_types w (numbered None (type_of f.ty))
      → types_seen new ++ fields_held (drop (i + 1) fields) ≡ types_seen start ++ fields_held fields
  fields_next start so_far new fields i f left within at grown =
      let rest = drop (i + 1) fields in
      let own = held_types w (numbered None (type_of f.ty)) in
      let split : fields_held (drop i fields) ≡ own ++ fields_held rest =
      ap fields_held (drop_more fields i f within ∙ ap (λ g. g ∷ rest) (sym at))
      ∙ ap (λ fs. held_field_types w (numbered_fields None fs)) (field_of-is f (fields_of (map field_of rest))) in
      ap (λ ts. ts ++ fields_held rest) grown ∙ append_assoc (types_seen so_far) own (fields_held rest)
      ∙ ap (λ ts. types_seen so_far ++ ts) (sym split) ∙ left

  pub fields_done : (start so_far : List TypeOfCode) (fields : List Field) (i : ℕ)
      → types_seen so_far ++ fields_held (drop i fields) ≡ types_seen start ++ fields_held fields → length fields ≤ i
      → types_seen so_far ≡ types_seen start ++ fields_held fields
  fields_done start so_far fields i left past =
      sym (append-nil (types_seen so_far)) ∙ ap (λ fs. types_seen so_far ++ fields_held fs) (sym (drop_all i fields past)) ∙ left

  -- the elements of a vector
  vector_types : (t : DataType) (n : ℕ) → held_types w (numbered None (vector t n)) ≡ repeated n (held_types w (numbered None t))
  vector_types t n = by (n == 0)
    where
      by : (b : Bool) → repeated n (held_types w (numbered (if b then None else None) t)) ≡ repeated n (held_types w (numbered None t))
      by true = refl
      by false = refl

  pub vector_held : (before first all : List TypeOfCode) (start others n : ℕ) (t : DataType) → start ≡ length before
      → types_seen first ≡ types_seen before ++ held_types w (numbered None t) → all ≡ first ++ repeated others (drop start first)
      → suc others ≡ n → types_seen all ≡ types_seen before ++ held_types w (numbered None (vector t n))
  vector_held before first all start others n t begins one more count =
      let own = held_types w (numbered None t) in
      let long : length (types_seen before) ≡ start = length-map before type_seen ∙ sym begins in
      let element : types_seen (drop start first) ≡ own =
      sym (drop-map type_seen start first) ∙ ap (drop start) one ∙ drop_at (types_seen before) own start long in
      ap types_seen more ∙ map-append type_seen first (repeated others (drop start first))
      ∙ ap (λ ts. types_seen first ++ ts) (map_repeated type_seen others (drop start first) ∙ ap (repeated others) element)
      ∙ ap (λ ts. ts ++ repeated others own) one ∙ append_assoc (types_seen before) own (repeated others own)
      ∙ ap (λ k. types_seen before ++ repeated k own) count ∙ ap (λ ts. types_seen before ++ ts) (sym (vector_types t n))

  -- a reset
  pub reset_held : (ty : Ty) → (ty ≡ Reset) ⊎ (ty ≡ AsyncReset)
      → held_types w (numbered None (type_of ty)) ≡ number (record { signed = false; width = 1 }) ∷ []
  reset_held ty is =
      let held : DataType → List LeafType = λ t. held_types w (numbered None t) in
      let bit : List LeafType = number (record { signed = false; width = 1 }) ∷ [] in
      let inferred : ty ≡ Reset → held (type_of ty) ≡ bit = λ e. ap held (ap type_of e ∙ reset_view) in
      let asynchronous : ty ≡ AsyncReset → held (type_of ty) ≡ bit = λ e. ap held (ap type_of e ∙ async_view) in
      ⊎_elim inferred asynchronous is

  -- as many as the type has leaves
  mutual
    pub held_count : (at : Option ℕ) (t : DataType) → length (held_types w (numbered at t)) ≡ leaf_count t
    held_count at (uint x) = refl
    held_count at (sint x) = refl
    held_count at clock = refl
    held_count at reset = refl
    held_count at async_reset = refl
    held_count at (bundle fs) = fields_count at fs
    held_count at (vector t n) =
        length_repeated n (held_types w (numbered (if n == 0 then None else at) t)) ∙ ap (λ k. n * k) (held_count (if n == 0 then None else at) t)

    fields_count : (at : Option ℕ) (fs : Fields) → length (held_field_types w (numbered_fields at fs)) ≡ field_count fs
    fields_count at no_fields = refl
    fields_count at (field p flip x begins t rest) =
        omega (
          arith,
          length-append (held_types w (numbered at t)) (held_field_types w (numbered_fields (past (shared_count t) at) rest)),
          held_count at t,
          fields_count (past (shared_count t) at) rest,
        )
