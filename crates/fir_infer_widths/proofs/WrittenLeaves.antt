-- The leaves of a type that is written, and those of its sized type, with numbers or with none.
use Rattle.std.proofs.Common.{ℕ, ◌+◌, ◌==◌, map, if◌then◌else◌, Option, None, refl}
use Rattle.fir_ast.specs.Types.{DataType, uint, sint, clock, reset, async_reset, bundle, vector, Fields, no_fields, field}
use Rattle.fir_meaning.specs.LeafPaths.{named}
use Rattle.fir_meaning.specs.SharedLeaves.{shared_count}
use Rattle.fir_meaning.specs.WidthExpressions.{known}
use Rattle.fir_meaning.specs.SizedTypes.{leaf_width, past, numbered, numbered_fields}
use Rattle.fir_meaning.specs.SizedLeaves.{sized_leaves, sized_field_leaves, sized_under}
use Rattle.fir_infer_widths.specs.working.NumberedLeaves.{numbered_leaves, numbered_field_leaves, numbered_under}
use Rattle.fir_infer_widths.proofs.SideLeaves.{Fitting, AreAlike, joined_alike, under_alike, elements_alike}

-- each ground type fits its width, where leaves have such numbers
pub record GroundsFit (Fits : Fitting) (at : Option ℕ) : Type 0 where
  pub of_uint : (number : ℕ) (w : Option ℕ) → Fits number (uint w) (leaf_width at w)
  pub of_sint : (number : ℕ) (w : Option ℕ) → Fits number (sint w) (leaf_width at w)
  pub of_clock : (number : ℕ) → Fits number clock (known 0)
  pub of_reset : (number : ℕ) → Fits number reset (known 1)
  pub of_async : (number : ℕ) → Fits number async_reset (known 1)

module _ (Fits : Fitting) (Is : Option ℕ → Type 0) (more : (n : ℕ) (at : Option ℕ) → Is at → Is (past n at)) (fit : (at : Option ℕ) → Is at → GroundsFit Fits at) where
  mutual
    pub written_alike : (first : ℕ) (at : Option ℕ) → Is at → (t : DataType) → AreAlike Fits (numbered_leaves first t) (sized_leaves (numbered at t))
    written_alike first at is (uint w) = (record { path = refl; flip = refl; fits = (fit at is).of_uint first w }, tt)
    written_alike first at is (sint w) = (record { path = refl; flip = refl; fits = (fit at is).of_sint first w }, tt)
    written_alike first at is clock = (record { path = refl; flip = refl; fits = (fit at is).of_clock first }, tt)
    written_alike first at is reset = (record { path = refl; flip = refl; fits = (fit at is).of_reset first }, tt)
    written_alike first at is async_reset = (record { path = refl; flip = refl; fits = (fit at is).of_async first }, tt)
    written_alike first at is (bundle fs) = written_fields_alike first at is fs
    written_alike first at is (vector t n) =
        elements_alike Fits n (numbered_leaves first t) (sized_leaves (numbered (if n == 0 then None else at) t)) (λ some. rw some (written_alike first at is t))

    written_fields_alike : (first : ℕ) (at : Option ℕ) → Is at → (fs : Fields) → AreAlike Fits (numbered_field_leaves first fs) (sized_field_leaves (numbered_fields at fs))
    written_fields_alike first at is no_fields = tt
    written_fields_alike first at is (field p flip x begins t rest) =
        joined_alike Fits (map (numbered_under flip (named x)) (numbered_leaves first t)) (numbered_field_leaves (first + shared_count t) rest)
        (map (sized_under flip (named x)) (sized_leaves (numbered at t))) (sized_field_leaves (numbered_fields (past (shared_count t) at) rest))
        (under_alike Fits flip (named x) (numbered_leaves first t) (sized_leaves (numbered at t)) (written_alike first at is t))
        (written_fields_alike (first + shared_count t) (past (shared_count t) at) (more (shared_count t) at is) rest)
