-- How many leaves stand before one, step by step.
use Rattle.std.proofs.Common.{◌≡◌, ℕ, ◌+◌, List, ◌∷◌, Bool, true, false, if◌then◌else◌, Option, Some, None, refl, sym, ap, ◌∙◌, arith}
use Rattle.std.specs.Prelude.{option_map}
use Rattle.std.specs.Str.{bytes_eq}
use Rattle.fir_ast.specs.Types.{DataType, uint, sint, clock, reset, async_reset, bundle, vector, Fields, no_fields, field}
use Rattle.fir_meaning.specs.LeafPaths.{LeafPath, Step, named}
use Rattle.fir_meaning.specs.Reaching.{field_of_type}
use Rattle.fir_meaning.specs.TypeKinds.{FieldFound, field_named}
use Rattle.fir_meaning.specs.SharedLeaves.{shared_count}
use Rattle.fir_type_table.specs.working.Saturated.{saturated}
use Rattle.fir_meaning.specs.working.FieldSizes.{shared_before, shared_before_field}
use Rattle.fir_types.specs.declared.found.Found.{Found}
use Rattle.fir_types.specs.declared.found.FieldOf.{FieldOf}
use Rattle.fir_types.specs.working.Seen.{field_seen, found_type}
use Rattle.fir_reset.specs.working.LeafClasses.{behind_so_many, offset_in, offset_in_fields}
use Rattle.fir_infer_resets.specs.working.NumberedPaths.{StepsTo}

behind_field : ℕ → LeafPath → Option FieldFound → Option ℕ
behind_field before path None = None
behind_field before path (Some f) = behind_so_many before (offset_in f.data_type path)

further : (n before : ℕ) (path : LeafPath) (f : Option FieldFound) → behind_so_many n (behind_field before path f) ≡ behind_field (n + before) path f
unfolding behind_field
further n before path None = refl
further n before path (Some f) = by (offset_in f.data_type path)
  where
    by : (o : Option ℕ) → behind_so_many n (behind_so_many before o) ≡ behind_so_many (n + before) o
    by None = refl
    by (Some k) = ap Some (let e : n + (before + k) ≡ n + before + k = omega arith in e)

fields_offset : (fs : Fields) (x : List ℕ) (path : LeafPath) → offset_in_fields fs x path ≡ behind_field (shared_before_field x fs) path (field_named x fs)
unfolding behind_field
fields_offset no_fields x path = refl
fields_offset (field p flip y begins t rest) x path = by (bytes_eq y x) (fields_offset rest x path)
  where
    zero_more : (o : Option ℕ) → o ≡ behind_so_many 0 o
    zero_more None = refl
    zero_more (Some k) = ap Some (let e : k ≡ 0 + k = omega arith in e)

    by : (b : Bool) → offset_in_fields rest x path ≡ behind_field (shared_before_field x rest) path (field_named x rest)
        → (if b then offset_in t path else behind_so_many (shared_count t) (offset_in_fields rest x path))
        ≡ behind_field (if b then 0 else shared_count t + shared_before_field x rest) path (if b then Some (record { flip = flip; data_type = t }) else field_named x rest)
    by true h = zero_more (offset_in t path)
    by false h = ap (behind_so_many (shared_count t)) h ∙ further (shared_count t) (shared_before_field x rest) path (field_named x rest)

named_offset : (t : DataType) (x : List ℕ) (path : LeafPath) → offset_in t (named x ∷ path) ≡ behind_field (shared_before x t) path (field_of_type x t)
unfolding behind_field
named_offset (bundle fs) x path = fields_offset fs x path
named_offset (vector t n) x path = refl
named_offset (uint w) x path = refl
named_offset (sint w) x path = refl
named_offset clock x path = refl
named_offset reset x path = refl
named_offset async_reset x path = refl

-- to a field that is there
pub field_steps : (ts : List DataType) (t : DataType) (x : List ℕ) (f : FieldOf) → Some (field_seen ts f) ≡ field_of_type x t → f.shared_offset ≡ saturated (shared_before x t)
    → StepsTo ts t (named x) (Some (f.found, f.shared_offset))
unfolding behind_field
field_steps ts t x f is offset = (shared_before x t, offset, λ path. named_offset t x path ∙ ap (behind_field (shared_before x t) path) (sym is))

pub no_field_steps : (ts : List DataType) (t : DataType) (x : List ℕ) → None ≡ field_of_type x t → StepsTo ts t (named x) None
unfolding behind_field
no_field_steps ts t x is = λ path. named_offset t x path ∙ ap (behind_field (shared_before x t) path) (sym is)

-- one step more is taken
pub step_more : (ts : List DataType) (reached next : Found) (s : Step) (before more after : ℕ) (path : LeafPath) → StepsTo ts (found_type ts reached) s (Some (next, more))
    → after ≡ saturated (before + more)
    → option_map (λ k. saturated (after + k)) (offset_in (found_type ts next) path) ≡ option_map (λ k. saturated (before + k)) (offset_in (found_type ts reached) (s ∷ path))
step_more ts reached next s before more after path steps is = by (offset_in (found_type ts next) path) ∙ ap (option_map (λ k. saturated (before + k))) (sym (steps.2 path))
  where
    by : (o : Option ℕ) → option_map (λ k. saturated (after + k)) o ≡ option_map (λ k. saturated (before + k)) (behind_so_many steps.0 o)
    by None = refl
    by (Some k) = ap Some (let e : saturated (after + k) ≡ saturated (before + (steps.0 + k)) = omega (arith, is, steps.1) in e)

-- none is taken
pub none_yet : (o : Option ℕ) → option_map (λ k. saturated (0 + k)) o ≡ option_map saturated o
none_yet None = refl
none_yet (Some k) = ap Some (let e : saturated (0 + k) ≡ saturated k = omega arith in e)
