-- How many leaves of a type stand before those of a field, and of an element, where all elements of a vector share theirs.
use Rattle.std.proofs.Common.{◌≡◌, ℕ, ◌+◌, ◌<◌, List, ◌∷◌, Bool, true, false, if◌then◌else◌, Option, Some, None, refl, ap, ◌∙◌, arith}
use Rattle.std.specs.Str.{bytes_eq}
use Rattle.std.proofs.lemmas.Bool.{lt-ltb}
use Rattle.std.proofs.lemmas.Option.{none-some, same_Some}
use Rattle.fir_ast.specs.Types.{DataType, bundle, vector, Fields, no_fields, field}
use Rattle.fir_meaning.specs.LeafPaths.{LeafPath, element, named}
use Rattle.fir_meaning.specs.Reaching.{field_of_type, vector_of_type}
use Rattle.fir_meaning.specs.SharedLeaves.{shared_count}
use Rattle.fir_meaning.specs.TypeKinds.{FieldFound, field_named}
use Rattle.fir_meaning.specs.working.FieldSizes.{shared_before, shared_before_field}
use Rattle.fir_reset.specs.working.LeafClasses.{behind_so_many, offset_in, offset_in_fields}

pub none_before : (o : Option ℕ) → o ≡ behind_so_many 0 o
none_before None = refl
none_before (Some k) = ap Some (let e : k ≡ 0 + k = omega arith in e)

pub more_before : (n m : ℕ) (o : Option ℕ) → behind_so_many n (behind_so_many m o) ≡ behind_so_many (n + m) o
more_before n m None = refl
more_before n m (Some k) = ap Some (let e : n + (m + k) ≡ n + m + k = omega arith in e)

fields_offset : (fs : Fields) (x : List ℕ) (f : FieldFound) (path : LeafPath) → field_named x fs ≡ Some f
    → offset_in_fields fs x path ≡ behind_so_many (shared_before_field x fs) (offset_in f.data_type path)
fields_offset no_fields x f path h = absurd (none-some f h)
fields_offset (field p flip y begins t rest) x f path h = by (bytes_eq y x) h (λ e. fields_offset rest x f path e)
  where
    by : (b : Bool) → (if b then Some (record { flip = flip; data_type = t }) else field_named x rest) ≡ Some f
        → (field_named x rest ≡ Some f
        → offset_in_fields rest x path ≡ behind_so_many (shared_before_field x rest) (offset_in f.data_type path))
        → (if b then offset_in t path else behind_so_many (shared_count t) (offset_in_fields rest x path))
        ≡ behind_so_many (if b then 0 else shared_count t + shared_before_field x rest) (offset_in f.data_type path)
    by true e later =
        let same : t ≡ f.data_type = ap (λ (g : FieldFound). g.data_type) (same_Some (record { flip = flip; data_type = t }) f e) in
        ap (λ u. offset_in u path) same ∙ none_before (offset_in f.data_type path)
    by false e later =
        ap (behind_so_many (shared_count t)) (later e) ∙ more_before (shared_count t) (shared_before_field x rest) (offset_in f.data_type path)

pub field_offset : (t : DataType) (x : List ℕ) (f : FieldFound) (path : LeafPath) → field_of_type x t ≡ Some f
    → offset_in t (named x ∷ path) ≡ behind_so_many (shared_before x t) (offset_in f.data_type path)
field_offset (bundle fs) x f path h = fields_offset fs x f path h
field_offset t x f path h = absurd (none-some f h)

pub element_offset : (t u : DataType) (n i : ℕ) (path : LeafPath) → vector_of_type t ≡ Some (u, n) → i < n
    → offset_in t (element i ∷ path) ≡ offset_in u path
element_offset (vector v m) u n i path h less =
    let one : DataType × ℕ = (v, m) in
    let other : DataType × ℕ = (u, n) in
    let pair : one ≡ other = same_Some one other h in
    let types : v ≡ u = ap (λ (x : DataType × ℕ). x.0) pair in
    let counts : m ≡ n = ap (λ (x : DataType × ℕ). x.1) pair in
    let within : i < m = omega arith in
    rw (lt-ltb i m within) (ap (λ w. offset_in w path) types)
element_offset t u n i path h less = absurd (none-some (u, n) h)
