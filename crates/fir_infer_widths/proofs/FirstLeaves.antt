-- The first leaf that passes a test: in joined lists, under a step, in an element of a vector, whatever the numbers, and without widths.
use Rattle.std.proofs.Common.{◌≡◌, ℕ, ◌+◌, ◌==◌, List, [], ◌∷◌, ◌++◌, map, Bool, true, false, if◌then◌else◌, Option, Some, refl, sym, ap, ◌∙◌}
use Rattle.std.proofs.lemmas.Bool.{eqb-true}
use Rattle.std.specs.Option.{option_or}
use Rattle.fir_ast.specs.Types.{DataType, uint, sint, clock, reset, async_reset, bundle, vector, Fields, no_fields, field}
use Rattle.fir_meaning.specs.LeafPaths.{Step, LeafPath, named, element}
use Rattle.fir_meaning.specs.TypeKinds.{bare, bare_fields}
use Rattle.fir_meaning.specs.TypeLeaves.{turned}
use Rattle.fir_meaning.specs.SharedLeaves.{shared_count}
use Rattle.fir_type_table.specs.working.Tables.{shown}
use Rattle.fir_type_table.proofs.WantedPaths.{behind}
use Rattle.fir_types.proofs.BareTypes.{shown_shared_count}
use Rattle.fir_infer_widths.specs.working.NumberedLeaves.{NumberedLeaf, numbered_under, numbered_leaves, numbered_field_leaves}
use Rattle.fir_infer_widths.specs.working.FirstLeaves.{first_where}

abbrev pub Test : Type 0
Test = NumberedLeaf → Bool

-- the same test of leaves below a step
abbrev pub below : Bool → Step → Test → Test
below flip s test l = test (numbered_under flip s l)

pub where_joined : (test : Test) (xs ys : List NumberedLeaf) → first_where test (xs ++ ys) ≡ option_or (first_where test xs) (first_where test ys)
where_joined test [] ys = refl
where_joined test (x ∷ xs) ys = joined (test x) x.path (first_where test (xs ++ ys)) (first_where test xs) (first_where test ys) (where_joined test xs ys) where
  joined : (b : Bool) (p : LeafPath) (both left right : Option LeafPath) → both ≡ option_or left right
      → (if b then Some p else both) ≡ option_or (if b then Some p else left) right
  joined true p both left right h = refl
  joined false p both left right h = h

pub where_under : (test : Test) (flip : Bool) (s : Step) (ls : List NumberedLeaf)
    → first_where test (map (numbered_under flip s) ls) ≡ behind s (first_where (below flip s test) ls)
where_under test flip s [] = refl
where_under test flip s (l ∷ ls) =
    under (below flip s test l) l.path (first_where test (map (numbered_under flip s) ls)) (first_where (below flip s test) ls) (where_under test flip s ls) where
      under : (b : Bool) (p : LeafPath) (o q : Option LeafPath) → o ≡ behind s q → (if b then Some (s ∷ p) else o) ≡ behind s (if b then Some p else q)
      under true p o q h = refl
      under false p o q h = h

pub where_same : (one other : Test) → ((l : NumberedLeaf) → one l ≡ other l) → (ls : List NumberedLeaf) → first_where one ls ≡ first_where other ls
where_same one other h [] = refl
where_same one other h (l ∷ ls) = rw (h l, where_same one other h ls) refl

-- of the elements of a vector
abbrev pub elements_of : ℕ → List NumberedLeaf → List NumberedLeaf
elements_of n ls = if n == 0 then [] else map (numbered_under false (element 0)) ls

pub where_elements : (test other : Test) (n : ℕ) (ls ms : List NumberedLeaf)
    → first_where (below false (element 0) test) ls ≡ first_where (below false (element 0) other) ms
    → first_where test (elements_of n ls) ≡ first_where other (elements_of n ms)
where_elements test other n ls ms h = by (n == 0) where
  by : (b : Bool) → first_where test (if b then [] else map (numbered_under false (element 0)) ls)
      ≡ first_where other (if b then [] else map (numbered_under false (element 0)) ms)
  by true = refl
  by false = where_under test false (element 0) ls ∙ ap (behind (element 0)) h ∙ sym (where_under other false (element 0) ms)

-- all elements have the leaves of one
pub where_in_first : (test : Test) (n : ℕ) (ls : List NumberedLeaf) → (n ≡ 0 → ⊥)
    → first_where test (elements_of n ls) ≡ behind (element 0) (first_where (below false (element 0) test) ls)
where_in_first test n ls some = by (n == 0) refl where
  by : (b : Bool) → n == 0 ≡ b → first_where test (if b then [] else map (numbered_under false (element 0)) ls)
      ≡ behind (element 0) (first_where (below false (element 0) test) ls)
  by true e = absurd (some (eqb-true n 0 e))
  by false e = where_under test false (element 0) ls

pub where_fields : (test other : Test) (flip : Bool) (s : Step) (ls ms more rest : List NumberedLeaf)
    → first_where (below flip s test) ls ≡ first_where (below flip s other) ms → first_where test more ≡ first_where other rest
    → first_where test (map (numbered_under flip s) ls ++ more) ≡ first_where other (map (numbered_under flip s) ms ++ rest)
where_fields test other flip s ls ms more rest h k =
    where_joined test (map (numbered_under flip s) ls) more
    ∙ rw (where_under test flip s ls, h, ← where_under other flip s ms, k) (sym (where_joined other (map (numbered_under flip s) ms) rest))

-- a ground type with one number or with another
abbrev pub leaf_at : LeafPath → Bool → ℕ → DataType → NumberedLeaf
leaf_at path flip number t = record { path = path; flip = flip; number = number; ground_type = t }

-- a test that tells no such two numbers apart
module _ (Alike : ℕ → ℕ → Type 0) (add : (n m k : ℕ) → Alike n m → Alike (n + k) (m + k)) where
  abbrev pub Same : Test → Type 0
  Same test = (path : LeafPath) (flip : Bool) (n m : ℕ) (t : DataType) → Alike n m → test (leaf_at path flip n t) ≡ test (leaf_at path flip m t)

  mutual
    pub alike_numbers : (test : Test) → Same test → (n m : ℕ) → Alike n m → (t : DataType) → first_where test (numbered_leaves n t) ≡ first_where test (numbered_leaves m t)
    alike_numbers test same n m h (uint w) = rw (same [] false n m (uint w) h) refl
    alike_numbers test same n m h (sint w) = rw (same [] false n m (sint w) h) refl
    alike_numbers test same n m h clock = rw (same [] false n m clock h) refl
    alike_numbers test same n m h reset = rw (same [] false n m reset h) refl
    alike_numbers test same n m h async_reset = rw (same [] false n m async_reset h) refl
    alike_numbers test same n m h (bundle fs) = alike_field_numbers test same n m h fs
    alike_numbers test same n m h (vector t k) =
        where_elements test test k (numbered_leaves n t) (numbered_leaves m t)
        (alike_numbers (below false (element 0) test) (λ path flip i j g. same (element 0 ∷ path) flip i j g) n m h t)

    pub alike_field_numbers : (test : Test) → Same test → (n m : ℕ) → Alike n m → (fs : Fields)
        → first_where test (numbered_field_leaves n fs) ≡ first_where test (numbered_field_leaves m fs)
    alike_field_numbers test same n m h no_fields = refl
    alike_field_numbers test same n m h (field p flip x begins t rest) =
        where_fields test test flip (named x) (numbered_leaves n t) (numbered_leaves m t) (numbered_field_leaves (n + shared_count t) rest)
        (numbered_field_leaves (m + shared_count t) rest)
        (alike_numbers (below flip (named x) test) (λ path turn i j g. same (named x ∷ path) (turned flip turn) i j g) n m h t)
        (alike_field_numbers test same (n + shared_count t) (m + shared_count t) (add n m (shared_count t) h) rest)

-- a leaf without its width
abbrev pub shown_leaf : Bool → NumberedLeaf → NumberedLeaf
shown_leaf is_bare l = record { path = l.path; flip = l.flip; number = l.number; ground_type = shown is_bare l.ground_type }

mutual
  bare_leaves : (test : Test) (n : ℕ) (t : DataType) → first_where test (numbered_leaves n (bare t)) ≡ first_where (λ l. test (shown_leaf true l)) (numbered_leaves n t)
  bare_leaves test n (uint w) = refl
  bare_leaves test n (sint w) = refl
  bare_leaves test n clock = refl
  bare_leaves test n reset = refl
  bare_leaves test n async_reset = refl
  bare_leaves test n (bundle fs) = bare_field_leaves test n fs
  bare_leaves test n (vector t k) =
      where_elements test (λ l. test (shown_leaf true l)) k (numbered_leaves n (bare t)) (numbered_leaves n t) (bare_leaves (below false (element 0) test) n t)

  bare_field_leaves : (test : Test) (n : ℕ) (fs : Fields)
      → first_where test (numbered_field_leaves n (bare_fields fs)) ≡ first_where (λ l. test (shown_leaf true l)) (numbered_field_leaves n fs)
  bare_field_leaves test n no_fields = refl
  bare_field_leaves test n (field p flip x begins t rest) =
      where_fields test (λ l. test (shown_leaf true l)) flip (named x) (numbered_leaves n (bare t)) (numbered_leaves n t)
      (numbered_field_leaves (n + shared_count (bare t)) (bare_fields rest)) (numbered_field_leaves (n + shared_count t) rest)
      (bare_leaves (below flip (named x) test) n t)
      (ap (λ k. first_where test (numbered_field_leaves (n + k) (bare_fields rest))) (shown_shared_count true t) ∙ bare_field_leaves test (n + shared_count t) rest)

pub shown_leaves : (test : Test) (is_bare : Bool) (n : ℕ) (t : DataType)
    → first_where test (numbered_leaves n (shown is_bare t)) ≡ first_where (λ l. test (shown_leaf is_bare l)) (numbered_leaves n t)
shown_leaves test true n t = bare_leaves test n t
shown_leaves test false n t = where_same test (λ l. test (shown_leaf false l)) (λ l. refl) (numbered_leaves n t)
