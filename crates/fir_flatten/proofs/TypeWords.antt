-- Of a type whose fields have the bytes of words, all steps to its leaves do, and so do the types that are made from it.
use Rattle.std.proofs.Common.{ℕ, zero, suc, ◌+◌, List, [], ◌∷◌, map, Bool, false, Option, Some}
use Rattle.std.specs.Prelude.{IfSome}
use Rattle.std.specs.Str.{bytes_eq}
use Rattle.std.specs.List.{AllByRecursion}
use Rattle.std.proofs.lemmas.Bool.{cond_both}
use Rattle.fir_base.proofs.Each.{all_joined}
use Rattle.fir_ast.specs.Types.{DataType, bundle, vector, Fields, no_fields, field}
use Rattle.fir_meaning.specs.LeafPaths.{Step, named, element}
use Rattle.fir_meaning.specs.TypeKinds.{FieldFound, bare, bare_fields, field_named}
use Rattle.fir_meaning.specs.TypeLeaves.{TypeLeaf, under, element_leaves, type_leaves, field_leaves}
use Rattle.fir_meaning.specs.MemoryTypes.{mask_type, mask_fields}
use Rattle.fir_meaning.specs.Reaching.{field_of_type, vector_of_type}
use Rattle.fir_flatten.specs.working.Words.{TypeHasWords, FieldsHaveWords}
use Rattle.fir_flatten.proofs.WordTexts.{StepHasWords}

-- the leaves
abbrev pub LeafHasWords : TypeLeaf → Type 0
LeafHasWords l = AllByRecursion StepHasWords l.path

words_under : (flip : Bool) (s : Step) (ls : List TypeLeaf) → StepHasWords s → AllByRecursion LeafHasWords ls
    → AllByRecursion LeafHasWords (map (under flip s) ls)
words_under flip s [] h all = tt
words_under flip s (l ∷ ls) h all = ((h, all.0), words_under flip s ls h all.1)

element_words : (i n : ℕ) (ls : List TypeLeaf) → AllByRecursion LeafHasWords ls → AllByRecursion LeafHasWords (element_leaves i n ls)
element_words i zero ls all = tt
element_words i (suc n) ls all =
    all_joined LeafHasWords (map (under false (element i)) ls) (element_leaves (i + 1) n ls) (words_under false (element i) ls tt all)
    (element_words (i + 1) n ls all)

mutual
  pub leaf_words : (t : DataType) → TypeHasWords t → AllByRecursion LeafHasWords (type_leaves t)
  leaf_words (bundle fs) h = field_words fs h
  leaf_words (vector t n) h = element_words 0 n (type_leaves t) (leaf_words t h)
  leaf_words t h = (tt, tt)

  field_words : (fs : Fields) → FieldsHaveWords fs → AllByRecursion LeafHasWords (field_leaves fs)
  field_words no_fields h = tt
  field_words (field p flip x begins t rest) h =
      all_joined LeafHasWords (map (under flip (named x)) (type_leaves t)) (field_leaves rest)
      (words_under flip (named x) (type_leaves t) h.0 (leaf_words t h.1)) (field_words rest h.2)

-- without widths
mutual
  pub bare_words : (t : DataType) → TypeHasWords t → TypeHasWords (bare t)
  bare_words (bundle fs) h = bare_field_words fs h
  bare_words (vector t n) h = bare_words t h
  bare_words t h = tt

  bare_field_words : (fs : Fields) → FieldsHaveWords fs → FieldsHaveWords (bare_fields fs)
  bare_field_words no_fields h = tt
  bare_field_words (field p flip x begins t rest) h = (h.0, bare_words t h.1, bare_field_words rest h.2)

-- as a mask
mutual
  pub mask_words : (t : DataType) → TypeHasWords t → TypeHasWords (mask_type t)
  mask_words (bundle fs) h = mask_field_words fs h
  mask_words (vector t n) h = mask_words t h
  mask_words t h = tt

  mask_field_words : (fs : Fields) → FieldsHaveWords fs → FieldsHaveWords (mask_fields fs)
  mask_field_words no_fields h = tt
  mask_field_words (field p flip x begins t rest) h = (h.0, mask_words t h.1, mask_field_words rest h.2)

-- a part
found_words : (x : List ℕ) (fs : Fields) → FieldsHaveWords fs → IfSome (field_named x fs) (λ f. TypeHasWords f.data_type)
found_words x no_fields h = tt
found_words x (field p flip y begins t rest) h =
    cond_both (bytes_eq y x) (Some (record { flip = flip; data_type = t })) (field_named x rest)
    (λ (o : Option FieldFound). IfSome o (λ f. TypeHasWords f.data_type))
    (λ e. h.1) (λ e. found_words x rest h.2)

pub field_has_words : (x : List ℕ) (t : DataType) → TypeHasWords t → IfSome (field_of_type x t) (λ f. TypeHasWords f.data_type)
field_has_words x (bundle fs) h = found_words x fs h
field_has_words x t h = tt

pub element_has_words : (t : DataType) → TypeHasWords t → IfSome (vector_of_type t) (λ v. TypeHasWords v.0)
element_has_words (vector t n) h = h
element_has_words t h = tt
