-- A type fits itself, and pairs each of its leaves with itself.
use Rattle.std.proofs.Common.{◌≡◌, ℕ, zero, suc, ◌+◌, List, [], ◌∷◌, ◌++◌, Bool, true, false, ◌&&◌, ◌==◌, map, refl, sym, ap, ◌∙◌}
use Rattle.std.specs.Bool.{beq}
use Rattle.std.proofs.lemmas.List.{map-append}
use Rattle.std.proofs.lemmas.Bool.{eqb-false}
use Rattle.fir_base.proofs.SameNames.{name_same}
use Rattle.fir_ast.specs.Types.{DataType, uint, sint, clock, reset, async_reset, bundle, vector, Fields, no_fields, field}
use Rattle.fir_meaning.specs.LeafPaths.{Step, named, element}
use Rattle.fir_meaning.specs.TypeLeaves.{TypeLeaf, under, element_leaves, type_leaves, field_leaves}
use Rattle.fir_meaning.specs.Equivalence.{fitting_ground, fields_alike, is_connectable}
use Rattle.fir_meaning.specs.ConnectPairs.{Pair, both_under, element_pairs, pairs, field_pairs}

same_flag : (b : Bool) → beq b b ≡ true
same_flag true = refl
same_flag false = refl

same_length : (n : ℕ) → (n == n) ≡ true
same_length n = by (n == n) refl
  where
    by : (b : Bool) → (n == n) ≡ b → (n == n) ≡ true
    by true e = e
    by false e = absurd (eqb-false n n e refl)

mutual
  pub fits_itself : (t : DataType) → is_connectable t t ≡ true
  fits_itself (uint w) = refl
  fits_itself (sint w) = refl
  fits_itself clock = refl
  fits_itself reset = refl
  fits_itself async_reset = refl
  fits_itself (bundle fs) = fields_fit fs
  fits_itself (vector t n) = ap (λ b. b && is_connectable t t) (same_length n) ∙ fits_itself t

  fields_fit : (fs : Fields) → fields_alike fitting_ground fs fs ≡ true
  fields_fit no_fields = refl
  fields_fit (field p f x b t rest) = rw (same_flag f, name_same x, fits_itself t, fields_fit rest) refl

abbrev pub with_itself : TypeLeaf → Pair
with_itself l = record { left = l; right = l }

under_itself : (f : Bool) (s : Step) (ls : List TypeLeaf) → map (both_under f s) (map with_itself ls) ≡ map with_itself (map (under f s) ls)
under_itself f s [] = refl
under_itself f s (l ∷ ls) = ap (λ ps. with_itself (under f s l) ∷ ps) (under_itself f s ls)

elements_paired : (i n : ℕ) (ls : List TypeLeaf) → element_pairs i n (map with_itself ls) ≡ map with_itself (element_leaves i n ls)
elements_paired i zero ls = refl
elements_paired i (suc n) ls =
    ap (λ ps. ps ++ element_pairs (i + 1) n (map with_itself ls)) (under_itself false (element i) ls)
    ∙ ap (λ ps. map with_itself (map (under false (element i)) ls) ++ ps) (elements_paired (i + 1) n ls)
    ∙ sym (map-append with_itself (map (under false (element i)) ls) (element_leaves (i + 1) n ls))

mutual
  pub paired_with_itself : (t : DataType) → pairs t t ≡ map with_itself (type_leaves t)
  paired_with_itself (uint w) = refl
  paired_with_itself (sint w) = refl
  paired_with_itself clock = refl
  paired_with_itself reset = refl
  paired_with_itself async_reset = refl
  paired_with_itself (bundle fs) = fields_paired fs
  paired_with_itself (vector t n) = ap (element_pairs 0 n) (paired_with_itself t) ∙ elements_paired 0 n (type_leaves t)

  fields_paired : (fs : Fields) → field_pairs fs fs ≡ map with_itself (field_leaves fs)
  fields_paired no_fields = refl
  fields_paired (field p f x b t rest) =
      ap (λ ps. map (both_under f (named x)) ps ++ field_pairs rest rest) (paired_with_itself t)
      ∙ ap (λ ps. ps ++ field_pairs rest rest) (under_itself f (named x) (type_leaves t))
      ∙ ap (λ ps. map with_itself (map (under f (named x)) (type_leaves t)) ++ ps) (fields_paired rest)
      ∙ sym (map-append with_itself (map (under f (named x)) (type_leaves t)) (field_leaves rest))
