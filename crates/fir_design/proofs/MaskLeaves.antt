-- The leaves of a mask have the paths of the leaves of what it masks.
use Rattle.std.proofs.Common.{◌≡◌, ℕ, zero, suc, ◌+◌, List, ◌++◌, map, refl, sym, ap, ap₂, ◌∙◌}
use Rattle.fir_ast.specs.Types.{DataType, bundle, vector, Fields, no_fields, field}
use Rattle.fir_meaning.specs.LeafPaths.{element, named}
use Rattle.fir_meaning.specs.MemoryTypes.{mask_fields, mask_type}
use Rattle.fir_meaning.specs.TypeLeaves.{TypeLeaf, element_leaves, field_leaves, type_leaves}
use Rattle.fir_meaning.proofs.LeafSteps.{behind_step, element_paths, path_of, paths_joined}

-- those of elements hang on the paths of one alone
elements_same : (i n : ℕ) (ls ks : List TypeLeaf) → map path_of ls ≡ map path_of ks
    → map path_of (element_leaves i n ls) ≡ map path_of (element_leaves i n ks)
elements_same i zero ls ks e = refl
elements_same i (suc n) ls ks e =
    element_paths i n ls
    ∙ ap₂ (λ xs ys. xs ++ ys) (ap (map (behind_step (element i))) e) (elements_same (i + 1) n ls ks e)
    ∙ sym (element_paths i n ks)

mutual
  pub mask_paths : (t : DataType) → map path_of (type_leaves (mask_type t)) ≡ map path_of (type_leaves t)
  mask_paths (bundle fs) = mask_field_paths fs
  mask_paths (vector t n) = elements_same 0 n (type_leaves (mask_type t)) (type_leaves t) (mask_paths t)
  mask_paths t = refl

  mask_field_paths : (fs : Fields) → map path_of (field_leaves (mask_fields fs)) ≡ map path_of (field_leaves fs)
  mask_field_paths no_fields = refl
  mask_field_paths (field p f x b t rest) =
      paths_joined f (named x) (type_leaves (mask_type t)) (field_leaves (mask_fields rest))
      ∙ ap₂ (λ xs ys. xs ++ ys) (ap (map (behind_step (named x))) (mask_paths t)) (mask_field_paths rest)
      ∙ sym (paths_joined f (named x) (type_leaves t) (field_leaves rest))
