-- A target by numbers stands for an aim by paths, under given values.
use Rattle.std.specs.Prelude.{◌≡◌, ℕ, ◌+◌, ◌<◌, length, Option, Some, None, option_map, slice_get}
use Rattle.fir_meaning.specs.TypeLeaves.{TypeLeaf, type_leaves, leaf_count}
use Rattle.fir_meaning.specs.TypedScopes.{TypedScope}
use Rattle.fir_meaning.specs.working.Terms.{Picks}
use Rattle.fir_meaning.specs.working.TermValues.{Holds, leaf_of}
use Rattle.fir_meaning.specs.working.Targets.{Target}
use Rattle.fir_meaning.specs.TreeAims.{Aim}
use Rattle.fir_meaning.specs.TreeValues.{TypesByPath, ValuesByPath, leaf_where}
use Rattle.fir_leaf.specs.working.LeafLaws.{numbered, path_at, scope_paths}

abbrev pub leaf_from : Holds → (ℕ → ℕ) → Option ℕ → Picks → ℕ → Option ℕ
leaf_from holds numbers None ps k = None
leaf_from holds numbers (Some b) ps k = leaf_of holds numbers (b + k) ps

-- the leaf that is picked for the one of that number of the target's type, if one is
abbrev pub target_leaf : Holds → (ℕ → ℕ) → Target → ℕ → Option ℕ
target_leaf holds numbers r k = leaf_from holds numbers r.base r.picks k

-- of each leaf of their type both name the same, or nothing; and so for the first elements
pub record Stands (whole : TypedScope) (holds : TypesByPath) (env : ValuesByPath) (r : Target) (a : Aim) : Type 0 where
  pub data_type : r.data_type ≡ a.data_type
  pub at : (k : ℕ) (l : TypeLeaf) → slice_get (type_leaves r.data_type) k ≡ Some l
      → leaf_where a.at l.path ≡ option_map (path_at whole) (target_leaf (numbered whole holds) (numbered whole env) r k)
  pub within : (k y : ℕ) → k < leaf_count r.data_type → target_leaf (numbered whole holds) (numbered whole env) r k ≡ Some y → y < length (scope_paths whole)
  pub first : (k : ℕ) (l : TypeLeaf) → slice_get (type_leaves r.data_type) k ≡ Some l
      → leaf_where a.first l.path ≡ option_map (λ b. path_at whole (b + k)) r.base
  pub first_within : (k b : ℕ) → k < leaf_count r.data_type → r.base ≡ Some b → b + k < length (scope_paths whole)
