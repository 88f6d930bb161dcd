-- The texts of the elements of a vector: those of the first, and those behind them (FIRRTL spec, "Vector Types").
use Rattle.std.specs.Prelude.{◌≡◌, ℕ, ◌-◌, List, ◌++◌, length}
use Rattle.fir_ast.specs.Types.{DataType}
use Rattle.fir_meaning.specs.LeafPaths.{element, step_text}
use Rattle.fir_meaning.specs.TypeLeaves.{element_leaves, type_leaves}
use Rattle.fir_leaf_text.specs.working.TypePaths.{paths_of, texts_behind, type_paths}

-- the texts are those of the first element of a vector behind a path, with the step to that element so many bytes
pub record AreOfFirst (t : DataType) (path : List ℕ) (cut : ℕ) (texts : List (List ℕ)) : Type 0 where
  pub behind : texts ≡ texts_behind (path ++ step_text (element 0)) (type_paths t)
  pub long : cut ≡ length (path ++ step_text (element 0))

-- those of the others, of so many in all
abbrev pub other_texts : DataType → ℕ → List ℕ → List (List ℕ)
other_texts t n path = texts_behind path (paths_of (element_leaves 1 (n - 1) (type_leaves t)))
