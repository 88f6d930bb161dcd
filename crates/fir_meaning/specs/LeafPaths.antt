-- Paths of leaves of one module (FIRRTL spec, "Types", "Expressions").
-- A path is a list of steps from the outside inward: the name of a component, then its fields and the numbers of its elements. A field may be spelled with
-- digits alone, so a number is a step of its own kind and no text.
use Rattle.std.specs.Prelude.{ℕ, List, [], ◌∷◌, ◌++◌, codes, decimal, flat_map}

pub data Step : Type 0 where
  named : List ℕ → Step
  element : ℕ → Step

abbrev pub LeafPath : Type 0
LeafPath = List Step

-- as faults print it: `io.v[2].x`
abbrev pub step_text : Step → List ℕ
step_text (named x) = codes "." ++ x
step_text (element i) = codes "[" ++ decimal i ++ codes "]"

abbrev pub path_text : LeafPath → List ℕ
path_text [] = []
path_text (named x ∷ steps) = x ++ flat_map step_text steps
path_text (element i ∷ steps) = flat_map step_text (element i ∷ steps)
