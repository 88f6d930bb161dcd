-- How faults tell a leaf of a whole design: by the place of its declaration, and by its path (FIRRTL spec, "Instances").
-- The path begins with the names of the instances in which the leaf is declared.
use Rattle.std.specs.Prelude.{ℕ, ◌+◌, List, take}
use Rattle.fir_ast.specs.declared.place.Place.{Place}
use Rattle.fir_meaning.specs.LeafPaths.{path_text}
use Rattle.fir_meaning.specs.working.LeafModules.{leaf_at}
use Rattle.fir_meaning.specs.working.LeafCircuits.{LeafCircuit}

abbrev pub place_of_leaf : LeafCircuit → ℕ → Place
place_of_leaf c x = (leaf_at c.leaves x).place

abbrev pub path_of_leaf : LeafCircuit → ℕ → List ℕ
path_of_leaf c x = path_text (leaf_at c.leaves x).path

-- the path of the component that the leaf is of: the names of its instances and its own
abbrev pub component_of_leaf : LeafCircuit → ℕ → List ℕ
component_of_leaf c x = path_text (take ((leaf_at c.leaves x).instances + 1) (leaf_at c.leaves x).path)
