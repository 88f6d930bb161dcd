-- The leaves and arrays of a design in one list each (FIRRTL spec, "Instances", "Memories").
-- Each keeps its place and the number of its declaration in its module, and stands behind the path of its instance; a leaf counts the whens that stand round
-- the instance, too.
use Rattle.std.specs.Prelude.{ℕ, ◌+◌, List, [], ◌++◌, map, length}
use Rattle.fir_meaning.specs.LeafPaths.{LeafPath}
use Rattle.fir_meaning.specs.working.LeafModules.{LeafArray, LeafDeclared, LeafModule}
use Rattle.fir_meaning.specs.working.Designs.{Item, drive, when, instance, Items, done, then, Design, made_of}
use Rattle.fir_meaning.specs.working.DesignPaths.{instance_path}
use Rattle.fir_meaning.specs.working.Numberings.{Numbering, moved_role, moved_writing, number, numbering}
use Rattle.fir_meaning.specs.working.FlatDesigns.{inner_leaves, count, count_all, array_count, array_count_all}

-- a leaf of the instance at the path, within so many whens, whose arrays begin at a number
abbrev pub placed_leaf : LeafPath → ℕ → Numbering → ℕ → LeafDeclared → LeafDeclared
placed_leaf path k n array l = record {
  place = l.place;
  declaration = l.declaration;
  instances = length path + l.instances;
  path = path ++ l.path;
  holds = l.holds;
  depth = k + l.depth;
  role = moved_role n array l.role;
}

-- those that the instances of a module have besides those of their ports; `free` is the first number that is not taken, `array` that of arrays
abbrev mutual
  pub leaves_in : LeafPath → ℕ → LeafModule → Numbering → ℕ → ℕ → Item → List LeafDeclared
  leaves_in path k m n free array (drive p b ps t) = []
  leaves_in path k m n free array (when p c a b) =
      all_leaves_in path (k + 1) m n free array a ++ all_leaves_in path (k + 1) m n (free + count_all a) (array + array_count_all a) b
  leaves_in path k m n free array (instance i d) = leaves_below (instance_path path m i) k (number n i.first) free array d

  pub all_leaves_in : LeafPath → ℕ → LeafModule → Numbering → ℕ → ℕ → Items → List LeafDeclared
  all_leaves_in path k m n free array done = []
  all_leaves_in path k m n free array ((then) i is) =
      leaves_in path k m n free array i ++ all_leaves_in path k m n (free + count i) (array + array_count i) is

  pub leaves_below : LeafPath → ℕ → ℕ → ℕ → ℕ → Design → List LeafDeclared
  leaves_below path k first free array (made_of m is) =
      map (placed_leaf path k (numbering m first free) array) (inner_leaves m)
      ++ all_leaves_in path k m (numbering m first free) (free + length (inner_leaves m)) (array + length m.arrays) is

abbrev pub placed_array : LeafPath → Numbering → LeafArray → LeafArray
placed_array path n a = record {
  declaration = a.declaration;
  path = path ++ a.path;
  holds = a.holds;
  words = a.words;
  writings = map (moved_writing n) a.writings;
}

abbrev mutual
  pub arrays_in : LeafPath → LeafModule → Numbering → ℕ → Item → List LeafArray
  arrays_in path m n free (drive p b ps t) = []
  arrays_in path m n free (when p c a b) = all_arrays_in path m n free a ++ all_arrays_in path m n (free + count_all a) b
  arrays_in path m n free (instance i d) = arrays_below (instance_path path m i) (number n i.first) free d

  pub all_arrays_in : LeafPath → LeafModule → Numbering → ℕ → Items → List LeafArray
  all_arrays_in path m n free done = []
  all_arrays_in path m n free ((then) i is) = arrays_in path m n free i ++ all_arrays_in path m n (free + count i) is

  pub arrays_below : LeafPath → ℕ → ℕ → Design → List LeafArray
  arrays_below path first free (made_of m is) =
      map (placed_array path (numbering m first free)) m.arrays
      ++ all_arrays_in path m (numbering m first free) (free + length (inner_leaves m)) is
