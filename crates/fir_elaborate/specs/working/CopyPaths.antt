-- The paths of the instances of a design, in the order of its copies: the empty path for the main module, and each before those of its own instances (FIRRTL
-- spec, "Instances"); and what stands before the path of a leaf of an instance as it is printed.
use Rattle.std.specs.Prelude.{ℕ, List, [], ◌∷◌, ◌++◌, codes}
use Rattle.fir_meaning.specs.LeafPaths.{LeafPath, path_text}
use Rattle.fir_meaning.specs.working.DesignPaths.{instance_path}
use Rattle.fir_meaning.specs.working.Designs.{Item, drive, when, instance, Items, done, then, Design, made_of}
use Rattle.fir_meaning.specs.working.LeafModules.{LeafModule}

abbrev mutual
  pub paths_in : LeafPath → LeafModule → Item → List LeafPath
  paths_in path m (drive p b ps t) = []
  paths_in path m (when p c a b) = all_paths_in path m a ++ all_paths_in path m b
  paths_in path m (instance i d) = paths_below (instance_path path m i) d

  pub all_paths_in : LeafPath → LeafModule → Items → List LeafPath
  all_paths_in path m done = []
  all_paths_in path m ((then) i is) = paths_in path m i ++ all_paths_in path m is

  pub paths_below : LeafPath → Design → List LeafPath
  paths_below path (made_of m is) = path ∷ all_paths_in path m is

-- the path, and a dot behind it where it is not empty
abbrev pub prefix_text : LeafPath → List ℕ
prefix_text [] = []
prefix_text (step ∷ steps) = path_text (step ∷ steps) ++ codes "."
