-- The state of a design by paths, in its order (FIRRTL spec, "Registers", "Memories", "Instances").
-- A walk through the declarations of the module, in the order of the text, with the state of an instance in the place of its declaration.
use Rattle.std.specs.Prelude.{ℕ, List, [], ◌++◌, map, nat_eq, if◌then◌else◌, slice_index_or}
use Rattle.fir_meaning.specs.LeafPaths.{LeafPath}
use Rattle.fir_meaning.specs.working.LeafModules.{LeafArray, LeafModule}
use Rattle.fir_meaning.specs.LeafTypes.{no_bits, number}
use Rattle.fir_meaning.specs.working.Designs.{Item, drive, when, instance, Items, done, then, Design, made_of}
use Rattle.fir_meaning.specs.working.DesignPaths.{instance_path, leaf_path}
use Rattle.fir_meaning.specs.working.StateWalks.{own_arrays, own_words, walk}

-- the words of the instance that is declaration k, if one is
abbrev mutual
  pub word_paths_in : LeafPath → LeafModule → ℕ → Item → List LeafPath
  word_paths_in path m k (drive p b ps t) = []
  word_paths_in path m k (when p c a b) = all_word_paths_in path m k a ++ all_word_paths_in path m k b
  word_paths_in path m k (instance i d) = if nat_eq i.declaration k then word_paths_below (instance_path path m i) d else []

  pub all_word_paths_in : LeafPath → LeafModule → ℕ → Items → List LeafPath
  all_word_paths_in path m k done = []
  all_word_paths_in path m k ((then) i is) = word_paths_in path m k i ++ all_word_paths_in path m k is

  -- those of the design of the instance at the path
  pub word_paths_below : LeafPath → Design → List LeafPath
  word_paths_below path (made_of m is) = walk m (λ k. map (leaf_path path m) (own_words m k) ++ all_word_paths_in path m k is)

abbrev pub no_array : LeafArray
no_array = record { declaration = 0; path = []; holds = number no_bits; words = 0; writings = [] }

abbrev pub array_at : List LeafArray → ℕ → LeafArray
array_at arrays x = slice_index_or arrays x no_array

-- and the arrays
abbrev mutual
  pub array_paths_in : LeafPath → LeafModule → ℕ → Item → List LeafPath
  array_paths_in path m k (drive p b ps t) = []
  array_paths_in path m k (when p c a b) = all_array_paths_in path m k a ++ all_array_paths_in path m k b
  array_paths_in path m k (instance i d) = if nat_eq i.declaration k then array_paths_below (instance_path path m i) d else []

  pub all_array_paths_in : LeafPath → LeafModule → ℕ → Items → List LeafPath
  all_array_paths_in path m k done = []
  all_array_paths_in path m k ((then) i is) = array_paths_in path m k i ++ all_array_paths_in path m k is

  pub array_paths_below : LeafPath → Design → List LeafPath
  array_paths_below path (made_of m is) =
      walk m (λ k. map (λ x. path ++ (array_at m.arrays x).path) (own_arrays m k) ++ all_array_paths_in path m k is)
