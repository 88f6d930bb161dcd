-- The leaves and arrays of a tree of designs stand once, and so does the state among them (FIRRTL spec, "Namespaces", "Registers", "Memories").
use Rattle.std.specs.Prelude.{map}
use Rattle.fir_base.specs.Lists.{Distinct, In}
use Rattle.fir_ast.specs.Circuits.{CircuitTree}
use Rattle.fir_meaning.specs.working.Designs.{Design}
use Rattle.fir_meaning.specs.SourceCircuits.{PlacedArray, PlacedLeaf, all_arrays, all_leaves, array_path, paths_of, state_arrays, state_words}
use Rattle.fir_meaning.specs.SourceDesigns.{SourceDesign}
use Rattle.fir_design.specs.working.MeaningLaws.{AreDesigns}

-- no path is that of two leaves or of two arrays, also among the state, and the state is of these leaves and arrays
pub record StandsOnce (t : SourceDesign) : Type 0 where
  pub leaves : Distinct (paths_of (all_leaves t))
  pub words : Distinct (paths_of (state_words t))
  pub arrays : Distinct (map array_path (all_arrays t))
  pub stored_arrays : Distinct (map array_path (state_arrays t))
  pub words_among : (p : PlacedLeaf) → In (state_words t) p → In (all_leaves t) p
  pub stored_among : (a : PlacedArray) → In (state_arrays t) a → In (all_arrays t) a

abbrev pub SourcesStandOnce : Type 0
SourcesStandOnce = (c : CircuitTree) (d : Design) (t : SourceDesign) → AreDesigns c d t → StandsOnce t
