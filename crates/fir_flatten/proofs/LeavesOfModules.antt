-- Each leaf of a design's circuit is, by its number, a leaf of a module of its tree.
use Rattle.std.proofs.Common.{◌≡◌, ℕ, Some, slice_get, sym, subst}
use Rattle.fir_ast.specs.Circuits.{CircuitTree}
use Rattle.fir_meaning.specs.ModuleScenes.{Scene}
use Rattle.fir_meaning.specs.SourceCircuits.{PlacedLeaf, all_leaves}
use Rattle.fir_meaning.specs.SourceDesigns as source
use Rattle.fir_meaning.specs.SourceDesigns.{SourceDesign}
use Rattle.fir_meaning.specs.working.Designs.{Design, made_of}
use Rattle.fir_meaning.specs.working.Flattened.{flattened}
use Rattle.fir_meaning.specs.working.LeafModules.{LeafModule}
use Rattle.fir_meaning.specs.working.LeafedModules.{leafed_module}
use Rattle.fir_design.specs.working.MeaningLaws.{AreDesigns}
use Rattle.fir_design_faults.proofs.LeafNumbers.{IsNumbered, leaf_numbered}

module _ (c : CircuitTree) where
  abbrev AreNumbered : Design → SourceDesign → Type 0
  AreNumbered d t = AreDesigns c d t → (x : ℕ) (p : PlacedLeaf) → slice_get (all_leaves t) x ≡ Some p → IsNumbered (flattened d) t x p

  pub leaf_of_module : (d : Design) (t : SourceDesign) → AreNumbered d t
  leaf_of_module (made_of v is) (source.made_of u trees) a =
      subst (λ (w : LeafModule). AreNumbered (made_of w is) (source.made_of u trees)) (sym a.design.is.0)
      (subst (λ (z : Scene). AreNumbered (made_of (leafed_module a.main) is) (source.made_of z trees)) (sym a.tree.0) (λ b. leaf_numbered c a.main is trees b)) a
