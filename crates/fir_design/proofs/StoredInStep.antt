-- The leaf circuit of a sound design stores what the tree of its source modules stores: numbers and clocks.
use Rattle.std.proofs.Common.{◌≡◌, ℕ, ◌<◌, [], length, Option, ◌∙◌}
use Rattle.fir_meaning.specs.LeafPaths.{LeafPath}
use Rattle.fir_ast.specs.Circuits.{CircuitTree}
use Rattle.fir_leaf.specs.working.ChoiceLaws.{fitted_at}
use Rattle.fir_leaf.specs.working.DesignLaws.{numbered}
use Rattle.fir_meaning.specs.working.Designs.{Design}
use Rattle.fir_meaning.specs.PathStores.{nothing_kept}
use Rattle.fir_meaning.specs.working.Flattened.{flattened}
use Rattle.fir_meaning.specs.working.LeafBlocks.{exec_all, nothing_stored}
use Rattle.fir_meaning.specs.working.LeafCircuits.{depth_of}
use Rattle.fir_leaf.specs.working.SoundDesigns.{circuit_path}
use Rattle.fir_meaning.specs.working.TermValues.{clock_of}
use Rattle.fir_meaning.specs.TreeValues.{TypesByPath, ValuesByPath}
use Rattle.fir_leaf.proofs.FlatMeaning.{same_clocks, same_stores}
use Rattle.fir_design.specs.working.MeaningLaws.{AreDesigns}
use Rattle.fir_meaning.specs.SourceDesigns.{SourceDesign}
use Rattle.fir_meaning.specs.SourceStores.{clock_gifts, exec_design, number_gifts}
use Rattle.fir_design.proofs.TreesStored.{views_clock, views_store}

module _ (c : CircuitTree) (d : Design) (t : SourceDesign) (a : AreDesigns c d t) where
  pub numbers_in_step :
      (holds : TypesByPath) (env : ValuesByPath) (x : ℕ) → x < length (flattened d).leaves
      → exec_all (numbered (flattened d) holds) (depth_of (flattened d)) (numbered (flattened d) env)
      (fitted_at (numbered (flattened d) holds) (numbered (flattened d) env)) (flattened d).body [] nothing_stored x
      ≡ exec_design holds env (number_gifts holds env) [] t nothing_kept (circuit_path (flattened d) x)
  numbers_in_step holds env x lt =
      same_stores d holds env a.design.sound x lt
      ∙ views_store c a.scenes a.main d t holds env (circuit_path (flattened d) x) a.names a.types a.are a.among a.design.is a.tree

  pub clocks_in_step :
      (holds : TypesByPath) (env : ValuesByPath) (clocks : LeafPath → Option ℕ) (x : ℕ) → x < length (flattened d).leaves
      → exec_all (numbered (flattened d) holds) (depth_of (flattened d)) (numbered (flattened d) env)
      (λ y term. clock_of (numbered (flattened d) holds)
      (record { numbers = numbered (flattened d) env; clocks = numbered (flattened d) clocks }) term)
      (flattened d).body [] nothing_stored x
      ≡ exec_design holds env (clock_gifts holds env clocks) [] t nothing_kept (circuit_path (flattened d) x)
  clocks_in_step holds env clocks x lt =
      same_clocks d holds env clocks a.design.sound x lt
      ∙ views_clock c a.scenes a.main d t holds env clocks (circuit_path (flattened d) x) a.names a.types a.are a.among a.design.is a.tree
