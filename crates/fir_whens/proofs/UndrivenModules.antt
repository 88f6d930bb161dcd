-- What is found of a module: none of its leaves is left undriven, or the fault of the first that is.
use Rattle.std.proofs.Common.{◌≡◌, ℕ, ◌<◌, List, length, Some, None, refl, subst, sym, ◌∙◌}
use Rattle.std.specs.Prelude.{slice_get}
use Rattle.fir_ast.specs.declared.fault.FirFault.TheVariants.{Undriven}
use Rattle.fir_ast.specs.declared.fault.Outcome.{Outcome}
use Rattle.fir_ast.specs.Circuits.{CircuitTree}
use Rattle.fir_meaning.specs.working.LeafModules.{depth_at}
use Rattle.fir_meaning.specs.working.LeafedModules.{leafed_module}
use Rattle.fir_meaning.specs.working.Scenes.{HasScenes}
use Rattle.fir_meaning.specs.working.UndrivenChoices.{IsFirstUndriven}
use Rattle.fir_meaning.specs.Outcomes.{told_once}
use Rattle.fir_meaning.specs.working.UndrivenLeaves.{AreDrivenBefore}
use Rattle.fir_leaf.specs.working.NodeBlocks.{block_in}
use Rattle.fir_leaf_circuit.specs.declared.leaf_module.LeafModule.{LeafModule}
use Rattle.fir_leaf_circuit.specs.working.Leafed.{AreLeafed}
use Rattle.fir_leaf_circuit.specs.working.LeafStores.{depth_in, leaf_of_code}
use Rattle.fir_driven.specs.working.ChoiceLaws.{CoveredIsDriven, MissedIsFirst}
use Rattle.fir_driven.specs.working.Missed.{missed_all}
use Rattle.fir_whens.specs.working.CoveredModules.{AreCoveredBefore, IsNotCovered}
use Rattle.fir_leaf_text.specs.working.TextsOfLeaves.{IsTextOf}
use Rattle.fir_whens.specs.working.ModuleFaults.{IsFoundOf}
use Rattle.fir_whens.proofs.CoveredViews.{as_many, driven_before, same_covered, same_depth, same_leaf, same_sink}

module _ (c : CircuitTree) (ms : List LeafModule) (leafed : AreLeafed c ms) (k : ℕ) (m : LeafModule) (at : slice_get ms k ≡ Some m) where
  -- no leaf is found
  pub all_driven : CoveredIsDriven → AreCoveredBefore m (length m.leaves.items) → IsFoundOf c k None
  all_driven covered_driven covered s scene =
      let has = leafed.each k m s at scene in
      subst (λ n. AreDrivenBefore (leafed_module s) n) (as_many m (leafed_module s) has)
      (driven_before m (leafed_module s) has covered_driven (length m.leaves.items) covered)

  -- the fault of the first leaf that is found
  pub first_undriven : CoveredIsDriven → MissedIsFirst → HasScenes c → k < length c.modules → (x : ℕ) → IsNotCovered m x
      → (text : List ℕ) (outcomes : List Outcome) → IsTextOf c k x text
      → outcomes ≡ told_once (missed_all (depth_in m x) x (block_in m.nodes.items m.body.items) 0)
      → IsFoundOf c k (Some (Undriven (leaf_of_code m x).place text outcomes))
  first_undriven covered_driven missed_first scenes within x found text outcomes is_text are =
      let s = (scenes k within).0 in
      let scene = (scenes k within).1 in
      let has = leafed.each k m s at scene in
      let view = leafed_module s in
      let inside : x < length view.leaves = subst (λ n. x < n) (as_many m view has) found.within in
      let first = missed_first (depth_at view x) x view.body (sym (same_covered m view has x) ∙ found.uncovered) in
      let same_outcomes : told_once (missed_all (depth_at view x) x view.body 0) ≡ outcomes =
      rw (sym (same_depth m view has x), sym has.body) (sym are) in
      record {
        leaf = x;
        stands = record {
          scene = s;
          is_scene = scene;
          shows = record {
            outcomes = outcomes;
            within = inside;
            is_sink = sym (same_sink m view has x) ∙ found.is_sink;
            first = subst (λ os. IsFirstUndriven (depth_at view x) x view.body os) same_outcomes first;
            is = rw (same_leaf m view has x, is_text s scene inside) refl;
          };
        };
        before = λ t of. driven_before m (leafed_module t) (leafed.each k m t at of) covered_driven x found.before;
      }
