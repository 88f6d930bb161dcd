-- A module of the code and its leaf view: the same leaves must be driven, the same are covered, and so no choice leaves one of those undriven.
use Rattle.std.proofs.Common.{◌≡◌, ℕ, length, refl, ap, sym, ◌∙◌}
use Rattle.std.proofs.lemmas.List.{length-map}
use Rattle.std.proofs.Math.ListN.{get_or-map}
use Rattle.fir_meaning.specs.working.Choices.{covers_all}
use Rattle.fir_meaning.specs.working.LeafModules.{LeafDeclared, LeafModule as View, depth_at, is_sink, leaf_at, no_leaf, role_at}
use Rattle.fir_meaning.specs.working.UndrivenLeaves.{AreDrivenBefore}
use Rattle.fir_leaf_circuit.specs.declared.leaf_module.LeafModule.{LeafModule}
use Rattle.fir_leaf_circuit.specs.working.Seen.{HasView, leaf_seen, unnamed}
use Rattle.fir_leaf_circuit.specs.working.LeafStores.{depth_in, leaf_of_code}
use Rattle.fir_driven.specs.working.ChoiceLaws.{CoveredIsDriven}
use Rattle.fir_whens.specs.working.CoveredModules.{AreCoveredBefore, is_covered_at, is_sink_at}

module _ (m : LeafModule) (view : View) (has : HasView m view) where
  pub same_leaf : (x : ℕ) → leaf_of_code m x ≡ unnamed (leaf_at view.leaves x)
  same_leaf x = ap (λ ls. leaf_at ls x) has.leaves ∙ get_or-map unnamed view.leaves x no_leaf

  pub as_many : length m.leaves.items ≡ length view.leaves
  as_many = sym (length-map m.leaves.items (leaf_seen m.nodes.items)) ∙ ap length has.leaves ∙ length-map view.leaves unnamed

  pub same_sink : (x : ℕ) → is_sink_at m x ≡ is_sink (role_at view x)
  same_sink x = ap (λ (l : LeafDeclared). is_sink l.role) (same_leaf x)

  pub same_depth : (x : ℕ) → depth_in m x ≡ depth_at view x
  same_depth x = ap (λ (l : LeafDeclared). l.depth) (same_leaf x)

  pub same_covered : (x : ℕ) → is_covered_at m x ≡ covers_all (depth_at view x) x view.body 0
  same_covered x = rw (same_depth x, has.body) refl

  -- what is covered is driven
  pub driven_before : CoveredIsDriven → (n : ℕ) → AreCoveredBefore m n → AreDrivenBefore view n
  driven_before covered_driven n covered x below sink choice undriven =
      covered_driven (depth_at view x) x view.body choice
      (sym (same_covered x) ∙ covered x below (same_sink x ∙ sink)) undriven
