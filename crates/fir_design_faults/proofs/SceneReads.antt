-- The statements of a module's view drive and read its leaves, through indices either of ports alone or of none.
use Rattle.std.proofs.Common.{◌≡◌, ℕ, ◌+◌, ◌≤◌, List, ◌++◌, Some, ap, ◌∙◌, subst, ◌⊎◌, inl, inr, arith}
use Rattle.fir_ast.specs.Types.{DataType}
use Rattle.fir_meaning.specs.ResetJoins.{type_of_known}
use Rattle.fir_meaning.specs.TypedScopes.{TypedScope, known}
use Rattle.fir_meaning.specs.TypeLeaves.{leaf_count}
use Rattle.fir_leaf.specs.working.LeafLaws.{Begins}
use Rattle.fir_meaning.specs.ModuleScenes.{Scene, behind_all_ports}
use Rattle.fir_meaning.specs.working.LeafedModules.{driven_leaves, leafed_module}
use Rattle.fir_meaning.specs.working.Targets.{leaves_ahead, leaves_so_far}
use Rattle.fir_leaf.proofs.NamedPlaces.{named_in_whole}
use Rattle.fir_leaf.proofs.ScopesBegin.{begins_all}
use Rattle.fir_design.proofs.FineScenes.{IsFineScene, leaves_long, whole_scope}
use Rattle.fir_design.proofs.PortLeaves.{port_far, port_scope}
use Rattle.fir_design_faults.proofs.ReadBlocks.{block_reading}
use Rattle.fir_design_faults.proofs.ReadStatements.{AreReading}
use Rattle.fir_design_faults.proofs.ReadTargets.{AreNamesIn, named_apart}

module _ (s : Scene) (f : IsFineScene s) where
  pub names_in : (scope : TypedScope) → Begins (port_scope s) scope → Begins scope (whole_scope s) → AreNamesIn (leafed_module s) scope
  names_in scope a b = record {
    within = λ name t h. omega (arith, named_in_whole scope (whole_scope s) name t b h, leaves_long s f);
    ports = λ name t h. subst (Apart name t) a.1 (by name t (named_apart (port_scope s) a.0 name t (typed name t h)));
  }
    where
      Apart : List ℕ → DataType → TypedScope → Type 0
      Apart name t x =
          (leaves_ahead x name + leaf_count t ≤ (leafed_module s).port_leaves) ⊎ ((leafed_module s).port_leaves ≤ leaves_ahead x name)

      typed : (name : List ℕ) (t : DataType) → type_of_known (known scope name) ≡ Some t
          → type_of_known (known (port_scope s ++ a.0) name) ≡ Some t
      typed name t h = ap (λ x. type_of_known (known x name)) a.1 ∙ h

      by : (name : List ℕ) (t : DataType)
          → (leaves_ahead (port_scope s ++ a.0) name + leaf_count t ≤ leaves_so_far (port_scope s))
          ⊎ (leaves_so_far (port_scope s) ≤ leaves_ahead (port_scope s ++ a.0) name)
          → Apart name t (port_scope s ++ a.0)
      by name t (inl l) = inl (omega (arith, l, port_far s))
      by name t (inr r) = inr (omega (arith, r, port_far s))

  pub scene_reading : AreReading (leafed_module s) (leafed_module s).body
  scene_reading =
      block_reading (leafed_module s) s.own.modules (port_scope s) (whole_scope s) names_in (driven_leaves s) s.own.inside.body
      (behind_all_ports s.own.inside) (begins_all (port_scope s)) (begins_all (whole_scope s)) f.legal
