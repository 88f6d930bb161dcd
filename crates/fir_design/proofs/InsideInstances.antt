-- What a module's instances give under a declaration's number, by numbers and by paths.
use Rattle.std.proofs.Common.{◌≡◌, ℕ, ◌<◌, List, [], map, length, slice_get, Some, refl, sym, ap, ◌∙◌, arith}
use Rattle.fir_base.specs.Lists.{In}
use Rattle.fir_meaning.specs.Components as component
use Rattle.fir_meaning.specs.Components.{Component, Declaration}
use Rattle.fir_meaning.specs.LeafPaths.{LeafPath}
use Rattle.fir_meaning.specs.Visibility.{declarations}
use Rattle.fir_meaning.specs.working.Designs.{Design}
use Rattle.fir_meaning.specs.working.LeafBlocks.{HeldInstance}
use Rattle.fir_meaning.specs.ModuleScenes.{Scene, behind_all_ports}
use Rattle.fir_meaning.specs.working.LeafedModules.{leafed_module}
use Rattle.fir_leaf.proofs.FlatPlaces.{At}
use Rattle.fir_meaning.specs.SourceDesigns.{Instances, SourceDesign}
use Rattle.fir_design.proofs.DesignInstances.{Instance, given, given_none, held_of, own_of}
use Rattle.fir_design.proofs.DesignsBeside.{AreBeside}
use Rattle.fir_design.proofs.FineScenes.{IsFineScene}
use Rattle.fir_design.proofs.GivenInstances.{Agrees, given_agree, gives, held_by, order_by}
use Rattle.fir_design.proofs.HeldInstances.{all_held_in}
use Rattle.fir_design.proofs.ModuleInstances.{alike, declared_as_instance, declared_here, declared_once}
use Rattle.fir_design.proofs.WordWalks.{of_instance}

module _ {X : Type 0} (all : List X) (size : Design → ℕ) (below : ℕ → ℕ → Design → List ℕ)
    (holds order : LeafPath → SourceDesign → List X)
    (scenes : List Scene) (s : Scene) (f : IsFineScene s) (xs : List Instance) (trees : Instances)
    (are : map own_of xs ≡ map held_of (all_held_in 0 (leafed_module s).body))
    (beside : AreBeside scenes (Agrees all size below holds order) s xs trees)
    (path : LeafPath) (first_of : HeldInstance → ℕ) (from : ℕ) where
  abbrev inside : ℕ → List ℕ
  inside k = given size (gives all size below holds order scenes s first_of) from k xs

  none_inside : (k : ℕ) → ((x : Instance) → In xs x → x.0.declaration ≡ k → ⊥) → inside k ≡ []
  none_inside k none = given_none size (gives all size below holds order scenes s first_of) from k xs none

  -- ports are no instances
  pub none_in_ports : (k : ℕ) → k < length (behind_all_ports s.own.inside).declared → inside k ≡ []
  none_in_ports k lt =
      none_inside k (λ x j q. let low = (declared_here s xs are x j).behind_ports in omega (arith, low, lt, q))

  pub inside_agree : (child : List ℕ → List X) → ((name : List ℕ) → order_by all size below holds order path trees name ≡ child name)
      → At all from (held_by all size below holds order path trees) → (k : ℕ) (d : Declaration)
      → slice_get (declarations s.own.inside) k ≡ Some d
      → map (slice_get all) (inside k) ≡ map Some (of_instance child d.named.name d.component)
  inside_agree child same at k d there = by d.component refl
    where
      apart : (o : Component) → d.component ≡ o → ((name : List ℕ) → component.instance name ≡ o → ⊥)
          → map (slice_get all) (inside k) ≡ []
      apart o is_o other =
          ap (map (slice_get all))
          (none_inside k (λ x j q. other (declared_here s xs are x j).module_name
          (ap (λ (z : Declaration). z.component) (sym (declared_as_instance s xs are k d there x j q)) ∙ is_o)))

      by : (o : Component) → d.component ≡ o → map (slice_get all) (inside k) ≡ map Some (of_instance child d.named.name o)
      by (component.instance other) q =
          given_agree all size below holds order scenes s first_of path k d.named.name from xs trees beside (declared_once s xs are)
          (alike s xs are f k d there) at ∙ ap (map Some) (same d.named.name)
      by (component.port x t) q = apart (component.port x t) q (λ name r. cc)
      by (component.wire t) q = apart (component.wire t) q (λ name r. cc)
      by (component.register t) q = apart (component.register t) q (λ name r. cc)
      by (component.node x) q = apart (component.node x) q (λ name r. cc)
      by (component.memory parts) q = apart (component.memory parts) q (λ name r. cc)
