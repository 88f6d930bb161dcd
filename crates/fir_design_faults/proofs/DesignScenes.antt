-- The modules of a tree of designs have scenes of the circuit.
use Rattle.std.proofs.Common.{◌≡◌, ℕ, List, [], ◌∷◌, ◌++◌, Option, Some, None, sym, subst, inl, inr, ⊎_elim}
use Rattle.std.proofs.lemmas.Option.{none-some}
use Rattle.fir_base.specs.Lists.{In}
use Rattle.fir_base.proofs.Elements.{get_in}
use Rattle.fir_base.proofs.Members.{in_either}
use Rattle.fir_ast.specs.Circuits.{ModuleTree}
use Rattle.fir_meaning.specs.LeafPaths.{LeafPath, named}
use Rattle.fir_meaning.specs.ModuleScenes.{Scene}
use Rattle.fir_meaning.specs.SourceDependence.{PlacedModule, modules_of_design, modules_of_instances}
use Rattle.fir_meaning.specs.SourceDesigns.{AreInstances, InstanceOf, Instances, IsSourceDesignOf, SourceDesign, held, instances_of_block, made_of, no_instances, scene_where}

module _ (scenes : List Scene) where
  pub scene_in : (o : Option (ℕ × ModuleTree)) (child : Scene) → scene_where scenes o ≡ Some child → In scenes child
  scene_in None child e = absurd (none-some child e)
  scene_in (Some p) child e = get_in scenes p.0 child e

  mutual
    pub design_scenes : (t : SourceDesign) (s : Scene) (at : LeafPath) → In scenes s → IsSourceDesignOf scenes s t → (h : PlacedModule)
        → In (modules_of_design at t) h → In scenes h.scene
    design_scenes (made_of u trees) s at i is h (inl e) = subst (λ (x : PlacedModule). In scenes x.scene) e (subst (In scenes) (sym is.0) i)
    design_scenes (made_of u trees) s at i is h (inr m) = instances_scenes trees s at (instances_of_block s.own.inside.body) is.1 h m

    instances_scenes : (trees : Instances) (s : Scene) (at : LeafPath) (is : List InstanceOf) → AreInstances scenes s is trees → (h : PlacedModule)
        → In (modules_of_instances at trees) h → In scenes h.scene
    instances_scenes no_instances s at is a h m = absurd m
    instances_scenes (held name d rest) s at [] a h m = absurd a
    instances_scenes (held name d rest) s at (i ∷ is) a h m =
        ⊎_elim
        (λ (l : In (modules_of_design (at ++ named name ∷ []) d) h).
        design_scenes d a.1.0 (at ++ named name ∷ []) (scene_in _ a.1.0 a.1.1) a.1.2 h l)
        (λ (r : In (modules_of_instances at rest) h). instances_scenes rest s at is a.2 h r)
        (in_either (modules_of_design (at ++ named name ∷ []) d) (modules_of_instances at rest) h m)
