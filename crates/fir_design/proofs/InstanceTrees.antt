-- The trees of a module's instances beside its instances over leaves, in the order of the text.
use Rattle.std.proofs.Common.{◌≡◌, ℕ, List, [], ◌∷◌, ◌++◌, flat_map, slice_get, Some, refl, sym, ap, ◌∙◌}
use Rattle.std.proofs.lemmas.List.{append-nil}
use Rattle.fir_ast.specs.Circuits.{CircuitTree}
use Rattle.fir_meaning.specs.LeafPaths.{LeafPath, named}
use Rattle.fir_meaning.specs.working.NameGroups.{HasNames}
use Rattle.fir_meaning.specs.Visibility.{declarations}
use Rattle.fir_meaning.specs.working.DesignPaths.{instance_name}
use Rattle.fir_meaning.specs.ModuleScenes.{Scene, behind_all_ports}
use Rattle.fir_meaning.specs.working.LeafedModules.{driven_leaves, leafed_module}
use Rattle.fir_leaf.proofs.DeclaredLeaves.{IsOwn}
use Rattle.fir_meaning.specs.SourceCircuits.{PlacedArray, PlacedLeaf, arrays_of_design, arrays_of_instances, leaves_of_design, leaves_of_instances}
use Rattle.fir_meaning.specs.SourceDesigns.{AreInstances, InstanceOf, Instances, IsSourceDesignOf, SourceDesign, held, no_instances, scene_where}
use Rattle.fir_design.proofs.FoundInstances.{instances_found, instances_in}
use Rattle.fir_design.proofs.HeldInstances.{Held, all_held_in}
use Rattle.fir_design.proofs.ListsInStep.{AreInStep}
use Rattle.fir_design.proofs.SourceInstances.{AreSame, block_same}

-- the instances with their trees, as a list
pub record NamedTree : Type 0 where
  pub name : List ℕ
  pub tree : SourceDesign

abbrev pub trees_in : Instances → List NamedTree
trees_in no_instances = []
trees_in (held name d rest) = record { name = name; tree = d } ∷ trees_in rest

abbrev pub leaves_of_trees : LeafPath → List NamedTree → List PlacedLeaf
leaves_of_trees at = flat_map (λ (e : NamedTree). leaves_of_design (at ++ named e.name ∷ []) e.tree)

abbrev pub arrays_of_trees : LeafPath → List NamedTree → List PlacedArray
arrays_of_trees at = flat_map (λ (e : NamedTree). arrays_of_design (at ++ named e.name ∷ []) e.tree)

pub leaves_by_trees : (at : LeafPath) (is : Instances) → leaves_of_trees at (trees_in is) ≡ leaves_of_instances at is
leaves_by_trees at no_instances = refl
leaves_by_trees at (held name d rest) = ap (λ ps. leaves_of_design (at ++ named name ∷ []) d ++ ps) (leaves_by_trees at rest)

pub arrays_by_trees : (at : LeafPath) (is : Instances) → arrays_of_trees at (trees_in is) ≡ arrays_of_instances at is
arrays_by_trees at no_instances = refl
arrays_by_trees at (held name d rest) = ap (λ ps. arrays_of_design (at ++ named name ∷ []) d ++ ps) (arrays_by_trees at rest)

module _ (scenes : List Scene) (s : Scene) where
  -- an instance of a name, and the tree of its module
  pub record IsTreeOf (h : Held) (e : NamedTree) : Type 0 where
    pub name : instance_name (leafed_module s) h.own ≡ e.name
    pub child : Scene
    pub at : slice_get scenes h.own.module_number ≡ Some child
    pub is : IsSourceDesignOf scenes child e.tree

  trees_beside : (hs : List Held) (is : List InstanceOf) (trees : Instances) → AreSame s.own.modules (declarations s.own.inside) hs is
      → AreInstances scenes s is trees → AreInStep IsTreeOf hs (trees_in trees)
  trees_beside [] [] no_instances same a = tt
  trees_beside [] [] (held name d rest) same a = absurd a
  trees_beside [] (i ∷ is) trees same a = absurd same
  trees_beside (h ∷ hs) [] trees same a = absurd same
  trees_beside (h ∷ hs) (i ∷ is) no_instances same a = absurd a
  trees_beside (h ∷ hs) (i ∷ is) (held name d rest) same a = (
    record {
      name = same.0.name ∙ sym a.0;
      child = a.1.0;
      at = sym (ap (scene_where scenes) same.0.found) ∙ a.1.1;
      is = a.1.2;
    },
    trees_beside hs is rest same.1 a.2,
  )

  pub trees_of_module : (c : CircuitTree) → HasNames c → IsOwn c.modules s.own → (trees : Instances)
      → AreInstances scenes s (instances_in s) trees → AreInStep IsTreeOf (all_held_in 0 (leafed_module s).body) (trees_in trees)
  trees_of_module c names own trees a =
      let all = declarations s.own.inside in
      trees_beside (all_held_in 0 (leafed_module s).body) (instances_in s) trees
      (block_same s.own.modules all (driven_leaves s) s.own.inside.body (behind_all_ports s.own.inside) 0 ([], append-nil all)
      (instances_found c s names own)) a
