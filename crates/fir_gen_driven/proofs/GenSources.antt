-- A source of the circuit is one module without instances; what that says of its leaves and modules.
use Rattle.std.proofs.Common.{◌≡◌, ℕ, List, [], ◌∷◌, ◌++◌, refl, sym, subst, inl, inr}
use Rattle.std.specs.List.{AllByRecursion}
use Rattle.fir_base.specs.Lists.{In}
use Rattle.fir_base.proofs.Each.{all_at, all_from, all_joined, all_mapped}
use Rattle.fir_ast.specs.declared.place.Place.{Place}
use Rattle.fir_ast.specs.Faults.{Fault}
use Rattle.fir_meaning.specs.Elaborated.{IsSourceOf}
use Rattle.fir_meaning.specs.ModuleScenes.{Scene, behind_all_ports}
use Rattle.fir_meaning.specs.Scenes.{IsSceneOf}
use Rattle.fir_meaning.specs.SourceCircuits.{PlacedLeaf, all_leaves, inner_leaves, placed, port_leaves, within}
use Rattle.fir_meaning.specs.SourceDependence.{PlacedModule, all_modules}
use Rattle.fir_meaning.specs.SourceDesigns.{AreInstances, InstanceOf, Instances, IsSourceDesignOf, SourceDesign, held, instances_of_block, made_of, no_instances}
use Rattle.fir_meaning.specs.SourceRoles.{SourceLeaf, source_leaves, sources_in_block}
use Rattle.fir_gen.specs.working.GenTree.{gen_tree}
use Rattle.fir_gen_driven.proofs.GenLeaves.{IsFineLeaf, IsRegister, fine_register}
use Rattle.fir_gen_driven.proofs.GenScenes.{IsGenScene, gen_scene}

abbrev pub alone : Scene → SourceDesign
alone s = made_of s no_instances

without_instances : (scenes : List Scene) (s : Scene) (rows : List InstanceOf) (is : Instances) → rows ≡ [] → AreInstances scenes s rows is → no_instances ≡ is
without_instances scenes s [] no_instances e h = refl
without_instances scenes s [] (held name d rest) e h = absurd h
without_instances scenes s (i ∷ more) is e h = cc

stands_alone : (scenes : List Scene) (s : Scene) (t : SourceDesign) → IsGenScene s → IsSourceDesignOf scenes s t → alone s ≡ t
stands_alone scenes s (made_of other is) gen h =
    let none = without_instances scenes s (instances_of_block s.own.inside.body) is gen.no_instance h.1 in
    let same : s ≡ other = sym h.0 in
    cc

module _ (at : ℕ → ℕ → Place) (n : ℕ) (t : SourceDesign) (source : IsSourceOf (gen_tree at n) t) where
  pub main_scene : IsSceneOf (gen_tree at n) 0 source.main
  main_scene = source.has.each 0 source.main source.has.is_main

  main_gen : IsGenScene source.main
  main_gen = gen_scene at n 0 source.main main_scene

  -- the source is the scene of the module alone
  pub is_alone : alone source.main ≡ t
  is_alone = stands_alone source.scenes source.main t main_gen source.is

  -- what does not hold of a scene of the module alone holds of no source of the circuit
  pub none_of_source : (Holds : SourceDesign → Fault → Type 0) → ((s : Scene) → IsGenScene s → (f : Fault) → Holds (alone s) f → ⊥) → (f : Fault) → Holds t f → ⊥
  none_of_source Holds none f = subst (λ (u : SourceDesign). Holds u f → ⊥) is_alone (none source.main main_gen f)

module _ (s : Scene) (gen : IsGenScene s) where
  inner_fine : (l : SourceLeaf) → IsRegister l.role → IsFineLeaf l × IsFineLeaf (within l)
  inner_fine l h = fine_register l.path l.holds l.role h

  abbrev inner : List SourceLeaf
  inner = sources_in_block s (behind_all_ports s.own.inside) s.own.inside.body

  pub leaves_fine : AllByRecursion IsFineLeaf (source_leaves s)
  leaves_fine =
      all_joined IsFineLeaf (port_leaves s) inner gen.ports
      (all_from IsFineLeaf inner (λ l among. (inner_fine l (all_at (λ (l : SourceLeaf). IsRegister l.role) inner gen.inner l among)).0))

  -- a leaf of the main module
  abbrev pub IsFinePlaced : PlacedLeaf → Type 0
  IsFinePlaced p = (p.at ≡ []) × IsFineLeaf p.leaf

  placed_fine : (ls : List SourceLeaf) → AllByRecursion IsFineLeaf ls → AllByRecursion IsFinePlaced (placed [] ls)
  placed_fine [] h = tt
  placed_fine (l ∷ ls) h = ((refl, h.0), placed_fine ls h.1)

  within_fine : AllByRecursion IsFineLeaf (inner_leaves s)
  within_fine =
      all_mapped IsFineLeaf within inner
      (all_from (λ (l : SourceLeaf). IsFineLeaf (within l)) inner
      (λ l among. (inner_fine l (all_at (λ (l : SourceLeaf). IsRegister l.role) inner gen.inner l among)).1))

  all_fine : AllByRecursion IsFinePlaced (all_leaves (alone s))
  all_fine =
      all_joined IsFinePlaced (placed [] (port_leaves s)) (placed [] (inner_leaves s) ++ []) (placed_fine (port_leaves s) gen.ports)
      (all_joined IsFinePlaced (placed [] (inner_leaves s)) [] (placed_fine (inner_leaves s) within_fine) tt)

  pub leaf_fine : (p : PlacedLeaf) → In (all_leaves (alone s)) p → (p.at ≡ []) × IsFineLeaf p.leaf
  leaf_fine p among = all_at IsFinePlaced (all_leaves (alone s)) all_fine p among

pub module_alone : (s : Scene) (m : PlacedModule) → In (all_modules (alone s)) m → record { at = []; scene = s } ≡ m
module_alone s m (inl e) = e
module_alone s m (inr h) = absurd h
