-- Each leaf of the leaf circuit of a design stands, by its path, where it is declared, and at no other place.
use Rattle.std.proofs.Common.{◌≡◌, ℕ, ◌<◌, [], length, sym, ap, ◌∙◌, arith}
use Rattle.std.proofs.lemmas.Option.{slice_get_within}
use Rattle.fir_base.proofs.Elements.{get_in, number_of, there}
use Rattle.fir_ast.specs.Circuits.{CircuitTree}
use Rattle.fir_ast.specs.declared.place.Place.{Place}
use Rattle.fir_meaning.specs.ModuleScenes.{Scene}
use Rattle.fir_meaning.specs.SourceCircuits.{PlacedLeaf, all_leaves}
use Rattle.fir_meaning.specs.SourceDependence.{PlacedModule}
use Rattle.fir_meaning.specs.SourceDesigns as source
use Rattle.fir_meaning.specs.SourceDesigns.{Instances, SourceDesign}
use Rattle.fir_meaning.specs.SourceFacts.{source_place}
use Rattle.fir_meaning.specs.SourceLoops.{StandsAt}
use Rattle.fir_meaning.specs.working.Designs.{Items, made_of}
use Rattle.fir_meaning.specs.working.Flattened.{flattened}
use Rattle.fir_meaning.specs.working.LeafCircuits.{LeafCircuit}
use Rattle.fir_meaning.specs.working.LeafModules.{LeafModule}
use Rattle.fir_meaning.specs.working.LeafNames.{place_of_leaf}
use Rattle.fir_meaning.specs.working.LeafedModules.{leafed_module}
use Rattle.fir_leaf.specs.working.SoundDesigns.{circuit_path}
use Rattle.fir_design.specs.working.MeaningLaws.{AreDesigns}
use Rattle.fir_design.proofs.FlatInStep.{each_leaf, many_leaves}
use Rattle.fir_design.proofs.ViewRoles.{views_same}
use Rattle.fir_source_faults.proofs.DeclaredPlaces.{source_place_is}
use Rattle.fir_design_faults.proofs.LeafNumbers.{IsNumbered, leaf_numbered}
use Rattle.fir_design_faults.proofs.ModulesOnce.{modules_once}
use Rattle.fir_design_faults.proofs.WholeDesigns.{module_fine}

module _ (c : CircuitTree) (s : Scene) (is : Items) (trees : Instances) (a : AreDesigns c (made_of (leafed_module s) is) (source.made_of s trees)) where
  abbrev m : LeafModule
  m = leafed_module s

  abbrev g : LeafCircuit
  g = flattened (made_of (leafed_module s) is)

  abbrev t : SourceDesign
  t = source.made_of s trees

  place_is : (x : ℕ) (p : PlacedLeaf) (n : IsNumbered g t x p) → source_place n.holder.scene p.leaf.path ≡ place_of_leaf g x
  place_is x p n =
      ap (source_place n.holder.scene) (sym n.path) ∙ source_place_is n.holder.scene (module_fine c m is t a n.holder n.among) n.leaf n.inside ∙ sym n.place

  pub stands : (x : ℕ) → x < length (flattened (made_of (leafed_module s) is)).leaves
      → StandsAt (source.made_of s trees) (circuit_path (flattened (made_of (leafed_module s) is)) x) (place_of_leaf (flattened (made_of (leafed_module s) is)) x)
  stands x lt =
      let p = there (all_leaves t) x (omega (arith, lt, many_leaves c views_same (made_of m is) t a)) in
      let n = leaf_numbered c s is trees a x p.0 p.1 in
      record {
        leaf = p.0;
        among = get_in (all_leaves t) x p.0 p.1;
        is_leaf = sym (each_leaf c views_same (made_of m is) t a x p.0 p.1).path;
        holder = n.holder;
        is_holder = n.among;
        within = n.at;
        is = place_is x p.0 n;
      }

  pub one_place : (x : ℕ) (place : Place) → x < length (flattened (made_of (leafed_module s) is)).leaves
      → StandsAt (source.made_of s trees) (circuit_path (flattened (made_of (leafed_module s) is)) x) place
      → place ≡ place_of_leaf (flattened (made_of (leafed_module s) is)) x
  one_place x place lt h =
      let y = number_of (all_leaves t) h.leaf h.among in
      let less : y.0 < length g.leaves =
      omega (arith, slice_get_within (all_leaves t) y.0 h.leaf y.1, many_leaves c views_same (made_of m is) t a) in
      let same : y.0 ≡ x =
      a.design.sound.once y.0 x less lt ((each_leaf c views_same (made_of m is) t a y.0 h.leaf y.1).path ∙ h.is_leaf) in
      let n = leaf_numbered c s is trees a y.0 h.leaf y.1 in
      let one : n.holder ≡ h.holder =
      modules_once c a.names a.types a.scenes a.are t a.main a.among a.tree [] n.holder h.holder n.among h.is_holder (n.at ∙ sym h.within) in
      sym h.is ∙ ap (λ (o : PlacedModule). source_place o.scene h.leaf.leaf.path) (sym one) ∙ place_is y.0 h.leaf n ∙ ap (place_of_leaf g) same
