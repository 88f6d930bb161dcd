-- No leaf is undriven: the output is the one leaf that statements must drive, and the last drive reaches it under each choice.
use Rattle.std.proofs.Common.{◌≡◌, ℕ, Some, None, sym, subst, ◌∙◌}
use Rattle.fir_base.proofs.Elements.{all_there}
use Rattle.fir_ast.specs.declared.place.Place.{Place}
use Rattle.fir_ast.specs.Faults.{Fault}
use Rattle.fir_pass.specs.Groups.{IsClear}
use Rattle.fir_meaning.specs.LeafPaths.{LeafPath}
use Rattle.fir_meaning.specs.ModuleScenes.{Scene}
use Rattle.fir_meaning.specs.SourceChoices.{Choice, last_reaching}
use Rattle.fir_meaning.specs.SourceDrives.{module_drives}
use Rattle.fir_meaning.specs.SourceFacts.{source_depth}
use Rattle.fir_meaning.specs.SourceRoles.{SourceLeaf, source_leaves}
use Rattle.fir_meaning.specs.SourceUndrivenGroup.{ShowsUndriven, undriven_group}
use Rattle.fir_gen.specs.working.GenTree.{gen_tree}
use Rattle.fir_gen_driven.proofs.LastDrives.{output, output_is_last}
use Rattle.fir_gen_driven.proofs.GenLeaves.{IsFineLeaf, sink_is_output}
use Rattle.fir_gen_driven.proofs.GenScenes.{IsGenScene, gen_scene}
use Rattle.fir_gen_driven.proofs.GenSources.{leaves_fine}

module _ (s : Scene) (gen : IsGenScene s) where
  none_undriven : (l : SourceLeaf) (f : Fault) → IsFineLeaf l → ShowsUndriven s l f → ⊥
  none_undriven l f fine h =
      let same : l.path ≡ output = sink_is_output l.path l.holds l.role fine h.is_sink in
      at_output l.path (source_depth s l.path) h.first.choice same h.first.undriven
    where
      at_output : (x : LeafPath) (depth : ℕ) (choice : Choice) → x ≡ output → last_reaching depth x choice (module_drives s) ≡ None → ⊥
      at_output x depth choice same none =
          let undriven = subst (λ (y : LeafPath). last_reaching depth y choice (module_drives s) ≡ None) same none in
          let e : Some gen.ends.last ≡ None = sym (output_is_last depth choice (module_drives s) gen.ends) ∙ undriven in
          cc

pub drivers_clear : (at : ℕ → ℕ → Place) (n : ℕ) → IsClear (undriven_group (gen_tree at n))
drivers_clear at n f h =
    let it = h.stands in
    let gen = gen_scene at n h.module_number it.scene it.is_scene in
    none_undriven it.scene gen it.leaf f (all_there IsFineLeaf (source_leaves it.scene) (leaves_fine it.scene gen) h.number it.leaf it.is_leaf) it.shows
