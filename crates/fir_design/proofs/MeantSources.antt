-- The modules of a circuit mean over their leaves what they mean by paths.
use Rattle.std.proofs.Common.{◌≡◌, ℕ, ◌<◌, List, [], length}
use Rattle.fir_ast.specs.Circuits.{CircuitTree}
use Rattle.fir_meaning.specs.working.NameGroups.{HasNames}
use Rattle.fir_meaning.specs.TypeGroup.{type_faults}
use Rattle.fir_names.specs.working.ModuleOrder.{IsModuleOrder}
use Rattle.fir_design.specs.working.CircuitDesigns.{HasSoundDesigns}
use Rattle.fir_design.specs.working.CircuitMeanings.{CircuitsMeanTheirSources, HasAllScenes, MeansItsSource}
use Rattle.fir_design.specs.working.MeaningLaws.{AreDesigns, SameAllows, SameShape}
use Rattle.fir_design.specs.working.SourceLaws.{HasOneTree}
use Rattle.fir_design.proofs.AllScenes.{all_scenes, scene_at}

module _ (designs : HasSoundDesigns) (trees : HasOneTree) (shapes : SameShape) (allow : SameAllows) where
  means : (c : CircuitTree) (order : List ℕ) → HasNames c → type_faults c ≡ [] → IsModuleOrder c order → (all : HasAllScenes c) (k : ℕ) → k < length c.modules
      → MeansItsSource c all.scenes k
  means c order names types in_order all k within =
      let at = scene_at c all k within in
      let d = designs c all.scenes order at.scene names types in_order all.are at.among in
      let t = trees c all.scenes at.scene d.0 names types all.are at.among d.1.is in
      let both : AreDesigns c d.0 t.0 = record {
        names = names;
        types = types;
        scenes = all.scenes;
        are = all.are;
        main = at.scene;
        among = at.among;
        design = d.1;
        tree = t.1;
      } in
      record {
        main = at.scene;
        is_main = at.is;
        design = d.0;
        is_design = d.1;
        tree = t.0;
        is_tree = t.1;
        only_tree = t.2;
        shaped = shapes c d.0 t.0 both;
        allows = λ state tick shown clocks after. allow c d.0 t.0 state tick shown clocks after both;
      }

  pub circuits_mean : CircuitsMeanTheirSources
  circuits_mean c order names types in_order has =
      let all = all_scenes c has in
      record { all = all; each = means c order names types in_order all }
