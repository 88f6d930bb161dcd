-- The design of a circuit without a fault of names or types: that of its main module.
use Rattle.std.proofs.Common.{◌≡◌, ℕ, List, [], Some, None, ◌∙◌}
use Rattle.fir_base.proofs.Elements.{get_in, number_of}
use Rattle.fir_ast.specs.Circuits.{CircuitTree}
use Rattle.fir_ast.specs.Faults.{Fault}
use Rattle.fir_design.specs.working.CircuitDesigns.{HasSoundDesigns}
use Rattle.fir_design.specs.working.MeaningLaws.{AreDesigns}
use Rattle.fir_design.specs.working.SourceLaws.{HasOneTree}
use Rattle.fir_leaf.specs.working.ClockFaults.{ShowsClockFault}
use Rattle.fir_whens.specs.working.ModuleFaults.{AreAllDriven}
use Rattle.fir_whens.specs.working.ModuleNets.{AreAllTyped}
use Rattle.fir_meaning.specs.working.Flattened.{flattened}
use Rattle.fir_meaning.specs.ModuleScenes.{Scene}
use Rattle.fir_meaning.specs.SourceDesigns.{IsSourceDesignOf, SourceDesign}
use Rattle.fir_meaning.specs.TypeGroup.{type_faults}
use Rattle.fir_meaning.specs.working.Designs.{Design}
use Rattle.fir_meaning.specs.working.NameGroups.{HasNames}
use Rattle.fir_meaning.specs.working.Scenes.{HasScenes}
use Rattle.fir_names.specs.working.ModuleOrder.{IsModuleOrder}
use Rattle.fir_flatten.specs.working.CircuitParts.{number_of_main}
use Rattle.fir_flatten.specs.working.DesignParts.{AreAllMemoriesTyped, HasDesign}
use Rattle.fir_flatten.specs.working.Laws.{IsDesigned, IsClearDesign}
use Rattle.fir_flatten.proofs.MainModules.{has_main_scene}

pub has_design : HasSoundDesigns → (c : CircuitTree) (order : List ℕ) → HasNames c → type_faults c ≡ [] → HasScenes c → IsModuleOrder c order → HasDesign c
has_design sound c order names types given is_order =
    let m = has_main_scene c names given in
    let among = get_in m.scenes m.number m.main m.at in
    let d = sound c m.scenes order m.main names types is_order m.has.are among in
    record {
      scenes = m.scenes;
      main = m.main;
      design = d.0;
      designed = record {
        names = names;
        types = types;
        all_scenes = given;
        order = order;
        in_order = is_order;
        has = m.has;
        among = among;
        sound = d.1;
      };
      number = m.number;
      number_is = m.number_is;
      at = m.at;
    }

module _ (c : CircuitTree) (scenes : List Scene) (main : Scene) (d : Design) (designed : IsDesigned c scenes main d) where
  -- the tree below the main module beside it
  pub tree_of : HasOneTree → (t : SourceDesign) × IsSourceDesignOf scenes main t
  tree_of one =
      let t = one c scenes main d designed.names designed.types designed.has.are designed.among designed.sound.is in
      (t.0, t.1)

  abbrev pub designs_beside : (t : SourceDesign) → IsSourceDesignOf scenes main t → AreDesigns c d t
  designs_beside t is = record {
    names = designed.names;
    types = designed.types;
    scenes = scenes;
    are = designed.has.are;
    main = main;
    among = designed.among;
    design = designed.sound;
    tree = is;
  }

  -- without unclear clocks
  pub clear_design : AreAllTyped c → AreAllDriven c → AreAllMemoriesTyped c → ((f : Fault) → ShowsClockFault (flattened d) f → ⊥) → IsClearDesign scenes d
  clear_design typed driven memories clear = record {
    typed = λ s among. let at = number_of scenes s among in typed at.0 s (designed.has.each at.0 s at.1);
    driven = λ s among. let at = number_of scenes s among in driven at.0 s (designed.has.each at.0 s at.1);
    memories = λ s among. let at = number_of scenes s among in memories at.0 s (designed.has.each at.0 s at.1);
    clear = clear;
  }

-- its number is there
pub some_main : (c : CircuitTree) → HasDesign c → None ≡ number_of_main c → ⊥
some_main c h none = let is : None ≡ Some h.number = none ∙ h.number_is in absurd (cc)
