-- Of all modules of a tree of designs one fault of the clocks of memories is shown, and one is told, by number and by path.
use Rattle.std.proofs.Common.{◌≡◌, [], sym, ap, ap₂, ◌∙◌}
use Rattle.fir_base.proofs.Elements.{get_in}
use Rattle.fir_base.specs.Lists.{In}
use Rattle.fir_ast.specs.Circuits.{CircuitTree}
use Rattle.fir_ast.specs.Faults.{Fault}
use Rattle.fir_meaning.specs.Elaborated.{IsSourceOf}
use Rattle.fir_meaning.specs.Lack.{is_before}
use Rattle.fir_meaning.specs.ResetJoins.{numbered_module}
use Rattle.fir_meaning.specs.SizedDeclarations.{numbered_modules}
use Rattle.fir_meaning.specs.SourceDependence.{PlacedModule, all_modules}
use Rattle.fir_meaning.specs.SourceDesigns.{SourceDesign}
use Rattle.fir_meaning.specs.SourceMemoryClocks as tree
use Rattle.fir_meaning.specs.TypeGroup.{type_faults}
use Rattle.fir_meaning.specs.working.NameGroups.{HasNames}
use Rattle.fir_design.proofs.NumberedScenes.{scene_numbered}
use Rattle.fir_design_faults.specs.working.MemoryFaults as numbered
use Rattle.fir_design_faults.specs.working.SameMemoryClocks.{SameMemoryClocks}
use Rattle.fir_design_faults.specs.working.SameMemoryFaults.{SameMemoryFaults}
use Rattle.fir_design_faults.proofs.DesignScenes.{design_scenes, scene_in}

module _ (same : SameMemoryClocks) (c : CircuitTree) (t : SourceDesign) (names : HasNames c) (types : type_faults c ≡ []) (source : IsSourceOf c t) where
  own : (h : PlacedModule) → In (all_modules t) h → In (numbered_modules c) h.scene.own
  own h i =
      let main = scene_in source.scenes (numbered_module 0 c.modules c.named.name) source.main source.has.is_main in
      scene_numbered c source.scenes source.has.are h.scene (design_scenes source.scenes t source.main [] main source.is h i)

  abbrev by_path : (f : Fault) → numbered.ShowsMemoryFault t f → tree.ShowsMemoryFault t f
  by_path f h = record {
    number = h.number;
    holder = h.holder;
    is_holder = h.is_holder;
    shows = (same c h.holder.scene h.holder.at f names types (own h.holder (get_in (all_modules t) h.number h.holder h.is_holder))).0 h.shows;
  }

  abbrev by_number : (f : Fault) → tree.ShowsMemoryFault t f → numbered.ShowsMemoryFault t f
  by_number f h = record {
    number = h.number;
    holder = h.holder;
    is_holder = h.is_holder;
    shows = (same c h.holder.scene h.holder.at f names types (own h.holder (get_in (all_modules t) h.number h.holder h.is_holder))).1 h.shows;
  }

  -- a fault stands at its memory
  stands : (f : Fault) (h : numbered.ShowsMemoryFault t f) → f.place ≡ h.shows.name.place
  stands f h = ap (λ (g : Fault). g.place) h.shows.is

  stands_there : (f : Fault) (h : tree.ShowsMemoryFault t f) → f.place ≡ h.shows.name.place
  stands_there f h = ap (λ (g : Fault). g.place) h.shows.is

  shown_same : (f : Fault) (h : numbered.ShowsMemoryFault t f) → (by_path f h).shows.name.place ≡ h.shows.name.place
  shown_same f h = sym (stands_there f (by_path f h)) ∙ stands f h

  shown_back : (f : Fault) (h : tree.ShowsMemoryFault t f) → (by_number f h).shows.name.place ≡ h.shows.name.place
  shown_back f h = sym (stands f (by_number f h)) ∙ stands_there f h

  told_by_path : (f : Fault) → numbered.TellsMemoryFault t f → tree.TellsMemoryFault t f
  told_by_path f h = record {
    told = by_path f h.told;
    first = λ other shown.
        ap₂ is_before (sym (shown_back other shown)) (shown_same f h.told) ∙ h.first other (by_number other shown);
    first_instance = λ other shown e.
        h.first_instance other (by_number other shown) (shown_back other shown ∙ e ∙ shown_same f h.told);
  }

  told_by_number : (f : Fault) → tree.TellsMemoryFault t f → numbered.TellsMemoryFault t f
  told_by_number f h = record {
    told = by_number f h.told;
    first = λ other shown.
        ap₂ is_before (sym (shown_same other shown)) (shown_back f h.told) ∙ h.first other (by_path other shown);
    first_instance = λ other shown e.
        h.first_instance other (by_path other shown) (shown_same other shown ∙ e ∙ shown_back f h.told);
  }

pub memory_faults : SameMemoryClocks → SameMemoryFaults
memory_faults same c t f names types source = (
  (by_path same c t names types source f, by_number same c t names types source f),
  (told_by_path same c t names types source f, told_by_number same c t names types source f),
)
