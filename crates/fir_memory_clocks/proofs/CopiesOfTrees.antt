-- The copies of the modules of a design stand in the order of the modules of its tree, each behind the path of its instance.
use Rattle.std.proofs.Common.{◌≡◌, ℕ, List, [], length, map, slice_get, Some, option_map, sym, ap, ◌∙◌, subst}
use Rattle.std.proofs.lemmas.List.{length-map}
use Rattle.std.proofs.lemmas.Option.{same_Some, slice_get-map}
use Rattle.fir_ast.specs.Circuits.{CircuitTree}
use Rattle.fir_meaning.specs.ModuleScenes.{Scene}
use Rattle.fir_meaning.specs.SourceDependence.{PlacedModule, all_modules}
use Rattle.fir_meaning.specs.SourceDesigns.{SourceDesign}
use Rattle.fir_meaning.specs.working.Designs.{Design, made_of}
use Rattle.fir_meaning.specs.working.Flattened.{flattened}
use Rattle.fir_design.specs.working.MeaningLaws.{AreDesigns}
use Rattle.fir_design.proofs.ListsInStep.{step_at, step_long}
use Rattle.fir_copies.specs.working.Copies.{Copy, copies_of}
use Rattle.fir_copies.proofs.CopyPlaces.{IsCopyOf}
use Rattle.fir_copies.proofs.WholeCopies.{copies_in_step}
use Rattle.fir_elaborate.specs.declared.elaborated.ModuleCopy.{ModuleCopy}
use Rattle.fir_elaborate.specs.working.CopyPaths.{paths_below, prefix_text}
use Rattle.fir_elaborate.specs.working.Elaborations.{copy_seen}
use Rattle.fir_memory_clocks.proofs.PathsOfCopies.{design_paths}

-- the module of a copy beside one of the tree
pub record IsBeside (scenes : List Scene) (k : ModuleCopy) (h : PlacedModule) : Type 0 where
  pub scene : slice_get scenes k.module_number ≡ Some h.scene
  pub prefix : k.prefix ≡ prefix_text h.at

pub record AreBeside (scenes : List Scene) (copies : List ModuleCopy) (t : SourceDesign) : Type 0 where
  pub count : length copies ≡ length (all_modules t)
  pub each : (i : ℕ) (k : ModuleCopy) (h : PlacedModule) → slice_get copies i ≡ Some k → slice_get (all_modules t) i ≡ Some h → IsBeside scenes k h

pub copies_beside : (c : CircuitTree) (d : Design) (t : SourceDesign) (a : AreDesigns c d t) (x : ℕ) (copies : List ModuleCopy)
    → slice_get a.scenes x ≡ Some a.main → map copy_seen copies ≡ copies_of x d
    → map (λ (k : ModuleCopy). k.prefix) copies ≡ map prefix_text (paths_below [] d) → AreBeside a.scenes copies t
copies_beside c (made_of m is) t a x copies at seen prefixes = record {
  count = sym (length-map copies copy_seen) ∙ ap length seen ∙ step_long OfModule ks (all_modules t) (copies_in_step c m is t a x at);
  each = λ i k h e f. record { scene = scene_is i k h e f; prefix = prefix_is i k h e f };
}
  where
    ks : List Copy
    ks = copies_of x (made_of m is)

    OfModule : Copy → PlacedModule → Type 0
    OfModule = IsCopyOf a.scenes (flattened (made_of m is)).leaves

    scene_is : (i : ℕ) (k : ModuleCopy) (h : PlacedModule) → slice_get copies i ≡ Some k → slice_get (all_modules t) i ≡ Some h
        → slice_get a.scenes k.module_number ≡ Some h.scene
    scene_is i k h e f =
        let r = step_at OfModule ks (all_modules t) (copies_in_step c m is t a x at) i h f in
        let get : slice_get ks i ≡ Some (copy_seen k) =
        ap (λ ls. slice_get ls i) (sym seen) ∙ slice_get-map copy_seen copies i ∙ ap (option_map copy_seen) e in
        let same : r.0 ≡ copy_seen k = same_Some r.0 (copy_seen k) (sym r.1 ∙ get) in
        subst (λ (q : Copy). slice_get a.scenes q.module_number ≡ Some h.scene) same r.2.is

    prefix_is : (i : ℕ) (k : ModuleCopy) (h : PlacedModule) → slice_get copies i ≡ Some k → slice_get (all_modules t) i ≡ Some h
        → k.prefix ≡ prefix_text h.at
    prefix_is i k h e f =
        let hs = all_modules t in
        let paths = design_paths c a.names a.scenes a.are (made_of m is) a.main t a.among a.design.is a.tree [] in
        let own : slice_get (map (λ (q : ModuleCopy). q.prefix) copies) i ≡ Some k.prefix =
        slice_get-map (λ (q : ModuleCopy). q.prefix) copies i ∙ ap (option_map (λ (q : ModuleCopy). q.prefix)) e in
        let other : slice_get (map prefix_text (map (λ (q : PlacedModule). q.at) hs)) i ≡ Some (prefix_text h.at) =
        slice_get-map prefix_text (map (λ (q : PlacedModule). q.at) hs) i
        ∙ ap (option_map prefix_text) (slice_get-map (λ (q : PlacedModule). q.at) hs i ∙ ap (option_map (λ (q : PlacedModule). q.at)) f) in
        same_Some k.prefix (prefix_text h.at) (sym own ∙ ap (λ ps. slice_get ps i) (prefixes ∙ ap (map prefix_text) paths) ∙ other)
