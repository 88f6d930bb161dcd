-- Each module of a design has types, is driven, and has its clocks that are not there behind indices; and what it declares is named as the components of its
-- leaves are.
use Rattle.std.proofs.Common.{◌≡◌, ℕ, ◌+◌, ◌<◌, List, [], ◌∷◌, Bool, true, false, nat_lt, length, take, slice_get, Some, option_map, refl, sym, ap, ap₂, ◌∙◌, subst, inl, inr, ◌⊎◌, arith, append-nil}
use Rattle.std.proofs.lemmas.Bool.{ltb-false, ltb-true}
use Rattle.std.proofs.lemmas.List.{length-map}
use Rattle.std.proofs.lemmas.Option.{get_or_from_slice_get, same_Some, slice_get-map}
use Rattle.fir_base.specs.Lists.{In}
use Rattle.fir_base.proofs.Elements.{get_in, number_of, there}
use Rattle.fir_ast.specs.Circuits.{CircuitTree}
use Rattle.fir_meaning.specs.LeafPaths.{named, path_text}
use Rattle.fir_meaning.specs.ModuleScenes.{Scene}
use Rattle.fir_meaning.specs.SourceRoles.{source_leaves}
use Rattle.fir_meaning.specs.working.Designs.{Design}
use Rattle.fir_meaning.specs.working.LeafedModules.{leafed_module, module_leaves}
use Rattle.fir_meaning.specs.working.LeafModules.{LeafDeclared, Role, leaf_at, no_leaf, role_at, sink, source}
use Rattle.fir_meaning.specs.working.LeafNames.{component_of_leaf}
use Rattle.fir_leaf.specs.working.ModuleCircuits.{module_circuit}
use Rattle.fir_leaf_text.specs.working.DeclaredNames.{names_in_module}
use Rattle.fir_leaf_text.proofs.NamedDeclarations.{name_of_known}
use Rattle.fir_design.proofs.FineScenes.{IsFineScene, fine_scene, leaf_is}
use Rattle.fir_design.proofs.ListsInStep.{step_at, step_long}
use Rattle.fir_design.proofs.NumberedScenes.{module_there, scene_numbered}
use Rattle.fir_source_faults.proofs.ModuleReads.{scene_reads}
use Rattle.fir_design_faults.proofs.ClockGifts.{HaveGifts, module_gifts}
use Rattle.fir_copies.proofs.PortRoles.{port_role_is}
use Rattle.fir_whens.specs.working.ModuleFaults.{AreAllDriven}
use Rattle.fir_whens.specs.working.ModuleNets.{AreAllTyped}
use Rattle.fir_flatten.specs.working.CircuitParts.{names_by_modules}
use Rattle.fir_flatten.specs.working.ClearClocks.{HasClockBehind}
use Rattle.fir_flatten.specs.working.FirstSites.{AllHaveClocks, AreNamed, HasClocks}
use Rattle.fir_flatten.specs.working.Laws.{IsDesigned}
use Rattle.fir_flatten.proofs.PickedClocks.{role_behind}
use Rattle.fir_flatten.proofs.ViewedModules.{have_scenes}

-- a port has no clock of its own
of_port : (r : Role) → (r ≡ source) ⊎ (r ≡ sink) → HasClockBehind r
of_port r (inl e) = subst HasClockBehind (sym e) tt
of_port r (inr e) = subst HasClockBehind (sym e) tt

module _ (s : Scene) (f : IsFineScene s) where
  clocks_behind : (x : ℕ) → x < length (module_leaves s) → HasClockBehind (role_at (leafed_module s) x)
  clocks_behind x lt = by (nat_lt x (leafed_module s).port_leaves) refl
    where
      by : (b : Bool) → nat_lt x (leafed_module s).port_leaves ≡ b → HasClockBehind (role_at (leafed_module s) x)
      by true e = of_port (role_at (leafed_module s) x) (port_role_is s x (ltb-true x (leafed_module s).port_leaves e))
      by false e = role_behind s f x (ltb-false x (leafed_module s).port_leaves e) lt

  -- a module's own leaf is in none of its instances
  no_instances : (x : ℕ) → x < length (module_leaves s) → (leaf_at (module_leaves s) x).instances ≡ 0
  no_instances x lt =
      let leaves = module_leaves s in
      let all = module_gifts s (scene_reads s f) f in
      let b = there (source_leaves s) x (omega (arith, lt, step_long (HaveGifts s) leaves (source_leaves s) all)) in
      let r = step_at (HaveGifts s) leaves (source_leaves s) all x b.0 b.1 in
      ap (λ (l : LeafDeclared). l.instances) (get_or_from_slice_get leaves x r.0 no_leaf r.1) ∙ r.2.instances

  -- so its component is what its path begins with: the name that is declared there
  are_named : AreNamed (leafed_module s) (names_in_module s.own.inside)
  are_named x lt =
      let l = leaf_at (module_leaves s) x in
      let is = leaf_is s f x lt in
      let one : l.instances + 1 ≡ 1 = ap (λ j. j + 1) (no_instances x lt) in
      let component : component_of_leaf (module_circuit (leafed_module s)) x ≡ path_text (named is.known.name ∷ []) = ap path_text (ap₂ take one is.path) in
      name_of_known s.own.modules s.own.inside l.declaration is.known is.is_known ∙ ap Some (sym (component ∙ append-nil is.known.name))

pub all_have_clocks : (c : CircuitTree) (scenes : List Scene) (main : Scene) (d : Design) → IsDesigned c scenes main d → AreAllTyped c → AreAllDriven c
    → (names : List (List (List ℕ))) → names ≡ names_by_modules c → AllHaveClocks scenes names
all_have_clocks c scenes main d designed typed driven names names_are = record { each = each; count = count; named = by_number }
  where
    fine : (s : Scene) → In scenes s → IsFineScene s
    fine s among = fine_scene c s designed.names designed.types (scene_numbered c scenes designed.has.are s among)

    each : (s : Scene) → In scenes s → HasClocks (leafed_module s)
    each s among =
        let at = number_of scenes s among in
        let is = designed.has.each at.0 s at.1 in
        record { typed = typed at.0 s is; driven = driven at.0 s is; behind = clocks_behind s (fine s among) }

    count : length names ≡ length scenes
    count = ap length names_are ∙ length-map c.modules names_in_module ∙ sym (have_scenes c scenes main d designed).count

    names_at : (x : ℕ) (s : Scene) → slice_get scenes x ≡ Some s → slice_get names x ≡ Some (names_in_module s.own.inside)
    names_at x s at =
        ap (λ ns. slice_get ns x) names_are ∙ slice_get-map names_in_module c.modules x
        ∙ ap (option_map names_in_module) (module_there c scenes designed.has.are x s at)

    by_number : (x : ℕ) (s : Scene) (ns : List (List ℕ)) → slice_get scenes x ≡ Some s → slice_get names x ≡ Some ns → AreNamed (leafed_module s) ns
    by_number x s ns at name_at =
        let same = same_Some (names_in_module s.own.inside) ns (sym (names_at x s at) ∙ name_at) in
        subst (AreNamed (leafed_module s)) same (are_named s (fine s (get_in scenes x s at)))
