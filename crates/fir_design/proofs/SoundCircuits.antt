-- Each module of a circuit without a fault of names or types has a sound design.
use Rattle.std.proofs.Common.{◌≡◌, ℕ, List, [], Some, sym, ap, ◌∙◌, subst}
use Rattle.fir_base.specs.Lists.{In}
use Rattle.fir_base.proofs.Elements.{get_in}
use Rattle.fir_ast.specs.Circuits.{CircuitTree}
use Rattle.fir_meaning.specs.ComponentTypes.{find_module}
use Rattle.fir_meaning.specs.working.NameGroups.{HasNames}
use Rattle.fir_meaning.specs.ResetJoins.{numbered_module}
use Rattle.fir_meaning.specs.TypeGroup.{type_faults}
use Rattle.fir_meaning.specs.Visibility.{declarations}
use Rattle.fir_meaning.specs.working.Designs.{module_of}
use Rattle.fir_meaning.specs.ModuleScenes.{Scene}
use Rattle.fir_meaning.specs.working.LeafedModules.{leafed_module}
use Rattle.fir_leaf.specs.working.NamedDesigns.{IsOwnInstance}
use Rattle.fir_leaf.specs.working.SoundDesigns.{IsHeld}
use Rattle.fir_leaf.proofs.OncePaths.{names_make_sound}
use Rattle.fir_meaning.specs.Elaborated.{AreScenes}
use Rattle.fir_meaning.specs.working.Elaborated.{views}
use Rattle.fir_design.specs.working.CircuitDesigns.{HasSoundDesigns}
use Rattle.fir_design.proofs.DeclaredInstances.{AreDeclared, IsDeclared}
use Rattle.fir_design.proofs.DesignsOfModules.{IsRight, IsRightInstance, main_design, named_design, nothing_right}
use Rattle.fir_design.proofs.FineScenes.{IsFineScene, fine_scene}
use Rattle.fir_design.proofs.HeldInstances.{Held, all_held_in}
use Rattle.fir_design.proofs.InstanceLeaves.{held_instance, own_instance}
use Rattle.fir_design.proofs.ModuleRanks.{has_one, view_declared}
use Rattle.fir_design.proofs.NumberedScenes.{child_numbered, each_view, scene_numbered, scene_own, scene_there, view_at}
use Rattle.fir_design.proofs.OwnNames.{own_names}
use Rattle.fir_design.proofs.PortLeaves.{port_scope, ports_in}
use Rattle.fir_design.proofs.SceneReads.{scene_reading}

module _ (c : CircuitTree) (names : HasNames c) (types : type_faults c ≡ []) (scenes : List Scene) (are : AreScenes c scenes) where
  fine : (s : Scene) → In scenes s → IsFineScene s
  fine s i = fine_scene c s names types (scene_numbered c scenes are s i)

  instance_right : (s : Scene) → In scenes s → (h : Held) → IsDeclared s.own.modules (port_scope s) (declarations s.own.inside) h
      → IsRightInstance (views scenes) (leafed_module s) h
  instance_right s i h d =
      let same = (scene_own c scenes are s i).modules in
      let is = child_numbered c d.module_name h.own.module_number d.child (ap (λ ms. numbered_module 0 ms d.module_name) (sym same) ∙ d.found) in
      let child = scene_there c scenes are h.own.module_number d.child is.there in
      let found : find_module s.own.modules d.module_name ≡ Some d.child = ap (λ ms. find_module ms d.module_name) same ∙ is.found in
      let view : leafed_module child.0 ≡ module_of (views scenes) h.own.module_number = sym (view_at scenes h.own.module_number child.0 child.1) in
      record {
        held = subst (IsHeld (leafed_module s) h.depth h.own) view (held_instance s (fine s i) h d child.0 child.2 found);
        owned = subst (IsOwnInstance (leafed_module s) h.own) view (own_instance s (fine s i) h d child.0 child.2 found);
      }

  scene_right : (s : Scene) → In scenes s → IsRight (views scenes) (leafed_module s)
  scene_right s i =
      let declared : AreDeclared s.own.modules (port_scope s) (declarations s.own.inside) _ _ (all_held_in 0 (leafed_module s).body) =
      view_declared s in
      record {
        ports = ports_in s;
        names = own_names s (fine s i);
        once = declared.once;
        reading = scene_reading s (fine s i);
        instances = λ h j. instance_right s i h (declared.each h j);
      }

  all_right : (x : ℕ) → IsRight (views scenes) (module_of (views scenes) x)
  all_right x =
      each_view scenes (λ y m. IsRight (views scenes) m) (λ y. nothing_right (views scenes)) (λ y s at. scene_right s (get_in scenes y s at)) x

pub has_sound_designs : HasSoundDesigns
has_sound_designs c scenes order s names types o are i =
    let one = has_one c order o scenes are s in
    let right = scene_right c names types scenes are in
    let main = main_design (views scenes) (all_right c names types scenes are) (leafed_module s) one.0 (right s i) one.1 in
    let named = named_design (views scenes) (all_right c names types scenes are) (leafed_module s) one.0 (right s i) one.1 in
    (one.0, record { is = one.1; main = main; named = named; sound = names_make_sound one.0 main named })
