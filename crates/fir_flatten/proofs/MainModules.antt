-- The main module of a circuit: the first that has its name.
use Rattle.std.proofs.Common.{◌≡◌, ℕ, suc, ◌+◌, List, [], ◌∷◌, map, Bool, true, false, Option, Some, None, option_map, refl, sym, ap, ◌∙◌, inl, arith}
use Rattle.std.specs.Prelude.{if◌then◌else◌, slice_get}
use Rattle.std.specs.Str.{bytes_eq}
use Rattle.std.proofs.lemmas.Option.{none-some, same_Some}
use Rattle.fir_base.specs.Lists.{In}
use Rattle.fir_ast.specs.Circuits.{CircuitTree, ModuleTree}
use Rattle.fir_ast.specs.Statements.{PlacedName}
use Rattle.fir_design.proofs.AllScenes.{all_scenes}
use Rattle.fir_design.proofs.NumberedScenes.{child_numbered, scene_there}
use Rattle.fir_meaning.specs.Components.{find_name}
use Rattle.fir_meaning.specs.Elaborated.{HasMain}
use Rattle.fir_meaning.specs.ModuleScenes.{Scene}
use Rattle.fir_meaning.specs.NameGroups.{absent_faults, no_module}
use Rattle.fir_meaning.specs.ResetJoins.{numbered_module}
use Rattle.fir_meaning.specs.SourceDesigns.{scene_where}
use Rattle.fir_meaning.specs.working.NameGroups.{HasNames}
use Rattle.fir_meaning.specs.working.Scenes.{HasScenes}
use Rattle.fir_flatten.specs.working.CircuitParts.{number_of_main}

-- the scene of the main module stands at its number
at_number : (scenes : List Scene) (main : Scene) (k : ℕ) (o : Option (ℕ × ModuleTree)) → Some k ≡ option_map (λ (m : ℕ × ModuleTree). m.0) o
    → scene_where scenes o ≡ Some main → slice_get scenes k ≡ Some main
at_number scenes main k None e h = absurd (none-some k (sym e))
at_number scenes main k (Some m) e h = ap (slice_get scenes) (same_Some k m.0 e) ∙ h

pub main_at : (c : CircuitTree) (scenes : List Scene) (main : Scene) → HasMain c scenes main → (k : ℕ) → Some k ≡ number_of_main c
    → slice_get scenes k ≡ Some main
main_at c scenes main has k e = at_number scenes main k (numbered_module 0 c.modules c.named.name) e has.is_main

-- a module has the circuit's name where no fault says that none has
named_there : (n : PlacedName) (from : ℕ) (ms : List ModuleTree)
    → (In (absent_faults (find_name (map (λ (m : ModuleTree). m.named) ms) n.name) n) (no_module n.place n.name) → ⊥)
    → (child : ℕ × ModuleTree) × (numbered_module from ms n.name ≡ Some child)
named_there n from [] clear = absurd (clear (inl refl))
named_there n from (m ∷ ms) clear = by (bytes_eq m.named.name n.name) clear (named_there n (suc from) ms)
  where
    by : (b : Bool)
        → (In (absent_faults (if b then Some m.named else find_name (map (λ (m : ModuleTree). m.named) ms) n.name) n) (no_module n.place n.name) → ⊥)
        → ((In (absent_faults (find_name (map (λ (m : ModuleTree). m.named) ms) n.name) n) (no_module n.place n.name) → ⊥)
        → (child : ℕ × ModuleTree) × (numbered_module (suc from) ms n.name ≡ Some child))
        → (child : ℕ × ModuleTree) × ((if b then Some (from, m) else numbered_module (suc from) ms n.name) ≡ Some child)
    by true h rest = ((from, m), refl)
    by false h rest = rest h

-- the scenes of a circuit's modules, and that of the main module
pub record HasMainScene (c : CircuitTree) : Type 0 where
  pub scenes : List Scene
  pub main : Scene
  pub has : HasMain c scenes main
  pub number : ℕ
  pub number_is : number_of_main c ≡ Some number
  pub at : slice_get scenes number ≡ Some main

pub has_main_scene : (c : CircuitTree) → HasNames c → HasScenes c → HasMainScene c
has_main_scene c names given =
    let all = all_scenes c given in
    let child = named_there c.named 0 c.modules (λ i. names.main (no_module c.named.place c.named.name) i) in
    let is = child_numbered c c.named.name child.0.0 child.0.1 child.1 in
    let scene = scene_there c all.scenes all.are child.0.0 child.0.1 is.there in
    record {
      scenes = all.scenes;
      main = scene.0;
      has = record { are = all.are; each = all.each; is_main = ap (scene_where all.scenes) child.1 ∙ scene.1 };
      number = child.0.0;
      number_is = ap (option_map (λ (m : ℕ × ModuleTree). m.0)) child.1;
      at = scene.1;
    }

-- as the modules are gone through
pub number_passed : (from : ℕ) (ms : List ModuleTree) (name : List ℕ) (m : ModuleTree) (rest : List ModuleTree) → ms ≡ m ∷ rest
    → bytes_eq m.named.name name ≡ false → numbered_module from ms name ≡ numbered_module (from + 1) rest name
number_passed from ms name m rest is e =
    let next : suc from ≡ from + 1 = omega arith in
    ap (λ xs. numbered_module from xs name) is ∙ ap (λ (b : Bool). if b then Some (from, m) else numbered_module (suc from) rest name) e
    ∙ ap (λ k. numbered_module k rest name) next

pub number_found : (from : ℕ) (ms : List ModuleTree) (name : List ℕ) (m : ModuleTree) (rest : List ModuleTree) → ms ≡ m ∷ rest
    → bytes_eq m.named.name name ≡ true → numbered_module from ms name ≡ Some (from, m)
number_found from ms name m rest is e =
    ap (λ xs. numbered_module from xs name) is ∙ ap (λ (b : Bool). if b then Some (from, m) else numbered_module (suc from) rest name) e
