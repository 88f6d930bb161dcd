-- The names of what each module declares, as the code has them, by the numbers of the modules.
use Rattle.std.proofs.Common.{◌≡◌, ℕ, List, Vec, Global, length, Some, sym, ap, ◌∙◌}
use Rattle.std.specs.Prelude.{map, slice_get}
use Rattle.std.proofs.lemmas.List.{length-map}
use Rattle.std.proofs.lemmas.Option.{same_Some}
use Rattle.fir_base.specs.declared.name.Name.{Name}
use Rattle.fir_ast.specs.Circuits.{CircuitTree}
use Rattle.fir_meaning.specs.ModuleScenes.{Scene}
use Rattle.fir_meaning.specs.Scenes.{IsSceneOf}
use Rattle.fir_leaf.proofs.LeafPlaces.{get_mapped}
use Rattle.fir_leaf_text.specs.working.DeclaredNames.{names_in_module}
use Rattle.fir_leaf_text.proofs.SceneLeaves.{inside_there}
use Rattle.fir_flatten.specs.working.CircuitParts.{names_by_modules}

module _ (c : CircuitTree) (lists : List (Vec Name Global)) (are : map (λ ns. ns.items) lists ≡ names_by_modules c) where
  pub as_many_names : length lists ≡ length c.modules
  as_many_names = sym (length-map lists (λ (ns : Vec Name Global). ns.items)) ∙ ap length are ∙ length-map c.modules names_in_module

  pub names_of_number : (k : ℕ) (own : Vec Name Global) → slice_get lists k ≡ Some own → (s : Scene) → IsSceneOf c k s
      → own.items ≡ names_in_module s.own.inside
  names_of_number k own at s scene =
      same_Some own.items (names_in_module s.own.inside)
      (sym (get_mapped (λ (ns : Vec Name Global). ns.items) lists k own at) ∙ ap (λ xs. slice_get xs k) are
      ∙ get_mapped names_in_module c.modules k s.own.inside (inside_there c k s.own scene.own))
