-- The modules of a circuit without a fault of names or types are those that the walk through the instances of its design goes through, with the names of what
-- they declare.
use Rattle.std.proofs.Common.{◌≡◌, ℕ, suc, ◌+◌, ◌<◌, List, [], ◌∷◌, ◌++◌, length, map, option_map, Some, refl, sym, ap, ◌∙◌, subst, arith, append-nil, append_assoc}
use Rattle.std.specs.Prelude.{slice_get}
use Rattle.std.proofs.lemmas.List.{length-map, map-append}
use Rattle.std.proofs.lemmas.Option.{same_Some, slice_get-map, slice_get_within}
use Rattle.std.proofs.lemmas.Simd.{map-map}
use Rattle.fir_base.specs.Lists.{In}
use Rattle.fir_base.proofs.Elements.{get_in, there}
use Rattle.fir_base.proofs.Members.{in_map_from}
use Rattle.fir_ast.specs.Circuits.{CircuitTree, ModuleTree}
use Rattle.fir_ast.specs.Statements.{PlacedName}
use Rattle.fir_design.proofs.DeclaredInstances.{IsDeclared}
use Rattle.fir_design.proofs.HeldInstances.{Held, all_held_in, held_in}
use Rattle.fir_design.proofs.ModuleRanks.{view_declared}
use Rattle.fir_design.proofs.NumberedScenes.{child_numbered, module_there, scene_numbered, scene_own, scene_there, view_at}
use Rattle.fir_elaborate.specs.working.Elaborations.{AreViewed, IsViewed}
use Rattle.fir_elaborate.specs.working.Laws.{ModulesAreOrdered}
use Rattle.fir_elaborate.specs.working.OrderedModules.{instances_in, instances_of}
use Rattle.fir_leaf_circuit.specs.declared.leaf_module.LeafModule.{LeafModule as ModuleOfCode}
use Rattle.fir_leaf_circuit.specs.working.Leafed.{AreLeafed}
use Rattle.fir_leaf_text.specs.working.DeclaredNames.{names_in_module}
use Rattle.fir_leaf_text.proofs.NamedDeclarations.{names_are}
use Rattle.fir_meaning.specs.ComponentTypes.{known_as, typed_behind}
use Rattle.fir_meaning.specs.Components.{Declaration, Declarations}
use Rattle.fir_meaning.specs.ModuleScenes.{Scene, behind_all_ports}
use Rattle.fir_meaning.specs.ResetJoins.{numbered_module}
use Rattle.fir_meaning.specs.SizedDeclarations.{Numbering, behind_module, first_numbers, modules_from}
use Rattle.fir_meaning.specs.TypeGroup.{scope_at}
use Rattle.fir_meaning.specs.TypedScopes.{Known, TypedScope}
use Rattle.fir_meaning.specs.Visibility.{declarations}
use Rattle.fir_meaning.specs.working.Designs.{Design, IsDesignOf, module_of}
use Rattle.fir_meaning.specs.working.Elaborated.{views}
use Rattle.fir_meaning.specs.working.LeafBlocks.{HeldInstance, LeafBlock, LeafStatement}
use Rattle.fir_meaning.specs.working.LeafBlocks as over
use Rattle.fir_meaning.specs.working.LeafedModules.{leafed_module}
use Rattle.fir_flatten.specs.working.CircuitParts.{HaveScenes, names_by_modules}
use Rattle.fir_flatten.specs.working.Laws.{IsDesigned}

-- what a module declares has the names that are listed of it
known_named : (modules : List ModuleTree) (scope : TypedScope) (ds : Declarations)
    → map (λ (k : Known). k.name) (typed_behind modules scope ds) ≡ map (λ (k : Known). k.name) scope ++ map (λ (d : Declaration). d.named.name) ds
known_named modules scope [] = sym (append-nil (map (λ (k : Known). k.name) scope))
known_named modules scope (d ∷ ds) =
    let k = known_as modules scope d in
    let later = map (λ (d : Declaration). d.named.name) ds in
    known_named modules (scope ++ k ∷ []) ds ∙ ap (λ ns. ns ++ later) (map-append (λ (k : Known). k.name) scope (k ∷ []))
    ∙ append_assoc (map (λ (k : Known). k.name) scope) (d.named.name ∷ []) later

names_of_scene : (s : Scene) → names_in_module s.own.inside ≡ map (λ (n : PlacedName). n.name) (leafed_module s).declared
names_of_scene s =
    sym (names_are s.own.modules s.own.inside) ∙ known_named s.own.modules [] (declarations s.own.inside)
    ∙ sym (map-map (λ (n : PlacedName). n.name) (λ (d : Declaration). d.named) (declarations s.own.inside))

as_many : (modules : List ModuleTree) (numbers : Numbering) (ms : List ModuleTree) → length (modules_from modules numbers ms) ≡ length ms
as_many modules numbers [] = refl
as_many modules numbers (m ∷ ms) = ap suc (as_many modules (behind_module modules numbers m) ms)

-- the instances of a block are those that it holds
mutual
  own_in : (k : ℕ) (s : LeafStatement) → map (λ (h : Held). h.own) (held_in k s) ≡ instances_in s
  own_in k (over.drive p b ps t) = refl
  own_in k (over.when p c a b) =
      map-append (λ (h : Held). h.own) (all_held_in (k + 1) a) (all_held_in (k + 1) b) ∙ rw (own_of (k + 1) a, own_of (k + 1) b) refl
  own_in k (over.instance i) = refl

  own_of : (k : ℕ) (b : LeafBlock) → map (λ (h : Held). h.own) (all_held_in k b) ≡ instances_of b
  own_of k over.done = refl
  own_of k (over.then s b) = map-append (λ (h : Held). h.own) (held_in k s) (all_held_in k b) ∙ rw (own_in k s, own_of k b) refl

module _ (c : CircuitTree) (scenes : List Scene) (main : Scene) (d : Design) (designed : IsDesigned c scenes main d) where
  -- a scene for each module
  pub have_scenes : HaveScenes c scenes
  have_scenes = record {
    count =
        sym (length-map scenes (λ (s : Scene). s.own)) ∙ ap length designed.has.are ∙ as_many c.modules (first_numbers c.modules) c.modules;
    each = designed.has.each;
  }

  -- an instance is of a module that is there
  module_within : (s : Scene) → In scenes s → (i : HeldInstance) → In (instances_of (leafed_module s).body) i → i.module_number < length (views scenes)
  module_within s among i held =
      let from = in_map_from (λ (h : Held). h.own) (all_held_in 0 (leafed_module s).body) i
      (subst (λ is. In is i) (sym (own_of 0 (leafed_module s).body)) held) in
      let h = from.0 in
      let e : IsDeclared s.own.modules (scope_at s.own.modules (behind_all_ports s.own.inside)) (declarations s.own.inside) h =
      (view_declared s).each h from.1 in
      let own = scene_own c scenes designed.has.are s among in
      let child = child_numbered c e.module_name h.own.module_number e.child
      (ap (λ ms. numbered_module 0 ms e.module_name) (sym own.modules) ∙ e.found) in
      let scene = scene_there c scenes designed.has.are h.own.module_number e.child child.there in
      let within = slice_get_within scenes h.own.module_number scene.0 scene.1 in
      let same : h.own.module_number ≡ i.module_number = ap (λ (x : HeldInstance). x.module_number) from.2 in
      omega (arith, within, same, length-map scenes leafed_module)

  pub are_viewed : ModulesAreOrdered → (parts : List ModuleOfCode) → AreLeafed c parts → (names : List (List (List ℕ))) → names ≡ names_by_modules c
      → AreViewed (views scenes) parts names
  are_viewed ordered parts leafed names names_are_so = record {
    count = leafed.count ∙ sym have_scenes.count ∙ sym (length-map scenes leafed_module);
    names_count =
        ap length names_are_so ∙ length-map c.modules names_in_module ∙ sym have_scenes.count ∙ sym (length-map scenes leafed_module);
    each = each;
  }
    where
      each : (x : ℕ) (part : ModuleOfCode) (ns : List (List ℕ)) → slice_get parts x ≡ Some part → slice_get names x ≡ Some ns
          → IsViewed (views scenes) (module_of (views scenes) x) part ns
      each x part ns at name_at =
          let lt = slice_get_within parts x part at in
          let found = there scenes x (omega (arith, lt, leafed.count, have_scenes.count)) in
          let s = found.0 in
          let among = get_in scenes x s found.1 in
          let tree = module_there c scenes designed.has.are x s found.1 in
          let named : names_in_module s.own.inside ≡ ns =
          same_Some (names_in_module s.own.inside) ns
          (sym (ap (λ ys. slice_get ys x) names_are_so ∙ slice_get-map names_in_module c.modules x ∙ ap (option_map names_in_module) tree) ∙ name_at) in
          subst (λ m. IsViewed (views scenes) m part ns) (sym (view_at scenes x s found.1))
          (record {
            view = leafed.each x part s at (designed.has.each x s found.1);
            names = sym named ∙ names_of_scene s;
            ordered = ordered c s designed.names designed.types (scene_numbered c scenes designed.has.are s among);
            there = module_within s among;
          })

  -- the main module, by its number
  module _ (k : ℕ) (at : slice_get scenes k ≡ Some main) where
    pub main_within : k < length (views scenes)
    main_within = let lt = slice_get_within scenes k main at in omega (arith, lt, length-map scenes leafed_module)

    pub main_is_design : IsDesignOf (views scenes) (module_of (views scenes) k) d
    main_is_design = subst (λ m. IsDesignOf (views scenes) m d) (sym (view_at scenes k main at)) designed.sound.is
