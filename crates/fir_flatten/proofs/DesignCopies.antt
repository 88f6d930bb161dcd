-- The copies that the walk through the instances of a circuit's design finds are the copies of its modules, of which the main one is the first.
use Rattle.std.proofs.Common.{◌≡◌, ℕ, ◌+◌, ◌<◌, List, [], ◌∷◌, ◌++◌, flat_map, length, map, slice_get, Some, refl, sym, ap, ap₂, ◌∙◌, subst}
use Rattle.std.proofs.lemmas.List.{map-append}
use Rattle.fir_base.specs.Lists.{In}
use Rattle.fir_base.proofs.Elements.{number_of}
use Rattle.fir_base.proofs.Members.{in_map}
use Rattle.fir_ast.specs.Circuits.{CircuitTree}
use Rattle.fir_copies.specs.working.Copies.{Copy, copies_of}
use Rattle.fir_copies.specs.working.CopyLaws.{CopiesGiveAll, CopiesStand, HaveWidths, IsGiven, StandsIn}
use Rattle.fir_design.proofs.NumberedScenes.{view_at}
use Rattle.fir_design.specs.working.SourceLaws.{HasOneTree}
use Rattle.fir_elaborate.specs.declared.elaborated.Elaborated.{Elaborated}
use Rattle.fir_elaborate.specs.declared.elaborated.ModuleCopy.{ModuleCopy}
use Rattle.fir_elaborate.proofs.CopyArrays.{arrays_of_modules}
use Rattle.fir_elaborate.specs.working.CopyArrays.{array_seen, arrays_of_copy}
use Rattle.fir_elaborate.specs.working.CopyPaths.{paths_below, prefix_text}
use Rattle.fir_elaborate.specs.working.Elaborations.{IsElaborated, copy_seen}
use Rattle.fir_meaning.specs.ModuleScenes.{Scene}
use Rattle.fir_meaning.specs.working.Designs.{Design, IsDesignOf, Items, made_of, module_of}
use Rattle.fir_meaning.specs.working.Elaborated.{views}
use Rattle.fir_meaning.specs.working.FlatDesigns.{count_below}
use Rattle.fir_meaning.specs.working.FlatLeaves.{leaves_below}
use Rattle.fir_meaning.specs.working.Flattened.{flattened, port_leaves}
use Rattle.fir_meaning.specs.working.LeafModules.{LeafModule}
use Rattle.fir_meaning.specs.working.LeafedModules.{leafed_module}
use Rattle.fir_flatten.specs.working.DesignNets.{AreBehind, AreCopiesOf, leaves_of_copy, seen_behind}
use Rattle.fir_flatten.specs.working.Laws.{IsDesigned}
use Rattle.fir_flatten.proofs.CopyTexts.{Behind, are_behind, by_copies, design_behind, design_leaves, leaves_by}
use Rattle.fir_flatten.proofs.DesignsOfCircuits.{designs_beside, tree_of}

pub have_widths : (c : CircuitTree) (scenes : List Scene) (main : Scene) (d : Design) → IsDesigned c scenes main d → HaveWidths c scenes
have_widths c scenes main d designed s among = let at = number_of scenes s among in (designed.has.each at.0 s at.1).widths

module _ (one : HasOneTree) (all_stand : CopiesStand) (give_all : CopiesGiveAll) (c : CircuitTree) (scenes : List Scene) (main : Scene) (m : LeafModule)
    (is : Items) (designed : IsDesigned c scenes main (made_of m is)) (x : ℕ) (at : slice_get scenes x ≡ Some main) where
  abbrev d : Design
  d = made_of m is

  is_design : IsDesignOf (views scenes) (module_of (views scenes) x) (made_of m is)
  is_design = subst (λ (u : LeafModule). IsDesignOf (views scenes) u (made_of m is)) (sym (view_at scenes x main at)) designed.sound.is

  module _ (ks : List ModuleCopy) (copies : map copy_seen ks ≡ copies_of x (made_of m is))
      (prefixes : map (λ (k : ModuleCopy). k.prefix) ks ≡ map prefix_text (paths_below [] (made_of m is))) where
    all_behind : AreBehind scenes (leafed_module main).port_leaves ks
    all_behind =
        let high = m.port_leaves + count_below (made_of m is) in
        subst (λ (u : LeafModule). AreBehind scenes u.port_leaves ks) designed.sound.is.0
        (are_behind scenes m.port_leaves high ks
        (subst (Behind scenes m.port_leaves high) (sym copies) (design_behind scenes x 0 m.port_leaves 0 (made_of m is) is_design)))

    all_leaves : map (seen_behind []) (flattened (made_of m is)).leaves
        ≡ map (seen_behind []) (port_leaves (leafed_module main)) ++ flat_map (leaves_of_copy scenes) ks
    all_leaves =
        map-append (seen_behind []) (port_leaves m) (leaves_below [] 0 0 m.port_leaves 0 (made_of m is))
        ∙ ap₂ (λ ls ms. ls ++ ms) (ap (λ (u : LeafModule). map (seen_behind []) (port_leaves u)) designed.sound.is.0)
        ((design_leaves scenes [] 0 x 0 m.port_leaves 0 (made_of m is) is_design (designed.sound.named.0, designed.sound.named.2)).leaves
        ∙ sym (ap₂ (leaves_by scenes) copies prefixes) ∙ by_copies scenes ks)

    each_stands : (k : ModuleCopy) → In ks k → StandsIn scenes (flattened (made_of m is)) (copy_seen k)
    each_stands k among =
        let t = tree_of c scenes main (made_of m is) designed one in
        all_stand c (made_of m is) t.0 (designs_beside c scenes main (made_of m is) designed t.0 t.1) x at
        (have_widths c scenes main (made_of m is) designed) (copy_seen k) (subst (λ ls. In ls (copy_seen k)) copies (in_map copy_seen ks k among))

    all_given : (y : ℕ) → y < length (flattened (made_of m is)).leaves → IsGiven scenes main (map copy_seen ks) y
    all_given y lt =
        let t = tree_of c scenes main (made_of m is) designed one in
        subst (λ ls. IsGiven scenes main ls y) (sym copies)
        (give_all c (made_of m is) t.0 (designs_beside c scenes main (made_of m is) designed t.0 t.1) x at y lt)

  made : (ks : List ModuleCopy) → map copy_seen ks ≡ copies_of x (made_of m is)
      → map (λ (k : ModuleCopy). k.prefix) ks ≡ map prefix_text (paths_below [] (made_of m is))
      → map array_seen (flattened (made_of m is)).arrays ≡ flat_map (arrays_of_copy scenes) ks → AreCopiesOf scenes main (flattened (made_of m is)) ks
  made [] copies prefixes arrays = absurd (cc)
  made (k ∷ ks) copies prefixes arrays =
      let same : copy_seen k ≡ record { module_number = x; first = 0; own = m.port_leaves; array = 0 } = cc in
      record {
        first = k;
        others = ks;
        are = refl;
        is_main = ap (λ (z : Copy). slice_get scenes z.module_number) same ∙ at;
        from_first = ap (λ (z : Copy). z.first) same;
        behind = all_behind (k ∷ ks) copies prefixes;
        leaves = all_leaves (k ∷ ks) copies prefixes;
        arrays = arrays;
        stand = each_stands (k ∷ ks) copies prefixes;
        given = all_given (k ∷ ks) copies prefixes;
      }

pub copies_of_design : HasOneTree → CopiesStand → CopiesGiveAll → (c : CircuitTree) (scenes : List Scene) (main : Scene) (d : Design)
    → IsDesigned c scenes main d → (x : ℕ) → slice_get scenes x ≡ Some main → (e : Elaborated) → IsElaborated x d e
    → AreCopiesOf scenes main (flattened d) e.copies.items
copies_of_design one all_stand give_all c scenes main (made_of m is) designed x at e elaborated =
    made one all_stand give_all c scenes main m is designed x at e.copies.items elaborated.copies elaborated.prefixes
    (arrays_of_modules scenes x (made_of m is) (is_design one all_stand give_all c scenes main m is designed x at) e elaborated)
