-- The circuit of a design is plain.
use Rattle.std.proofs.Common.{◌≡◌, ℕ, List, Some, slice_get, subst}
use Rattle.fir_base.proofs.Elements.{get_in, number_of}
use Rattle.fir_ast.specs.Circuits.{CircuitTree}
use Rattle.fir_meaning.specs.ModuleScenes.{Scene}
use Rattle.fir_meaning.specs.SourceDesigns.{SourceDesign}
use Rattle.fir_meaning.specs.working.Designs.{Design, Items, made_of}
use Rattle.fir_meaning.specs.working.Flattened.{flattened}
use Rattle.fir_meaning.specs.working.LeafModules.{LeafModule}
use Rattle.fir_leaf.specs.working.StateLaws.{ArraysAreAll, ArraysHaveBits, ArraysStandOnce, LeafedPortsShowNone, WordsAreAll, WordsShowState, WordsStandOnce}
use Rattle.fir_design.specs.working.MeaningLaws.{AreDesigns}
use Rattle.fir_design.specs.working.SourceLaws.{HasOneTree}
use Rattle.fir_copies.specs.working.CopyLaws.{HaveWidths}
use Rattle.fir_copies.specs.working.WholeDesigns.{DesignsAreDriven, DesignsAreTyped, DesignsHaveTypedMemories}
use Rattle.fir_flatten.specs.working.FlatDesigns.{IsPlainDesign}
use Rattle.fir_flatten.specs.working.Laws.{DesignsArePlain, IsDesigned, IsClearDesign}
use Rattle.fir_flatten.proofs.ClearLeaves.{leaves_clear}
use Rattle.fir_flatten.proofs.PlainRoles.{inner_role, port_role, roles_behind, room, whole_within}

module _ (has_tree : HasOneTree) (are_typed : DesignsAreTyped) (are_driven : DesignsAreDriven) (words_show : WordsShowState) (words_all : WordsAreAll)
    (words_once : WordsStandOnce) (ports_show_none : LeafedPortsShowNone) (have_memories : DesignsHaveTypedMemories) (arrays_all : ArraysAreAll)
    (arrays_once : ArraysStandOnce) (arrays_have_bits : ArraysHaveBits) where
  module _ (c : CircuitTree) (m : LeafModule) (is : Items) (t : SourceDesign) (a : AreDesigns c (made_of m is) t) (widths : HaveWidths c a.scenes)
      (taken : IsClearDesign a.scenes (made_of m is)) (x : ℕ) (at : slice_get a.scenes x ≡ Some a.main) where
    plain : IsPlainDesign (flattened (made_of m is)) m.port_leaves
    plain =
        let d = made_of m is in
        let typed = are_typed c d t a widths taken.typed in
        let driven = are_driven c d t a taken.driven in
        let within = whole_within c m is t a x at in
        let ports = ports_show_none a.scenes a.main d a.design.is in
        record {
          typed = typed;
          within = within;
          driven = driven;
          memories = have_memories c d t a widths taken.memories;
          clear = leaves_clear (flattened (made_of m is)) taken.clear typed within driven (roles_behind c m is t a x at);
          room = room c m is t a x at;
          port = port_role c m is t a x at;
          inner = inner_role c m is t a x at;
          words = λ n y e.
              let w = words_show (made_of m is) ports.0 ports.1 y (get_in (flattened (made_of m is)).words n y e) in
              (w.within, (w.shows, w.bits));
          all_words = λ y lt w.
              number_of (flattened (made_of m is)).words y (words_all (made_of m is) ports.0 a.design.named y lt w.0 w.1);
          once = words_once d ports.1;
          arrays = λ n y e. arrays_have_bits d y (get_in (flattened (made_of m is)).array_order n y e);
          all_arrays = λ y h. number_of (flattened (made_of m is)).array_order y (arrays_all (made_of m is) a.design.named y h.within h.bits);
          arrays_once = arrays_once d;
        }

  has_widths : (c : CircuitTree) (scenes : List Scene) (main : Scene) (d : Design) → IsDesigned c scenes main d → HaveWidths c scenes
  has_widths c scenes main d h s i = let at = number_of scenes s i in (h.has.each at.0 s at.1).widths

  pub designs_plain : DesignsArePlain
  designs_plain c scenes main (made_of m is) h taken =
      let tree = has_tree c scenes main (made_of m is) h.names h.types h.has.are h.among h.sound.is in
      let a : AreDesigns c (made_of m is) tree.0 = record {
        names = h.names;
        types = h.types;
        scenes = scenes;
        are = h.has.are;
        main = main;
        among = h.among;
        design = h.sound;
        tree = tree.1;
      } in
      let x = number_of scenes main h.among in
      subst (λ (u : LeafModule). IsPlainDesign (flattened (made_of m is)) u.port_leaves) h.sound.is.0
      (plain c m is tree.0 a (has_widths c scenes main (made_of m is) h) taken x.0 x.1)
