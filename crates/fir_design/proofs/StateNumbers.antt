-- The words and the arrays of a circuit of a design, each by its number among all, are those of its tree.
use Rattle.std.proofs.Common.{◌≡◌, List, [], ◌++◌, map, length, slice_get, Some, refl, sym, ap, ◌∙◌, append-nil}
use Rattle.std.proofs.lemmas.List.{length-map}
use Rattle.fir_ast.specs.Circuits.{CircuitTree}
use Rattle.fir_meaning.specs.Visibility.{at_head}
use Rattle.fir_meaning.specs.working.Designs.{Design, made_of}
use Rattle.fir_meaning.specs.working.Flattened.{flattened}
use Rattle.fir_meaning.specs.ModuleScenes.{Scene}
use Rattle.fir_meaning.specs.working.LeafedModules.{leafed_module}
use Rattle.fir_leaf.proofs.FlatPlaces.{At}
use Rattle.fir_design.specs.working.MeaningLaws.{AreDesigns}
use Rattle.fir_design.specs.working.SameRoles.{ViewsHaveRoles}
use Rattle.fir_meaning.specs.SourceCircuits.{PlacedLeaf, all_arrays, all_leaves, leaves_of_design, main_ports, port_leaves, state_arrays, state_words}
use Rattle.fir_meaning.specs.SourceDesigns.{IsSourceDesignOf, SourceDesign}
use Rattle.fir_meaning.specs.SourceDesigns as source
use Rattle.fir_meaning.specs.SourceRoles.{SourceLeaf}
use Rattle.fir_design.proofs.ArrayNumbers.{arrays_agree}
use Rattle.fir_design.proofs.LeavesBeside.{ports_beside}
use Rattle.fir_design.proofs.WordsInStep.{words_agree}

-- a leaf of the main module
abbrev main_leaf : SourceLeaf → PlacedLeaf
main_leaf l = record { at = []; leaf = l }

-- the leaves below the main module stand behind those of its ports
below_ports : (scenes : List Scene) (s : Scene) (t : SourceDesign) → IsSourceDesignOf scenes s t
    → At (all_leaves t) (leafed_module s).port_leaves (leaves_of_design [] t)
below_ports scenes s (source.made_of o trees) h = record {
  before = main_ports (source.made_of o trees);
  after = [];
  is = ap (λ ps. main_ports (source.made_of o trees) ++ ps) (sym (append-nil (leaves_of_design [] (source.made_of o trees))));
  long =
      ap (λ (x : Scene). length (main_ports (source.made_of x trees))) h.0
      ∙ length-map (port_leaves s) main_leaf ∙ sym (ports_beside s s.own.inside.ports at_head);
}

pub words_are : (roles : ViewsHaveRoles) (c : CircuitTree) (d : Design) (t : SourceDesign) → AreDesigns c d t
    → map (λ x. slice_get (all_leaves t) x) (flattened d).words ≡ map Some (state_words t)
words_are roles c (made_of m is) t a =
    let own : m ≡ leafed_module a.main = a.design.is.0 in
    (words_agree roles c a.names a.types a.scenes a.are (all_leaves t) (made_of m is) a.main t a.among a.design.is a.tree).same [] 0 m.port_leaves
    (rw own (below_ports a.scenes a.main t a.tree))

-- and the arrays
pub arrays_are : (roles : ViewsHaveRoles) (c : CircuitTree) (d : Design) (t : SourceDesign) → AreDesigns c d t
    → map (λ k. slice_get (all_arrays t) k) (flattened d).array_order ≡ map Some (state_arrays t)
arrays_are roles c (made_of m is) t a =
    (arrays_agree roles c a.names a.types a.scenes a.are (all_arrays t) (made_of m is) a.main t a.among a.design.is a.tree).same [] 0 0
    (record { before = []; after = []; is = sym (append-nil (all_arrays t)); long = refl })
