-- Each copy of a module stands in the circuit of the design.
use Rattle.std.proofs.Common.{◌≡◌, ℕ, ◌+◌, ◌≤◌, List, length, map, slice_get, option_map, Some, ap, ◌∙◌, arith}
use Rattle.std.proofs.lemmas.List.{length-map}
use Rattle.std.proofs.lemmas.Option.{get_or_from_slice_get, slice_get-get_or, slice_get-map, slice_get_within}
use Rattle.fir_ast.specs.Circuits.{CircuitTree}
use Rattle.fir_meaning.specs.SourceDependence.{all_modules}
use Rattle.fir_meaning.specs.SourceDesigns.{SourceDesign}
use Rattle.fir_meaning.specs.working.Designs.{Items, made_of}
use Rattle.fir_meaning.specs.working.Flattened.{flattened}
use Rattle.fir_meaning.specs.working.LeafModules.{LeafArray, LeafDeclared, LeafModule}
use Rattle.fir_meaning.specs.LeafPaths.{LeafPath}
use Rattle.fir_meaning.specs.working.FlatLeaves.{placed_array}
use Rattle.fir_meaning.specs.working.LeafedModules.{leafed_module}
use Rattle.fir_meaning.specs.working.Numberings.{Numbering, numbering}
use Rattle.fir_leaf.proofs.FlatPlaces.{At, at_get, at_room}
use Rattle.fir_design.specs.working.MeaningLaws.{AreDesigns}
use Rattle.fir_design.proofs.PortLeaves.{ports_in}
use Rattle.fir_copies.specs.working.Copies.{Copy, copies_of}
use Rattle.fir_copies.specs.working.CopyLaws.{CopiesStand, StandsIn}
use Rattle.fir_copies.proofs.CopyLeaves.{copy_holds}
use Rattle.fir_copies.proofs.CopyPlaces.{AreArraysAt, HaveOneWidths, StandsWhole}
use Rattle.fir_copies.proofs.CopyRoles.{copy_net_role}
use Rattle.fir_copies.proofs.OneWidths.{one_widths}
use Rattle.fir_copies.proofs.WholeCopies.{each_whole}

-- by its number
get_at : {A : Type 0} (xs ys : List A) (b k : ℕ) (y : A) → At xs b ys → slice_get ys k ≡ Some y → slice_get xs (b + k) ≡ Some y
get_at xs ys b k y h e =
    let lt = slice_get_within ys k y e in
    slice_get-get_or xs (b + k) y (omega (arith, at_room xs ys b h, lt))
    ∙ ap Some (at_get xs ys b k y h lt ∙ get_or_from_slice_get ys k y y e)

module _ (whole : List LeafArray) (path : LeafPath) (n : Numbering) (array : ℕ) (m : LeafModule) (at : AreArraysAt whole path n array m) where
  arrays_room : array + length m.arrays ≤ length whole
  arrays_room = omega (arith, at_room whole (map (placed_array path n) m.arrays) array at, length-map m.arrays (placed_array path n))

  pub array_there : (i : ℕ) (a : LeafArray) → slice_get m.arrays i ≡ Some a → slice_get whole (array + i) ≡ Some (placed_array path n a)
  array_there i a e =
      get_at whole (map (placed_array path n) m.arrays) array i (placed_array path n a) at
      (slice_get-map (placed_array path n) m.arrays i ∙ ap (option_map (placed_array path n)) e)

copy_stands : (c : CircuitTree) (m : LeafModule) (is : Items) (t : SourceDesign) (a : AreDesigns c (made_of m is) t) → HaveOneWidths a.scenes
    → (ks : List Copy) (k : Copy)
    → StandsWhole a.scenes (flattened (made_of m is)).leaves (flattened (made_of m is)).arrays (all_modules t) ks k
    → StandsIn a.scenes (flattened (made_of m is)) k
copy_stands c m is t a alike ks k w =
    let s = w.stands in
    let whole = (flattened (made_of m is)).arrays in
    let own = leafed_module s.scene in
    record {
      scene = s.scene;
      is = s.is;
      ports = ports_in s.scene;
      path = s.path;
      within = s.stands.within;
      paths = s.stands.path;
      places = λ x le lt. ap (λ (l : LeafDeclared). l.place) (s.placed x le lt);
      held = copy_holds a.scenes (flattened (made_of m is)).leaves (all_modules t) ks k s alike;
      roles = copy_net_role c m is t a alike ks k s;
      arrays_within = arrays_room whole s.path (numbering own k.first k.own) k.array own w.arrays;
      arrays = array_there whole s.path (numbering own k.first k.own) k.array own w.arrays;
    }

pub all_stand : CopiesStand
all_stand c (made_of m is) t a x at widths k among =
    copy_stands c m is t a (one_widths c a.scenes widths) (copies_of x (made_of m is)) k (each_whole c m is t a x at k among)
