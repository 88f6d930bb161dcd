-- In each sound design of a circuit without a fault of names or types the copies of its modules stand in the table of the whole with their arrays in its list,
-- and each leaf behind the main module's ports is a leaf of one of them.
use Rattle.std.proofs.Common.{◌≡◌, ℕ, ◌+◌, ◌<◌, ◌≤◌, List, [], length, slice_get, Some, ap, ◌∙◌, arith, append-nil, length-append, refl, sym}
use Rattle.std.proofs.lemmas.List.{get_or-take, get_or_append_left, length-take}
use Rattle.fir_base.specs.Lists.{In}
use Rattle.fir_ast.specs.Circuits.{CircuitTree}
use Rattle.fir_meaning.specs.ModuleScenes.{Scene}
use Rattle.fir_meaning.specs.SourceDependence.{all_modules}
use Rattle.fir_meaning.specs.SourceDesigns.{SourceDesign}
use Rattle.fir_meaning.specs.working.Designs.{Items, made_of}
use Rattle.fir_meaning.specs.working.FlatDesigns.{count_below}
use Rattle.fir_meaning.specs.working.FlatLeaves.{arrays_below, leaves_below}
use Rattle.fir_meaning.specs.working.Flattened.{flattened, port_leaves}
use Rattle.fir_meaning.specs.working.LeafModules.{LeafArray, LeafDeclared, LeafModule, leaf_at, no_leaf}
use Rattle.fir_leaf.proofs.FlatMeaning.{main_at, main_stands, main_table}
use Rattle.fir_leaf.proofs.FlatPlaces.{At, count_below_is}
use Rattle.fir_design.specs.working.MeaningLaws.{AreDesigns}
use Rattle.fir_design.proofs.ListsInStep.{AreInStep}
use Rattle.fir_copies.specs.working.Copies.{Copy, copies_of}
use Rattle.fir_copies.proofs.CopyPlaces.{CopyStands, HaveCopies, IsCopyOf, IsInner, PortsStand, StandsWhole}
use Rattle.fir_copies.proofs.CopyWalks.{design_copies}
use Rattle.fir_copies.proofs.PortsHeld.{ports_given}

-- the main module's ports stand in front
pub main_port : (m : LeafModule) (is : Items) → m.port_leaves ≤ length m.leaves → (z : ℕ) → z < m.port_leaves
    → leaf_at (main_table m is) z ≡ leaf_at m.leaves z
main_port m is room z lt =
    let long : length (port_leaves m) ≡ m.port_leaves = omega (arith, room, length-take m.port_leaves m.leaves) in
    get_or_append_left (port_leaves m) (leaves_below [] 0 0 m.port_leaves 0 (made_of m is)) no_leaf z (omega (arith, lt, long))
    ∙ get_or-take m.port_leaves m.leaves z no_leaf lt

main_ports : (scenes : List Scene) (m : LeafModule) (is : Items) → m.port_leaves ≤ length m.leaves → PortsStand scenes (main_table m is) m 0
main_ports scenes m is room = record {
  holds = λ alike z lt. let none : 0 + z ≡ z = omega arith in rw none (ap (λ (l : LeafDeclared). l.holds) (main_port m is room z lt));
  sinks = λ z lt e. let none : 0 + z ≡ z = omega arith in rw none (ap (λ (l : LeafDeclared). l.role) (main_port m is room z lt) ∙ e);
  places = λ z lt e. let none : 0 + z ≡ z = omega arith in rw none (ap (λ (l : LeafDeclared). l.place) (main_port m is room z lt));
}

all_at : (xs : List LeafArray) → At xs 0 xs
all_at xs = record { before = []; after = []; is = sym (append-nil xs); long = refl }

module _ (c : CircuitTree) (m : LeafModule) (is : Items) (t : SourceDesign) (a : AreDesigns c (made_of m is) t) (x : ℕ)
    (at : slice_get a.scenes x ≡ Some a.main) where
  all_copies : HaveCopies a.scenes (flattened (made_of m is)).leaves (flattened (made_of m is)).arrays (all_modules t) m.port_leaves
      (m.port_leaves + count_below (made_of m is)) (copies_of x (made_of m is))
  all_copies =
      let room = a.design.main.0 in
      design_copies c a.names a.scenes a.are (flattened (made_of m is)).leaves (flattened (made_of m is)).arrays (ports_given c a.names a.types a.scenes a.are) (made_of m is) a.main t x at
      a.design.is a.tree [] 0 0 m.port_leaves 0 (main_stands m is room) (main_ports a.scenes m is room) (omega arith) a.design.main.1 (main_at m is room)
      (all_at (arrays_below [] 0 m.port_leaves (made_of m is)))

  pub each_copy : (k : Copy) → In (copies_of x (made_of m is)) k
      → CopyStands a.scenes (flattened (made_of m is)).leaves (all_modules t) (copies_of x (made_of m is)) k
  each_copy k i = (all_copies.each k i).stands

  pub each_whole : (k : Copy) → In (copies_of x (made_of m is)) k
      → StandsWhole a.scenes (flattened (made_of m is)).leaves (flattened (made_of m is)).arrays (all_modules t) (copies_of x (made_of m is)) k
  each_whole k i = all_copies.each k i

  pub each_inner : (y : ℕ) → m.port_leaves ≤ y → y < length (flattened (made_of m is)).leaves
      → IsInner a.scenes (flattened (made_of m is)).leaves (copies_of x (made_of m is)) y
  each_inner y le lt =
      let room = a.design.main.0 in
      all_copies.covers y le
      (omega (
        arith,
        lt,
        length-append (port_leaves m) (leaves_below [] 0 0 m.port_leaves 0 (made_of m is)),
        length-take m.port_leaves m.leaves,
        room,
        count_below_is [] 0 0 m.port_leaves 0 (made_of m is),
      ))

  -- the copies stand in the order of the modules of the tree
  pub copies_in_step : AreInStep (IsCopyOf a.scenes (flattened (made_of m is)).leaves) (copies_of x (made_of m is)) (all_modules t)
  copies_in_step = all_copies.in_step
