-- The leaves and arrays of the leaf circuit of a sound design are those of the tree of its source modules, number by number.
use Rattle.std.proofs.Common.{◌≡◌, ℕ, ◌<◌, List, [], map, length, slice_get, Some, refl, sym, subst, arith}
use Rattle.std.proofs.lemmas.List.{append-nil}
use Rattle.std.proofs.lemmas.Option.{get_or_from_slice_get}
use Rattle.fir_base.proofs.Elements.{there}
use Rattle.fir_ast.specs.Circuits.{CircuitTree}
use Rattle.fir_meaning.specs.working.Designs.{Design, made_of}
use Rattle.fir_leaf.specs.working.DesignStates.{array_at, no_array}
use Rattle.fir_meaning.specs.working.FlatLeaves.{arrays_below, leaves_below}
use Rattle.fir_meaning.specs.working.Flattened.{flattened}
use Rattle.fir_meaning.specs.working.Flattened as flat
use Rattle.fir_meaning.specs.working.LeafCircuits.{LeafCircuit}
use Rattle.fir_meaning.specs.working.LeafModules.{LeafArray, LeafModule, leaf_at, no_leaf}
use Rattle.fir_meaning.specs.ModuleScenes.{Scene}
use Rattle.fir_meaning.specs.working.LeafedModules.{leafed_module}
use Rattle.fir_leaf.specs.working.SoundDesigns.{circuit_path}
use Rattle.fir_leaf.proofs.FlatMeaning.{main_at, main_stands}
use Rattle.fir_leaf.proofs.FlatPlaces.{At}
use Rattle.fir_design.specs.working.MeaningLaws.{AreDesigns}
use Rattle.fir_design.specs.working.SameRoles.{ViewsHaveRoles}
use Rattle.fir_meaning.specs.SourceCircuits.{PlacedArray, PlacedLeaf, all_arrays, all_leaves, array_path, leaves_of_design, placed, port_leaves}
use Rattle.fir_meaning.specs.SourceDesigns.{SourceDesign}
use Rattle.fir_meaning.specs.SourceDesigns as source
use Rattle.fir_base.specs.Lists.{Distinct}
use Rattle.fir_design.proofs.ArrayPaths.{tree_paths_distinct}
use Rattle.fir_design.proofs.DistinctElements.{once_numbered}
use Rattle.fir_design.proofs.DesignsInStep.{design_in_step}
use Rattle.fir_design.proofs.TreesInStep.{BothInStep}
use Rattle.fir_design.proofs.InStep.{SameArray, SamePlaced}
use Rattle.fir_design.proofs.ListsInStep.{AreInStep, step_at, step_joined, step_long, step_mapped}
use Rattle.fir_design.proofs.PortsInStep.{LeafInStep, ports_in_step}

whole : {A : Type 0} (xs : List A) → At xs 0 xs
whole xs = record { before = []; after = []; is = sym (append-nil xs); long = refl }

module _ (circuit : CircuitTree) (roles : ViewsHaveRoles) where
  all_in_step : (d : Design) (t : SourceDesign) → AreDesigns circuit d t
      → BothInStep (flattened d) (flattened d).leaves (all_leaves t) (flattened d).arrays (all_arrays t)
  all_in_step (made_of m is) (source.made_of u trees) a =
      let c : LeafCircuit = flattened (made_of m is) in
      let tree = source.made_of u trees in
      let room = a.design.main.0 in
      let below =
      design_in_step circuit a.names a.types a.scenes a.are roles c (made_of m is) a.main tree a.among a.design.is a.tree [] 0 0 m.port_leaves 0
      (main_stands m is room) a.design.main.1 (main_at m is room) (whole (arrays_below [] 0 m.port_leaves (made_of m is))) in
      let ports : AreInStep (LeafInStep c) (flat.port_leaves m) (placed [] (port_leaves u)) =
      subst (λ (v : LeafModule). AreInStep (LeafInStep c) (flat.port_leaves v) (placed [] (port_leaves u))) (sym a.design.is.0)
      (subst (λ (s : Scene). AreInStep (LeafInStep c) (flat.port_leaves (leafed_module a.main)) (placed [] (port_leaves s))) (sym a.tree.0)
      (ports_in_step c a.main)) in
      record {
        leaves =
            step_joined (LeafInStep c) (flat.port_leaves m) (leaves_below [] 0 0 m.port_leaves 0 (made_of m is)) (placed [] (port_leaves u))
            (leaves_of_design [] tree) ports below.leaves;
        arrays = below.arrays;
      }

  module _ (d : Design) (t : SourceDesign) (a : AreDesigns circuit d t) where
    abbrev c : LeafCircuit
    c = flattened d

    pub many_leaves : length (flattened d).leaves ≡ length (all_leaves t)
    many_leaves = step_long (LeafInStep c) c.leaves (all_leaves t) (all_in_step d t a).leaves

    leaf_beside : (x : ℕ) (p : PlacedLeaf) → slice_get (all_leaves t) x ≡ Some p → LeafInStep c (leaf_at c.leaves x) p
    leaf_beside x p e =
        let r = step_at (LeafInStep c) c.leaves (all_leaves t) (all_in_step d t a).leaves x p e in
        subst (λ l. LeafInStep c l p) (sym (get_or_from_slice_get c.leaves x r.0 no_leaf r.1)) r.2

    pub each_leaf : (x : ℕ) (p : PlacedLeaf) → slice_get (all_leaves t) x ≡ Some p → SamePlaced (flattened d) x p
    each_leaf x p e = let r = leaf_beside x p e in record { path = r.path; holds = r.holds; role = r.role }

    pub leaves_once :
        (x y : ℕ) → x < length (flattened d).leaves → y < length (flattened d).leaves
        → circuit_path (flattened d) x ≡ circuit_path (flattened d) y → x ≡ y
    leaves_once = a.design.sound.once

    pub leaves_named : (x : ℕ) → x < length (flattened d).leaves → circuit_path (flattened d) x ≡ [] → ⊥
    leaves_named x lt e =
        let p = there (all_leaves t) x (omega (arith, lt, many_leaves)) in
        (leaf_beside x p.0 p.1).named.some e

    pub many_arrays : length (flattened d).arrays ≡ length (all_arrays t)
    many_arrays = step_long (SameArray c) c.arrays (all_arrays t) (all_in_step d t a).arrays

    pub each_array : (k : ℕ) (p : PlacedArray) → slice_get (all_arrays t) k ≡ Some p
        → SameArray (flattened d) (array_at (flattened d).arrays k) p
    each_array k p e =
        let r = step_at (SameArray c) c.arrays (all_arrays t) (all_in_step d t a).arrays k p e in
        subst (λ x. SameArray c x p) (sym (get_or_from_slice_get c.arrays k r.0 no_array r.1)) r.2

    pub arrays_once :
        (k j : ℕ) → k < length (flattened d).arrays → j < length (flattened d).arrays
        → (array_at (flattened d).arrays k).path ≡ (array_at (flattened d).arrays j).path → k ≡ j
    arrays_once k j lt less e =
        let same : map (λ (x : LeafArray). x.path) c.arrays ≡ map array_path (all_arrays t) =
        step_mapped (SameArray c) (λ (x : LeafArray). x.path) array_path (λ x y r. r.path) c.arrays (all_arrays t) (all_in_step d t a).arrays in
        once_numbered (λ (x : LeafArray). x.path) c.arrays no_array k j
        (subst Distinct (sym same) (tree_paths_distinct circuit a.names a.types a.scenes a.are t a.main a.among a.tree)) lt less e
