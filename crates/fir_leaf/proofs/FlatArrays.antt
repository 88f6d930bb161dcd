-- The arrays of a leaf circuit are those of its design.
use Rattle.std.proofs.Common.{◌≡◌, ℕ, ◌+◌, ◌<◌, List, [], ◌++◌, map, length, refl, sym, ap, ap₂, ◌∙◌, arith, append-nil, length-append}
use Rattle.std.specs.Prelude.{nat_eq}
use Rattle.std.proofs.lemmas.List.{length-map, get_or-map, map-append}
use Rattle.fir_meaning.specs.LeafPaths.{LeafPath}
use Rattle.fir_meaning.specs.working.LeafModules.{LeafArray, LeafModule}
use Rattle.fir_meaning.specs.working.Designs.{Item, drive, when, instance, Items, done, then, Design, made_of}
use Rattle.fir_meaning.specs.working.DesignPaths.{instance_path}
use Rattle.fir_meaning.specs.working.Numberings.{Numbering, number, numbering}
use Rattle.fir_meaning.specs.working.FlatDesigns.{inner_leaves, count, count_all, array_count, array_count_all, array_count_below}
use Rattle.fir_meaning.specs.working.FlatLeaves.{placed_array, arrays_in, all_arrays_in, arrays_below}
use Rattle.fir_meaning.specs.working.StateWalks.{all_array_order_in, array_order_below, array_order_in, own_arrays}
use Rattle.fir_leaf.specs.working.DesignStates.{all_array_paths_in, array_at, array_paths_below, array_paths_in, no_array}
use Rattle.fir_leaf.specs.working.DesignLaws.{SameArrays}
use Rattle.fir_leaf.proofs.FlatPlaces.{At, at_get, at_left, at_right}
use Rattle.fir_leaf.proofs.FlatOrders.{either_same, numbers_same, walk_same}

-- as many arrays as are counted
mutual
  pub array_count_is : (path : LeafPath) (m : LeafModule) (n : Numbering) (free : ℕ) (i : Item) → length (arrays_in path m n free i) ≡ array_count i
  array_count_is path m n free (drive p b ps t) = refl
  array_count_is path m n free (when p c a b) =
      omega (
        arith,
        length-append (all_arrays_in path m n free a) (all_arrays_in path m n (free + count_all a) b),
        array_counts_are path m n free a,
        array_counts_are path m n (free + count_all a) b,
      )
  array_count_is path m n free (instance i d) = array_count_below_is (instance_path path m i) (number n i.first) free d

  pub array_counts_are : (path : LeafPath) (m : LeafModule) (n : Numbering) (free : ℕ) (is : Items)
      → length (all_arrays_in path m n free is) ≡ array_count_all is
  array_counts_are path m n free done = refl
  array_counts_are path m n free ((then) i is) =
      omega (
        arith,
        length-append (arrays_in path m n free i) (all_arrays_in path m n (free + count i) is),
        array_count_is path m n free i,
        array_counts_are path m n (free + count i) is,
      )

  array_count_below_is : (path : LeafPath) (first free : ℕ) (d : Design) → length (arrays_below path first free d) ≡ array_count_below d
  array_count_below_is path first free (made_of m is) =
      omega (
        arith,
        length-append (map (placed_array path (numbering m first free)) m.arrays)
            (all_arrays_in path m (numbering m first free) (free + length (inner_leaves m)) is),
        length-map m.arrays (placed_array path (numbering m first free)),
        array_counts_are path m (numbering m first free) (free + length (inner_leaves m)) is,
      )

module _ (table : List LeafArray) where
  abbrev path_of : ℕ → LeafPath
  path_of x = (array_at table x).path

  mutual
    array_same : (here : LeafPath) (m : LeafModule) (n : Numbering) (free array d : ℕ) (i : Item) → At table array (arrays_in here m n free i)
        → map path_of (array_order_in array d i) ≡ array_paths_in here m d i
    array_same here m n free array d (drive p b ps t) at = refl
    array_same here m n free array d (when p c a b) at =
        let second : At table (array + array_count_all a) (all_arrays_in here m n (free + count_all a) b) =
        rw (array_counts_are here m n free a) at (at_right table (all_arrays_in here m n free a) _ array at) in
        map-append _ (all_array_order_in array d a) (all_array_order_in (array + array_count_all a) d b)
        ∙ ap₂ (λ xs ys. xs ++ ys) (arrays_same here m n free array d a (at_left table (all_arrays_in here m n free a) _ array at))
        (arrays_same here m n (free + count_all a) (array + array_count_all a) d b second)
    array_same here m n free array d (instance i e) at =
        either_same path_of (nat_eq i.declaration d) (array_order_below array e) _ (below_same (instance_path here m i) (number n i.first) free array e at)

    arrays_same : (here : LeafPath) (m : LeafModule) (n : Numbering) (free array d : ℕ) (is : Items) → At table array (all_arrays_in here m n free is)
        → map path_of (all_array_order_in array d is) ≡ all_array_paths_in here m d is
    arrays_same here m n free array d done at = refl
    arrays_same here m n free array d ((then) i is) at =
        let second : At table (array + array_count i) (all_arrays_in here m n (free + count i) is) =
        rw (array_count_is here m n free i) at (at_right table (arrays_in here m n free i) _ array at) in
        map-append _ (array_order_in array d i) (all_array_order_in (array + array_count i) d is)
        ∙ ap₂ (λ xs ys. xs ++ ys) (array_same here m n free array d i (at_left table (arrays_in here m n free i) _ array at))
        (arrays_same here m n (free + count i) (array + array_count i) d is second)

    below_same : (here : LeafPath) (first free array : ℕ) (e : Design) → At table array (arrays_below here first free e)
        → map path_of (array_order_below array e) ≡ array_paths_below here e
    below_same here first free array (made_of c is) at =
        walk_same c path_of _ _ (λ d.
        map-append path_of (map (λ x. array + x) (own_arrays c d)) (all_array_order_in (array + length c.arrays) d is)
        ∙ ap₂ (λ xs ys. xs ++ ys)
        (numbers_same _ 0 c.arrays path_of (λ x. array + x) (λ x. here ++ (array_at c.arrays x).path) (λ x lt. one x (omega (arith, lt))))
        (arrays_same here c (numbering c first free) (free + length (inner_leaves c)) (array + length c.arrays) d is
        (rw (length-map c.arrays (placed_array here (numbering c first free))) at
        (at_right table (map (placed_array here (numbering c first free)) c.arrays) _ array at))))
      where
        one : (x : ℕ) → x < length c.arrays → (array_at table (array + x)).path ≡ here ++ (array_at c.arrays x).path
        one x lt =
            let within : x < length (map (placed_array here (numbering c first free)) c.arrays) = omega (
              arith,
              lt,
              length-map c.arrays (placed_array here (numbering c first free)),
            ) in
            ap (λ (a : LeafArray). a.path)
            (at_get table (map (placed_array here (numbering c first free)) c.arrays) array x no_array
            (at_left table (map (placed_array here (numbering c first free)) c.arrays) _ array at) within
            ∙ get_or-map (placed_array here (numbering c first free)) c.arrays x no_array no_array lt)

whole : {A : Type 0} (xs : List A) → At xs 0 xs
whole xs = record { before = []; after = []; is = sym (append-nil xs); long = refl }

pub same_arrays : SameArrays
same_arrays (made_of m is) =
    let table = arrays_below [] 0 m.port_leaves (made_of m is) in
    below_same table [] 0 m.port_leaves 0 (made_of m is) (whole table)
