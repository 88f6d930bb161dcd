-- The instances of a design's module in one list, with their designs: those of its body; and the copies and the paths that they have below them.
use Rattle.std.proofs.Common.{◌≡◌, ℕ, ◌+◌, List, [], ◌∷◌, ◌++◌, flat_map, map, refl, sym, ap, ap₂, ◌∙◌, append_assoc, append-nil, arith}
use Rattle.std.proofs.lemmas.List.{map-append}
use Rattle.std.proofs.lemmas.List.Concat.{flat_map-append}
use Rattle.fir_meaning.specs.LeafPaths.{LeafPath}
use Rattle.fir_meaning.specs.working.DesignPaths.{instance_path}
use Rattle.fir_meaning.specs.working.Designs.{Item, Items, block_of, done, drive, instance, statement_of, then, when}
use Rattle.fir_meaning.specs.working.FlatDesigns.{array_count, array_count_all, array_count_below, count, count_all, count_below}
use Rattle.fir_meaning.specs.working.LeafModules.{LeafModule}
use Rattle.fir_meaning.specs.working.Numberings.{Numbering, number}
use Rattle.fir_design.proofs.DesignInstances.{Instance, counted, instance_in, instances_in, own_of, sizes, words_of}
use Rattle.fir_design.proofs.InstanceArrays.{arrays_counted, arrays_of}
use Rattle.fir_copies.specs.working.Copies.{Copy, all_copies_in, copies_below, copies_in}
use Rattle.fir_elaborate.specs.working.CopyPaths.{all_paths_in, paths_below, paths_in}
use Rattle.fir_elaborate.specs.working.OrderedModules as ordered
use Rattle.fir_elaborate.specs.working.OrderedModules.{instances_of}

mutual
  statement_own : (i : Item) → map own_of (instance_in i) ≡ ordered.instances_in (statement_of i)
  statement_own (drive p b ps t) = refl
  statement_own (when p c a b) = map-append own_of (instances_in a) (instances_in b) ∙ ap₂ (λ xs ys. xs ++ ys) (block_own a) (block_own b)
  statement_own (instance i d) = refl

  pub block_own : (is : Items) → map own_of (instances_in is) ≡ instances_of (block_of is)
  block_own done = refl
  block_own ((then) i is) = map-append own_of (instance_in i) (instances_in is) ∙ ap₂ (λ xs ys. xs ++ ys) (statement_own i) (block_own is)

counted_one : (i : Item) (n : Numbering) → count i ≡ sizes count_below (words_of n) (instance_in i)
counted_one i n = omega (arith, counted ((then) i done) (words_of n), ap (sizes count_below (words_of n)) (append-nil (instance_in i)))

arrays_counted_one : (i : Item) → array_count i ≡ sizes array_count_below arrays_of (instance_in i)
arrays_counted_one i =
    omega (arith, arrays_counted ((then) i done) arrays_of, ap (sizes array_count_below arrays_of) (append-nil (instance_in i)))

-- the copies below them, one instance behind the other
module _ (n : Numbering) where
  abbrev pub copies_given : ℕ → ℕ → List Instance → List Copy
  copies_given free array [] = []
  copies_given free array (x ∷ xs) =
      copies_below x.0.module_number (number n x.0.first) free array x.1
      ++ copies_given (free + count_below x.1) (array + array_count_below x.1) xs

  copies_joined : (free from array array_from : ℕ) (xs ys : List Instance) → free + sizes count_below (words_of n) xs ≡ from
      → array + sizes array_count_below arrays_of xs ≡ array_from
      → copies_given free array (xs ++ ys) ≡ copies_given free array xs ++ copies_given from array_from ys
  copies_joined free from array array_from [] ys e h =
      let same : free ≡ from = omega (arith, e) in
      let same_array : array ≡ array_from = omega (arith, h) in
      ap₂ (λ z w. copies_given z w ys) same same_array
  copies_joined free from array array_from (x ∷ xs) ys e h =
      let here = copies_below x.0.module_number (number n x.0.first) free array x.1 in
      let further = free + count_below x.1 in
      let further_array = array + array_count_below x.1 in
      ap (λ ks. here ++ ks) (copies_joined further from further_array array_from xs ys (omega (arith, e)) (omega (arith, h)))
      ∙ sym (append_assoc here (copies_given further further_array xs) (copies_given from array_from ys))

  mutual
    copies_one : (i : Item) (free array : ℕ) → copies_in n free array i ≡ copies_given free array (instance_in i)
    copies_one (drive p b ps t) free array = refl
    copies_one (when p c a b) free array =
        ap₂ (λ xs ys. xs ++ ys) (copies_are a free array) (copies_are b (free + count_all a) (array + array_count_all a))
        ∙ sym (copies_joined free (free + count_all a) array (array + array_count_all a) (instances_in a) (instances_in b)
        (ap (λ z. free + z) (sym (counted a (words_of n)))) (ap (λ z. array + z) (sym (arrays_counted a arrays_of))))
    copies_one (instance i d) free array = sym (append-nil (copies_below i.module_number (number n i.first) free array d))

    pub copies_are : (is : Items) (free array : ℕ) → all_copies_in n free array is ≡ copies_given free array (instances_in is)
    copies_are done free array = refl
    copies_are ((then) i is) free array =
        ap₂ (λ xs ys. xs ++ ys) (copies_one i free array) (copies_are is (free + count i) (array + array_count i))
        ∙ sym (copies_joined free (free + count i) array (array + array_count i) (instance_in i) (instances_in is)
        (ap (λ z. free + z) (sym (counted_one i n))) (ap (λ z. array + z) (sym (arrays_counted_one i))))

-- and their paths
module _ (path : LeafPath) (m : LeafModule) where
  abbrev pub paths_given : Instance → List LeafPath
  paths_given x = paths_below (instance_path path m x.0) x.1

  mutual
    paths_one : (i : Item) → paths_in path m i ≡ flat_map paths_given (instance_in i)
    paths_one (drive p b ps t) = refl
    paths_one (when p c a b) =
        ap₂ (λ xs ys. xs ++ ys) (paths_are a) (paths_are b) ∙ sym (flat_map-append paths_given (instances_in a) (instances_in b))
    paths_one (instance i d) = sym (append-nil (paths_below (instance_path path m i) d))

    pub paths_are : (is : Items) → all_paths_in path m is ≡ flat_map paths_given (instances_in is)
    paths_are done = refl
    paths_are ((then) i is) =
        ap₂ (λ xs ys. xs ++ ys) (paths_one i) (paths_are is) ∙ sym (flat_map-append paths_given (instance_in i) (instances_in is))
