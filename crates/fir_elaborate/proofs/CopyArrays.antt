-- The arrays of a design's circuit are those of the copies of its modules, one copy behind the other.
use Rattle.std.proofs.Common.{◌≡◌, ℕ, ◌+◌, List, [], ◌∷◌, ◌++◌, flat_map, length, map, refl, sym, ap, ap₂, ◌∙◌, arith, append_assoc, length-append}
use Rattle.std.proofs.lemmas.List.{map-append}
use Rattle.std.proofs.lemmas.Simd.{map-map}
use Rattle.fir_base.specs.Lists.{In}
use Rattle.fir_base.proofs.Members.{map_same}
use Rattle.fir_copies.specs.working.Copies.{Copy, all_copies_in, copies_below, copies_in, copies_of}
use Rattle.fir_meaning.specs.LeafPaths.{LeafPath, path_text}
use Rattle.fir_meaning.specs.ModuleScenes.{Scene}
use Rattle.fir_meaning.specs.working.DesignPaths.{instance_path}
use Rattle.fir_meaning.specs.working.Designs.{AreItemsIn, Design, IsDesignOf, IsItemIn, Item, Items, done, drive, instance, made_of, module_of, then, when}
use Rattle.fir_meaning.specs.working.Elaborated.{views}
use Rattle.fir_meaning.specs.working.FlatDesigns.{array_count, array_count_all, count, count_all, inner_leaves}
use Rattle.fir_meaning.specs.working.FlatLeaves.{all_arrays_in, arrays_below, arrays_in, placed_array}
use Rattle.fir_meaning.specs.working.LeafModules.{LeafArray, LeafModule}
use Rattle.fir_meaning.specs.working.Numberings.{Numbering, moved_writing, number, numbering}
use Rattle.fir_elaborate.specs.declared.elaborated.ModuleCopy.{ModuleCopy}
use Rattle.fir_elaborate.specs.working.CopyArrays.{ArraySeen, ArraysAreOfCopies, ArraysAreOfModules, array_behind, array_seen, arrays_at, arrays_by, arrays_of_copy}
use Rattle.fir_elaborate.specs.working.CopyPaths.{all_paths_in, paths_below, paths_in, prefix_text}
use Rattle.fir_elaborate.specs.working.Elaborations.{copy_seen}
use Rattle.fir_elaborate.proofs.CopyPrefixes.{text_then}
use Rattle.fir_elaborate.proofs.NamedArrays.{arrays_named}

module _ (modules : List LeafModule) where
  by_joined : (ks ls : List Copy) (ps qs : List LeafPath) → length ks ≡ length ps
      → arrays_by modules (ks ++ ls) (ps ++ qs) ≡ arrays_by modules ks ps ++ arrays_by modules ls qs
  by_joined [] ls [] qs e = refl
  by_joined [] ls (p ∷ ps) qs e = absurd (omega (arith, e))
  by_joined (k ∷ ks) ls [] qs e = absurd (omega (arith, e))
  by_joined (k ∷ ks) ls (p ∷ ps) qs e =
      let own = arrays_at modules k p in
      ap (λ xs. own ++ xs) (by_joined ks ls ps qs (omega (arith, e))) ∙ sym (append_assoc own (arrays_by modules ks ps) (arrays_by modules ls qs))

  record AreArrays (ks : List Copy) (paths : List LeafPath) (arrays : List LeafArray) : Type 0 where
    count : length ks ≡ length paths
    are : arrays ≡ arrays_by modules ks paths

  no_arrays : AreArrays [] [] []
  no_arrays = record { count = refl; are = refl }

  both_arrays : (ks ls : List Copy) (ps qs : List LeafPath) (us vs : List LeafArray) → AreArrays ks ps us → AreArrays ls qs vs
      → AreArrays (ks ++ ls) (ps ++ qs) (us ++ vs)
  both_arrays ks ls ps qs us vs a b = record {
    count = omega (arith, length-append ks ls, length-append ps qs, a.count, b.count);
    are = ap₂ (λ xs ys. xs ++ ys) a.are b.are ∙ sym (by_joined ks ls ps qs a.count);
  }

  mutual
    item_arrays : (path : LeafPath) (m : LeafModule) (n : Numbering) (free array : ℕ) (x : Item) → IsItemIn modules x
        → AreArrays (copies_in n free array x) (paths_in path m x) (arrays_in path m n free x)
    item_arrays path m n free array (drive p b ps t) h = no_arrays
    item_arrays path m n free array (when p t a b) h =
        both_arrays (all_copies_in n free array a) (all_copies_in n (free + count_all a) (array + array_count_all a) b) (all_paths_in path m a)
        (all_paths_in path m b) (all_arrays_in path m n free a) (all_arrays_in path m n (free + count_all a) b)
        (items_arrays path m n free array a h.0)
        (items_arrays path m n (free + count_all a) (array + array_count_all a) b h.1)
    item_arrays path m n free array (instance y d) h =
        design_arrays (instance_path path m y) y.module_number (number n y.first) free array d h

    items_arrays : (path : LeafPath) (m : LeafModule) (n : Numbering) (free array : ℕ) (xs : Items) → AreItemsIn modules xs
        → AreArrays (all_copies_in n free array xs) (all_paths_in path m xs) (all_arrays_in path m n free xs)
    items_arrays path m n free array done h = no_arrays
    items_arrays path m n free array ((then) x xs) h =
        both_arrays (copies_in n free array x) (all_copies_in n (free + count x) (array + array_count x) xs) (paths_in path m x)
        (all_paths_in path m xs) (arrays_in path m n free x) (all_arrays_in path m n (free + count x) xs)
        (item_arrays path m n free array x h.0)
        (items_arrays path m n (free + count x) (array + array_count x) xs h.1)

    design_arrays : (path : LeafPath) (x first free array : ℕ) (d : Design) → IsDesignOf modules (module_of modules x) d
        → AreArrays (copies_below x first free array d) (paths_below path d) (arrays_below path first free d)
    design_arrays path x first free array (made_of m is) h =
        let rest = items_arrays path m (numbering m first free) (free + length (inner_leaves m)) (array + length m.arrays) is h.2 in
        record {
          count = omega (arith, rest.count);
          are =
              ap₂ (λ xs ys. xs ++ ys) (ap (λ (v : LeafModule). map (placed_array path (numbering v first free)) v.arrays) h.0) rest.are;
        }

pub arrays_of_copies : ArraysAreOfCopies
arrays_of_copies modules x (made_of m is) h = (design_arrays modules [] x 0 m.port_leaves 0 (made_of m is) h).are

-- with their paths as they are printed
module _ (scenes : List Scene) where
  abbrev of_number : ℕ → LeafModule
  of_number x = module_of (views scenes) x

  abbrev seen_at : Copy → List ℕ → List ArraySeen
  seen_at k prefix = map (array_behind prefix (numbering (of_number k.module_number) k.first k.own)) (of_number k.module_number).arrays

  abbrev seen_by : List Copy → List (List ℕ) → List ArraySeen
  seen_by [] [] = []
  seen_by [] (p ∷ ps) = []
  seen_by (k ∷ ks) [] = []
  seen_by (k ∷ ks) (p ∷ ps) = seen_at k p ++ seen_by ks ps

  seen_of_one : (k : Copy) (path : LeafPath) → map array_seen (arrays_at (views scenes) k path) ≡ seen_at k (prefix_text path)
  seen_of_one k path =
      let m = of_number k.module_number in
      let n = numbering m k.first k.own in
      map-map array_seen (placed_array path n) m.arrays
      ∙ map_same (λ a. array_seen (placed_array path n a)) (array_behind (prefix_text path) n) m.arrays each
    where
      each : (a : LeafArray) → In (of_number k.module_number).arrays a
          → array_seen (placed_array path (numbering (of_number k.module_number) k.first k.own) a)
          ≡ array_behind (prefix_text path) (numbering (of_number k.module_number) k.first k.own) a
      each a among =
          let n = numbering (of_number k.module_number) k.first k.own in
          let behind = arrays_named scenes k.module_number a among in
          let text : path_text (path ++ a.path) ≡ prefix_text path ++ path_text a.path =
          ap (λ z. path_text (path ++ z)) behind.1.is ∙ text_then path behind.0 behind.1.rest
          ∙ ap (λ z. prefix_text path ++ path_text z) (sym behind.1.is) in
          ap
          (λ t. record {
            path = t;
            declaration = a.declaration;
            holds = a.holds;
            words = a.words;
            writings = map (moved_writing n) a.writings;
          }) text

  seen_same : (ks : List Copy) (ps : List LeafPath) → map array_seen (arrays_by (views scenes) ks ps) ≡ seen_by ks (map prefix_text ps)
  seen_same [] [] = refl
  seen_same [] (p ∷ ps) = refl
  seen_same (k ∷ ks) [] = refl
  seen_same (k ∷ ks) (p ∷ ps) =
      map-append array_seen (arrays_at (views scenes) k p) (arrays_by (views scenes) ks ps)
      ∙ ap₂ (λ xs ys. xs ++ ys) (seen_of_one k p) (seen_same ks ps)

  by_copies : (ks : List ModuleCopy) → seen_by (map copy_seen ks) (map (λ (k : ModuleCopy). k.prefix) ks) ≡ flat_map (arrays_of_copy scenes) ks
  by_copies [] = refl
  by_copies (k ∷ ks) = ap (λ xs. arrays_of_copy scenes k ++ xs) (by_copies ks)

pub arrays_of_modules : ArraysAreOfModules
arrays_of_modules scenes x d h e elaborated =
    ap (map array_seen) (arrays_of_copies (views scenes) x d h)
    ∙ seen_same scenes (copies_of x d) (paths_below [] d)
    ∙ sym (ap₂ (seen_by scenes) elaborated.copies elaborated.prefixes)
    ∙ by_copies scenes e.copies.items
