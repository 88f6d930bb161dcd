-- The arrays of a design's state are those of its tree, in one order.
use Rattle.std.proofs.Common.{◌≡◌, ℕ, ◌+◌, ◌<◌, List, [], ◌∷◌, ◌++◌, flat_map, map, length, slice_get, Option, Some, refl, sym, ap, ap₂, ◌∙◌, subst, arith, append-nil, length-append}
use Rattle.std.specs.Prelude.{if◌then◌else◌}
use Rattle.std.specs.List.{range_with_len}
use Rattle.std.specs.Str.{bytes_eq}
use Rattle.std.proofs.lemmas.List.{length-map}
use Rattle.fir_base.specs.Lists.{In}
use Rattle.fir_ast.specs.Circuits.{CircuitTree}
use Rattle.fir_meaning.specs.Components.{Declaration}
use Rattle.fir_meaning.specs.LeafPaths.{LeafPath, named}
use Rattle.fir_meaning.specs.working.NameGroups.{HasNames}
use Rattle.fir_meaning.specs.TypeGroup.{type_faults}
use Rattle.fir_meaning.specs.Visibility.{declarations}
use Rattle.fir_meaning.specs.working.Designs.{Design, IsDesignOf, Items, made_of}
use Rattle.fir_meaning.specs.working.FlatDesigns.{array_count_below}
use Rattle.fir_meaning.specs.working.LeafModules.{LeafModule}
use Rattle.fir_meaning.specs.ModuleScenes.{Scene, behind_all_ports}
use Rattle.fir_meaning.specs.working.LeafedModules.{leafed_module}
use Rattle.fir_meaning.specs.working.StateWalks.{all_array_order_in, array_order_below, own_arrays}
use Rattle.fir_leaf.proofs.FlatOrders.{walk_same}
use Rattle.fir_leaf.proofs.FlatPlaces.{At, at_left, at_right}
use Rattle.fir_meaning.specs.Elaborated.{AreScenes}
use Rattle.fir_meaning.specs.working.Elaborated.{views}
use Rattle.fir_design.specs.working.SameRoles.{ViewsHaveRoles}
use Rattle.fir_meaning.specs.SourceCircuits.{PlacedArray, array_order_of_design, array_order_of_instance, arrays_of_design, arrays_of_instances, placed_arrays}
use Rattle.fir_meaning.specs.SourceDesigns.{Instances, IsSourceDesignOf, SourceDesign, held, no_instances}
use Rattle.fir_meaning.specs.SourceDesigns as source
use Rattle.fir_meaning.specs.SourceRoles.{source_arrays}
use Rattle.fir_design.proofs.ArrayRuns.{block_beside}
use Rattle.fir_design.proofs.ArrayWalks.{block_arrays}
use Rattle.fir_design.proofs.DesignInstances.{block_held, given, held_of, instances_in, own_of}
use Rattle.fir_design.proofs.DesignsBeside.{AreBeside, IsKept, all_kept}
use Rattle.fir_design.proofs.EmptyPorts.{no_port_arrays}
use Rattle.fir_design.proofs.FineScenes.{IsFineScene, fine_scene}
use Rattle.fir_design.proofs.GivenInstances.{Agrees, gives, held_by, order_by, sizes_agree}
use Rattle.fir_design.proofs.HeldInstances.{all_held_in}
use Rattle.fir_design.proofs.InsideInstances.{inside_agree, none_in_ports}
use Rattle.fir_design.proofs.InstanceArrays.{arrays_counted, arrays_given, arrays_of}
use Rattle.fir_design.proofs.NumberedScenes.{scene_numbered}
use Rattle.fir_design.proofs.OwnArrays.{ArePlaced, arrays_long}
use Rattle.fir_design.proofs.WalkedRanges.{IsWalk, both_walks, empty_walk, walk_is}
use Rattle.fir_design.proofs.WordWalks.{of_instance}

-- the numbers of a design's arrays, from one on
abbrev pub arrays_from : ℕ → ℕ → Design → List ℕ
arrays_from first array d = array_order_below array d

arrays_held : (path : LeafPath) (trees : Instances) (all : List PlacedArray)
    → held_by all array_count_below arrays_from arrays_of_design array_order_of_design path trees ≡ arrays_of_instances path trees
arrays_held path no_instances all = refl
arrays_held path (held name t rest) all = ap (λ ps. arrays_of_design (path ++ named name ∷ []) t ++ ps) (arrays_held path rest all)

arrays_ordered : (path : LeafPath) (trees : Instances) (name : List ℕ) (all : List PlacedArray)
    → order_by all array_count_below arrays_from arrays_of_design array_order_of_design path trees name ≡ array_order_of_instance path trees name
arrays_ordered path no_instances name all = refl
arrays_ordered path (held x t rest) name all =
    ap (λ ps. if bytes_eq x name then array_order_of_design (path ++ named x ∷ []) t else ps) (arrays_ordered path rest name all)

module _ (roles : ViewsHaveRoles) (c : CircuitTree) (names : HasNames c) (types : type_faults c ≡ []) (scenes : List Scene)
    (are : AreScenes c scenes)
    (all : List PlacedArray) where
  abbrev ArraysAgree : Design → Scene → SourceDesign → Type 0
  ArraysAgree = Agrees all array_count_below arrays_from arrays_of_design array_order_of_design

  module _ (s : Scene) (is : Items) (trees : Instances) (i : In scenes s)
      (e : IsDesignOf (views scenes) (leafed_module s) (made_of (leafed_module s) is))
      (beside : AreBeside scenes ArraysAgree s (instances_in is) trees) where
    abbrev m : LeafModule
    m = leafed_module s

    own_long : (path : LeafPath) → length m.arrays ≡ length (placed_arrays path (source_arrays s))
    own_long path = omega (arith, block_beside s s.own.inside.body (behind_all_ports s.own.inside), arrays_long m all path 0 (source_arrays s))

    long : (path : LeafPath) → array_count_below (made_of m is) ≡ length (arrays_of_design path (source.made_of s trees))
    long path =
        omega (
          arith,
          own_long path,
          arrays_counted is (gives all array_count_below arrays_from arrays_of_design array_order_of_design scenes s (λ h. 0)),
          sizes_agree all array_count_below arrays_from arrays_of_design array_order_of_design scenes s (λ h. 0) path (instances_in is) trees beside,
          ap length (arrays_held path trees all),
          length-append (placed_arrays path (source_arrays s)) (arrays_of_instances path trees),
        )

    fine : IsFineScene s
    fine = fine_scene c s names types (scene_numbered c scenes are s i)

    held_is : map own_of (instances_in is) ≡ map held_of (all_held_in 0 m.body)
    held_is = block_held is 0 ∙ ap (λ b. map held_of (all_held_in 0 b)) e.1

    module _ (path : LeafPath) (first array : ℕ) (at : At all array (arrays_of_design path (source.made_of s trees))) where
      abbrev from : ℕ
      from = array + length m.arrays

      abbrev inside : ℕ → List ℕ
      inside k = all_array_order_in from k is

      children_at : At all from (held_by all array_count_below arrays_from arrays_of_design array_order_of_design path trees)
      children_at =
          subst (At all from) (sym (arrays_held path trees all))
          (subst (λ z. At all z (arrays_of_instances path trees)) (ap (λ z. array + z) (sym (own_long path)))
          (at_right all (placed_arrays path (source_arrays s)) (arrays_of_instances path trees) array at))

      inside_is : (k : ℕ) → inside k ≡ given array_count_below arrays_of from k (instances_in is)
      inside_is k = arrays_given k is from

      none_before : (k : ℕ) → k < length (behind_all_ports s.own.inside).declared → inside k ≡ []
      none_before k lt =
          inside_is k
          ∙ none_in_ports all array_count_below arrays_from arrays_of_design array_order_of_design scenes s fine (instances_in is) trees held_is
          beside path (λ h. 0) from k lt

      inside_are : (k : ℕ) (d : Declaration) → slice_get (declarations s.own.inside) k ≡ Some d
          → map (slice_get all) (inside k) ≡ map Some (of_instance (array_order_of_instance path trees) d.named.name d.component)
      inside_are k d there =
          ap (map (slice_get all)) (inside_is k)
          ∙ inside_agree all array_count_below arrays_from arrays_of_design array_order_of_design scenes s fine (instances_in is) trees held_is
          beside path (λ h. 0) from (array_order_of_instance path trees) (λ name. arrays_ordered path trees name all) children_at k d there

      all_placed : ArePlaced m all path array (length (behind_all_ports s.own.inside).declared) (length (declarations s.own.inside)) 0 m.arrays
          (source_arrays s)
      all_placed = record {
        alone = record { front = []; after = []; is = sym (append-nil m.arrays); long = refl; low = λ a j. absurd j; high = λ a j. absurd j };
        same = (roles c s names types (scene_numbered c scenes are s i)).1;
        there =
            let here : array ≡ array + 0 = omega arith in
            subst (λ z. At all z (placed_arrays path (source_arrays s))) here
            (at_left all (placed_arrays path (source_arrays s)) (arrays_of_instances path trees) array at);
      }

      same : map (slice_get all) (array_order_below array (made_of m is)) ≡ map Some (array_order_of_design path (source.made_of s trees))
      same =
          let head = length (behind_all_ports s.own.inside).declared in
          let each : ℕ → List ℕ = λ k. map (λ x. array + x) (own_arrays m k) ++ inside k in
          let seen : ℕ → List (Option PlacedArray) = λ k. map (slice_get all) (each k) in
          let before : IsWalk seen 0 head [] =
          empty_walk seen 0 head head (omega arith)
          (λ k lt.
          ap₂ (λ zs ws. map (slice_get all) (map (λ x. array + x) zs ++ ws)) (no_port_arrays s k lt)
          (none_before k lt)) in
          let behind = block_arrays s all path array inside (array_order_of_instance path trees) inside_are s.own.inside.body
          (behind_all_ports s.own.inside) 0 ([], append-nil (declarations s.own.inside)) all_placed in
          let declared : length m.declared ≡ length (declarations s.own.inside) =
          length-map (declarations s.own.inside) (λ (d : Declaration). d.named) in
          walk_same m (slice_get all) each seen (λ k. refl)
          ∙ ap (λ n. flat_map seen (range_with_len 0 n)) declared
          ∙ walk_is seen (length (declarations s.own.inside)) _ (both_walks seen 0 head (length (declarations s.own.inside)) [] _ before behind)

  arrays_kept : IsKept scenes ArraysAgree
  arrays_kept s is trees i e beside = record { long = long s is trees i e beside; same = same s is trees i e beside }

  pub arrays_agree : (d : Design) (s : Scene) (t : SourceDesign) → In scenes s → IsDesignOf (views scenes) (leafed_module s) d
      → IsSourceDesignOf scenes s t
      → Agrees all array_count_below arrays_from arrays_of_design array_order_of_design d s t
  arrays_agree d = all_kept scenes ArraysAgree c names are arrays_kept d
