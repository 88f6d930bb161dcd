-- The words of a design's state are those of its tree, in one order.
use Rattle.std.proofs.Common.{◌≡◌, ℕ, ◌+◌, ◌<◌, List, [], ◌∷◌, ◌++◌, flat_map, map, length, slice_get, Option, Some, refl, sym, ap, ap₂, ◌∙◌, subst, arith, append-nil, length-append}
use Rattle.std.specs.Prelude.{if◌then◌else◌}
use Rattle.std.specs.List.{range_with_len}
use Rattle.std.specs.Str.{bytes_eq}
use Rattle.std.proofs.lemmas.List.{length-drop, length-map}
use Rattle.fir_base.specs.Lists.{In}
use Rattle.fir_ast.specs.Circuits.{CircuitTree}
use Rattle.fir_meaning.specs.Components.{Declaration}
use Rattle.fir_meaning.specs.LeafPaths.{LeafPath, named}
use Rattle.fir_meaning.specs.working.NameGroups.{HasNames}
use Rattle.fir_meaning.specs.TypeGroup.{type_faults}
use Rattle.fir_meaning.specs.Visibility.{declarations}
use Rattle.fir_meaning.specs.working.Designs.{Design, IsDesignOf, Items, made_of}
use Rattle.fir_meaning.specs.working.FlatDesigns.{count_below, inner_leaves}
use Rattle.fir_meaning.specs.working.LeafModules.{LeafModule}
use Rattle.fir_meaning.specs.ModuleScenes.{Scene, behind_all_ports}
use Rattle.fir_meaning.specs.working.LeafedModules.{leafed_module}
use Rattle.fir_meaning.specs.working.Numberings.{number, numbering}
use Rattle.fir_meaning.specs.working.StateWalks.{all_words_in, own_words, words_below}
use Rattle.fir_leaf.proofs.FlatOrders.{walk_same}
use Rattle.fir_leaf.proofs.FlatPlaces.{At, at_right}
use Rattle.fir_leaf.proofs.PortRoles.{leafed_ports}
use Rattle.fir_meaning.specs.Elaborated.{AreScenes}
use Rattle.fir_meaning.specs.working.Elaborated.{views}
use Rattle.fir_design.specs.working.SameRoles.{ViewsHaveRoles}
use Rattle.fir_meaning.specs.SourceCircuits.{PlacedLeaf, leaves_of_design, leaves_of_instances, placed, within, words_of_design, words_of_instance}
use Rattle.fir_meaning.specs.SourceDesigns.{Instances, IsSourceDesignOf, SourceDesign, held, no_instances}
use Rattle.fir_meaning.specs.SourceDesigns as source
use Rattle.fir_design.proofs.DesignInstances.{block_held, counted, given, held_of, instances_in, own_of, words_given, words_of}
use Rattle.fir_design.proofs.DesignsBeside.{AreBeside, IsKept, all_kept}
use Rattle.fir_design.proofs.EmptyPorts.{no_port_words}
use Rattle.fir_design.proofs.FineScenes.{IsFineScene, fine_scene}
use Rattle.fir_design.proofs.GivenInstances.{Agrees, gives, held_by, order_by, sizes_agree}
use Rattle.fir_design.proofs.HeldInstances.{all_held_in}
use Rattle.fir_design.proofs.InsideInstances.{inside_agree, none_in_ports}
use Rattle.fir_design.proofs.LeavesBeside.{block_beside}
use Rattle.fir_design.proofs.NumberedScenes.{scene_numbered}
use Rattle.fir_design.proofs.PlacedRuns.{placed_long}
use Rattle.fir_design.proofs.StatementsPlaced.{inner, others, ports, statements_placed}
use Rattle.fir_design.proofs.WalkedRanges.{IsWalk, both_walks, empty_walk, walk_is}
use Rattle.fir_design.proofs.WordWalks.{block_words, of_instance}

leaves_held : (path : LeafPath) (trees : Instances) (all : List PlacedLeaf)
    → held_by all count_below words_below leaves_of_design words_of_design path trees ≡ leaves_of_instances path trees
leaves_held path no_instances all = refl
leaves_held path (held name t rest) all = ap (λ ps. leaves_of_design (path ++ named name ∷ []) t ++ ps) (leaves_held path rest all)

words_ordered : (path : LeafPath) (trees : Instances) (name : List ℕ) (all : List PlacedLeaf)
    → order_by all count_below words_below leaves_of_design words_of_design path trees name ≡ words_of_instance path trees name
words_ordered path no_instances name all = refl
words_ordered path (held x t rest) name all =
    ap (λ ps. if bytes_eq x name then words_of_design (path ++ named x ∷ []) t else ps) (words_ordered path rest name all)

module _ (roles : ViewsHaveRoles) (c : CircuitTree) (names : HasNames c) (types : type_faults c ≡ []) (scenes : List Scene)
    (are : AreScenes c scenes)
    (all : List PlacedLeaf) where
  abbrev WordsAgree : Design → Scene → SourceDesign → Type 0
  WordsAgree = Agrees all count_below words_below leaves_of_design words_of_design

  module _ (s : Scene) (is : Items) (trees : Instances) (i : In scenes s)
      (e : IsDesignOf (views scenes) (leafed_module s) (made_of (leafed_module s) is))
      (beside : AreBeside scenes WordsAgree s (instances_in is) trees) where
    abbrev m : LeafModule
    m = leafed_module s

    inner_long : (path : LeafPath) → length (inner_leaves m) ≡ length (placed path (map within (inner s)))
    inner_long path =
        omega (
          arith,
          length-drop m.port_leaves m.leaves,
          length-append (ports s) (others s),
          block_beside s s.own.inside.body (behind_all_ports s.own.inside),
          placed_long m all path 0 (inner s),
        )

    long : (path : LeafPath) → count_below (made_of m is) ≡ length (leaves_of_design path (source.made_of s trees))
    long path =
        omega (
          arith,
          inner_long path,
          counted is (gives all count_below words_below leaves_of_design words_of_design scenes s (λ h. 0)),
          sizes_agree all count_below words_below leaves_of_design words_of_design scenes s (λ h. 0) path (instances_in is) trees beside,
          ap length (leaves_held path trees all),
          length-append (placed path (map within (inner s))) (leaves_of_instances path trees),
        )

    fine : IsFineScene s
    fine = fine_scene c s names types (scene_numbered c scenes are s i)

    held_is : map own_of (instances_in is) ≡ map held_of (all_held_in 0 m.body)
    held_is = block_held is 0 ∙ ap (λ b. map held_of (all_held_in 0 b)) e.1

    module _ (path : LeafPath) (first free : ℕ) (at : At all free (leaves_of_design path (source.made_of s trees))) where
      abbrev from : ℕ
      from = free + length (inner_leaves m)

      abbrev inside : ℕ → List ℕ
      inside k = all_words_in (numbering m first free) from k is

      children_at : At all from (held_by all count_below words_below leaves_of_design words_of_design path trees)
      children_at =
          subst (At all from) (sym (leaves_held path trees all))
          (subst (λ z. At all z (leaves_of_instances path trees)) (ap (λ z. free + z) (sym (inner_long path)))
          (at_right all (placed path (map within (inner s))) (leaves_of_instances path trees) free at))

      inside_is : (k : ℕ) → inside k ≡ given count_below (words_of (numbering m first free)) from k (instances_in is)
      inside_is k = words_given (numbering m first free) k is from

      none_before : (k : ℕ) → k < length (behind_all_ports s.own.inside).declared → inside k ≡ []
      none_before k lt =
          inside_is k
          ∙ none_in_ports all count_below words_below leaves_of_design words_of_design scenes s fine (instances_in is) trees held_is beside path
          (λ h. number (numbering m first free) h.first) from k lt

      inside_are : (k : ℕ) (d : Declaration) → slice_get (declarations s.own.inside) k ≡ Some d
          → map (slice_get all) (inside k) ≡ map Some (of_instance (words_of_instance path trees) d.named.name d.component)
      inside_are k d there =
          ap (map (slice_get all)) (inside_is k)
          ∙ inside_agree all count_below words_below leaves_of_design words_of_design scenes s fine (instances_in is) trees held_is beside path
          (λ h. number (numbering m first free) h.first) from (words_of_instance path trees) (λ name. words_ordered path trees name all)
          children_at k d there

      same : map (slice_get all) (words_below first free (made_of m is)) ≡ map Some (words_of_design path (source.made_of s trees))
      same =
          let head = length (behind_all_ports s.own.inside).declared in
          let each : ℕ → List ℕ = λ k. map (number (numbering m first free)) (own_words m k) ++ inside k in
          let seen : ℕ → List (Option PlacedLeaf) = λ k. map (slice_get all) (each k) in
          let room = (leafed_ports scenes s (made_of m is) e).1.0 in
          let before : IsWalk seen 0 head [] =
          empty_walk seen 0 head head (omega arith)
          (λ k lt.
          ap₂ (λ zs ws. map (slice_get all) (map (number (numbering m first free)) zs ++ ws)) (no_port_words s room k lt)
          (none_before k lt)) in
          let behind = block_words s all path first free inside (words_of_instance path trees) inside_are s.own.inside.body
          (behind_all_ports s.own.inside)
          (length (ports s)) ([], append-nil (declarations s.own.inside))
          (statements_placed s all path free trees (roles c s names types (scene_numbered c scenes are s i)).0 at) in
          let declared : length m.declared ≡ length (declarations s.own.inside) =
          length-map (declarations s.own.inside) (λ (d : Declaration). d.named) in
          walk_same m (slice_get all) each seen (λ k. refl)
          ∙ ap (λ n. flat_map seen (range_with_len 0 n)) declared
          ∙ walk_is seen (length (declarations s.own.inside)) _ (both_walks seen 0 head (length (declarations s.own.inside)) [] _ before behind)

  words_kept : IsKept scenes WordsAgree
  words_kept s is trees i e beside = record { long = long s is trees i e beside; same = same s is trees i e beside }

  pub words_agree : (d : Design) (s : Scene) (t : SourceDesign) → In scenes s → IsDesignOf (views scenes) (leafed_module s) d
      → IsSourceDesignOf scenes s t
      → Agrees all count_below words_below leaves_of_design words_of_design d s t
  words_agree d = all_kept scenes WordsAgree c names are words_kept d
