-- No path is that of two arrays of a tree of designs.
use Rattle.std.proofs.Common.{◌≡◌, ℕ, List, [], ◌∷◌, ◌++◌, map, Option, Some, None, refl, sym, ap, ap₂, ◌∙◌, subst, append_assoc, inl, inr, ⊎_elim}
use Rattle.std.proofs.lemmas.List.{map-append}
use Rattle.std.proofs.lemmas.Option.{none-some}
use Rattle.std.proofs.lemmas.Simd.{map-map}
use Rattle.fir_base.specs.Lists.{In, Distinct}
use Rattle.fir_base.proofs.Elements.{get_in}
use Rattle.fir_base.proofs.Members.{in_either, in_map_from, map_same}
use Rattle.fir_base.proofs.Twins.{distinct_joined}
use Rattle.fir_ast.specs.Circuits.{CircuitTree, ModuleTree}
use Rattle.fir_meaning.specs.LeafPaths.{LeafPath, named}
use Rattle.fir_meaning.specs.working.NameGroups.{HasNames}
use Rattle.fir_meaning.specs.ResetJoins.{numbered_module}
use Rattle.fir_meaning.specs.TypeGroup.{type_faults}
use Rattle.fir_meaning.specs.ModuleScenes.{Scene}
use Rattle.fir_meaning.specs.Elaborated.{AreScenes}
use Rattle.fir_meaning.specs.SourceCircuits.{array_path, arrays_of_design, arrays_of_instances, placed_arrays}
use Rattle.fir_meaning.specs.SourceDesigns.{AreInstances, InstanceOf, Instances, IsSourceDesignOf, SourceDesign, held, instances_of_block, made_of, no_instances, scene_where}
use Rattle.fir_meaning.specs.SourceRoles.{SourceArray, source_arrays}
use Rattle.fir_design.proofs.ApartNames.{BeginsAmong}
use Rattle.fir_design.proofs.DistinctElements.{distinct_mapped}
use Rattle.fir_design.proofs.FineScenes.{fine_scene}
use Rattle.fir_design.proofs.InnerNames.{inner_names_distinct}
use Rattle.fir_design.proofs.MemoryArrayNames.{instance_names, module_apart, paths_of_arrays}
use Rattle.fir_design.proofs.NumberedScenes.{scene_numbered, scene_own}

-- the paths of arrays from the module of a tree on
abbrev mutual
  array_paths : SourceDesign → List LeafPath
  array_paths (made_of s is) = paths_of_arrays (source_arrays s) ++ instance_paths is

  instance_paths : Instances → List LeafPath
  instance_paths no_instances = []
  instance_paths (held name d rest) = map (λ (q : LeafPath). named name ∷ q) (array_paths d) ++ instance_paths rest

abbrev behind : LeafPath → List LeafPath → List LeafPath
behind at qs = map (λ (q : LeafPath). at ++ q) qs

-- they are so, behind a path
mutual
  design_paths : (at : LeafPath) (t : SourceDesign) → map array_path (arrays_of_design at t) ≡ behind at (array_paths t)
  design_paths at (made_of s is) =
      map-append array_path (placed_arrays at (source_arrays s)) (arrays_of_instances at is)
      ∙ ap₂ (λ xs ys. xs ++ ys)
      (map-map array_path (λ (a : SourceArray). record { at = at; array = a }) (source_arrays s)
      ∙ sym (map-map (λ (q : LeafPath). at ++ q) (λ (a : SourceArray). a.path) (source_arrays s)))
      (instances_paths at is)
      ∙ sym (map-append (λ (q : LeafPath). at ++ q) (paths_of_arrays (source_arrays s)) (instance_paths is))

  instances_paths : (at : LeafPath) (is : Instances) → map array_path (arrays_of_instances at is) ≡ behind at (instance_paths is)
  instances_paths at no_instances = refl
  instances_paths at (held name d rest) =
      let these = map (λ (q : LeafPath). named name ∷ q) (array_paths d) in
      map-append array_path (arrays_of_design (at ++ named name ∷ []) d) (arrays_of_instances at rest)
      ∙ ap₂ (λ xs ys. xs ++ ys)
      (design_paths (at ++ named name ∷ []) d
      ∙ map_same (λ q. (at ++ named name ∷ []) ++ q) (λ q. at ++ named name ∷ q) (array_paths d)
      (λ q m. append_assoc at (named name ∷ []) q)
      ∙ sym (map-map (λ (q : LeafPath). at ++ q) (λ (q : LeafPath). named name ∷ q) (array_paths d)))
      (instances_paths at rest)
      ∙ sym (map-append (λ (q : LeafPath). at ++ q) these (instance_paths rest))

child_among : (scenes : List Scene) (o : Option (ℕ × ModuleTree)) (child : Scene) → scene_where scenes o ≡ Some child → In scenes child
child_among scenes None child e = absurd (none-some child e)
child_among scenes (Some c) child e = get_in scenes c.0 child e

-- those of instances begin with their names
instances_begin : (scenes : List Scene) (s : Scene) (is : List InstanceOf) (trees : Instances) → AreInstances scenes s is trees
    → (q : LeafPath) → In (instance_paths trees) q → BeginsAmong (instance_names is) q
instances_begin scenes s is no_instances a q m = absurd m
instances_begin scenes s [] (held name d rest) a q m = absurd a
instances_begin scenes s (i ∷ is) (held name d rest) a q m =
    ⊎_elim
    (λ (l : In (map (λ (r : LeafPath). named name ∷ r) (array_paths d)) q).
    let from = in_map_from (λ (r : LeafPath). named name ∷ r) (array_paths d) q l in
    record { name = name; among = inl (sym a.0); rest = from.0; is = sym from.2 })
    (λ (r : In (instance_paths rest) q).
    let g = instances_begin scenes s is rest a.2 q r in record { name = g.name; among = inr g.among; rest = g.rest; is = g.is })
    (in_either (map (λ (r : LeafPath). named name ∷ r) (array_paths d)) (instance_paths rest) q m)

module _ (c : CircuitTree) (names : HasNames c) (types : type_faults c ≡ []) (scenes : List Scene) (are : AreScenes c scenes) where
  mutual
    paths_distinct : (t : SourceDesign) (s : Scene) → In scenes s → IsSourceDesignOf scenes s t → Distinct (array_paths t)
    paths_distinct (made_of u trees) s i h =
        let is = instances_of_block s.own.inside.body in
        let own = module_apart c s names (scene_own c scenes are s i) in
        let once = inner_names_distinct s (fine_scene c s names types (scene_numbered c scenes are s i)) in
        subst (λ z. Distinct (paths_of_arrays (source_arrays z) ++ instance_paths trees)) (sym h.0)
        (distinct_joined (paths_of_arrays (source_arrays s)) (instance_paths trees) (own.paths_once once)
        (instances_distinct trees s is h.1 (own.instances_once once))
        (λ q l r.
        let memory = own.begins q l in
        let instance = instances_begin scenes s is trees h.1 q r in
        let firsts : named memory.name ∷ memory.rest ≡ named instance.name ∷ instance.rest = sym memory.is ∙ instance.is in
        let same : memory.name ≡ instance.name = cc in
        own.apart once memory.name memory.among (subst (In (instance_names is)) (sym same) instance.among)))

    instances_distinct : (trees : Instances) (s : Scene) (is : List InstanceOf) → AreInstances scenes s is trees → Distinct (instance_names is)
        → Distinct (instance_paths trees)
    instances_distinct no_instances s is a d = tt
    instances_distinct (held name t rest) s [] a d = absurd a
    instances_distinct (held name t rest) s (i ∷ is) a d =
        let child = a.1 in
        let these = map (λ (q : LeafPath). named name ∷ q) (array_paths t) in
        let among = child_among scenes (numbered_module 0 s.own.modules i.other.name) child.0 child.1 in
        distinct_joined these (instance_paths rest)
        (distinct_mapped (λ (q : LeafPath). named name ∷ q) (λ p q e. cc) (array_paths t) (paths_distinct t child.0 among child.2))
        (instances_distinct rest s is a.2 d.1)
        (λ q l r.
        let from = in_map_from (λ (p : LeafPath). named name ∷ p) (array_paths t) q l in
        let other = instances_begin scenes s is rest a.2 q r in
        let firsts : named name ∷ from.0 ≡ named other.name ∷ other.rest = from.2 ∙ other.is in
        let same : name ≡ other.name = cc in
        d.0 (subst (In (instance_names is)) (sym same ∙ a.0) other.among))

  same_list : (qs : List LeafPath) → behind [] qs ≡ qs
  same_list [] = refl
  same_list (q ∷ qs) = ap (λ rest. q ∷ rest) (same_list qs)

  pub tree_paths_distinct : (t : SourceDesign) (s : Scene) → In scenes s → IsSourceDesignOf scenes s t
      → Distinct (map array_path (arrays_of_design [] t))
  tree_paths_distinct t s i h = subst Distinct (sym (design_paths [] t ∙ same_list (array_paths t))) (paths_distinct t s i h)
