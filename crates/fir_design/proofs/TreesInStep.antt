-- The leaves and arrays of a module and of its instances go in step with those of its statements and of the trees of its instances.
use Rattle.std.proofs.Common.{◌≡◌, ℕ, ◌+◌, List, [], ◌∷◌, ◌++◌, map, length, sym, ap, ◌∙◌, subst, arith}
use Rattle.std.proofs.lemmas.List.{append-nil, get_or-map, length-map}
use Rattle.std.proofs.lemmas.List.Concat.{flat_map-append}
use Rattle.fir_base.specs.Lists.{In}
use Rattle.fir_ast.specs.Circuits.{CircuitTree}
use Rattle.fir_meaning.specs.LeafPaths.{LeafPath, named}
use Rattle.fir_meaning.specs.working.NameGroups.{HasNames}
use Rattle.fir_meaning.specs.TypeGroup.{type_faults}
use Rattle.fir_meaning.specs.working.Designs.{Items, made_of}
use Rattle.fir_leaf.specs.working.DesignStates.{no_array}
use Rattle.fir_meaning.specs.working.FlatDesigns.{inner_leaves}
use Rattle.fir_meaning.specs.working.FlatLeaves.{all_arrays_in, all_leaves_in, arrays_below, leaves_below, placed_array, placed_leaf}
use Rattle.fir_meaning.specs.working.LeafCircuits.{LeafCircuit}
use Rattle.fir_meaning.specs.working.LeafModules.{LeafArray, LeafDeclared, LeafModule}
use Rattle.fir_meaning.specs.ModuleScenes.{Scene}
use Rattle.fir_meaning.specs.working.LeafedModules.{leafed_module}
use Rattle.fir_meaning.specs.working.Numberings.{Numbering, numbering}
use Rattle.fir_leaf.proofs.FlatPlaces.{At, at_get, at_left, at_room}
use Rattle.fir_leaf.proofs.MovedTerms.{Stands}
use Rattle.fir_meaning.specs.Elaborated.{AreScenes}
use Rattle.fir_design.specs.working.SameRoles.{ViewsHaveRoles}
use Rattle.fir_meaning.specs.SourceCircuits.{PlacedArray, PlacedLeaf, arrays_of_design, leaves_of_design, placed, placed_arrays}
use Rattle.fir_meaning.specs.SourceCircuits as sources
use Rattle.fir_meaning.specs.SourceDesigns.{Instances, IsSourceDesignOf, SourceDesign}
use Rattle.fir_meaning.specs.SourceDesigns as source
use Rattle.fir_meaning.specs.SourceRoles.{source_arrays}
use Rattle.fir_design.proofs.FineScenes.{fine_scene}
use Rattle.fir_design.proofs.InStep.{SameArray}
use Rattle.fir_design.proofs.InstanceTrees.{NamedTree, arrays_by_trees, arrays_of_trees, leaves_by_trees, leaves_of_trees, trees_in}
use Rattle.fir_design.proofs.ListsInStep.{AreInStep, step_joined}
use Rattle.fir_design.proofs.ModulesInStep.{arrays_in_step, inner_in_step}
use Rattle.fir_design.proofs.NumberedScenes.{scene_numbered}
use Rattle.fir_design.proofs.PortsInStep.{LeafInStep}
use Rattle.fir_design.proofs.RolesBelow.{ArraysStand}

-- a module's own arrays stand where they are listed
arrays_stand : (c : LeafCircuit) (path : LeafPath) (n : Numbering) (first : ℕ) (m : LeafModule) (rest : List LeafArray)
    → At c.arrays first (map (placed_array path n) m.arrays ++ rest) → ArraysStand c path first m
arrays_stand c path n first m rest at =
    let these = map (placed_array path n) m.arrays in
    let own : At c.arrays first these = at_left c.arrays these rest first at in
    let long : length these ≡ length m.arrays = length-map m.arrays (placed_array path n) in
    record {
      within = λ x lt. omega (arith, lt, long, at_room c.arrays these first own);
      path = λ x lt.
          ap (λ (a : LeafArray). a.path)
          (at_get c.arrays these first x no_array own (omega (arith, lt, long)) ∙ get_or-map (placed_array path n) m.arrays x no_array no_array lt);
    }

-- of both lists
pub record BothInStep (c : LeafCircuit) (ls : List LeafDeclared) (ps : List PlacedLeaf) (xs : List LeafArray) (ys : List PlacedArray) : Type 0 where
  pub leaves : AreInStep (LeafInStep c) ls ps
  pub arrays : AreInStep (SameArray c) xs ys

both_joined : (c : LeafCircuit) (ls ms : List LeafDeclared) (ps qs : List PlacedLeaf) (xs ws : List LeafArray) (ys zs : List PlacedArray)
    → BothInStep c ls ps xs ys → BothInStep c ms qs ws zs → BothInStep c (ls ++ ms) (ps ++ qs) (xs ++ ws) (ys ++ zs)
both_joined c ls ms ps qs xs ws ys zs a b = record {
  leaves = step_joined (LeafInStep c) ls ms ps qs a.leaves b.leaves;
  arrays = step_joined (SameArray c) xs ws ys zs a.arrays b.arrays;
}

module _ (c : LeafCircuit) where
  -- of the instances in statements, with their trees
  abbrev pub TreesInStep : LeafPath → List LeafDeclared → List LeafArray → List NamedTree → Type 0
  TreesInStep path ls xs es = BothInStep c ls (leaves_of_trees path es) xs (arrays_of_trees path es)

  pub trees_joined : (path : LeafPath) (ls ms : List LeafDeclared) (xs ws : List LeafArray) (us vs es : List NamedTree) → es ≡ us ++ vs
      → TreesInStep path ls xs us → TreesInStep path ms ws vs → TreesInStep path (ls ++ ms) (xs ++ ws) es
  trees_joined path ls ms xs ws us vs es e a b =
      subst (TreesInStep path (ls ++ ms) (xs ++ ws)) (sym e)
      (rw (
        flat_map-append (λ (t : NamedTree). leaves_of_design (path ++ named t.name ∷ []) t.tree) us vs,
        flat_map-append (λ (t : NamedTree). arrays_of_design (path ++ named t.name ∷ []) t.tree) us vs,
      )
      (both_joined c ls ms (leaves_of_trees path us) (leaves_of_trees path vs) xs ws (arrays_of_trees path us) (arrays_of_trees path vs) a b))

  -- of one
  pub one_tree : (path : LeafPath) (ls : List LeafDeclared) (xs : List LeafArray) (e : NamedTree)
      → BothInStep c ls (leaves_of_design (path ++ named e.name ∷ []) e.tree) xs (arrays_of_design (path ++ named e.name ∷ []) e.tree)
      → TreesInStep path ls xs (e ∷ [])
  one_tree path ls xs e h =
      rw (
        append-nil (leaves_of_design (path ++ named e.name ∷ []) e.tree),
        append-nil (arrays_of_design (path ++ named e.name ∷ []) e.tree),
      ) h

module _ (circuit : CircuitTree) (names : HasNames circuit) (types : type_faults circuit ≡ []) (scenes : List Scene)
    (are : AreScenes circuit scenes)
    (roles : ViewsHaveRoles) (c : LeafCircuit) where
  -- a module's own, and those of its instances
  pub made_in_step : (s : Scene) → In scenes s → (trees : Instances) (path : LeafPath) (k first free array : ℕ) (is : Items)
      → Stands c.leaves (numbering (leafed_module s) first free) path k (leafed_module s)
      → At c.arrays array (arrays_below path first free (made_of (leafed_module s) is))
      → TreesInStep c path
      (all_leaves_in path k (leafed_module s) (numbering (leafed_module s) first free) (free + length (inner_leaves (leafed_module s)))
      (array + length (leafed_module s).arrays) is)
      (all_arrays_in path (leafed_module s) (numbering (leafed_module s) first free) (free + length (inner_leaves (leafed_module s))) is)
      (trees_in trees)
      → BothInStep c (leaves_below path k first free array (made_of (leafed_module s) is)) (leaves_of_design path (source.made_of s trees))
      (arrays_below path first free (made_of (leafed_module s) is)) (arrays_of_design path (source.made_of s trees))
  made_in_step s i trees path k first free array is st at inside =
      let m = leafed_module s in
      let n = numbering m first free in
      let numbered = scene_numbered circuit scenes are s i in
      let same = roles circuit s names types numbered in
      let others = all_leaves_in path k m n (free + length (inner_leaves m)) (array + length m.arrays) is in
      let other_arrays = all_arrays_in path m n (free + length (inner_leaves m)) is in
      let stand = arrays_stand c path n array m other_arrays at in
      both_joined c (map (placed_leaf path k n array) (inner_leaves m)) others (placed path (sources.inner_leaves s))
      (sources.leaves_of_instances path trees)
      (map (placed_array path n) m.arrays) other_arrays (placed_arrays path (source_arrays s)) (sources.arrays_of_instances path trees)
      (record {
        leaves = inner_in_step c n path k s st array stand (fine_scene circuit s names types numbered) same.0;
        arrays = arrays_in_step c n path k s st same.1;
      })
      (subst (λ ps. BothInStep c others ps other_arrays (sources.arrays_of_instances path trees)) (leaves_by_trees path trees)
      (subst (λ ys. BothInStep c others (leaves_of_trees path (trees_in trees)) other_arrays ys) (arrays_by_trees path trees) inside))
