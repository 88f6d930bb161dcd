-- The tree below the instance of a name.
use Rattle.std.proofs.Common.{◌≡◌, ℕ, List, [], ◌∷◌, ◌++◌, Bool, true, false, if◌then◌else◌, slice_get, Option, Some, None, refl, sym, ap, ◌∙◌, inl, inr}
use Rattle.std.specs.Str.{bytes_eq}
use Rattle.std.proofs.lemmas.List.{append-nil}
use Rattle.std.proofs.lemmas.Option.{none-some, same_Some}
use Rattle.fir_base.specs.Lists.{In}
use Rattle.fir_base.proofs.SameNames.{name_apart, name_is}
use Rattle.fir_ast.specs.Circuits.{CircuitTree}
use Rattle.fir_meaning.specs.LeafPaths.{LeafPath, named}
use Rattle.fir_meaning.specs.working.NameGroups.{HasNames}
use Rattle.fir_meaning.specs.ResetJoins.{numbered_module}
use Rattle.fir_meaning.specs.Visibility.{declarations}
use Rattle.fir_meaning.specs.working.DesignPaths.{instance_name}
use Rattle.fir_meaning.specs.PathStores.{DesignStore}
use Rattle.fir_meaning.specs.ModuleScenes.{Scene, behind_all_ports}
use Rattle.fir_meaning.specs.working.LeafedModules.{driven_leaves, leafed_module}
use Rattle.fir_meaning.specs.TreeValues.{TypesByPath, ValuesByPath}
use Rattle.fir_leaf.proofs.DeclaredLeaves.{IsOwn}
use Rattle.fir_meaning.specs.SourceDesigns.{AreInstances, InstanceOf, Instances, IsSourceDesignOf, SourceDesign, held, no_instances, scene_of, scene_where}
use Rattle.fir_meaning.specs.SourceStores.{Gifts, exec_design, exec_instances}
use Rattle.fir_design.proofs.FineScenes.{IsFineScene}
use Rattle.fir_design.proofs.FoundInstances.{instances_found, instances_in, one_module}
use Rattle.fir_design.proofs.HeldInstances.{Held, all_held_in}
use Rattle.fir_design.proofs.SourceInstances.{AreSame, block_same, instance_beside}

abbrev pub tree_named : Instances → List ℕ → Option SourceDesign
tree_named no_instances name = None
tree_named (held x d rest) name = if bytes_eq x name then Some d else tree_named rest name

-- the instance of a name stores what its tree stores
pub named_runs : {V : Type 0} → (holds : TypesByPath) (env : ValuesByPath) (gifts : LeafPath → Gifts V) (path : LeafPath) (is : Instances)
    (name : List ℕ) (tree : SourceDesign) (store : DesignStore V) → tree_named is name ≡ Some tree
    → exec_instances holds env gifts path is name store ≡ exec_design holds env gifts (path ++ named name ∷ []) tree store
named_runs holds env gifts path no_instances name tree store e = absurd (none-some tree e)
named_runs {V} holds env gifts path (held x d rest) name tree store e =
    by (bytes_eq x name) refl e (λ h. named_runs holds env gifts path rest name tree store h)
  where
    by : (b : Bool) → bytes_eq x name ≡ b → (if b then Some d else tree_named rest name) ≡ Some tree
        → (tree_named rest name ≡ Some tree
        → exec_instances holds env gifts path rest name store ≡ exec_design holds env gifts (path ++ named name ∷ []) tree store)
        → (if b then exec_design holds env gifts (path ++ named x ∷ []) d store else exec_instances holds env gifts path rest name store)
        ≡ exec_design holds env gifts (path ++ named name ∷ []) tree store
    by true t h more =
        let same : d ≡ tree = same_Some d tree h in
        let name_same : x ≡ name = name_is x name t in
        rw (same, name_same) refl
    by false t h more = more h

module _ (scenes : List Scene) (s : Scene) where
  -- a tree that is found under a name, and an instance of the name that it is of
  record TreeFound (is : List InstanceOf) (trees : Instances) (name : List ℕ) : Type 0 where
    tree : SourceDesign
    found : tree_named trees name ≡ Some tree
    own : InstanceOf
    among : In is own
    named_so : own.named.name ≡ name
    child : Scene
    at : scene_of scenes s own ≡ Some child
    is_tree : IsSourceDesignOf scenes child tree

  tree_found : (is : List InstanceOf) (trees : Instances) → AreInstances scenes s is trees → (i : InstanceOf) → In is i
      → TreeFound is trees i.named.name
  tree_found [] trees a i m = absurd m
  tree_found (x ∷ is) no_instances a i m = absurd a
  tree_found (x ∷ is) (held name d rest) a i m =
      by (bytes_eq name i.named.name) refl m (λ r. tree_found is rest a.2 i r)
    where
      by : (b : Bool) → bytes_eq name i.named.name ≡ b → In (x ∷ is) i → (In is i → TreeFound is rest i.named.name)
          → TreeFound (x ∷ is) (held name d rest) i.named.name
      by true t m more = record {
        tree = d;
        found = rw t refl;
        own = x;
        among = inl refl;
        named_so = sym a.0 ∙ name_is name i.named.name t;
        child = a.1.0;
        at = a.1.1;
        is_tree = a.1.2;
      }
      by false t (inl e) more = absurd (name_apart name i.named.name t (a.0 ∙ ap (λ (y : InstanceOf). y.named.name) e))
      by false t (inr r) more =
          let later = more r in
          record {
            tree = later.tree;
            found = rw t later.found;
            own = later.own;
            among = inr later.among;
            named_so = later.named_so;
            child = later.child;
            at = later.at;
            is_tree = later.is_tree;
          }

  -- the tree of an instance over leaves, of its module's scene
  pub record HasTree (trees : Instances) (h : Held) : Type 0 where
    pub child : Scene
    pub at : slice_get scenes h.own.module_number ≡ Some child
    pub tree : SourceDesign
    pub is : IsSourceDesignOf scenes child tree
    pub found : tree_named trees (instance_name (leafed_module s) h.own) ≡ Some tree

  pub has_trees : (c : CircuitTree) → HasNames c → IsOwn c.modules s.own → IsFineScene s → (trees : Instances)
      → AreInstances scenes s (instances_in s) trees → (h : Held) → In (all_held_in 0 (leafed_module s).body) h → HasTree trees h
  has_trees c names own f trees a h m =
      let all = declarations s.own.inside in
      let helds = all_held_in 0 (leafed_module s).body in
      let same : AreSame s.own.modules all helds (instances_in s) =
      block_same s.own.modules all (driven_leaves s) s.own.inside.body (behind_all_ports s.own.inside) 0 ([], append-nil all)
      (instances_found c s names own) in
      let i = instance_beside s.own.modules all helds (instances_in s) same h m in
      let t = tree_found (instances_in s) trees a i.0 i.1 in
      let one : t.own.other.name ≡ i.0.other.name = one_module s f t.own i.0 t.among i.1 t.named_so in
      record {
        child = t.child;
        at = sym (ap (λ name. scene_where scenes (numbered_module 0 s.own.modules name)) one ∙ ap (scene_where scenes) i.2.found) ∙ t.at;
        tree = t.tree;
        is = t.is_tree;
        found = ap (tree_named trees) i.2.name ∙ t.found;
      }
