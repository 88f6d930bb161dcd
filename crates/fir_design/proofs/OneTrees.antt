-- A module that has a design has one tree of designs.
use Rattle.std.proofs.Common.{◌≡◌, ℕ, ◌+◌, List, [], ◌∷◌, slice_get, Some, refl, sym, ap, ◌∙◌, subst, inl, inr, ⊎_elim}
use Rattle.std.proofs.lemmas.Option.{same_Some}
use Rattle.std.proofs.lemmas.List.{append-nil}
use Rattle.fir_base.specs.Lists.{In}
use Rattle.fir_base.proofs.Elements.{get_in}
use Rattle.fir_base.proofs.Members.{in_either}
use Rattle.fir_ast.specs.Circuits.{CircuitTree}
use Rattle.fir_meaning.specs.working.NameGroups.{HasNames}
use Rattle.fir_meaning.specs.ResetJoins.{numbered_module}
use Rattle.fir_meaning.specs.Visibility.{declarations}
use Rattle.fir_meaning.specs.working.Designs.{Item, drive, when, instance, Items, done, then, Design, made_of, statement_of, block_of, IsItemIn, AreItemsIn, IsDesignOf}
use Rattle.fir_meaning.specs.ModuleScenes.{Scene, behind_all_ports}
use Rattle.fir_meaning.specs.working.LeafedModules.{driven_leaves, leafed_module}
use Rattle.fir_meaning.specs.Elaborated.{AreScenes}
use Rattle.fir_meaning.specs.working.Elaborated.{views}
use Rattle.fir_meaning.specs.SourceDesigns.{AreInstances, InstanceOf, Instances, IsSourceDesignOf, SourceDesign, held, no_instances, scene_of, scene_where}
use Rattle.fir_meaning.specs.SourceDesigns as source
use Rattle.fir_design.specs.working.SourceLaws.{HasOneTree}
use Rattle.fir_design.proofs.FoundInstances.{instances_found, instances_in}
use Rattle.fir_design.proofs.HeldInstances.{Held, all_held_in, held_in}
use Rattle.fir_design.proofs.NumberedScenes.{child_numbered, scene_own, scene_there, view_at}
use Rattle.fir_design.proofs.SourceInstances.{AreSame, block_same, held_beside}

module _ (scenes : List Scene) where
  pub record IsOneTree (s : Scene) : Type 0 where
    pub tree : SourceDesign
    pub is : IsSourceDesignOf scenes s tree
    pub only : (other : SourceDesign) → IsSourceDesignOf scenes s other → other ≡ tree

  -- an instance whose module has one
  record HasOne (s : Scene) (i : InstanceOf) : Type 0 where
    child : Scene
    at : scene_of scenes s i ≡ Some child
    one : IsOneTree child

  record AreOneTree (s : Scene) (is : List InstanceOf) : Type 0 where
    trees : Instances
    are : AreInstances scenes s is trees
    only : (others : Instances) → AreInstances scenes s is others → others ≡ trees

  no_others : (s : Scene) (others : Instances) → AreInstances scenes s [] others → others ≡ no_instances
  no_others s no_instances a = refl
  no_others s (held name d rest) a = absurd a

  more_others : (s : Scene) (i : InstanceOf) (more : List InstanceOf) (one : HasOne s i) (rest : AreOneTree s more) (others : Instances)
      → AreInstances scenes s (i ∷ more) others → others ≡ held i.named.name one.one.tree rest.trees
  more_others s i more one rest no_instances a = absurd a
  more_others s i more one rest (held name d ds) a =
      let child : a.1.0 ≡ one.child = same_Some a.1.0 one.child (sym a.1.1 ∙ one.at) in
      let tree : d ≡ one.one.tree = one.one.only d (subst (λ x. IsSourceDesignOf scenes x d) child a.1.2) in
      let name_is : name ≡ i.named.name = a.0 in
      let rest_is : ds ≡ rest.trees = rest.only ds a.2 in
      rw (name_is, tree, rest_is) refl

  instances_one : (s : Scene) (is : List InstanceOf) → ((i : InstanceOf) → In is i → HasOne s i) → AreOneTree s is
  instances_one s [] h = record { trees = no_instances; are = tt; only = no_others s }
  instances_one s (i ∷ more) h =
      let one = h i (inl refl) in
      let rest = instances_one s more (λ j m. h j (inr m)) in
      record {
        trees = held i.named.name one.one.tree rest.trees;
        are = (refl, (one.child, one.at, one.one.is), rest.are);
        only = more_others s i more one rest;
      }

  other_trees : (s : Scene) (all : AreOneTree s (instances_in s)) (other : SourceDesign) → IsSourceDesignOf scenes s other
      → other ≡ source.made_of s all.trees
  other_trees s all (source.made_of t is) e =
      let same : t ≡ s = e.0 in
      let trees : is ≡ all.trees = all.only is e.1 in
      rw (same, trees) refl

  tree_of_instances : (s : Scene) → AreOneTree s (instances_in s) → IsOneTree s
  tree_of_instances s all = record { tree = source.made_of s all.trees; is = (refl, all.are); only = other_trees s all }

module _ (c : CircuitTree) (names : HasNames c) (scenes : List Scene) (are : AreScenes c scenes) where
  -- the modules of instances over leaves have one each
  abbrev OneEach : List Held → Type 0
  OneEach hs = (h : Held) → In hs h → (child : Scene) → slice_get scenes h.own.module_number ≡ Some child → IsOneTree scenes child

  scene_one : (s : Scene) → In scenes s → OneEach (all_held_in 0 (leafed_module s).body) → IsOneTree scenes s
  scene_one s i ones = tree_of_instances scenes s (instances_one scenes s (instances_in s) has)
    where
      all : AreSame s.own.modules (declarations s.own.inside) (all_held_in 0 (leafed_module s).body) (instances_in s)
      all =
          block_same s.own.modules (declarations s.own.inside) (driven_leaves s) s.own.inside.body (behind_all_ports s.own.inside) 0
          ([], append-nil (declarations s.own.inside)) (instances_found c s names (scene_own c scenes are s i))

      has : (x : InstanceOf) → In (instances_in s) x → HasOne scenes s x
      has x m =
          let h = held_beside s.own.modules (declarations s.own.inside) (all_held_in 0 (leafed_module s).body) (instances_in s) all x m in
          let own = scene_own c scenes are s i in
          let is = child_numbered c x.other.name h.0.own.module_number h.2.child
          (ap (λ ms. numbered_module 0 ms x.other.name) (sym own.modules) ∙ h.2.found) in
          let child = scene_there c scenes are h.0.own.module_number h.2.child is.there in
          record {
            child = child.0;
            at = ap (scene_where scenes) h.2.found ∙ child.1;
            one = ones h.0 h.1 child.0 child.1;
          }

  mutual
    item_ones : (i : Item) (k : ℕ) → IsItemIn (views scenes) i → OneEach (held_in k (statement_of i))
    item_ones (drive p b ps t) k e h m child at = absurd m
    item_ones (when p t a b) k e h m child at =
        ⊎_elim
        (λ (l : In (all_held_in (k + 1) (block_of a)) h). items_ones a (k + 1) e.0 h l child at)
        (λ (r : In (all_held_in (k + 1) (block_of b)) h). items_ones b (k + 1) e.1 h r child at)
        (in_either (all_held_in (k + 1) (block_of a)) (all_held_in (k + 1) (block_of b)) h m)
    item_ones (instance i d) k e h m child at =
        ⊎_elim
        (λ (q : record { depth = k; own = i } ≡ h).
        let same : slice_get scenes i.module_number ≡ Some child = ap (λ (x : Held). slice_get scenes x.own.module_number) q ∙ at in
        design_one d child (get_in scenes i.module_number child same)
        (subst (λ v. IsDesignOf (views scenes) v d) (view_at scenes i.module_number child same) e))
        (λ (n : ⊥). absurd n) m

    items_ones : (is : Items) (k : ℕ) → AreItemsIn (views scenes) is → OneEach (all_held_in k (block_of is))
    items_ones done k e h m child at = absurd m
    items_ones ((then) i is) k e h m child at =
        ⊎_elim
        (λ (l : In (held_in k (statement_of i)) h). item_ones i k e.0 h l child at)
        (λ (r : In (all_held_in k (block_of is)) h). items_ones is k e.1 h r child at)
        (in_either (held_in k (statement_of i)) (all_held_in k (block_of is)) h m)

    design_one : (d : Design) (s : Scene) → In scenes s → IsDesignOf (views scenes) (leafed_module s) d → IsOneTree scenes s
    design_one (made_of m is) s i e = scene_one s i (λ h x. items_ones is 0 e.2 h (subst (λ b. In (all_held_in 0 b) h) (sym e.1) x))

pub has_one_tree : HasOneTree
has_one_tree c scenes s d names types are i is =
    let one = design_one c names scenes are d s i is in (one.tree, one.is, one.only)
