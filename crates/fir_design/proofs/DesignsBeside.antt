-- A design and its tree go in step, instance by instance: what is shown of a module with that of its instances at hand holds of both.
use Rattle.std.proofs.Common.{◌≡◌, ℕ, List, [], ◌∷◌, map, slice_get, Some, refl, sym, ap, ◌∙◌, subst, inl, inr}
use Rattle.std.proofs.lemmas.List.{append-nil}
use Rattle.fir_base.specs.Lists.{In}
use Rattle.fir_base.proofs.Elements.{get_in}
use Rattle.fir_ast.specs.Circuits.{CircuitTree}
use Rattle.fir_meaning.specs.working.NameGroups.{HasNames}
use Rattle.fir_meaning.specs.Visibility.{declarations}
use Rattle.fir_meaning.specs.working.DesignPaths.{instance_name}
use Rattle.fir_meaning.specs.working.Designs.{Design, IsDesignOf, Items, made_of, module_of}
use Rattle.fir_meaning.specs.working.LeafBlocks.{HeldInstance}
use Rattle.fir_meaning.specs.working.LeafModules.{LeafModule}
use Rattle.fir_meaning.specs.ModuleScenes.{Scene, behind_all_ports}
use Rattle.fir_meaning.specs.working.LeafedModules.{driven_leaves, leafed_module}
use Rattle.fir_meaning.specs.Elaborated.{AreScenes}
use Rattle.fir_meaning.specs.working.Elaborated.{views}
use Rattle.fir_meaning.specs.SourceDesigns.{AreInstances, InstanceOf, Instances, IsSourceDesignOf, SourceDesign, held, no_instances, scene_where}
use Rattle.fir_meaning.specs.SourceDesigns as source
use Rattle.fir_design.proofs.DesignInstances.{Instance, all_designed, block_held, each_design, held_of, instances_in, own_of}
use Rattle.fir_design.proofs.FoundInstances.{instances_found}
use Rattle.fir_design.proofs.FoundInstances as text
use Rattle.fir_design.proofs.HeldInstances.{Held, all_held_in}
use Rattle.fir_design.proofs.NumberedScenes.{scene_own, view_at}
use Rattle.fir_design.proofs.SourceInstances.{AreSame, block_same}

module _ (scenes : List Scene) (P : Design → Scene → SourceDesign → Type 0) where
  -- an instance and the tree under its name, of one scene
  pub record IsBeside (s : Scene) (x : Instance) (name : List ℕ) (t : SourceDesign) : Type 0 where
    pub named : instance_name (leafed_module s) x.0 ≡ name
    pub child : Scene
    pub there : In scenes child
    pub is : IsDesignOf (views scenes) (leafed_module child) x.1
    pub is_tree : IsSourceDesignOf scenes child t
    pub holds : P x.1 child t

  abbrev pub AreBeside : Scene → List Instance → Instances → Type 0
  AreBeside s [] no_instances = Unit {0}
  AreBeside s (x ∷ xs) (held name t rest) = IsBeside s x name t × AreBeside s xs rest
  AreBeside s _ _ = ⊥

  -- of a design, whatever its tree
  abbrev pub HoldsOf : Design → Type 0
  HoldsOf d = (s : Scene) (t : SourceDesign) → In scenes s → IsDesignOf (views scenes) (leafed_module s) d → IsSourceDesignOf scenes s t
      → P d s t

  all_beside : (s : Scene) (xs : List Instance) (hs : List Held) (is : List InstanceOf) (trees : Instances)
      → map own_of xs ≡ map held_of hs → AreSame s.own.modules (declarations s.own.inside) hs is → AreInstances scenes s is trees
      → ((x : Instance) → In xs x → IsDesignOf (views scenes) (module_of (views scenes) x.0.module_number) x.1)
      → ((x : Instance) → In xs x → HoldsOf x.1) → AreBeside s xs trees
  all_beside s [] [] [] no_instances e a t designed holds = tt
  all_beside s [] [] [] (held name d rest) e a t designed holds = absurd t
  all_beside s [] [] (i ∷ is) trees e a t designed holds = absurd a
  all_beside s [] (h ∷ hs) is trees e a t designed holds = cc
  all_beside s (x ∷ xs) [] is trees e a t designed holds = cc
  all_beside s (x ∷ xs) (h ∷ hs) [] trees e a t designed holds = absurd a
  all_beside s (x ∷ xs) (h ∷ hs) (i ∷ is) no_instances e a t designed holds = absurd t
  all_beside s (x ∷ xs) (h ∷ hs) (i ∷ is) (held name d rest) e a t designed holds =
      let same : x.0 ≡ h.own = cc in
      let more : map own_of xs ≡ map held_of hs = cc in
      let child = t.1.0 in
      let at : slice_get scenes x.0.module_number ≡ Some child =
      ap (λ (y : HeldInstance). slice_get scenes y.module_number) same ∙ sym (ap (scene_where scenes) a.0.found) ∙ t.1.1 in
      let there = get_in scenes x.0.module_number child at in
      let is_design : IsDesignOf (views scenes) (leafed_module child) x.1 =
      subst (λ v. IsDesignOf (views scenes) v x.1) (view_at scenes x.0.module_number child at) (designed x (inl refl)) in (
        record {
          named = ap (instance_name (leafed_module s)) same ∙ a.0.name ∙ sym t.0;
          child = child;
          there = there;
          is = is_design;
          is_tree = t.1.2;
          holds = holds x (inl refl) child d there is_design t.1.2;
        },
        all_beside s xs hs is rest more a.1 t.2 (λ y m. designed y (inr m)) (λ y m. holds y (inr m)),
      )

  -- what follows of a module's design and tree from what holds of its instances
  abbrev pub IsKept : Type 0
  IsKept =
      (s : Scene) (is : Items) (trees : Instances) → In scenes s → IsDesignOf (views scenes) (leafed_module s) (made_of (leafed_module s) is)
      → AreBeside s (instances_in is) trees → P (made_of (leafed_module s) is) s (source.made_of s trees)

  module _ (c : CircuitTree) (names : HasNames c) (are : AreScenes c scenes) (kept : IsKept) where
    of_module : (m : LeafModule) (is : Items) → ((x : Instance) → In (instances_in is) x → HoldsOf x.1) → HoldsOf (made_of m is)
    of_module m is holds s (source.made_of o trees) i e h =
        let view : m ≡ leafed_module s = e.0 in
        let own : o ≡ s = h.0 in
        let same : AreSame s.own.modules (declarations s.own.inside) (all_held_in 0 (leafed_module s).body) (text.instances_in s) =
        block_same s.own.modules (declarations s.own.inside) (driven_leaves s) s.own.inside.body (behind_all_ports s.own.inside) 0
        ([], append-nil (declarations s.own.inside)) (instances_found c s names (scene_own c scenes are s i)) in
        let beside : AreBeside s (instances_in is) trees =
        all_beside s (instances_in is) (all_held_in 0 (leafed_module s).body) (text.instances_in s) trees
        (block_held is 0 ∙ ap (λ b. map held_of (all_held_in 0 b)) e.1) same h.1 (all_designed (views scenes) is e.2) holds in
        rw (view, own) (kept s is trees i (refl, e.1, e.2) beside)

    pub all_kept : (d : Design) → HoldsOf d
    all_kept d = each_design HoldsOf of_module d
