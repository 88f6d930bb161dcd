-- Each leaf of a tree below the main module's ports is one of a module of the tree.
use Rattle.std.proofs.Common.{◌≡◌, List, [], ◌∷◌, ◌++◌, refl, inl, inr, ⊎_elim}
use Rattle.fir_base.specs.Lists.{In}
use Rattle.fir_base.proofs.Members.{in_either, in_left, in_map_from, in_right}
use Rattle.fir_meaning.specs.LeafPaths.{LeafPath, named}
use Rattle.fir_meaning.specs.SourceCircuits.{PlacedLeaf, inner_leaves, leaves_of_design, leaves_of_instances, placed}
use Rattle.fir_meaning.specs.SourceDependence.{PlacedModule, modules_of_design, modules_of_instances}
use Rattle.fir_meaning.specs.SourceDesigns.{Instances, SourceDesign, held, made_of, no_instances}
use Rattle.fir_meaning.specs.SourceRoles.{SourceLeaf}

pub record IsHeldBy (hs : List PlacedModule) (p : PlacedLeaf) : Type 0 where
  pub holder : PlacedModule
  pub among : In hs holder
  pub leaf : SourceLeaf
  pub inner : In (inner_leaves holder.scene) leaf
  pub is : record { at = holder.at; leaf = leaf } ≡ p

held_more : (hs ks : List PlacedModule) (p : PlacedLeaf) → ((h : PlacedModule) → In hs h → In ks h) → IsHeldBy hs p → IsHeldBy ks p
held_more hs ks p f h = record { holder = h.holder; among = f h.holder h.among; leaf = h.leaf; inner = h.inner; is = h.is }

mutual
  pub design_leaf : (t : SourceDesign) (at : LeafPath) (p : PlacedLeaf) → In (leaves_of_design at t) p → IsHeldBy (modules_of_design at t) p
  design_leaf (made_of s is) at p i =
      ⊎_elim
      (λ (l : In (placed at (inner_leaves s)) p).
      let from = in_map_from (λ (x : SourceLeaf). record { at = at; leaf = x }) (inner_leaves s) p l in
      record { holder = record { at = at; scene = s }; among = inl refl; leaf = from.0; inner = from.1; is = from.2 })
      (λ (r : In (leaves_of_instances at is) p).
      held_more (modules_of_instances at is) (modules_of_design at (made_of s is)) p (λ h j. inr j) (instances_leaf is at p r))
      (in_either (placed at (inner_leaves s)) (leaves_of_instances at is) p i)

  instances_leaf : (is : Instances) (at : LeafPath) (p : PlacedLeaf) → In (leaves_of_instances at is) p → IsHeldBy (modules_of_instances at is) p
  instances_leaf no_instances at p i = absurd i
  instances_leaf (held name d rest) at p i =
      let first = modules_of_design (at ++ named name ∷ []) d in
      let others = modules_of_instances at rest in
      ⊎_elim
      (λ (l : In (leaves_of_design (at ++ named name ∷ []) d) p).
      held_more first (first ++ others) p (λ h j. in_left first others h j) (design_leaf d (at ++ named name ∷ []) p l))
      (λ (r : In (leaves_of_instances at rest) p).
      held_more others (first ++ others) p (λ h j. in_right first others h j) (instances_leaf rest at p r))
      (in_either (leaves_of_design (at ++ named name ∷ []) d) (leaves_of_instances at rest) p i)
