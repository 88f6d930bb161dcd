-- The graph as the code has it, with a Reset more that is the first of its class.
use Rattle.std.proofs.Common.{◌≡◌, ℕ, List, [], ◌∷◌, ◌++◌, map, Some, None, length, refl, sym, ap, ◌∙◌, subst, inl, inr}
use Rattle.std.specs.Prelude.{slice_get}
use Rattle.std.proofs.lemmas.Option.{none-some}
use Rattle.fir_base.proofs.Writes.{PushedOr, push_cases}
use Rattle.fir_ast.specs.declared.place.Place.{Place}
use Rattle.fir_ast.specs.Circuits.{CircuitTree}
use Rattle.fir_meaning.specs.LeafPaths.{LeafPath}
use Rattle.fir_meaning.specs.working.NameGroups.{HasNames}
use Rattle.fir_meaning.specs.TypeGroup.{type_faults}
use Rattle.fir_infer_resets.specs.declared.joined.Joined.{Joined}
use Rattle.fir_meaning.specs.ResetItems.{End}
use Rattle.fir_reset.specs.working.ElementPaths.{any_element}
use Rattle.fir_meaning.specs.ResetJoins.{Join}
use Rattle.fir_meaning.specs.ResetWalks.{IsReset, IsLeafOf}
use Rattle.fir_infer_resets.specs.working.BuiltGraphs.{Connects, here}
use Rattle.fir_reset.specs.working.LeafClasses.{Class, class_of}
use Rattle.fir_reset.specs.working.DeclaredLeaves.{IsNoInstance}
use Rattle.fir_infer_resets.specs.working.Holding.{reset_end, under_key, HasFirst, Holds, HasNumber}
use Rattle.fir_infer_resets.specs.working.Adding.{AddsReset}
use Rattle.fir_infer_resets.proofs.ConnectedEnds.{connects_more}
use Rattle.fir_infer_resets.proofs.PartlyBuilt.{ConnectsClasses, built_whole}
use Rattle.fir_infer_resets.proofs.HeldGraphs.{has_first_more}
use Rattle.fir_infer_resets.proofs.ClassesOfLeaves.{home_elements, leaves_have_classes}
use Rattle.fir_infer_resets.proofs.LeafDeclarations.{leaf_at_home}
use Rattle.fir_infer_resets.proofs.AddedResets.{same_leaf, ends_now, kinds_now, partly_now, edges_kept, kinds_kept, at_end, known_now, all_now}

-- two leaves that are one but for elements
module _ (number other : ℕ) (p q : LeafPath) (s t : Place) where
  elements_same : (n : ℕ) (u v : LeafPath) → (reset_end number p s).item ≡ (reset_end n u s).item → (reset_end other q t).item ≡ (reset_end n v t).item
      → map any_element u ≡ map any_element v → (number ≡ other) × (map any_element p ≡ map any_element q)
  elements_same n u v h i same =
      let one = same_leaf number n p u h in
      let two = same_leaf other n q v i in
      (one.0 ∙ sym two.0, ap (map any_element) one.1 ∙ same ∙ ap (map any_element) (sym two.1))

module _ (c : CircuitTree) (js : List Join) (old : Joined) (before : Holds c js old) (names : HasNames c) (clear : type_faults c ≡ []) (number : ℕ) (leaf : LeafPath) (place : Place)
    (l : IsLeafOf c (reset_end number leaf place)) (own : IsNoInstance c number leaf) (first : map any_element leaf ≡ leaf) (fresh : under_key old number leaf ≡ None) where
  abbrev new_end : End
  new_end = reset_end number leaf place

  new_class : (k : Class) × (class_of c new_end.item ≡ Some k)
  new_class = (leaves_have_classes c names clear).has new_end l

  no_first : (k : Class) → class_of c new_end.item ≡ Some k → HasFirst c before.ends k → ⊥
  no_first k class h =
      let there = reset_end h.number h.path h.place in
      let is_leaf = before.built.leaves h.first there h.is refl in
      let elements =
      home_elements c names there new_end is_leaf l k (leaf_at_home c names h.number h.path there refl is_leaf h.no_instance) (leaf_at_home c names number leaf new_end refl l own) h.class class in
      let same = elements_same h.number number h.path leaf h.place place elements.number elements.path elements.other elements.one_is elements.other_is elements.same in
      let path : leaf ≡ h.path = sym first ∙ sym same.1 ∙ h.firsts in
      none-some h.first (sym fresh ∙ ap (λ p. under_key old number p) path ∙ ap (λ n. under_key old n h.path) (sym same.0) ∙ before.all h.number h.first h.path h.place h.is)

  -- no Reset of the class was met
  alone : (x : ℕ) (g : End) → slice_get before.ends x ≡ Some g → IsReset g → class_of c g.item ≡ class_of c new_end.item → ⊥
  alone x g i r same = no_first new_class.0 new_class.1 (before.classes x g new_class.0 i r (same ∙ new_class.1))

  module _ (middle : Joined) (a : AddsReset old middle number leaf place) where
    abbrev new_number : ℕ
    new_number = length old.ends.items

    abbrev ends : List End
    ends = before.ends ++ new_end ∷ []

    connected_now : ConnectsClasses c ends middle.graph.items middle.kinds.items
    connected_now x y g k i j s t same = by (push_cases before.ends new_end x g i) (push_cases before.ends new_end y k j)
      where
        by : PushedOr before.ends new_end x g → PushedOr before.ends new_end y k → Connects middle.graph.items middle.kinds.items x y
        by (inl p) (inl q) =
            connects_more old.graph.items middle.graph.items old.kinds.items middle.kinds.items (edges_kept c js old before middle number leaf place a l fresh)
            (kinds_kept c js old before middle number leaf place a l fresh) x y (before.built.classes x y g k p q s t same)
        by (inl p) (inr (at, is)) = absurd (alone x g p s (same ∙ ap (λ (e : End). class_of c e.item) (sym is)))
        by (inr (at, is)) (inl q) = absurd (alone y k q t (sym same ∙ ap (λ (e : End). class_of c e.item) (sym is)))
        by (inr (at, is)) (inr (at_too, is_too)) = subst (Connects middle.graph.items middle.kinds.items x) (at ∙ sym at_too) (here x)

    has_first_now : (x : ℕ) (g : End) (k : Class) → IsReset g → class_of c g.item ≡ Some k → PushedOr before.ends new_end x g → HasFirst c ends k
    has_first_now x g k s i (inl p) = has_first_more c before.ends new_end k (before.classes x g k p s i)
    has_first_now x g k s i (inr (at, is)) = record {
      first = new_number;
      number = number;
      path = leaf;
      place = place;
      is = at_end c js old before middle number leaf place a l fresh;
      firsts = first;
      no_instance = own;
      class = ap (λ (e : End). class_of c e.item) is ∙ i;
    }

    pub own_new : HasNumber before new_end middle new_number
    own_new = record {
      holds = record {
        ends = ends;
        are = ends_now c js old before middle number leaf place a l fresh;
        same_kinds = kinds_now c js old before middle number leaf place a l fresh;
        built = built_whole c js ends middle.graph.items middle.kinds.items (partly_now c js old before middle number leaf place a l fresh) connected_now;
        known = known_now c js old before middle number leaf place a l fresh;
        all = all_now c js old before middle number leaf place a l fresh;
        classes = λ x g k i s q. has_first_now x g k s q (push_cases before.ends new_end x g i);
      };
      extends = (new_end ∷ [], refl);
      is = at_end c js old before middle number leaf place a l fresh;
    }
