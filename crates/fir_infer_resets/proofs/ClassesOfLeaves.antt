-- Each leaf of what is declared has a class, and two leaves of one class are linked through leaves of it.
use Rattle.std.proofs.Common.{◌≡◌, ℕ, [], ◌∷◌, map, Option, Some, None, inl, inr, ◌⊎◌, ap, sym, ◌∙◌, subst}
use Rattle.std.specs.Prelude.{slice_get}
use Rattle.std.proofs.lemmas.Option.{same_Some, none-some}
use Rattle.fir_base.specs.Lists.{In}
use Rattle.fir_ast.specs.Circuits.{ModuleTree, CircuitTree}
use Rattle.fir_meaning.specs.LeafPaths.{named}
use Rattle.fir_meaning.specs.Components.{Declaration}
use Rattle.fir_meaning.specs.Visibility.{declarations}
use Rattle.fir_meaning.specs.TypedScopes.{Known}
use Rattle.fir_meaning.specs.ComponentTypes.{instance_bundle, typed_scope}
use Rattle.fir_meaning.specs.working.NameGroups.{HasNames}
use Rattle.fir_meaning.specs.TypeGroup.{type_faults}
use Rattle.fir_meaning.specs.ResetItems.{End, leaf_item}
use Rattle.fir_reset.specs.working.ElementPaths.{any_element, DifferInElements}
use Rattle.fir_meaning.specs.ResetJoins.{joins}
use Rattle.fir_meaning.specs.ResetWalks.{IsLeafOf}
use Rattle.fir_reset.specs.working.LeafClasses.{of_ports, of_declaration, Class, offset_in, class_of}
use Rattle.fir_infer_resets.specs.working.ResetLaws.{Linked, same, then_joined, LeavesHaveClasses}
use Rattle.fir_reset.proofs.KnownDeclarations.{same_place}
use Rattle.fir_infer_resets.proofs.LeavesAtHome.{AtPorts, AtBody}
use Rattle.fir_infer_resets.proofs.LeafHomes.{Home, home_of}
use Rattle.fir_reset.proofs.LeafOffsets.{offset_paths}
use Rattle.fir_reset.proofs.LeafSpots.{Spot, spot, differ_in_elements}
use Rattle.fir_infer_resets.proofs.LinkedElements.{linked_through, linked_elements}
use Rattle.fir_reset.proofs.PortLeaves.{ports_class}

-- what a class of ports says
record IsOfPorts (number : ℕ) (o : Option ℕ) (k : Class) : Type 0 where
  number_is : number ≡ k.number
  part : k.part ≡ of_ports
  offset : o ≡ Some k.offset

of_class : (number : ℕ) (o : Option ℕ) (k : Class) → ports_class number o ≡ Some k → IsOfPorts number o k
of_class number None k e = absurd (none-some k e)
of_class number (Some i) k e =
    let is : record { number = number; part = of_ports; offset = i } ≡ k = same_Some _ k e in
    record { number_is = ap (λ (x : Class). x.number) is; part = ap (λ (x : Class). x.part) (sym is); offset = ap (λ (x : Class). Some x.offset) is }

part_place : (i j : ℕ) → of_declaration i ≡ of_declaration j → i ≡ j
part_place i j h = cc

module _ (c : CircuitTree) (names : HasNames c) (e f : End) (l : IsLeafOf c e) (m : IsLeafOf c f) (k : Class) where
  ports_elements : (s : AtPorts c e) (t : AtPorts c f) → class_of c e.item ≡ Some k → class_of c f.item ≡ Some k → DifferInElements e f
  ports_elements s t i j =
      let one = of_class s.number (offset_in (instance_bundle s.inside) s.path) k (sym s.class ∙ i) in
      let other = of_class t.number (offset_in (instance_bundle t.inside) t.path) k (sym t.class ∙ j) in
      let number : t.number ≡ s.number = other.number_is ∙ sym one.number_is in
      let inside : t.inside ≡ s.inside = same_Some t.inside s.inside (sym t.is_module ∙ ap (slice_get c.modules) number ∙ s.is_module) in
      let there : offset_in (instance_bundle s.inside) t.path ≡ Some k.offset = ap (λ (x : ModuleTree). offset_in (instance_bundle x) t.path) (sym inside) ∙ other.offset in
      differ_in_elements c names e f l m s.number s.path t.path s.item (t.item ∙ ap (λ n. leaf_item n t.path) number)
      (offset_paths (instance_bundle s.inside) s.path t.path k.offset one.offset there)

  body_elements : (s : AtBody c e) (t : AtBody c f) → class_of c e.item ≡ Some k → class_of c f.item ≡ Some k → DifferInElements e f
  body_elements s t i j =
      let classes : record { number = s.number; part = of_declaration s.spot.stands.place; offset = s.spot.offset }
      ≡ record { number = t.number; part = of_declaration t.spot.stands.place; offset = t.spot.offset } =
      same_Some _ _ (sym s.class ∙ i ∙ sym j ∙ t.class) in
      let number : t.number ≡ s.number = ap (λ (x : Class). x.number) (sym classes) in
      let inside : t.inside ≡ s.inside =
      same_Some t.inside s.inside (sym t.spot.is_module ∙ ap (slice_get c.modules) number ∙ s.spot.is_module) in
      let parts : of_declaration s.spot.stands.place ≡ of_declaration t.spot.stands.place = ap (λ (x : Class). x.part) classes in
      let place : s.spot.stands.place ≡ t.spot.stands.place = part_place s.spot.stands.place t.spot.stands.place parts in
      let offset : s.spot.offset ≡ t.spot.offset = ap (λ (x : Class). x.offset) classes in
      matched s.number t.number s.inside t.inside (sym number) (sym inside) s.spot t.spot place offset
    where
      in_one : (n : ℕ) (x : ModuleTree) (s : Spot c n x e) (t : Spot c n x f) → s.stands.place ≡ t.stands.place → s.offset ≡ t.offset → DifferInElements e f
      in_one n x s t place offset =
          let both = same_place c.modules (declarations x) (typed_scope c.modules (declarations x)) s.declared t.declared s.known t.known s.stands t.stands place in
          let types : t.data_type ≡ s.data_type = same_Some t.data_type s.data_type (sym t.has_type ∙ ap (λ (y : Known). y.data_type) (sym both.1) ∙ s.has_type) in
          let there : offset_in s.data_type t.leaf.path ≡ Some s.offset =
          ap (λ u. offset_in u t.leaf.path) (sym types) ∙ t.is_offset ∙ ap (λ (i : ℕ). Some i) (sym offset) in
          let paths = offset_paths s.data_type s.leaf.path t.leaf.path s.offset s.is_offset there in
          differ_in_elements c names e f l m n (named s.declared.named.name ∷ s.leaf.path) (named t.declared.named.name ∷ t.leaf.path) s.item t.item
          (ap (λ p. named s.declared.named.name ∷ p) paths ∙ ap (λ (d : Declaration). named d.named.name ∷ map any_element t.leaf.path) both.0)

      matched : (n o : ℕ) (x y : ModuleTree) → n ≡ o → x ≡ y → (s : Spot c n x e) (t : Spot c o y f) → s.stands.place ≡ t.stands.place → s.offset ≡ t.offset → DifferInElements e f
      matched n o x y number inside =
          subst (λ i. (s : Spot c n x e) (t : Spot c i y f) → s.stands.place ≡ t.stands.place → s.offset ≡ t.offset → DifferInElements e f) number
          (subst (λ z. (s : Spot c n x e) (t : Spot c n z f) → s.stands.place ≡ t.stands.place → s.offset ≡ t.offset → DifferInElements e f) inside (in_one n x))

  unlike : (s : AtPorts c e) (t : AtBody c f) → class_of c e.item ≡ Some k → class_of c f.item ≡ Some k → ⊥
  unlike s t i j =
      let one = of_class s.number (offset_in (instance_bundle s.inside) s.path) k (sym s.class ∙ i) in
      let other : record { number = t.number; part = of_declaration t.spot.stands.place; offset = t.spot.offset } ≡ k = same_Some _ k (sym t.class ∙ j) in
      let parts : of_ports ≡ of_declaration t.spot.stands.place = sym one.part ∙ ap (λ (x : Class). x.part) (sym other) in
      cc

-- leaves of one class differ in elements alone, where both are at home
pub home_elements : (c : CircuitTree) → HasNames c → (e f : End) → IsLeafOf c e → IsLeafOf c f → (k : Class) → AtPorts c e ⊎ AtBody c e → AtPorts c f ⊎ AtBody c f
    → class_of c e.item ≡ Some k → class_of c f.item ≡ Some k → DifferInElements e f
home_elements c names e f l m k (inl s) (inl t) i j = ports_elements c names e f l m k s t i j
home_elements c names e f l m k (inr s) (inr t) i j = body_elements c names e f l m k s t i j
home_elements c names e f l m k (inl s) (inr t) i j = absurd (unlike c names e f l m k s t i j)
home_elements c names e f l m k (inr s) (inl t) i j = absurd (unlike c names f e m l k t s j i)

-- to the home of a leaf, and back from it
to_home : (c : CircuitTree) (e g : End) (h : Home c e) → Linked c h.home g → Linked c e g
to_home c e g h more = by h.reached
  where
    by : (e ≡ h.home) ⊎ In (joins c) (record { one = e; other = h.home }) → Linked c e g
    by (inl is) = subst (λ x. Linked c x g) (sym is) more
    by (inr j) = then_joined e h.home g (inl j) h.class h.ground_type more

from_home : (c : CircuitTree) (f : End) (h : Home c f) → Linked c h.home f
from_home c f h = by h.reached
  where
    by : (f ≡ h.home) ⊎ In (joins c) (record { one = f; other = h.home }) → Linked c h.home f
    by (inl is) = subst (λ x. Linked c x f) is (same f)
    by (inr j) = then_joined h.home f f (inr (inl j)) (sym h.class) (sym h.ground_type) (same f)

pub leaves_have_classes : (c : CircuitTree) → HasNames c → type_faults c ≡ [] → LeavesHaveClasses c
leaves_have_classes c names clear = record { has = λ e l. (home e l).has; linked = linked }
  where
    home : (e : End) (l : IsLeafOf c e) → Home c e
    home e l = home_of c names l.number l.inside e l (spot c names e l)

    linked : (e f : End) (k : Class) → IsLeafOf c e → IsLeafOf c f → class_of c e.item ≡ Some k → class_of c f.item ≡ Some k → Linked c e f
    linked e f k l m i j =
        let one = home e l in
        let other = home f m in
        let at_one : class_of c one.home.item ≡ Some k = sym one.class ∙ i in
        let at_other : class_of c other.home.item ≡ Some k = sym other.class ∙ j in
        let both = home_elements c names one.home other.home one.is_leaf other.is_leaf k one.stands other.stands at_one at_other in
        to_home c e f one
        (linked_through c one.home other.home f (linked_elements c names clear one.home other.home one.is_leaf other.is_leaf both) (from_home c f other))
