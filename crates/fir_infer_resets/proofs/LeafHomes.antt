-- A leaf of an instance has its home at the port of the instance's module, and any other leaf at itself. A leaf and its home are joined, and of one class.
use Rattle.std.proofs.Common.{◌≡◌, ℕ, List, Option, Some, None, refl, inl, inr, ◌⊎◌, ap, sym, ◌∙◌, ◌+◌}
use Rattle.std.specs.Prelude.{option_map}
use Rattle.std.proofs.lemmas.Option.{same_Some, none-some}
use Rattle.fir_base.specs.Lists.{In}
use Rattle.fir_base.specs.declared.direction.Direction.{Direction}
use Rattle.fir_ast.specs.Types.{DataType}
use Rattle.fir_ast.specs.Circuits.{ModuleTree, CircuitTree}
use Rattle.fir_meaning.specs.Components.{Component, port, wire, register, node, instance, memory}
use Rattle.fir_meaning.specs.TypedScopes.{Known}
use Rattle.fir_meaning.specs.ComponentTypes.{find_module, instance_bundle, instance_type, component_type}
use Rattle.fir_meaning.specs.working.NameGroups.{HasNames}
use Rattle.fir_meaning.specs.ResetItems.{End, leaf_end}
use Rattle.fir_meaning.specs.ResetJoins.{numbered_module, port_place, joins}
use Rattle.fir_meaning.specs.ResetWalks.{IsLeafOf}
use Rattle.fir_reset.specs.working.LeafClasses.{of_ports, of_declaration, Class, offset_in, class_there, class_of}
use Rattle.fir_reset.proofs.LeafSpots.{Spot, spot_class, instance_known}
use Rattle.fir_reset.proofs.ModuleNumbers.{numbered_found}
use Rattle.fir_reset.proofs.PortLeaves.{ports_class}
use Rattle.fir_infer_resets.proofs.LeavesAtHome.{AtPorts, AtBody, at_home, of_port}

pub record Home (c : CircuitTree) (e : End) : Type 0 where
  pub has : (k : Class) × (class_of c e.item ≡ Some k)
  pub home : End
  pub is_leaf : IsLeafOf c home
  pub class : class_of c e.item ≡ class_of c home.item
  pub ground_type : e.ground_type ≡ home.ground_type
  pub reached : (e ≡ home) ⊎ In (joins c) (record { one = e; other = home })
  pub stands : AtPorts c home ⊎ AtBody c home

-- the home of a leaf that is none of an instance
at_itself : (c : CircuitTree) (e : End) → (k : Class) × (class_of c e.item ≡ Some k) → IsLeafOf c e → AtPorts c e ⊎ AtBody c e → Home c e
at_itself c e k l h = record { has = k; home = e; is_leaf = l; class = refl; ground_type = refl; reached = inl refl; stands = h }

module _ (c : CircuitTree) (h : HasNames c) (at : ℕ) (m : ModuleTree) (e : End) (l : IsLeafOf c e) (s : Spot c at m e) where
  port_home : (side : Direction) (t : DataType) → s.declared.component ≡ port side t → Home c e
  port_home side t is =
      let r = spot_class c at m e s in
      at_itself c e (record { number = at; part = of_ports; offset = r.0 + s.offset }, r.1 ∙ ap (λ x. class_there at c.modules s.stands.place r.0 x (Some s.offset)) is) l
      (at_home c h at m e s (λ name f. let unlike : port side t ≡ instance name = sym is ∙ f in absurd (cc)))

  body_home : ((ports : ℕ) → class_there at c.modules s.stands.place ports s.declared.component (Some s.offset)
      ≡ Some (record { number = at; part = of_declaration s.stands.place; offset = s.offset })) → ((name : List ℕ) → s.declared.component ≡ instance name → ⊥) → Home c e
  body_home there other =
      let r = spot_class c at m e s in
      at_itself c e (record { number = at; part = of_declaration s.stands.place; offset = s.offset }, r.1 ∙ there r.0) l (at_home c h at m e s other)

  instance_home : (name : List ℕ) → s.declared.component ≡ instance name → Home c e
  instance_home name is = found (find_module c.modules name) refl
    where
      typed : instance_type c.modules name ≡ Some s.data_type
      typed =
          sym (ap (λ (x : Known). x.data_type) s.stands.is.is ∙ ap (component_type c.modules s.stands.is.scope s.declared.named.place) is) ∙ s.has_type

      numbered : (child : ℕ × ModuleTree) → numbered_module 0 c.modules name ≡ Some child → Home c e
      numbered child f =
          let other = of_port c h at m e s name child is f in
          let bundled : s.data_type ≡ instance_bundle child.1 =
          same_Some s.data_type (instance_bundle child.1) (sym s.has_type ∙ instance_known at c.modules m s.sound.once s.declared s.known name child s.stands is f) in
          let offset : offset_in (instance_bundle child.1) s.leaf.path ≡ Some s.offset = ap (λ t. offset_in t s.leaf.path) (sym bundled) ∙ s.is_offset in
          record {
            has = (record { number = child.0; part = of_ports; offset = s.offset }, other.class ∙ other.there ∙ ap (ports_class child.0) offset);
            home = leaf_end child.0 (port_place s.declared.named.place child.1.ports s.leaf.path) s.leaf.path e.ground_type;
            is_leaf = other.is_leaf;
            class = other.class;
            ground_type = refl;
            reached = inr other.joined;
            stands = inl (record { number = child.0; inside = child.1; is_module = other.is_module; path = s.leaf.path; item = refl; class = other.there });
          }

      found : (o : Option ModuleTree) → find_module c.modules name ≡ o → Home c e
      found None f = absurd (none-some s.data_type (sym (ap (option_map instance_bundle) f) ∙ typed))
      found (Some x) f = let r = numbered_found 0 c.modules name x f in numbered (r.0, x) r.1

  home_here : (x : Component) → s.declared.component ≡ x → Home c e
  home_here (port side t) is = port_home side t is
  home_here (instance name) is = instance_home name is
  home_here (wire t) is = body_home (λ ports. rw is refl) (λ name f. let unlike : wire t ≡ instance name = sym is ∙ f in absurd (cc))
  home_here (register t) is = body_home (λ ports. rw is refl) (λ name f. let unlike : register t ≡ instance name = sym is ∙ f in absurd (cc))
  home_here (node x) is = body_home (λ ports. rw is refl) (λ name f. let unlike : node x ≡ instance name = sym is ∙ f in absurd (cc))
  home_here (memory parts) is = body_home (λ ports. rw is refl) (λ name f. let unlike : memory parts ≡ instance name = sym is ∙ f in absurd (cc))

  pub home_of : Home c e
  home_of = home_here s.declared.component refl
