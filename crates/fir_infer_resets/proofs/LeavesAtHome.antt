-- A leaf of an instance is joined to one of a port of the instance's module, and of its class. Any other leaf is one of a port, or of a body.
use Rattle.std.proofs.Common.{◌≡◌, ℕ, List, ◌∷◌, Some, refl, inl, inr, ◌⊎◌, ap, sym, ◌∙◌, subst, arith}
use Rattle.std.specs.Prelude.{slice_get}
use Rattle.std.proofs.lemmas.Option.{same_Some}
use Rattle.fir_base.specs.Lists.{In}
use Rattle.fir_base.specs.declared.direction.Direction.{Direction}
use Rattle.fir_base.proofs.Elements.{get_in}
use Rattle.fir_base.proofs.Members.{in_map}
use Rattle.fir_ast.specs.declared.place.Place.{Place}
use Rattle.fir_ast.specs.Types.{DataType}
use Rattle.fir_ast.specs.Circuits.{ModuleTree, CircuitTree}
use Rattle.fir_meaning.specs.LeafPaths.{LeafPath, named}
use Rattle.fir_meaning.specs.TypeLeaves.{TypeLeaf, type_leaves}
use Rattle.fir_meaning.specs.Components.{Component, Declaration, port, wire, register, node, instance, memory}
use Rattle.fir_meaning.specs.Visibility.{declarations}
use Rattle.fir_meaning.specs.ComponentTypes.{port_fields, instance_bundle}
use Rattle.fir_meaning.specs.working.NameGroups.{HasNames}
use Rattle.fir_meaning.proofs.FreshFields.{field_names}
use Rattle.fir_meaning.specs.ResetItems.{End, leaf_item, leaf_end}
use Rattle.fir_meaning.specs.ResetJoins.{Join, ResetModule, numbered_module, port_place, instance_joins, joins}
use Rattle.fir_meaning.specs.ResetWalks.{IsLeafOf}
use Rattle.fir_reset.specs.working.DeclaredLeaves.{IsNoInstance}
use Rattle.fir_reset.specs.working.LeafClasses.{of_declaration, offset_in, class_there, class_in, class_of}
use Rattle.fir_reset.proofs.FreshScopes.{sound}
use Rattle.fir_infer_resets.proofs.InstanceJoins.{declared_port, instance_joined}
use Rattle.fir_reset.proofs.LeafSpots.{Spot, class_here, spot_class, instance_known, instance_class}
use Rattle.fir_reset.proofs.ModuleNumbers.{is_numbered}
use Rattle.fir_reset.proofs.PortLeaves.{ports_class, port_class, port_end, port_among}

-- a leaf of a port of the module of that number
pub record AtPorts (c : CircuitTree) (e : End) : Type 0 where
  pub number : ℕ
  pub inside : ModuleTree
  pub is_module : slice_get c.modules number ≡ Some inside
  pub path : LeafPath
  pub item : e.item ≡ leaf_item number path
  pub class : class_of c e.item ≡ ports_class number (offset_in (instance_bundle inside) path)

-- a leaf of a declaration that is no port and no instance
pub record AtBody (c : CircuitTree) (e : End) : Type 0 where
  pub number : ℕ
  pub inside : ModuleTree
  pub spot : Spot c number inside e
  pub class : class_of c e.item ≡ Some (record { number = number; part = of_declaration spot.stands.place; offset = spot.offset })

-- the leaf of that path of the module's ports is joined to this one, and of its class
pub record IsOfPort (c : CircuitTree) (e : End) (child : ℕ × ModuleTree) (path : LeafPath) (p : Place) : Type 0 where
  pub is_module : slice_get c.modules child.0 ≡ Some child.1
  pub is_leaf : IsLeafOf c (leaf_end child.0 p path e.ground_type)
  pub there : class_of c (leaf_item child.0 path) ≡ ports_class child.0 (offset_in (instance_bundle child.1) path)
  pub class : class_of c e.item ≡ class_of c (leaf_item child.0 path)
  pub joined : In (joins c) (record { one = e; other = leaf_end child.0 p path e.ground_type })
  pub no_instance : IsNoInstance c child.0 path

module _ (c : CircuitTree) (h : HasNames c) (at : ℕ) (m : ModuleTree) (e : End) (s : Spot c at m e) where
  declared_in : In (declarations m) s.declared
  declared_in = get_in (declarations m) s.stands.place s.declared s.stands.declared

  at_port : (side : Direction) (t : DataType) → s.declared.component ≡ port side t → AtPorts c e
  at_port side t is =
      let from = declared_port m s.declared side t declared_in is in
      let among : In (field_names (port_fields m.ports)) s.declared.named.name =
      subst (λ (d : Declaration). In (field_names (port_fields m.ports)) d.named.name) from.2 (port_among m.ports from.0 from.1) in
      record {
        number = at;
        inside = m;
        is_module = s.is_module;
        path = named s.declared.named.name ∷ s.leaf.path;
        item = s.item;
        class = class_here c at m e s ∙ port_class at c.modules m s.declared.named.name s.leaf.path among;
      }

  at_body : ((ports : ℕ) → class_there at c.modules s.stands.place ports s.declared.component (Some s.offset)
      ≡ Some (record { number = at; part = of_declaration s.stands.place; offset = s.offset })) → AtBody c e
  at_body other = let r = spot_class c at m e s in record { number = at; inside = m; spot = s; class = r.1 ∙ other r.0 }

  home_here : (x : Component) → s.declared.component ≡ x → ((name : List ℕ) → x ≡ instance name → ⊥) → AtPorts c e ⊎ AtBody c e
  home_here (port side t) is other = inl (at_port side t is)
  home_here (instance name) is other = absurd (other name refl)
  home_here (wire t) is other = inr (at_body (λ ports. rw is refl))
  home_here (register t) is other = inr (at_body (λ ports. rw is refl))
  home_here (node x) is other = inr (at_body (λ ports. rw is refl))
  home_here (memory parts) is other = inr (at_body (λ ports. rw is refl))

  pub at_home : ((name : List ℕ) → s.declared.component ≡ instance name → ⊥) → AtPorts c e ⊎ AtBody c e
  at_home other = home_here s.declared.component refl other

  pub of_port : (name : List ℕ) (child : ℕ × ModuleTree) → s.declared.component ≡ instance name → numbered_module 0 c.modules name ≡ Some child
      → IsOfPort c e child s.leaf.path (port_place s.declared.named.place child.1.ports s.leaf.path)
  of_port name child is f =
      let found = is_numbered 0 c.modules name child f in
      let number : found.behind ≡ child.0 = omega (arith, found.number) in
      let at_number : slice_get c.modules child.0 ≡ Some child.1 = subst (λ k. slice_get c.modules k ≡ Some child.1) number found.there in
      let bundled : s.data_type ≡ instance_bundle child.1 =
      same_Some s.data_type (instance_bundle child.1) (sym s.has_type ∙ instance_known at c.modules m s.sound.once s.declared s.known name child s.stands is f) in
      let is_leaf : In (type_leaves (instance_bundle child.1)) s.leaf = subst (λ t. In (type_leaves t) s.leaf) bundled s.is_leaf in
      let whole = sound c h child.1 (get_in c.modules child.0 child.1 at_number) in
      let other = port_end c child.0 child.1 s.declared.named.place s.leaf whole at_number is_leaf in
      let inside : ResetModule = record { modules = c.modules; number = at; inside = m } in
      let make : TypeLeaf → Join = λ x. record {
        one = leaf_end at s.declared.named.place (named s.declared.named.name ∷ x.path) x.ground_type;
        other = leaf_end child.0 (port_place s.declared.named.place child.1.ports x.path) x.path x.ground_type;
      } in
      let among : In (instance_joins inside s.declared.named (Some child)) (make s.leaf) = in_map make (type_leaves (instance_bundle child.1)) s.leaf is_leaf in
      let joined : In (joins c) (make s.leaf) =
      instance_joined c at m s.declared name (make s.leaf) s.is_module declared_in is
      (subst (λ o. In (instance_joins inside s.declared.named o) (make s.leaf)) (sym f) among) in
      let same : leaf_end at s.declared.named.place (named s.declared.named.name ∷ s.leaf.path) s.leaf.ground_type ≡ e =
      rw (← s.item, ← s.ground_type, ← s.place) refl in
      let port_of : DataType → End = λ t. leaf_end child.0 (port_place s.declared.named.place child.1.ports s.leaf.path) s.leaf.path t in
      let class : class_of c (leaf_item child.0 s.leaf.path) ≡ ports_class child.0 (offset_in (instance_bundle child.1) s.leaf.path) =
      ap (λ o. class_in child.0 c.modules o s.leaf.path) at_number ∙ other.class in
      let here : class_of c e.item ≡ ports_class child.0 (offset_in (instance_bundle child.1) s.leaf.path) =
      class_here c at m e s ∙ instance_class at c.modules m s.sound.once s.declared s.known name child s.stands is f s.leaf.path in
      record {
        is_module = at_number;
        is_leaf = subst (λ t. IsLeafOf c (port_of t)) (sym s.ground_type) other.is_leaf;
        there = class;
        class = here ∙ sym class;
        joined =
            subst (λ t. In (joins c) (record { one = e; other = port_of t })) (sym s.ground_type)
            (subst (λ x. In (joins c) (record { one = x; other = port_of s.leaf.ground_type })) same joined);
        no_instance = other.no_instance;
      }
