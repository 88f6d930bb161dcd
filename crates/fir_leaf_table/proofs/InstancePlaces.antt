-- Where the leaves of an instance stand.
use Rattle.std.proofs.Common.{◌≡◌, ℕ, List, Bool, Option, Some, None, map, refl, sym, ap, ◌∙◌}
use Rattle.std.specs.Prelude.{if◌then◌else◌, option_map, slice_get, slice_index_or}
use Rattle.fir_base.proofs.Elements.{get_in}
use Rattle.fir_ast.specs.declared.place.Place.{Place}
use Rattle.fir_ast.specs.Circuits.{CircuitTree, ModuleTree}
use Rattle.fir_ast.specs.Statements.{PlacedName}
use Rattle.fir_meaning.specs.ComponentTypes.{instance_bundle, instance_type, port_fields}
use Rattle.fir_meaning.specs.working.NameGroups.{HasNames}
use Rattle.fir_meaning.specs.ResetJoins.{numbered_module, port_place}
use Rattle.fir_meaning.specs.TypeLeaves.{TypeLeaf, field_leaves}
use Rattle.fir_reset.proofs.FreshScopes.{sound}
use Rattle.fir_reset.proofs.ModuleNumbers.{is_numbered}
use Rattle.fir_leaf.specs.declared.node.Node.{Node}
use Rattle.fir_meaning.specs.working.LeafedModules.{instance_place, instance_role}
use Rattle.fir_meaning.specs.FoundTypes.{leaves_of_data}
use Rattle.fir_leaf_table.specs.declared.giver.Giver.TheVariants as giver
use Rattle.fir_leaf_table.specs.declared.places.Places.{Places}
use Rattle.fir_leaf_table.specs.working.Givers.{place_of}
use Rattle.fir_leaf_table.specs.working.ModulePlaces.{places_of}
use Rattle.fir_leaf_table.specs.working.PortPlaces.{AreThose}
use Rattle.fir_leaf_table.proofs.GivenLeaves.{Agrees}
use Rattle.fir_leaf_table.proofs.PortLists.{all_places, mapped_at}

module _ (c : CircuitTree) (names : HasNames c) (n : PlacedName) (name : List ℕ) (ports : List Place) where
  abbrev pub chosen : Bool → Place → Place
  chosen flip p = if flip then n.place else p

  place_there : (child : ℕ × ModuleTree) → numbered_module 0 c.modules name ≡ Some child → ports ≡ places_of child.1.ports → (k : ℕ) (l : TypeLeaf)
      → slice_get (leaves_of_data (instance_type c.modules name)) k ≡ Some l
      → chosen l.flip (slice_index_or ports k n.place) ≡ instance_place n (Some child) l
  place_there child is those k l there =
      let h = is_numbered 0 c.modules name child is in
      let m = child.1 in
      let fresh = (sound c names m (get_in c.modules h.behind m h.there)).ports in
      let at : slice_get (field_leaves (port_fields m.ports)) k ≡ Some l =
      ap (λ o. slice_get (leaves_of_data (option_map instance_bundle o)) k) (sym h.found) ∙ there in
      let all : ports ≡ map (λ (x : TypeLeaf). port_place n.place m.ports x.path) (field_leaves (port_fields m.ports)) =
      those ∙ sym (all_places n.place m.ports fresh m.ports (λ p i. i)) in
      ap (chosen l.flip)
      (ap (λ ps. slice_index_or ps k n.place) all
      ∙ mapped_at (λ (x : TypeLeaf). port_place n.place m.ports x.path) (field_leaves (port_fields m.ports)) k l n.place at)

  places_agree : (o : Option (ℕ × ModuleTree)) → numbered_module 0 c.modules name ≡ o → AreThose ports o → (k : ℕ) (l : TypeLeaf)
      → slice_get (leaves_of_data (instance_type c.modules name)) k ≡ Some l
      → chosen l.flip (slice_index_or ports k n.place) ≡ instance_place n o l
  places_agree None is those k l there = absurd those
  places_agree (Some child) is those k l there = place_there child is those k l there

  pub instance_agrees : (nodes : List Node) (places : Places) → ((k : ℕ) (flip : Bool) → place_of places k flip ≡ chosen flip (slice_index_or ports k n.place))
      → AreThose ports (numbered_module 0 c.modules name) → (k : ℕ) (l : TypeLeaf)
      → slice_get (leaves_of_data (instance_type c.modules name)) k ≡ Some l
      → Agrees nodes places giver.Instance (instance_place n (numbered_module 0 c.modules name)) instance_role k l
  instance_agrees nodes places same those k l there = record {
    place = same k l.flip ∙ places_agree (numbered_module 0 c.modules name) refl those k l there;
    role = refl;
  }
