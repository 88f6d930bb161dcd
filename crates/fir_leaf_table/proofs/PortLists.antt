-- The leaves of a module's ports, one behind the other, each with the place of its port.
use Rattle.std.proofs.Common.{◌≡◌, ℕ, zero, suc, List, [], ◌∷◌, ◌++◌, map, length, Bool, Some, refl, sym, ap, ap₂, ◌∙◌, subst, inl, inr}
use Rattle.std.specs.Prelude.{slice_get, slice_index_or, replicate}
use Rattle.std.proofs.lemmas.List.{map-append}
use Rattle.std.proofs.lemmas.Option.{none-some, same_Some}
use Rattle.fir_base.specs.Lists.{In}
use Rattle.fir_base.proofs.SameNames.{name_same, name_other}
use Rattle.fir_ast.specs.declared.place.Place.{Place}
use Rattle.fir_ast.specs.Circuits.{PortTree}
use Rattle.fir_meaning.specs.LeafPaths.{LeafPath, named}
use Rattle.fir_meaning.specs.ComponentTypes.{is_input, port_fields}
use Rattle.fir_meaning.specs.ResetJoins.{port_place}
use Rattle.fir_meaning.specs.TypeLeaves.{TypeLeaf, field_leaves, type_leaves, under}
use Rattle.fir_meaning.proofs.FreshFields.{field_names, AreFresh}
use Rattle.fir_reset.proofs.PortLeaves.{port_among}
use Rattle.fir_leaf.proofs.LeafPlaces.{leaves_counted}
use Rattle.fir_leaf_table.specs.working.ModulePlaces.{places_of}

-- the port of a name, where no other has it
port_found : (ps : List PortTree) (p : PortTree) (q : Place) (path : LeafPath) → AreFresh (port_fields ps) → In ps p
    → port_place q ps (named p.named.name ∷ path) ≡ p.named.place
port_found [] p q path fresh among = absurd among
port_found (x ∷ ps) p q path fresh (inl e) = rw (e, name_same p.named.name) refl
port_found (x ∷ ps) p q path fresh (inr among) =
    let apart = name_other x.named.name p.named.name (λ e. fresh.0 (subst (In (field_names (port_fields ps))) (sym e) (port_among ps p among))) in
    rw apart (port_found ps p q path fresh.2 among)

module _ (q : Place) (whole : List PortTree) (fresh : AreFresh (port_fields whole)) where
  own_places : (p : PortTree) → In whole p → (flip : Bool) (ls : List TypeLeaf)
      → map (λ (l : TypeLeaf). port_place q whole l.path) (map (under flip (named p.named.name)) ls) ≡ replicate (length ls) p.named.place
  own_places p among flip [] = refl
  own_places p among flip (l ∷ ls) = ap₂ (λ x xs. x ∷ xs) (port_found whole p q l.path fresh among) (own_places p among flip ls)

  pub all_places : (ps : List PortTree) → ((p : PortTree) → In ps p → In whole p)
      → map (λ (l : TypeLeaf). port_place q whole l.path) (field_leaves (port_fields ps)) ≡ places_of ps
  all_places [] among = refl
  all_places (p ∷ ps) among =
      map-append (λ (l : TypeLeaf). port_place q whole l.path) (map (under (is_input p.direction) (named p.named.name)) (type_leaves p.data_type))
      (field_leaves (port_fields ps))
      ∙ ap₂ (λ xs ys. xs ++ ys)
      (own_places p (among p (inl refl)) (is_input p.direction) (type_leaves p.data_type)
      ∙ ap (λ n. replicate n p.named.place) (leaves_counted p.data_type))
      (all_places ps (λ x i. among x (inr i)))

-- a list that is read through a function
pub mapped_at : {A B : Type 0} (f : A → B) (xs : List A) (k : ℕ) (x : A) (d : B) → slice_get xs k ≡ Some x → slice_index_or (map f xs) k d ≡ f x
mapped_at f [] k x d e = absurd (none-some x e)
mapped_at f (y ∷ xs) zero x d e = ap f (same_Some y x e)
mapped_at f (y ∷ xs) (suc k) x d e = mapped_at f xs k x d e
