-- The places of the ports of all modules, and those that are found of an instance's module.
use Rattle.std.proofs.Common.{◌≡◌, ℕ, ◌+◌, ◌<◌, ◌≤◌, List, [], ◌∷◌, ◌++◌, length, map, take, Option, Some, None, refl, sym, ap, ◌∙◌, subst, Vec, Global}
use Rattle.std.specs.Prelude.{slice_get}
use Rattle.std.proofs.lemmas.List.{map-append, take_all, take_more}
use Rattle.std.proofs.lemmas.Option.{same_Some, slice_get_within, get_or_from_slice_get}
use Rattle.fir_base.proofs.Elements.{beside}
use Rattle.fir_ast.specs.declared.place.Place.{Place}
use Rattle.fir_ast.specs.Circuits.{CircuitTree, ModuleTree, PortTree}
use Rattle.fir_ast.specs.Types.{DataType}
use Rattle.fir_meaning.specs.ResetJoins.{numbered_module}
use Rattle.fir_meaning.specs.TypedScopes.{Known}
use Rattle.fir_reset.proofs.PortsInFront.{port_known, ports_first}
use Rattle.fir_type_table.specs.working.Tables.{types_of}
use Rattle.fir_types.specs.declared.findings.Findings.{Findings}
use Rattle.fir_width.proofs.FoundModules.{FoundOf}
use Rattle.fir_leaf_table.specs.working.ModulePlaces.{ArePlacesOf, places_of}
use Rattle.fir_leaf_table.specs.working.PortPlaces.{AreThose, HaveTypes, IsNumberOf}
use Rattle.fir_leaf_table.proofs.InstanceModules.{module_at}

-- the types of a module's ports stand in front of all that it declares
module _ (c : CircuitTree) (found : Findings) (k : ℕ) (m : ModuleTree) (of : FoundOf c found k m) where
  abbrev type_known : Known → Option DataType
  type_known k = k.data_type

  ports_typed : (ps : List PortTree) → map type_known (map port_known ps) ≡ map (λ (p : PortTree). Some p.data_type) ps
  ports_typed [] = refl
  ports_typed (p ∷ ps) = ap (λ l. Some p.data_type ∷ l) (ports_typed ps)

  pub ports_in_front : HaveTypes (types_of found.table) m.ports of.declared.items
  ports_in_front =
      let known = (ports_first c.modules m).known in (
        map type_known known.rest,
        of.types ∙ ap (map type_known) known.is ∙ map-append type_known (map port_known m.ports) known.rest
            ∙ ap (λ l. l ++ map type_known known.rest) (ports_typed m.ports),
      )

abbrev items_of : Vec Place Global → List Place
items_of v = v.items

abbrev port_places : ModuleTree → List Place
port_places m = places_of m.ports

-- the places of one module more, and of all
pub all_places_more : (modules : List ModuleTree) (k : ℕ) (m : ModuleTree) (old : List (Vec Place Global)) (new : Vec Place Global)
    → slice_get modules k ≡ Some m → new.items ≡ places_of m.ports → ArePlacesOf (take k modules) old → ArePlacesOf (take (k + 1) modules) (old ++ new ∷ [])
all_places_more modules k m old new at those so_far =
    let within = slice_get_within modules k m at in
    let more : take (k + 1) modules ≡ take k modules ++ m ∷ [] =
    take_more modules k m within ∙ ap (λ x. take k modules ++ x ∷ []) (get_or_from_slice_get modules k m m at) in
    map-append items_of old (new ∷ []) ∙ ap (λ l. l ++ new.items ∷ []) so_far
    ∙ ap (λ l. map port_places (take k modules) ++ l ∷ []) those
    ∙ sym (map-append port_places (take k modules) (m ∷ [])) ∙ ap (map port_places) (sym more)

pub all_places_end : (modules : List ModuleTree) (k : ℕ) (all : List (Vec Place Global)) → length modules ≤ k → ArePlacesOf (take k modules) all
    → ArePlacesOf modules all
all_places_end modules k all past so_far = subst (λ ms. ArePlacesOf ms all) (take_all k modules past) so_far

module _ (modules : List ModuleTree) (all : List (Vec Place Global)) (are : ArePlacesOf modules all) (name : List ℕ) (number : ℕ) where
  -- the module of that number has places, which are those of its ports
  record HasPlaces (o : Option (ℕ × ModuleTree)) : Type 0 where
    places : Vec Place Global
    at : slice_get all number ≡ Some places
    those : AreThose places.items o

  has_places : (o : Option (ℕ × ModuleTree)) → numbered_module 0 modules name ≡ o → IsNumberOf (Some number) o → HasPlaces o
  has_places None e is = absurd is
  has_places (Some child) e is =
      let at = module_at modules name number child.1 (e ∙ ap (λ (k : ℕ). Some (k, child.1)) (sym is)) in
      let own = beside items_of port_places all modules are number child.1 at in
      record { places = own.0; at = own.1; those = own.2 }

  module _ (is : IsNumberOf (Some number) (numbered_module 0 modules name)) where
    has : HasPlaces (numbered_module 0 modules name)
    has = has_places (numbered_module 0 modules name) refl is

    pub places_within : number < length all
    places_within = slice_get_within all number has.places has.at

    pub places_there : (places : Vec Place Global) → slice_get all number ≡ Some places → AreThose places.items (numbered_module 0 modules name)
    places_there places at =
        subst (λ (v : Vec Place Global). AreThose v.items (numbered_module 0 modules name)) (same_Some has.places places (sym has.at ∙ at)) has.those
