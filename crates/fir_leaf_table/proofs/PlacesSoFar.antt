-- The code's walk over the ports of an instance's module.
use Rattle.std.proofs.Common.{◌≡◌, ℕ, ◌+◌, ◌^◌, ◌<◌, ◌≤◌, List, ◌∷◌, ◌++◌, map, length, get_or, drop, Option, Some, None, sym, ap, ◌∙◌, arith, append_assoc, length-append, Vec, Global}
use Rattle.std.specs.Prelude.{replicate}
use Rattle.std.proofs.lemmas.List.{drop_more, get_or-map, get_or_append_left, length-map, length-replicate}
use Rattle.fir_ast.specs.declared.circuit.Port.{Port}
use Rattle.fir_ast.specs.declared.place.Place.{Place}
use Rattle.fir_ast.specs.Circuits.{PortTree}
use Rattle.fir_ast.specs.Types.{DataType}
use Rattle.fir_ast.specs.working.Views.{port_of}
use Rattle.fir_ast.specs.working.TypeViews.{type_of}
use Rattle.fir_meaning.specs.Costs.{leaves_where}
use Rattle.fir_meaning.specs.TypeLeaves.{leaf_count}
use Rattle.fir_type_table.specs.working.Saturated.{saturated}
use Rattle.fir_types.specs.declared.found.Found.{Found}
use Rattle.fir_types.specs.working.Seen.{seen}
use Rattle.fir_leaf_table.specs.working.ModulePlaces.{places_of}
use Rattle.fir_leaf_table.specs.working.PortPlaces.{HaveTypes}

module _ (ts : List DataType) (ports : List Port) (found : List (Option Found)) (types : HaveTypes ts (map port_of ports) found) where
  abbrev typed : PortTree → Option DataType
  typed p = Some p.data_type

  long : length ports ≤ length found
  long =
      omega (
        arith,
        length-map found (seen ts),
        ap length types.1,
        length-append (map typed (map port_of ports)) types.0,
        length-map (map port_of ports) typed,
        length-map ports port_of,
      )

  type_there : (k : ℕ) (port : Port) (f : Option Found) → k < length ports → port ≡ get_or ports k port → f ≡ get_or found k f
      → seen ts f ≡ Some (type_of port.ty)
  type_there k port f lt own there =
      let among : k < length found = omega (arith, long) in
      let within : k < length (map typed (map port_of ports)) = omega (arith, length-map (map port_of ports) typed, length-map ports port_of) in
      let inside : k < length (map port_of ports) = omega (arith, length-map ports port_of) in
      ap (seen ts) there ∙ sym (get_or-map (seen ts) found k f None among) ∙ ap (λ l. get_or l k None) types.1
      ∙ get_or_append_left (map typed (map port_of ports)) types.0 None k within
      ∙ get_or-map typed (map port_of ports) k (port_of port) None inside
      ∙ ap typed (get_or-map port_of ports k port (port_of port) lt ∙ ap port_of (sym own))

  pub places_more : (all : List Place) (k count : ℕ) (port : Port) (f : Option Found) (old new : Vec Place Global) → k < length ports
      → port ≡ get_or ports k port → f ≡ get_or found k f → count ≡ saturated (leaves_where (seen ts f))
      → new.items ≡ old.items ++ replicate count port.ident.place → old.items ++ places_of (map port_of (drop k ports)) ≡ all
      → new.items ++ places_of (map port_of (drop (k + 1) ports)) ≡ all
  places_more all k count port f old new lt own there counted grown so_far =
      let n = leaf_count (type_of port.ty) in
      let is : count ≡ saturated n = counted ∙ ap (λ t. saturated (leaves_where t)) (type_there k port f lt own there) in
      let few : length new.items < 2 ^ 63 = omega (arith, new.ok.0, new.ok.1, new.small) in
      let many : count ≤ length new.items =
      omega (arith, ap length grown, length-append old.items (replicate count port.ident.place), length-replicate count port.ident.place) in
      let exact : count ≡ n = omega (arith, is) in
      let rest = places_of (map port_of (drop (k + 1) ports)) in
      let first : drop k ports ≡ port ∷ drop (k + 1) ports = drop_more ports k port lt ∙ ap (λ p. p ∷ drop (k + 1) ports) (sym own) in
      ap (λ l. l ++ rest) (grown ∙ ap (λ m. old.items ++ replicate m port.ident.place) exact)
      ∙ append_assoc old.items (replicate n port.ident.place) rest
      ∙ ap (λ ps. old.items ++ places_of (map port_of ps)) (sym first)
      ∙ so_far
