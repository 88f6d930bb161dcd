-- Where the leaves of the ports of modules stand.
use Rattle.std.specs.Prelude.{◌≡◌, List, Vec, flat_map, map, replicate}
use Rattle.std.specs.Global.{Global}
use Rattle.fir_ast.specs.declared.place.Place.{Place}
use Rattle.fir_ast.specs.Circuits.{ModuleTree, PortTree}
use Rattle.fir_meaning.specs.TypeLeaves.{leaf_count}

-- of each leaf of these ports, where its port stands
abbrev pub places_of : List PortTree → List Place
places_of ps = flat_map (λ p. replicate (leaf_count p.data_type) p.named.place) ps

-- of each of these modules
abbrev pub ArePlacesOf : List ModuleTree → List (Vec Place Global) → Type 0
ArePlacesOf modules all = map (λ v. v.items) all ≡ map (λ m. places_of m.ports) modules
