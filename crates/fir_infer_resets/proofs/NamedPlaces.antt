-- Where the table of a module's names says that a name is declared.
use Rattle.std.proofs.Common.{◌≡◌, ℕ, suc, List, [], ◌∷◌, Bool, true, false, if◌then◌else◌, Option, Some, None, refl, ap, ◌∙◌}
use Rattle.std.specs.Str.{bytes_eq}
use Rattle.fir_ast.specs.declared.place.Place.{Place}
use Rattle.fir_ast.specs.Statements.{PlacedName}
use Rattle.fir_meaning.specs.Components.{Declarations, find}
use Rattle.fir_names.specs.declared.declaration.Declaration.{Declaration as Entry}
use Rattle.fir_names.specs.declared.names.Names.{Names}
use Rattle.fir_names.specs.working.Tabulated.{Tabulates, entry_of, entry_named, found}
use Rattle.fir_meaning.specs.ResetItems.{declared_at}

-- the place of an entry, if there is one
abbrev pub place_in : Place → Option Entry → Place
place_in p None = p
place_in p (Some e) = e.place

place_named : (modules : List PlacedName) (position : ℕ) (ds : Declarations) (n : List ℕ) (p : Place) → place_in p (entry_named modules position ds n) ≡ declared_at p (find ds n)
place_named modules position [] n p = refl
place_named modules position (d ∷ ds) n p = by (bytes_eq d.named.name n) (place_named modules (suc position) ds n p)
  where
    by : (b : Bool) → place_in p (entry_named modules (suc position) ds n) ≡ declared_at p (find ds n)
        → place_in p (if b then Some (entry_of modules position d) else entry_named modules (suc position) ds n) ≡ declared_at p (if b then Some d else find ds n)
    by true e = refl
    by false e = e

pub place_found : (modules : List PlacedName) (names : Names) (ds : Declarations) (n : List ℕ) (p : Place) (o : Option Entry) → Tabulates modules names ds → o ≡ found names n
    → place_in p o ≡ declared_at p (find ds n)
place_found modules names ds n p o t e = ap (place_in p) (e ∙ t.by_name n) ∙ place_named modules 0 ds n p
