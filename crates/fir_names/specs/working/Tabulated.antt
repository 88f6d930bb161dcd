-- The code's table of what a module declares.
use Rattle.std.specs.Prelude.{◌≡◌, ℕ, suc, List, [], ◌∷◌, map, if◌then◌else◌, slice_get, Option, Some, None}
use Rattle.std.specs.Str.{bytes_eq}
use Rattle.indexmap.specs.IndexMap.{get_by, index_map_len, values}
use Rattle.fir_base.specs.Lists.{Distinct}
use Rattle.fir_ast.specs.Statements.{PlacedName}
use Rattle.fir_meaning.specs.Components.{Declaration, Declarations}
use Rattle.fir_names.specs.declared.declaration.Declaration.{Declaration as Entry}
use Rattle.fir_names.specs.declared.names.Names.{Names}
use Rattle.fir_names.specs.working.Numbered.{component_of}

-- the entry of a declaration behind so many
abbrev pub entry_of : List PlacedName → ℕ → Declaration → Entry
entry_of modules position d = record { place = d.named.place; component = component_of modules d.component; position = position; depth = d.depth }

-- the entries of declarations behind so many
abbrev pub entries_from : List PlacedName → ℕ → Declarations → List Entry
entries_from modules position [] = []
entries_from modules position (d ∷ ds) = entry_of modules position d ∷ entries_from modules (suc position) ds

-- the entry of the first declaration of a name
abbrev pub entry_named : List PlacedName → ℕ → Declarations → List ℕ → Option Entry
entry_named modules position [] name = None
entry_named modules position (d ∷ ds) name = if bytes_eq d.named.name name then Some (entry_of modules position d) else entry_named modules (suc position) ds name

-- how many entries the table has, and the one before which so many stand
abbrev pub entry_count : Names → ℕ
entry_count names = index_map_len names.declarations

abbrev pub entry_at : Names → ℕ → Option Entry
entry_at names position = slice_get (values names.declarations) position

-- what the table has under a name
abbrev pub found : Names → List ℕ → Option Entry
found names name = get_by (λ known. bytes_eq name known.items) names.declarations

-- the table has each declaration, in order and by name, and no name stands twice
pub record Tabulates (modules : List PlacedName) (names : Names) (ds : Declarations) : Type 0 where
  pub in_order : values names.declarations ≡ entries_from modules 0 ds
  pub by_name : (n : List ℕ) → found names n ≡ entry_named modules 0 ds n
  pub once : Distinct (map (λ d. d.named.name) ds)
