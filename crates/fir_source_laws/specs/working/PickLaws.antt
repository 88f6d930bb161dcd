-- What a sub-access names (FIRRTL spec, "Sub-accesses", "Sub-indices").
-- Where the value of its index is in range it is the sub-index of that number, in what it reads and in what it drives. Out of range it reads zero, and names no
-- leaf, so that it drives none.
use Rattle.std.specs.Prelude.{◌≡◌, ℕ, ◌<◌, ◌≤◌, List, [], Option, Some, None}
use Rattle.fir_ast.specs.declared.place.Place.{Place}
use Rattle.fir_ast.specs.Expressions.{Expression, Parts, no_parts, reference, subaccess, subfield, subindex}
use Rattle.fir_ast.specs.Types.{DataType}
use Rattle.fir_meaning.specs.LeafPaths.{LeafPath}
use Rattle.fir_meaning.specs.Reaching.{vector_of_type}
use Rattle.fir_meaning.specs.TypedScopes.{TypedScope}
use Rattle.fir_meaning.specs.TreeValues.{TypesByPath, ValuesByPath, aim_of, value}

-- some parts, and others behind them
abbrev pub further_parts : Parts → Parts → Parts
further_parts no_parts more = more
further_parts (subfield first p x rest) more = subfield first p x (further_parts rest more)
further_parts (subindex first p i rest) more = subindex first p i (further_parts rest more)
further_parts (subaccess first e rest) more = subaccess first e (further_parts rest more)

module _ (scope : TypedScope) (holds : TypesByPath) (env : ValuesByPath) (here : Place) (name : List ℕ) where
  -- the path that parts lead to from a name, and the number that is read there
  abbrev pub path_of_parts : Parts → Option LeafPath
  path_of_parts ps = (aim_of scope holds env (record { place = here; name = name; parts = ps })).at

  abbrev pub read_of_parts : Parts → LeafPath → ℕ
  read_of_parts ps q = (value scope holds env (reference here name ps) q).value.number

  abbrev pub type_of_parts : Parts → DataType
  type_of_parts ps = (aim_of scope holds env (record { place = here; name = name; parts = ps })).data_type

  -- behind parts that lead to a vector, with other parts behind the index
  abbrev pub PicksAt : Parts → Parts → Expression → Place → Place → ℕ → ℕ → Type 0
  PicksAt front rest e first stands n i =
      (i < n
      → (path_of_parts (further_parts front (subaccess first e rest)) ≡ path_of_parts (further_parts front (subindex first stands i rest)))
      × ((q : LeafPath) → read_of_parts (further_parts front (subaccess first e rest)) q ≡ read_of_parts (further_parts front (subindex first stands i rest)) q))
      × (n ≤ i
      → (path_of_parts (further_parts front (subaccess first e rest)) ≡ None)
      × ((q : LeafPath) → read_of_parts (further_parts front (subaccess first e rest)) q ≡ 0))

abbrev pub SubaccessesPick : Type 0
SubaccessesPick =
    (scope : TypedScope) (holds : TypesByPath) (env : ValuesByPath) (here : Place) (name : List ℕ) (front rest : Parts) (e : Expression)
    (first stands : Place) (t : DataType) (n : ℕ) → vector_of_type (type_of_parts scope holds env here name front) ≡ Some (t, n)
    → PicksAt scope holds env here name front rest e first stands n (value scope holds env e []).value.number
