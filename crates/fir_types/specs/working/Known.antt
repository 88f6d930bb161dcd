-- What the code knows of a name.
use Rattle.std.specs.Prelude.{◌≡◌, ℕ, List, slice_get, Option, Some, None}
use Rattle.fir_ast.specs.Types.{DataType}
use Rattle.fir_meaning.specs.Flows.{Flow, source, both, port_flow}
use Rattle.fir_meaning.specs.TypedScopes.{Known, TypedScope, known}
use Rattle.fir_names.specs.declared.declaration.Component.{Component}
use Rattle.fir_names.specs.declared.declaration.Component.TheVariants as component
use Rattle.fir_names.specs.declared.declaration.Declaration.{Declaration}
use Rattle.fir_names.specs.declared.names.Names.{Names}
use Rattle.fir_names.specs.working.Tabulated.{found}
use Rattle.fir_type_table.specs.working.Tables.{types_of}
use Rattle.fir_types.specs.declared.found.Found.{Found}
use Rattle.fir_types.specs.declared.scope.Scope.{Scope}
use Rattle.fir_types.specs.working.Notes.{position_of}
use Rattle.fir_types.specs.working.Seen.{seen}

abbrev pub component_flow : Component → Flow
component_flow (component.Port d) = port_flow d
component_flow component.Wire = both
component_flow component.Register = both
component_flow component.Node = source
component_flow (component.Instance k) = source
component_flow component.Memory = source

abbrev pub known_there : List DataType → List ℕ → Component → Option (Option Found) → Option Known
known_there ts name c None = None
known_there ts name c (Some x) = Some (record { name = name; flow = component_flow c; data_type = seen ts x })

abbrev pub known_at : Scope → List ℕ → Option Declaration → Option Known
known_at scope name None = None
known_at scope name (Some d) = known_there (types_of scope.table) name d.component (slice_get scope.declared.items d.position)

-- what is declared under a name, if it is declared so far
abbrev pub known_in : Names → Scope → List ℕ → Option Known
known_in names scope name = known_at scope name (found names name)

-- how many are declared before it
abbrev pub position_there : ℕ → Option (Option Found) → Option ℕ
position_there position None = None
position_there position (Some x) = Some position

abbrev pub position_at : Scope → Option Declaration → Option ℕ
position_at scope None = None
position_at scope (Some d) = position_there d.position (slice_get scope.declared.items d.position)

abbrev pub position_in : Names → Scope → List ℕ → Option ℕ
position_in names scope name = position_at scope (found names name)

-- the code knows each name as it stands in the scope, and where
pub record Knows (names : Names) (scope : Scope) (typed : TypedScope) : Type 0 where
  pub each : (n : List ℕ) → known_in names scope n ≡ known typed n
  pub position : (n : List ℕ) (p : ℕ) → position_in names scope n ≡ Some p → p ≡ position_of typed n
