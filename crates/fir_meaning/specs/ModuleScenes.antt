-- A module of a circuit with the circuit's widths and resets, and what is declared at a place of it (FIRRTL spec, "Modules", "Namespaces").
use Rattle.std.specs.Prelude.{List, Bool, Option}
use Rattle.fir_ast.specs.Types.{DataType}
use Rattle.fir_ast.specs.Statements.{PlacedName}
use Rattle.fir_ast.specs.Circuits.{ModuleTree}
use Rattle.fir_meaning.specs.LeafPaths.{LeafPath}
use Rattle.fir_meaning.specs.Components.{Component}
use Rattle.fir_meaning.specs.Visibility.{Before, behind_ports, at_head}
use Rattle.fir_meaning.specs.TypedScopes.{TypedScope}
use Rattle.fir_meaning.specs.ComponentTypes.{component_type}
use Rattle.fir_meaning.specs.TypeGroup.{scope_at}
use Rattle.fir_meaning.specs.WidthExpressions.{Widths}
use Rattle.fir_meaning.specs.SizedDeclarations.{NumberedModule, sized_declared}
use Rattle.fir_meaning.specs.LeafTypes.{LeafType}
use Rattle.fir_meaning.specs.HeldTypes.{held_types}

-- a module of a circuit with the numbers of its leaves, the widths of the circuit, and which Resets of the module are asynchronous
pub record Scene : Type 0 where
  pub own : NumberedModule
  pub widths : Widths
  pub is_async : LeafPath → Bool

-- what is visible before a place of the module
abbrev pub scope_before : Scene → Before → TypedScope
scope_before s before = scope_at s.own.modules before

-- a component that is declared at a place
pub record Declared : Type 0 where
  pub named : PlacedName
  pub component : Component
  pub before : Before

abbrev pub type_of_declared : Scene → Declared → Option DataType
type_of_declared s d = component_type s.own.modules (scope_before s d.before) d.named.place d.component

abbrev pub held_by_declared : Scene → Declared → List LeafType
held_by_declared s d = held_types s.widths (sized_declared s.own d.before d.named d.component)

-- before the statements of the module
abbrev pub behind_all_ports : ModuleTree → Before
behind_all_ports m = behind_ports at_head m.ports
