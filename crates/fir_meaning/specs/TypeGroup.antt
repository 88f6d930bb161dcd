-- The faults of types and flows, E12 to E17, over the whole language, in the order of the text (FIRRTL spec, "Connects", "Registers", "Nodes", "Memories",
-- "Conditionals").
-- A declaration's own written type is judged first, at its name; then a statement's expressions in the order of the text; and what it shows itself comes
-- last, where its expressions have types.
use Rattle.std.specs.Prelude.{List, [], ◌∷◌, ◌++◌, flat_map, if◌then◌else◌, Option, Some, None, Result, Ok, Err}
use Rattle.fir_ast.specs.declared.place.Place.{Place}
use Rattle.fir_ast.specs.Types.{DataType, uint, clock, reset, async_reset}
use Rattle.fir_ast.specs.Expressions.{Expression}
use Rattle.fir_ast.specs.Statements.{PlacedName, SinkReference, Reset, Statement, register, node, memory, when, connect, partial_connect, invalid, Block, done, then}
use Rattle.fir_ast.specs.Circuits.{ModuleTree, CircuitTree}
use Rattle.fir_ast.specs.Faults.{Fault}
use Rattle.fir_pass.specs.Groups.{Group, in_order}
use Rattle.fir_meaning.specs.Components as component
use Rattle.fir_meaning.specs.Visibility.{Before, with_declaration, opened, reopened, behind, behind_block, behind_ports, at_head}
use Rattle.fir_meaning.specs.TypeKinds.{is_passive, is_numeric}
use Rattle.fir_meaning.specs.Equivalence.{is_equivalent}
use Rattle.fir_meaning.specs.ExpressionPlaces.{place_of}
use Rattle.fir_meaning.specs.KindFaults.{wrong_kinds, wrong_types, not_passive}
use Rattle.fir_meaning.specs.Checked.{Checked, after, together, shown_after}
use Rattle.fir_meaning.specs.TypedScopes.{TypedScope}
use Rattle.fir_meaning.specs.Reaching.{Reached}
use Rattle.fir_meaning.specs.ExpressionTypes.{expression_type, condition_form, reaching, reached_by}
use Rattle.fir_meaning.specs.ComponentTypes.{typed_scope}
use Rattle.fir_meaning.specs.MemoryFaults.{memory_faults}
use Rattle.fir_meaning.specs.ConnectFaults.{connect_faults, partial_connect_faults}

-- a register's clock
abbrev pub register_clock_at : Place → DataType → Result DataType Fault
register_clock_at p clock = Ok clock
register_clock_at p t = Err (wrong_kinds p (t ∷ []))

-- the condition of its reset
abbrev pub reset_at : Place → DataType → Result DataType Fault
reset_at p (uint width) = Ok (uint width)
reset_at p async_reset = Ok async_reset
reset_at p reset = Ok reset
reset_at p t = Err (wrong_kinds p (t ∷ []))

-- an init fits its register without the exception for Reset
abbrev pub init_at : Place → DataType → DataType → Result DataType Fault
init_at p t u = if is_equivalent t u then Ok u else Err (wrong_types p t u)

abbrev pub clock_faults : TypedScope → Expression → List Fault
clock_faults scope e = (after (expression_type scope e) (register_clock_at (place_of e))).shows

abbrev pub reset_faults : TypedScope → DataType → Option Reset → List Fault
reset_faults scope t None = []
reset_faults scope t (Some r) =
    (after (expression_type scope r.condition) (reset_at (place_of r.condition))).shows
    ++ (after (expression_type scope r.init) (init_at (place_of r.init) t)).shows

abbrev pub flipped_faults : PlacedName → DataType → List Fault
flipped_faults n t = if is_passive t then [] else not_passive n.place t ∷ []

-- of a register's own type
abbrev pub register_type_faults : PlacedName → DataType → List Fault
register_type_faults n t = (if is_numeric t then [] else wrong_kinds n.place (t ∷ []) ∷ []) ++ flipped_faults n t

abbrev pub sides : TypedScope → SinkReference → Expression → Checked (Reached × DataType)
sides scope sink e = together (λ r t. (r, t)) (reaching scope sink) (expression_type scope e)

-- what is declared so far, with its types
abbrev pub scope_at : List ModuleTree → Before → TypedScope
scope_at modules before = typed_scope modules before.declared

-- a register is known in its reset, and not in its clock
abbrev mutual
  pub type_faults_in : List ModuleTree → Before → Statement → List Fault
  type_faults_in modules before (register p n begins t c r) =
      register_type_faults n t ++ clock_faults (scope_at modules before) c
      ++ reset_faults (scope_at modules (with_declaration before n (component.register t))) t r
  type_faults_in modules before (node p n e) = shown_after (expression_type (scope_at modules before) e) (flipped_faults n)
  type_faults_in modules before (memory p n parts) = memory_faults n parts
  type_faults_in modules before (when p c a b) =
      (condition_form (place_of c) (expression_type (scope_at modules before) c)).shows ++ type_faults_in_block modules (opened before) a
      ++ type_faults_in_block modules (reopened before (behind_block (opened before) a)) b
  type_faults_in modules before (connect p sink e) =
      shown_after
      (sides (scope_at modules before) sink e)
      (λ found. connect_faults p found.0 (reached_by (scope_at modules before) e) found.1)
  type_faults_in modules before (partial_connect p sink e) =
      shown_after
      (sides (scope_at modules before) sink e)
      (λ found. partial_connect_faults p found.0 (reached_by (scope_at modules before) e) found.1)
  type_faults_in modules before (invalid p sink) = (reaching (scope_at modules before) sink).shows
  type_faults_in modules before _ = []

  pub type_faults_in_block : List ModuleTree → Before → Block → List Fault
  type_faults_in_block modules before done = []
  type_faults_in_block modules before ((then) s b) = type_faults_in modules before s ++ type_faults_in_block modules (behind before s) b

abbrev pub module_type_faults : List ModuleTree → ModuleTree → List Fault
module_type_faults modules m = type_faults_in_block modules (behind_ports at_head m.ports) m.body

abbrev pub type_faults : CircuitTree → List Fault
type_faults c = flat_map (module_type_faults c.modules) c.modules

abbrev pub type_group : CircuitTree → Group
type_group c = in_order (type_faults c)
