-- What is found of the expressions of a module, in the order of the text: in each statement as they stand there.
use Rattle.std.specs.Prelude.{List, [], ◌++◌, map, Option, Some, None}
use Rattle.fir_ast.specs.Expressions.{Expression}
use Rattle.fir_ast.specs.Statements.{PlacedName, SinkReference, Reset, Statement, register, node, when, connect, partial_connect, invalid, Block, done, then}
use Rattle.fir_ast.specs.Circuits.{ModuleTree, CircuitTree}
use Rattle.fir_ast.specs.Types.{DataType}
use Rattle.fir_meaning.specs.Components as component
use Rattle.fir_meaning.specs.Visibility.{Before, with_declaration, opened, reopened, behind, behind_block, behind_ports, at_head}
use Rattle.fir_meaning.specs.TypedScopes.{TypedScope}
use Rattle.fir_meaning.specs.TypeGroup.{scope_at}
use Rattle.fir_types.specs.working.Notes.{Note, expression_notes, reference_notes}

abbrev pub reset_notes : TypedScope → Option Reset → List Note
reset_notes scope None = []
reset_notes scope (Some r) = expression_notes scope r.condition ++ expression_notes scope r.init

-- a register is known in its reset, and not in its clock
abbrev pub register_notes : List ModuleTree → Before → PlacedName → DataType → Expression → Option Reset → List Note
register_notes modules before n t c r =
    expression_notes (scope_at modules before) c ++ reset_notes (scope_at modules (with_declaration before n (component.register t))) r

abbrev pub connect_notes : TypedScope → SinkReference → Expression → List Note
connect_notes scope sink e = reference_notes scope sink ++ expression_notes scope e

abbrev mutual
  pub statement_notes : List ModuleTree → Before → Statement → List Note
  statement_notes modules before (register p n begins t c r) = register_notes modules before n t c r
  statement_notes modules before (node p n e) = expression_notes (scope_at modules before) e
  statement_notes modules before (when p c a b) =
      expression_notes (scope_at modules before) c ++ block_notes modules (opened before) a
      ++ block_notes modules (reopened before (behind_block (opened before) a)) b
  statement_notes modules before (connect p sink e) = connect_notes (scope_at modules before) sink e
  statement_notes modules before (partial_connect p sink e) = connect_notes (scope_at modules before) sink e
  statement_notes modules before (invalid p sink) = reference_notes (scope_at modules before) sink
  statement_notes modules before _ = []

  pub block_notes : List ModuleTree → Before → Block → List Note
  block_notes modules before done = []
  block_notes modules before ((then) s b) = statement_notes modules before s ++ block_notes modules (behind before s) b

abbrev pub module_notes : List ModuleTree → ModuleTree → List Note
module_notes modules m = block_notes modules (behind_ports at_head m.ports) m.body

abbrev pub circuit_notes : CircuitTree → List (List Note)
circuit_notes c = map (module_notes c.modules) c.modules
