-- The rules that a circuit makes for its unknown widths (FIRRTL spec, "Width Inference"): an unknown is at least the width of each leaf connected to it, of its
-- register's init and of its node's expression.
use Rattle.std.specs.Prelude.{List, [], ◌∷◌, ◌++◌, flat_map, false, Option, Some, None}
use Rattle.fir_ast.specs.Statements.{Reset, Statement, register, node, when, connect, partial_connect, Block, done, then}
use Rattle.fir_ast.specs.Circuits.{CircuitTree}
use Rattle.fir_meaning.specs.Components as component
use Rattle.fir_meaning.specs.Visibility.{Before, with_declaration, opened, reopened, behind, behind_block, behind_ports, at_head}
use Rattle.fir_meaning.specs.WidthExpressions.{Width, unknown, Widths, Rule, IsLeastOf}
use Rattle.fir_meaning.specs.SizedTypes.{Sized}
use Rattle.fir_meaning.specs.SizedMatches.{matches}
use Rattle.fir_meaning.specs.SizedScopes.{SizedScope, sized_type, sink_expression}
use Rattle.fir_meaning.specs.SizedDeclarations.{NumberedModule, numbered_modules, sized_at, sized_declared}

-- a written width asks for nothing
abbrev pub bound : Width → Width → List Rule
bound (unknown k) at_least = record { number = k; at_least = at_least } ∷ []
bound _ at_least = []

abbrev pub connect_rules : Sized → Sized → List Rule
connect_rules left right = flat_map (λ m. bound m.driven m.driver) (matches false left right)

abbrev pub init_rules : Sized → SizedScope → Option Reset → List Rule
init_rules t scope None = []
init_rules t scope (Some r) = connect_rules t (sized_type scope r.init)

abbrev mutual
  pub rules_in : NumberedModule → Before → Statement → List Rule
  rules_in m before (register p n begins t c r) =
      init_rules
      (sized_declared m before n (component.register t))
      (sized_at m (with_declaration before n (component.register t)))
      r
  rules_in m before (node p n e) = connect_rules (sized_declared m before n (component.node e)) (sized_type (sized_at m before) e)
  rules_in m before (when p c a b) = rules_in_block m (opened before) a ++ rules_in_block m (reopened before (behind_block (opened before) a)) b
  rules_in m before (connect p sink e) = connect_rules (sized_type (sized_at m before) (sink_expression sink)) (sized_type (sized_at m before) e)
  rules_in m before (partial_connect p sink e) = connect_rules (sized_type (sized_at m before) (sink_expression sink)) (sized_type (sized_at m before) e)
  rules_in m before _ = []

  pub rules_in_block : NumberedModule → Before → Block → List Rule
  rules_in_block m before done = []
  rules_in_block m before ((then) s b) = rules_in m before s ++ rules_in_block m (behind before s) b

abbrev pub rules : CircuitTree → List Rule
rules c = flat_map (λ m. rules_in_block m (behind_ports at_head m.inside.ports) m.inside.body) (numbered_modules c)

-- the widths of a circuit: the least assignment that meets all rules
abbrev pub AreWidths : CircuitTree → Widths → Type 0
AreWidths c w = IsLeastOf (rules c) w
