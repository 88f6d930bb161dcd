-- Where faults of widths are looked for, in the order of the text (FIRRTL spec, "Statements", "Expressions"). In one expression operands come before the
-- operator, and an index is an operand of its reference; a condition is tested behind the faults inside it, before what it chooses.
use Rattle.std.specs.Prelude.{List, [], ◌∷◌, ◌++◌, flat_map, Option, Some, None}
use Rattle.fir_ast.specs.Expressions.{Expression, reference, literal, operation, mux, validif, Parts, no_parts, subfield, subindex, subaccess, Expressions, no_expressions, expression}
use Rattle.fir_ast.specs.Statements.{PlacedName, Reset, Statement, wire, register, node, instance, memory, when, connect, partial_connect, invalid, skip, Block, done, then}
use Rattle.fir_ast.specs.Circuits.{PortTree, ModuleTree, CircuitTree}
use Rattle.fir_ast.specs.Faults.{Fault}
use Rattle.fir_meaning.specs.Components.{Component}
use Rattle.fir_meaning.specs.Components as component
use Rattle.fir_meaning.specs.Visibility.{Before, with_declaration, opened, reopened, behind, behind_block, behind_ports, at_head}
use Rattle.fir_meaning.specs.SizedTypes.{Sized}
use Rattle.fir_meaning.specs.SizedScopes.{SizedScope, sink_expression}
use Rattle.fir_meaning.specs.SizedDeclarations.{NumberedModule, numbered_modules, sized_at, sized_declared}

-- which faults a component of a module, an expression and a condition show
pub record FaultRule : Type 0 where
  pub of_component : ModuleTree → PlacedName → Component → Sized → List Fault
  pub of_expression : SizedScope → Expression → List Fault
  pub of_condition : SizedScope → Expression → List Fault

abbrev mutual
  pub shown_within : FaultRule → SizedScope → Expression → List Fault
  shown_within rule scope (reference p n ps) = shown_within_parts rule scope ps ++ rule.of_expression scope (reference p n ps)
  shown_within rule scope (literal l) = rule.of_expression scope (literal l)
  shown_within rule scope (operation p op es ks) = shown_within_each rule scope es ++ rule.of_expression scope (operation p op es ks)
  shown_within rule scope (mux p c a b) =
      shown_within rule scope c ++ rule.of_condition scope c ++ shown_within rule scope a ++ shown_within rule scope b
      ++ rule.of_expression scope (mux p c a b)
  shown_within rule scope (validif p c a) =
      shown_within rule scope c ++ rule.of_condition scope c ++ shown_within rule scope a ++ rule.of_expression scope (validif p c a)

  pub shown_within_parts : FaultRule → SizedScope → Parts → List Fault
  shown_within_parts rule scope no_parts = []
  shown_within_parts rule scope (subfield first p x rest) = shown_within_parts rule scope rest
  shown_within_parts rule scope (subindex first p i rest) = shown_within_parts rule scope rest
  shown_within_parts rule scope (subaccess first e rest) = shown_within rule scope e ++ shown_within_parts rule scope rest

  pub shown_within_each : FaultRule → SizedScope → Expressions → List Fault
  shown_within_each rule scope no_expressions = []
  shown_within_each rule scope (expression e es) = shown_within rule scope e ++ shown_within_each rule scope es

abbrev pub shown_within_reset : FaultRule → SizedScope → Option Reset → List Fault
shown_within_reset rule scope None = []
shown_within_reset rule scope (Some r) =
    shown_within rule scope r.condition ++ rule.of_condition scope r.condition ++ shown_within rule scope r.init

-- of a component that is declared at the place
abbrev pub shown_at : FaultRule → NumberedModule → Before → PlacedName → Component → List Fault
shown_at rule m before n c = rule.of_component m.inside n c (sized_declared m before n c)

-- a register is known in its reset, and not in its clock
abbrev mutual
  pub shown_in : FaultRule → NumberedModule → Before → Statement → List Fault
  shown_in rule m before (wire p n begins t) = shown_at rule m before n (component.wire t)
  shown_in rule m before (register p n begins t c r) =
      shown_at rule m before n (component.register t) ++ shown_within rule (sized_at m before) c
      ++ shown_within_reset rule (sized_at m (with_declaration before n (component.register t))) r
  shown_in rule m before (node p n e) = shown_at rule m before n (component.node e) ++ shown_within rule (sized_at m before) e
  shown_in rule m before (instance p n other) = shown_at rule m before n (component.instance other.name)
  shown_in rule m before (memory p n parts) = shown_at rule m before n (component.memory parts)
  shown_in rule m before (when p c a b) =
      shown_within rule (sized_at m before) c ++ rule.of_condition (sized_at m before) c ++ shown_in_block rule m (opened before) a
      ++ shown_in_block rule m (reopened before (behind_block (opened before) a)) b
  shown_in rule m before (connect p sink e) = shown_within rule (sized_at m before) (sink_expression sink) ++ shown_within rule (sized_at m before) e
  shown_in rule m before (partial_connect p sink e) = shown_within rule (sized_at m before) (sink_expression sink) ++ shown_within rule (sized_at m before) e
  shown_in rule m before (invalid p sink) = shown_within rule (sized_at m before) (sink_expression sink)
  shown_in rule m before (skip p) = []

  pub shown_in_block : FaultRule → NumberedModule → Before → Block → List Fault
  shown_in_block rule m before done = []
  shown_in_block rule m before ((then) s b) = shown_in rule m before s ++ shown_in_block rule m (behind before s) b

abbrev pub shown_in_ports : FaultRule → NumberedModule → Before → List PortTree → List Fault
shown_in_ports rule m before [] = []
shown_in_ports rule m before (p ∷ ps) =
    shown_at rule m before p.named (component.port p.direction p.data_type)
    ++ shown_in_ports rule m (with_declaration before p.named (component.port p.direction p.data_type)) ps

abbrev pub shown_in_module : FaultRule → NumberedModule → List Fault
shown_in_module rule m =
    shown_in_ports rule m at_head m.inside.ports ++ shown_in_block rule m (behind_ports at_head m.inside.ports) m.inside.body

abbrev pub shown_in_circuit : FaultRule → CircuitTree → List Fault
shown_in_circuit rule c = flat_map (shown_in_module rule) (numbered_modules c)
