-- Where faults of widths may stand, in the order of the text: what is declared, each form of an expression, and each condition. What a rule of faults shows
-- of a circuit is what it shows at each.
use Rattle.std.specs.Prelude.{List, [], ◌∷◌, ◌++◌, flat_map, Option, Some, None}
use Rattle.fir_ast.specs.Expressions.{Expression, reference, literal, operation, mux, validif, Parts, no_parts, subfield, subindex, subaccess, Expressions, no_expressions, expression}
use Rattle.fir_ast.specs.Statements.{PlacedName, SinkReference, Reset, Statement, wire, register, node, instance, memory, when, connect, partial_connect, invalid, skip, Block, done, then}
use Rattle.fir_ast.specs.Circuits.{PortTree, ModuleTree, CircuitTree}
use Rattle.fir_ast.specs.Faults.{Fault}
use Rattle.fir_meaning.specs.Components.{Component}
use Rattle.fir_meaning.specs.Components as component
use Rattle.fir_meaning.specs.Visibility.{Before, with_declaration, opened, reopened, behind, behind_block, behind_ports, at_head}
use Rattle.fir_meaning.specs.SizedTypes.{Sized}
use Rattle.fir_meaning.specs.SizedScopes.{SizedScope, sink_expression}
use Rattle.fir_meaning.specs.SizedDeclarations.{NumberedModule, numbered_modules, sized_at, sized_declared}
use Rattle.fir_meaning.specs.WidthWalk.{FaultRule}

pub data Spot : Type 0 where
  of_component : ModuleTree → PlacedName → Component → Sized → Spot
  of_expression : SizedScope → Expression → Spot
  of_condition : SizedScope → Expression → Spot

abbrev pub shown_by : FaultRule → Spot → List Fault
shown_by rule (of_component m n c t) = rule.of_component m n c t
shown_by rule (of_expression scope e) = rule.of_expression scope e
shown_by rule (of_condition scope e) = rule.of_condition scope e

abbrev mutual
  pub spots_within : SizedScope → Expression → List Spot
  spots_within scope (reference p n ps) = spots_within_parts scope ps ++ of_expression scope (reference p n ps) ∷ []
  spots_within scope (literal l) = of_expression scope (literal l) ∷ []
  spots_within scope (operation p op es ks) = spots_within_each scope es ++ of_expression scope (operation p op es ks) ∷ []
  spots_within scope (mux p c a b) =
      spots_within scope c ++ of_condition scope c ∷ [] ++ spots_within scope a ++ spots_within scope b ++ of_expression scope (mux p c a b) ∷ []
  spots_within scope (validif p c a) =
      spots_within scope c ++ of_condition scope c ∷ [] ++ spots_within scope a ++ of_expression scope (validif p c a) ∷ []

  pub spots_within_parts : SizedScope → Parts → List Spot
  spots_within_parts scope no_parts = []
  spots_within_parts scope (subfield first p x rest) = spots_within_parts scope rest
  spots_within_parts scope (subindex first p i rest) = spots_within_parts scope rest
  spots_within_parts scope (subaccess first e rest) = spots_within scope e ++ spots_within_parts scope rest

  pub spots_within_each : SizedScope → Expressions → List Spot
  spots_within_each scope no_expressions = []
  spots_within_each scope (expression e es) = spots_within scope e ++ spots_within_each scope es

abbrev pub spots_of_condition : SizedScope → Expression → List Spot
spots_of_condition scope c = spots_within scope c ++ of_condition scope c ∷ []

abbrev pub spots_of_sink : SizedScope → SinkReference → List Spot
spots_of_sink scope sink = spots_within scope (sink_expression sink)

abbrev pub spots_of_reset : SizedScope → Option Reset → List Spot
spots_of_reset scope None = []
spots_of_reset scope (Some r) = spots_of_condition scope r.condition ++ spots_within scope r.init

-- a component that is declared at the place
abbrev pub spot_at : NumberedModule → Before → PlacedName → Component → Spot
spot_at m before n c = of_component m.inside n c (sized_declared m before n c)

abbrev mutual
  pub spots_in : NumberedModule → Before → Statement → List Spot
  spots_in m before (wire p n begins t) = spot_at m before n (component.wire t) ∷ []
  spots_in m before (register p n begins t c r) =
      spot_at m before n (component.register t) ∷ [] ++ spots_within (sized_at m before) c
      ++ spots_of_reset (sized_at m (with_declaration before n (component.register t))) r
  spots_in m before (node p n e) = spot_at m before n (component.node e) ∷ [] ++ spots_within (sized_at m before) e
  spots_in m before (instance p n other) = spot_at m before n (component.instance other.name) ∷ []
  spots_in m before (memory p n parts) = spot_at m before n (component.memory parts) ∷ []
  spots_in m before (when p c a b) =
      spots_of_condition (sized_at m before) c ++ spots_in_block m (opened before) a ++ spots_in_block m (reopened before (behind_block (opened before) a)) b
  spots_in m before (connect p sink e) = spots_of_sink (sized_at m before) sink ++ spots_within (sized_at m before) e
  spots_in m before (partial_connect p sink e) = spots_of_sink (sized_at m before) sink ++ spots_within (sized_at m before) e
  spots_in m before (invalid p sink) = spots_of_sink (sized_at m before) sink
  spots_in m before (skip p) = []

  pub spots_in_block : NumberedModule → Before → Block → List Spot
  spots_in_block m before done = []
  spots_in_block m before ((then) s b) = spots_in m before s ++ spots_in_block m (behind before s) b

abbrev pub spots_in_ports : NumberedModule → Before → List PortTree → List Spot
spots_in_ports m before [] = []
spots_in_ports m before (p ∷ ps) =
    spot_at m before p.named (component.port p.direction p.data_type) ∷ spots_in_ports m (with_declaration before p.named (component.port p.direction p.data_type)) ps

abbrev pub spots_in_module : NumberedModule → List Spot
spots_in_module m = spots_in_ports m at_head m.inside.ports ++ spots_in_block m (behind_ports at_head m.inside.ports) m.inside.body

abbrev pub spots : CircuitTree → List Spot
spots c = flat_map spots_in_module (numbered_modules c)
