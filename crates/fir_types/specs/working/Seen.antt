-- What the code's findings stand for.
use Rattle.std.specs.Prelude.{List, [], ◌∷◌, if◌then◌else◌, Option, Some, None, option_map}
use Rattle.fir_ast.specs.Types.{DataType, async_reset}
use Rattle.fir_ast.specs.Expressions.{Parts, no_parts, subfield, subindex, subaccess}
use Rattle.fir_ast.specs.Statements.{SinkReference}
use Rattle.fir_meaning.specs.LeafPaths.{LeafPath, named, element}
use Rattle.fir_meaning.specs.TypeKinds.{FieldFound}
use Rattle.fir_meaning.specs.Flows.{Flow, source, sink, both}
use Rattle.fir_meaning.specs.Reaching.{Reached}
use Rattle.fir_meaning.specs.ExpressionTypes.{number_data_type}
use Rattle.fir_type_table.specs.working.Tables.{type_at, shown}
use Rattle.fir_types.specs.declared.found.Found.{Found}
use Rattle.fir_types.specs.declared.found.Found.TheVariants as found
use Rattle.fir_types.specs.declared.found.FieldOf.{FieldOf}
use Rattle.fir_types.specs.declared.flow.Flow.{Flow as FlowOfCode}
use Rattle.fir_types.specs.declared.flow.Flow.TheVariants as flow
use Rattle.fir_types.specs.declared.reach.Reach.{Reach}

abbrev pub found_type : List DataType → Found → DataType
found_type ts (found.Number signed width) = number_data_type signed width
found_type ts found.AsyncReset = async_reset
found_type ts (found.Type id is_bare) = shown is_bare (type_at ts id.number)

abbrev pub seen : List DataType → Option Found → Option DataType
seen ts = option_map (found_type ts)

abbrev pub field_seen : List DataType → FieldOf → FieldFound
field_seen ts f = record { flip = f.flip; data_type = found_type ts f.found }

abbrev pub flow_seen : FlowOfCode → Flow
flow_seen flow.Source = source
flow_seen flow.Sink = sink
flow_seen flow.Both = both

-- with the path that leads there, if one does
abbrev pub reached_as : List DataType → LeafPath → Reach → Reached
reached_as ts path r = record { data_type = found_type ts r.found; flow = flow_seen r.flow; path = if r.leads then Some path else None }

-- the steps of parts, the first element for a dynamic index
abbrev pub steps_of : Parts → LeafPath
steps_of no_parts = []
steps_of (subfield first p x rest) = named x ∷ steps_of rest
steps_of (subindex first p i rest) = element i ∷ steps_of rest
steps_of (subaccess first e rest) = element 0 ∷ steps_of rest

-- the path of a reference
abbrev pub sink_path : SinkReference → LeafPath
sink_path s = named s.name ∷ steps_of s.parts
