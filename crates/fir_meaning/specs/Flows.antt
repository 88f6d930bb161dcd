-- What may drive a component, and what a component may drive (FIRRTL spec, "Flow").
-- An input port is a source and an output port a sink; flip turns it. An instance and a memory are bundles of sources, whose inputs and port fields are
-- flipped. Wires and registers are both, nodes are sources. All leaves may be read, own outputs and inputs of instances too: a choice of this project.
use Rattle.std.specs.Prelude.{Bool, true, false}
use Rattle.fir_base.specs.declared.direction.Direction.{Direction}
use Rattle.fir_base.specs.declared.direction.Direction.TheVariants as direction
use Rattle.fir_meaning.specs.Components.{Component}
use Rattle.fir_meaning.specs.Components as component

pub data Flow : Type 0 where
  source : Flow
  sink : Flow
  both : Flow

abbrev pub flow_under : Bool → Flow → Flow
flow_under true source = sink
flow_under true sink = source
flow_under _ f = f

abbrev pub is_source : Flow → Bool
is_source source = true
is_source _ = false

abbrev pub port_flow : Direction → Flow
port_flow direction.Input = source
port_flow direction.Output = sink

abbrev pub flow_of : Component → Flow
flow_of (component.port d t) = port_flow d
flow_of (component.wire t) = both
flow_of (component.register t) = both
flow_of (component.node e) = source
flow_of (component.instance name) = source
flow_of (component.memory parts) = source
