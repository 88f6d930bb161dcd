-- The type of what is declared (FIRRTL spec, "Ports", "Wires", "Registers", "Nodes", "Instances", "Memories").
-- A port, a wire and a register have the type that is written; a node that of its expression; an instance is the bundle of its module's ports, inputs
-- flipped; and a memory the bundle of its ports.
use Rattle.std.specs.Prelude.{ℕ, List, [], ◌∷◌, ◌++◌, Bool, true, false, if◌then◌else◌, Option, Some, None, option_map}
use Rattle.std.specs.Str.{bytes_eq}
use Rattle.fir_base.specs.declared.direction.Direction.{Direction}
use Rattle.fir_base.specs.declared.direction.Direction.TheVariants as direction
use Rattle.fir_ast.specs.declared.place.Place.{Place}
use Rattle.fir_ast.specs.Types.{DataType, bundle, Fields, no_fields, field}
use Rattle.fir_ast.specs.Circuits.{PortTree, ModuleTree}
use Rattle.fir_meaning.specs.Components.{Component, Declaration, Declarations, port, wire, register, node, instance, memory}
use Rattle.fir_meaning.specs.Flows.{flow_of}
use Rattle.fir_meaning.specs.TypedScopes.{Known, TypedScope}
use Rattle.fir_meaning.specs.ExpressionTypes.{expression_type}
use Rattle.fir_meaning.specs.MemoryTypes.{memory_type}

abbrev pub is_input : Direction → Bool
is_input direction.Input = true
is_input direction.Output = false

abbrev pub port_fields : List PortTree → Fields
port_fields [] = no_fields
port_fields (p ∷ ps) = field p.named.place (is_input p.direction) p.named.name p.type_place p.data_type (port_fields ps)

-- the first module of a name
abbrev pub find_module : List ModuleTree → List ℕ → Option ModuleTree
find_module [] name = None
find_module (m ∷ ms) name = if bytes_eq m.named.name name then Some m else find_module ms name

abbrev pub instance_bundle : ModuleTree → DataType
instance_bundle m = bundle (port_fields m.ports)

abbrev pub instance_type : List ModuleTree → List ℕ → Option DataType
instance_type modules name = option_map instance_bundle (find_module modules name)

-- of a component whose name stands at the place
abbrev pub component_type : List ModuleTree → TypedScope → Place → Component → Option DataType
component_type modules scope p (port d t) = Some t
component_type modules scope p (wire t) = Some t
component_type modules scope p (register t) = Some t
component_type modules scope p (node e) = (expression_type scope e).has
component_type modules scope p (instance name) = instance_type modules name
component_type modules scope p (memory parts) = memory_type p parts

abbrev pub known_as : List ModuleTree → TypedScope → Declaration → Known
known_as modules scope d =
    record { name = d.named.name; flow = flow_of d.component; data_type = component_type modules scope d.named.place d.component }

-- each declaration in the scope of those before it
abbrev pub typed_behind : List ModuleTree → TypedScope → Declarations → TypedScope
typed_behind modules scope [] = scope
typed_behind modules scope (d ∷ ds) = typed_behind modules (scope ++ known_as modules scope d ∷ []) ds

abbrev pub typed_scope : List ModuleTree → Declarations → TypedScope
typed_scope modules ds = typed_behind modules [] ds
