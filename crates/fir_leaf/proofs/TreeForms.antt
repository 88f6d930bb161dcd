-- Short names for the parts of trees, with all their places.
use Rattle.std.proofs.Common.{ℕ, List, Bool, true, false, Option, Some}
use Rattle.fir_base.specs.declared.direction.Direction.{Direction}
use Rattle.fir_ast.specs.declared.place.Place.{Place}
use Rattle.fir_ast.specs.Types.{DataType}
use Rattle.fir_ast.specs.Expressions.{Expression, literal, Parts}
use Rattle.fir_ast.specs.Statements.{PlacedName, SinkReference, Reset, Statement}
use Rattle.fir_ast.specs.Circuits.{PortTree, ModuleTree, CircuitTree}
use Rattle.fir_meaning.proofs.SmallTrees.{block}

abbrev pub circuit_tree : PlacedName → List ModuleTree → CircuitTree
circuit_tree name modules = record { named = name; modules = modules }

abbrev pub module_tree : Place → PlacedName → List PortTree → List Statement → ModuleTree
module_tree place name ports body = record { place = place; named = name; ports = ports; body = block body }

abbrev pub port_tree : Direction → PlacedName → Place → DataType → PortTree
port_tree direction name type_place t = record { direction = direction; named = name; type_place = type_place; data_type = t }

abbrev pub sink : Place → List ℕ → Parts → SinkReference
sink place name parts = record { place = place; name = name; parts = parts }

abbrev pub with_reset : Place → Expression → Expression → Option Reset
with_reset place condition init = Some (record { place = place; condition = condition; init = init })

abbrev pub unsigned : Place → Option ℕ → ℕ → Expression
unsigned place width number = literal (record { place = place; signed = false; width = width; negative = false; magnitude = number })

abbrev pub signed : Place → Option ℕ → Bool → ℕ → Expression
signed place width negative magnitude = literal (record { place = place; signed = true; width = width; negative = negative; magnitude = magnitude })
