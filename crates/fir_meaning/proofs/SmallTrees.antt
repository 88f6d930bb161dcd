-- Short names for trees of small circuits.
use Rattle.std.proofs.Common.{ℕ, List, [], ◌∷◌, Bool, false, Option}
use Rattle.std.specs.Prelude.{codes}
use Rattle.fir_base.specs.declared.direction.Direction.TheVariants as direction
use Rattle.fir_bits.specs.declared.operators.PrimOp.{PrimOp}
use Rattle.fir_ast.specs.declared.place.Place.{Place}
use Rattle.fir_ast.specs.Types.{DataType, Fields, field}
use Rattle.fir_ast.specs.Expressions.{Expression, reference, literal, operation, Parts, no_parts, subfield, subindex, subaccess, no_expressions, expression}
use Rattle.fir_ast.specs.Statements.{PlacedName, Statement, wire, node, connect, Block, done, then}
use Rattle.fir_ast.specs.Circuits.{PortTree, ModuleTree, CircuitTree}

abbrev pub at : ℕ → ℕ → Place
at l c = record { line = l; col = c }

abbrev pub name_at : ℕ → ℕ → List ℕ → PlacedName
name_at l c name = record { place = at l c; name = name }

abbrev pub input : ℕ → ℕ → List ℕ → DataType → PortTree
input l c name t = record { direction = direction.Input; named = name_at l c name; type_place = at l c; data_type = t }

abbrev pub output : ℕ → ℕ → List ℕ → DataType → PortTree
output l c name t = record { direction = direction.Output; named = name_at l c name; type_place = at l c; data_type = t }

-- a field whose places do not matter
abbrev pub part_of : Bool → List ℕ → DataType → Fields → Fields
part_of flip name t rest = field (at 1 1) flip name (at 1 1) t rest

abbrev pub ref : ℕ → ℕ → List ℕ → Expression
ref l c name = reference (at l c) name no_parts

-- a name and an element, or an element that an index picks, or a field
abbrev pub element_of : ℕ → ℕ → List ℕ → ℕ → Expression
element_of l c name i = reference (at l c) name (subindex (at l c) (at l c) i no_parts)

abbrev pub picked_of : ℕ → ℕ → List ℕ → Expression → Expression
picked_of l c name e = reference (at l c) name (subaccess (at l c) e no_parts)

abbrev pub field_of : ℕ → ℕ → List ℕ → List ℕ → Expression
field_of l c name x = reference (at l c) name (subfield (at l c) (at l c) x no_parts)

abbrev pub uint_literal : ℕ → ℕ → Option ℕ → ℕ → Expression
uint_literal l c w n = literal (record { place = at l c; signed = false; width = w; negative = false; magnitude = n })

abbrev pub one : ℕ → ℕ → PrimOp → Expression → List ℕ → Expression
one l c op a ks = operation (at l c) op (expression a no_expressions) ks

abbrev pub two : ℕ → ℕ → PrimOp → Expression → Expression → Expression
two l c op a b = operation (at l c) op (expression a (expression b no_expressions)) []

abbrev pub wire_at : ℕ → ℕ → List ℕ → DataType → Statement
wire_at l c name t = wire (at l c) (name_at l c name) (at l c) t

abbrev pub node_at : ℕ → ℕ → List ℕ → Expression → Statement
node_at l c name e = node (at l c) (name_at l c name) e

abbrev pub assign_to : ℕ → ℕ → List ℕ → Parts → Expression → Statement
assign_to l c name parts e = connect (at l c) (record { place = at l c; name = name; parts = parts }) e

abbrev pub assign : ℕ → ℕ → List ℕ → Expression → Statement
assign l c name e = assign_to l c name no_parts e

abbrev pub block : List Statement → Block
block [] = done
block (s ∷ ss) = (then) s (block ss)

abbrev pub module_at : ℕ → ℕ → List ℕ → List PortTree → List Statement → ModuleTree
module_at l c name ports body = record { place = at l 3; named = name_at l c name; ports = ports; body = block body }

abbrev pub circuit : List ModuleTree → CircuitTree
circuit ms = record { named = name_at 1 9 (codes "T"); modules = ms }

abbrev pub main_only : List PortTree → List Statement → CircuitTree
main_only ports body = circuit (module_at 2 10 (codes "T") ports body ∷ [])
