-- Where the text declares a name and where it uses one, in the order of the text (FIRRTL spec, "Namespaces").
-- The names of a namespace are those of a circuit's modules, of a module's components over all blocks (a choice of this project), of a bundle's fields, or of
-- a memory's ports.
use Rattle.std.specs.Prelude.{ℕ, List, [], ◌∷◌, ◌++◌, map, Option, Some, None}
use Rattle.fir_ast.specs.declared.place.Place.{Place}
use Rattle.fir_ast.specs.Types.{DataType, bundle, vector, Fields, no_fields, field}
use Rattle.fir_ast.specs.Expressions.{Expression, reference, literal, operation, mux, validif, Parts, no_parts, subfield, subindex, subaccess, Expressions, no_expressions, expression}
use Rattle.fir_ast.specs.Statements.{PlacedName, SinkReference, Reset, MemoryPart, data_type, reader, writer, readwriter, Statement, wire, register, node, instance, memory, when, connect, partial_connect, invalid, Block, done, then}
use Rattle.fir_ast.specs.Circuits.{PortTree, ModuleTree, CircuitTree}
use Rattle.fir_meaning.specs.Components.{Declarations}
use Rattle.fir_meaning.specs.Components as component
use Rattle.fir_meaning.specs.Visibility.{Before, with_declaration, opened, reopened, behind, behind_block, behind_ports, at_head}

pub data Mention : Type 0 where
  -- a name is declared behind those of its namespace
  declares : List PlacedName → PlacedName → Mention
  -- a name is used where these declarations are visible
  uses : Declarations → Place → List ℕ → Mention
  -- a module is named, where these are the circuit's
  instantiates : List PlacedName → PlacedName → Mention

abbrev pub placed_name : Place → List ℕ → PlacedName
placed_name p n = record { place = p; name = n }

abbrev mutual
  pub type_mentions : DataType → List Mention
  type_mentions (bundle fs) = field_mentions [] fs
  type_mentions (vector t n) = type_mentions t
  type_mentions _ = []

  pub field_mentions : List PlacedName → Fields → List Mention
  field_mentions before no_fields = []
  field_mentions before (field p flip n begins t rest) =
      declares before (placed_name p n) ∷ (type_mentions t ++ field_mentions (before ++ placed_name p n ∷ []) rest)

abbrev mutual
  pub expression_mentions : Declarations → Expression → List Mention
  expression_mentions visible (reference p n ps) = uses visible p n ∷ part_mentions visible ps
  expression_mentions visible (literal l) = []
  expression_mentions visible (operation p op es ks) = operand_mentions visible es
  expression_mentions visible (mux p c a b) = expression_mentions visible c ++ expression_mentions visible a ++ expression_mentions visible b
  expression_mentions visible (validif p c a) = expression_mentions visible c ++ expression_mentions visible a

  pub part_mentions : Declarations → Parts → List Mention
  part_mentions visible no_parts = []
  part_mentions visible (subfield first p n rest) = part_mentions visible rest
  part_mentions visible (subindex first p index rest) = part_mentions visible rest
  part_mentions visible (subaccess first e rest) = expression_mentions visible e ++ part_mentions visible rest

  pub operand_mentions : Declarations → Expressions → List Mention
  operand_mentions visible no_expressions = []
  operand_mentions visible (expression e es) = expression_mentions visible e ++ operand_mentions visible es

abbrev pub sink_mentions : Declarations → SinkReference → List Mention
sink_mentions visible sink = uses visible sink.place sink.name ∷ part_mentions visible sink.parts

abbrev pub reset_mentions : Declarations → Option Reset → List Mention
reset_mentions visible None = []
reset_mentions visible (Some r) = expression_mentions visible r.condition ++ expression_mentions visible r.init

-- the ports of a memory, over its fields of all three kinds
abbrev pub port_mentions : List PlacedName → List PlacedName → List Mention
port_mentions before [] = []
port_mentions before (n ∷ ns) = declares before n ∷ port_mentions (before ++ n ∷ []) ns

abbrev pub ports_of : MemoryPart → List PlacedName
ports_of (reader p ns) = ns
ports_of (writer p ns) = ns
ports_of (readwriter p ns) = ns
ports_of _ = []

abbrev pub data_mentions : MemoryPart → List Mention
data_mentions (data_type p begins t) = type_mentions t
data_mentions _ = []

abbrev pub memory_mentions : List PlacedName → List MemoryPart → List Mention
memory_mentions before [] = []
memory_mentions before (m ∷ ms) = data_mentions m ++ port_mentions before (ports_of m) ++ memory_mentions (before ++ ports_of m) ms

abbrev pub names_declared : Before → List PlacedName
names_declared before = map (λ d. d.named) before.declared

-- a register is visible in its reset, and not in its clock; a node is not in its own expression
abbrev mutual
  pub mentions : List PlacedName → Before → Statement → List Mention
  mentions modules before (wire p n begins t) = declares (names_declared before) n ∷ type_mentions t
  mentions modules before (register p n begins t c r) =
      declares (names_declared before) n
      ∷ (type_mentions t ++ expression_mentions before.visible c ++ reset_mentions (with_declaration before n (component.register t)).visible r)
  mentions modules before (node p n e) = declares (names_declared before) n ∷ expression_mentions before.visible e
  mentions modules before (instance p n m) = declares (names_declared before) n ∷ instantiates modules m ∷ []
  mentions modules before (memory p n parts) = declares (names_declared before) n ∷ memory_mentions [] parts
  mentions modules before (when p c a b) =
      expression_mentions before.visible c ++ block_mentions modules (opened before) a
      ++ block_mentions modules (reopened before (behind_block (opened before) a)) b
  mentions modules before (connect p sink e) = sink_mentions before.visible sink ++ expression_mentions before.visible e
  mentions modules before (partial_connect p sink e) = sink_mentions before.visible sink ++ expression_mentions before.visible e
  mentions modules before (invalid p sink) = sink_mentions before.visible sink
  mentions modules before _ = []

  pub block_mentions : List PlacedName → Before → Block → List Mention
  block_mentions modules before done = []
  block_mentions modules before ((then) s b) = mentions modules before s ++ block_mentions modules (behind before s) b

abbrev pub ports_mentions : Before → List PortTree → List Mention
ports_mentions before [] = []
ports_mentions before (p ∷ ps) =
    declares (names_declared before) p.named
    ∷ (type_mentions p.data_type ++ ports_mentions (with_declaration before p.named (component.port p.direction p.data_type)) ps)

abbrev pub module_mentions : List PlacedName → ModuleTree → List Mention
module_mentions modules m = ports_mentions at_head m.ports ++ block_mentions modules (behind_ports at_head m.ports) m.body

abbrev pub module_names : CircuitTree → List PlacedName
module_names c = map (λ m. m.named) c.modules

-- in the modules from one on, behind those names
abbrev pub modules_mentions : List PlacedName → List PlacedName → List ModuleTree → List Mention
modules_mentions modules before [] = []
modules_mentions modules before (m ∷ ms) = declares before m.named ∷ (module_mentions modules m ++ modules_mentions modules (before ++ m.named ∷ []) ms)

abbrev pub circuit_mentions : CircuitTree → List Mention
circuit_mentions c = modules_mentions (module_names c) [] c.modules
