-- The places in a tree, in the order of its text, and when places rise.
-- A connect, a partial connect and an invalid stand where their sink does, and an operation, a mux, a validif and a literal at their word.
use Rattle.std.specs.Prelude.{◌≡◌, ◌<◌, List, [], ◌∷◌, ◌++◌, map, flat_map, Option, Some, None, ◌⊎◌}
use Rattle.std.specs.List.{AllByRecursion}
use Rattle.fir_ast.specs.declared.place.Place.{Place}
use Rattle.fir_ast.specs.Types.{DataType, uint, sint, clock, reset, async_reset, bundle, vector, Fields, no_fields, field}
use Rattle.fir_ast.specs.Expressions.{Expression, reference, literal, operation, mux, validif, Parts, no_parts, subfield, subindex, subaccess, Expressions, no_expressions, expression}
use Rattle.fir_ast.specs.Statements.{PlacedName, Reset, MemoryPart, data_type, depth, read_latency, write_latency, reader, writer, readwriter, read_under_write, Statement, wire, register, node, instance, memory, when, connect, partial_connect, invalid, skip, Block, done, then}
use Rattle.fir_ast.specs.Circuits.{PortTree, ModuleTree, CircuitTree}

abbrev pub IsBefore : Place → Place → Type 0
IsBefore p q = (p.line < q.line) ⊎ ((p.line ≡ q.line) × (p.col < q.col))

-- each place is before all that follow
abbrev pub Rise : List Place → Type 0
Rise [] = Unit {0}
Rise (p ∷ ps) = AllByRecursion (IsBefore p) ps × Rise ps

-- within a type, behind the place where it begins
abbrev mutual
  pub type_places : DataType → List Place
  type_places (uint w) = []
  type_places (sint w) = []
  type_places clock = []
  type_places reset = []
  type_places async_reset = []
  type_places (bundle fs) = fields_places fs
  type_places (vector t n) = type_places t

  pub fields_places : Fields → List Place
  fields_places no_fields = []
  fields_places (field p flip n q t rest) = p ∷ q ∷ type_places t ++ fields_places rest

abbrev mutual
  pub expression_places : Expression → List Place
  expression_places (reference p w ps) = p ∷ parts_places ps
  expression_places (literal l) = l.place ∷ []
  expression_places (operation p op es ns) = p ∷ expressions_places es
  expression_places (mux p c a b) = p ∷ expression_places c ++ (expression_places a ++ expression_places b)
  expression_places (validif p c a) = p ∷ expression_places c ++ expression_places a

  pub parts_places : Parts → List Place
  parts_places no_parts = []
  parts_places (subfield q p n rest) = q ∷ p ∷ parts_places rest
  parts_places (subindex q p n rest) = q ∷ p ∷ parts_places rest
  parts_places (subaccess q e rest) = q ∷ expression_places e ++ parts_places rest

  pub expressions_places : Expressions → List Place
  expressions_places no_expressions = []
  expressions_places (expression e rest) = expression_places e ++ expressions_places rest

abbrev pub reset_places : Option Reset → List Place
reset_places None = []
reset_places (Some r) = r.place ∷ expression_places r.condition ++ expression_places r.init

abbrev pub name_places : List PlacedName → List Place
name_places = map (λ n. n.place)

abbrev pub memory_part_places : MemoryPart → List Place
memory_part_places (data_type p q t) = p ∷ q ∷ type_places t
memory_part_places (depth p n) = p ∷ []
memory_part_places (read_latency p n) = p ∷ []
memory_part_places (write_latency p n) = p ∷ []
memory_part_places (reader p ns) = p ∷ name_places ns
memory_part_places (writer p ns) = p ∷ name_places ns
memory_part_places (readwriter p ns) = p ∷ name_places ns
memory_part_places (read_under_write p u) = p ∷ []

abbrev pub memory_places : List MemoryPart → List Place
memory_places = flat_map memory_part_places

abbrev mutual
  pub statement_places : Statement → List Place
  statement_places (wire p n q t) = p ∷ n.place ∷ q ∷ type_places t
  statement_places (register p n q t c r) = p ∷ n.place ∷ q ∷ type_places t ++ (expression_places c ++ reset_places r)
  statement_places (node p n e) = p ∷ n.place ∷ expression_places e
  statement_places (instance p n m) = p ∷ n.place ∷ m.place ∷ []
  statement_places (memory p n fs) = p ∷ n.place ∷ memory_places fs
  statement_places (when p e b f) = p ∷ expression_places e ++ (block_places b ++ block_places f)
  statement_places (connect p s e) = p ∷ parts_places s.parts ++ expression_places e
  statement_places (partial_connect p s e) = p ∷ parts_places s.parts ++ expression_places e
  statement_places (invalid p s) = p ∷ parts_places s.parts
  statement_places (skip p) = p ∷ []

  pub block_places : Block → List Place
  block_places done = []
  block_places ((then) s rest) = statement_places s ++ block_places rest

abbrev pub port_places : PortTree → List Place
port_places p = p.named.place ∷ p.type_place ∷ type_places p.data_type

abbrev pub module_places : ModuleTree → List Place
module_places m = m.place ∷ m.named.place ∷ flat_map port_places m.ports ++ block_places m.body

abbrev pub circuit_places : CircuitTree → List Place
circuit_places c = c.named.place ∷ flat_map module_places c.modules
