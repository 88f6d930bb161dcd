-- What may be expected in a place of a text, and which tree it makes.
-- A number `d` is how many blocks of whens and elses and brackets of the statement are open there. A symbol that stands behind a word has the
-- word and its place.
use Rattle.std.specs.Prelude.{ℕ, Bool, List, Option}
use Rattle.fir_base.specs.declared.direction.Direction.{Direction}
use Rattle.fir_ast.specs.declared.place.Place.{Place}
use Rattle.fir_ast.specs.declared.expressions.Literal.{Literal}
use Rattle.fir_ast.specs.declared.statements.ReadUnderWrite.{ReadUnderWrite}
use Rattle.fir_ast.specs.Types.{DataType, Fields}
use Rattle.fir_ast.specs.Expressions.{Expression, Parts}
use Rattle.fir_ast.specs.Statements.{PlacedName, SinkReference, Reset, MemoryPart, Statement, Block}
use Rattle.fir_ast.specs.Circuits.{PortTree, ModuleTree, CircuitTree}
use Rattle.fir_parse.specs.declared.lexeme.Mark.{Mark}

-- a when without what its else may be
pub record OpenWhen : Type 0 where
  pub place : Place
  pub condition : Expression
  pub block : Block

-- a statement, or a when that an else may follow
pub data Begun : Type 0 where
  statement : Statement → Begun
  open_when : OpenWhen → Begun

-- what stands behind the word `else`: a block, a when, or a statement that begins with a name of that word
pub data Otherwise : Type 0 where
  else_block : Block → Otherwise
  else_when : OpenWhen → Otherwise
  no_else : Statement → Otherwise

-- what begins with the word `input` or `output`
pub data PortOr : Type 0 where
  port : PortTree → PortOr
  no_port : Begun → PortOr

pub record Natural : Type 0 where
  pub place : Place
  pub number : ℕ

-- the rest of a bundle, and where it is closed
pub record FieldsTree : Type 0 where
  pub fields : Fields
  pub close : Place

-- a type, and where it begins
pub record TypeTree : Type 0 where
  pub place : Place
  pub data_type : DataType

pub record FieldTree : Type 0 where
  pub place : Place
  pub flip : Bool
  pub name : List ℕ
  pub type_place : Place
  pub data_type : DataType

-- an index of a reference
pub data IndexTree : Type 0 where
  plain_index : Place → ℕ → IndexTree
  computed_index : Expression → IndexTree

pub record BodyTree : Type 0 where
  pub ports : List PortTree
  pub block : Block

pub data Sym : Type 0 where
  -- one token
  a_mark : Mark → Sym
  a_word : List ℕ → Sym
  a_name : Sym
  a_field_name : Sym
  a_natural : Sym
  a_line_end : Sym
  an_opening : Sym
  a_closing : Sym
  -- types
  a_type : ℕ → Sym
  a_width : Sym
  dimensions : ℕ → DataType → Sym
  fields : ℕ → Sym
  more_fields : ℕ → Sym
  a_field : ℕ → Sym
  behind_flip : ℕ → Place → Sym
  -- expressions
  an_expression : ℕ → Sym
  behind_word : ℕ → Place → List ℕ → Sym
  parts : ℕ → ℕ → Sym
  an_index : ℕ → Sym
  a_literal : Place → Bool → Option ℕ → Sym
  -- statements
  statements : ℕ → List OpenWhen → Sym
  behind_first : ℕ → Place → List ℕ → Sym
  behind_is : ℕ → Place → List ℕ → Place → Sym
  behind_else : ℕ → ℕ → Place → Sym
  behind_sink : ℕ → SinkReference → Sym
  an_indented_block : ℕ → Sym
  a_reset : ℕ → Sym
  behind_with : ℕ → Place → Sym
  -- memories
  a_memory_body : ℕ → Sym
  a_memory_field : ℕ → Sym
  more_memory_fields : ℕ → Sym
  more_names : Sym
  an_under_write : Sym
  -- circuits
  a_text : Sym
  some_annotations : Sym
  first_module : Sym
  more_modules : Sym
  a_body : Sym
  ports_and_statements : Sym
  behind_direction : Direction → Place → List ℕ → Sym
  behind_port_is : Direction → Place → List ℕ → Place → Sym

-- what each makes; the parts of a reference stand behind a height
abbrev pub Tree : Sym → Type 0
Tree (a_mark m) = Place
Tree (a_word w) = Place
Tree a_name = PlacedName
Tree a_field_name = PlacedName
Tree a_natural = Natural
Tree a_line_end = Place
Tree an_opening = Place
Tree a_closing = Place
Tree (a_type d) = TypeTree
Tree a_width = Option ℕ
Tree (dimensions d t) = DataType
Tree (fields d) = FieldsTree
Tree (more_fields d) = FieldsTree
Tree (a_field d) = FieldTree
Tree (behind_flip d p) = FieldTree
Tree (an_expression d) = Expression
Tree (behind_word d p w) = Expression
Tree (parts d h) = Parts
Tree (an_index d) = IndexTree
Tree (a_literal p signed width) = Literal
Tree (statements d ws) = Block
Tree (behind_first d p w) = Begun
Tree (behind_is d p w q) = Begun
Tree (behind_else d n p) = Otherwise
Tree (behind_sink d s) = Statement
Tree (an_indented_block d) = Block
Tree (a_reset d) = Option Reset
Tree (behind_with d p) = Reset
Tree (a_memory_body d) = List MemoryPart
Tree (a_memory_field d) = MemoryPart
Tree (more_memory_fields d) = List MemoryPart
Tree more_names = List PlacedName
Tree an_under_write = ReadUnderWrite
Tree a_text = CircuitTree
Tree some_annotations = Unit {0}
Tree first_module = List ModuleTree
Tree more_modules = List ModuleTree
Tree a_body = BodyTree
Tree ports_and_statements = BodyTree
Tree (behind_direction r p w) = PortOr
Tree (behind_port_is r p w q) = PortOr
