-- Statements, as plain data (FIRRTL spec, "Statements").
use Rattle.std.specs.Prelude.{ℕ, List, Option}
use Rattle.fir_ast.specs.declared.place.Place.{Place}
use Rattle.fir_ast.specs.declared.statements.ReadUnderWrite.{ReadUnderWrite}
use Rattle.fir_ast.specs.Types.{DataType}
use Rattle.fir_ast.specs.Expressions.{Expression, Parts}

-- a name where it is declared or named
pub record PlacedName : Type 0 where
  pub place : Place
  pub name : List ℕ

-- a name and what follows it, as a sink
pub record SinkReference : Type 0 where
  pub place : Place
  pub name : List ℕ
  pub parts : Parts

-- where `with` stands, the condition, the value
pub record Reset : Type 0 where
  pub place : Place
  pub condition : Expression
  pub init : Expression

-- a type stands behind the place where it begins
pub data MemoryPart : Type 0 where
  data_type : Place → Place → DataType → MemoryPart
  depth : Place → ℕ → MemoryPart
  read_latency : Place → ℕ → MemoryPart
  write_latency : Place → ℕ → MemoryPart
  reader : Place → List PlacedName → MemoryPart
  writer : Place → List PlacedName → MemoryPart
  readwriter : Place → List PlacedName → MemoryPart
  read_under_write : Place → ReadUnderWrite → MemoryPart

mutual
  pub data Statement : Type 0 where
    wire : Place → PlacedName → Place → DataType → Statement
    register : Place → PlacedName → Place → DataType → Expression → Option Reset → Statement
    node : Place → PlacedName → Expression → Statement
    instance : Place → PlacedName → PlacedName → Statement
    memory : Place → PlacedName → List MemoryPart → Statement
    when : Place → Expression → Block → Block → Statement
    connect : Place → SinkReference → Expression → Statement
    partial_connect : Place → SinkReference → Expression → Statement
    invalid : Place → SinkReference → Statement
    skip : Place → Statement

  pub data Block : Type 0 where
    done : Block
    then : Statement → Block → Block
