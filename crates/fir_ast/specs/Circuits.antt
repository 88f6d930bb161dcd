-- Circuits and modules, as plain data (FIRRTL spec, "Circuits", "Modules").
use Rattle.std.specs.Prelude.{List}
use Rattle.fir_base.specs.declared.direction.Direction.{Direction}
use Rattle.fir_ast.specs.Types.{DataType}
use Rattle.fir_ast.specs.declared.place.Place.{Place}
use Rattle.fir_ast.specs.Statements.{PlacedName, Block}

-- a port, with the place where its type begins
pub record PortTree : Type 0 where
  pub direction : Direction
  pub named : PlacedName
  pub type_place : Place
  pub data_type : DataType

-- a module, with the place of its word `module`
pub record ModuleTree : Type 0 where
  pub place : Place
  pub named : PlacedName
  pub ports : List PortTree
  pub body : Block

pub record CircuitTree : Type 0 where
  pub named : PlacedName
  pub modules : List ModuleTree
