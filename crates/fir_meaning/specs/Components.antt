-- What a module declares, over the whole language (FIRRTL spec, "Ports", "Wires", "Registers", "Nodes", "Instances", "Memories").
-- A component is declared with its type as it is written; widths are found later.
use Rattle.std.specs.Prelude.{ℕ, List, [], ◌∷◌, if◌then◌else◌, Option, Some, None}
use Rattle.std.specs.Str.{bytes_eq}
use Rattle.fir_base.specs.declared.direction.Direction.{Direction}
use Rattle.fir_ast.specs.Types.{DataType}
use Rattle.fir_ast.specs.Expressions.{Expression}
use Rattle.fir_ast.specs.Statements.{PlacedName, MemoryPart}

-- a node has the type of its expression, and an instance the ports of the module of that name
pub data Component : Type 0 where
  port : Direction → DataType → Component
  wire : DataType → Component
  register : DataType → Component
  node : Expression → Component
  instance : List ℕ → Component
  memory : List MemoryPart → Component

-- a declaration, with the number of whens that stand round it
pub record Declaration : Type 0 where
  pub named : PlacedName
  pub component : Component
  pub depth : ℕ

-- in the order of the text
abbrev pub Declarations : Type 0
Declarations = List Declaration

-- the first declaration of a name
abbrev pub find : Declarations → List ℕ → Option Declaration
find [] name = None
find (d ∷ ds) name = if bytes_eq d.named.name name then Some d else find ds name

-- the first of placed names that is this one
abbrev pub find_name : List PlacedName → List ℕ → Option PlacedName
find_name [] name = None
find_name (n ∷ ns) name = if bytes_eq n.name name then Some n else find_name ns name
