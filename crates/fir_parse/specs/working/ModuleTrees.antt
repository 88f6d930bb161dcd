-- What the code's modules under way are, in plain data.
use Rattle.std.specs.Prelude.{map}
use Rattle.fir_ast.specs.working.Views.{port_of, stmt_of, block_of}
use Rattle.fir_parse.specs.declared.modules.Body.{Body}
use Rattle.fir_parse.specs.declared.modules.PortOr.{PortOr}
use Rattle.fir_parse.specs.declared.modules.PortOr.TheVariants as port_or
use Rattle.fir_parse.specs.working.Symbols.{BodyTree, PortOr as PortOrTree, port, no_port}
use Rattle.fir_parse.specs.working.StatementTrees.{begun_of, Deepens}

abbrev pub body_of : Body → BodyTree
body_of b = record { ports = map port_of b.ports.items; block = block_of (map stmt_of b.statements.items) }

abbrev pub port_or_of : PortOr → PortOrTree
port_or_of (port_or.Port p) = port (port_of p)
port_or_of (port_or.Statement s) = no_port (begun_of s)

-- a when has room for one block more
abbrev pub HasRoom : PortOr → Type 0
HasRoom (port_or.Port p) = Unit {0}
HasRoom (port_or.Statement s) = Deepens 0 s
