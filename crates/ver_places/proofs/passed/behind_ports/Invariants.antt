use Rattle.std.proofs.Common.{◌≡◌, drop}
use Rattle.std.specs.Prelude.{flat_map}
use Rattle.ver_ast.specs.Grammar.{port_tokens}
use Rattle.ver_places.specs.Places.{behind}
use Rattle.ver_places.proofs.passed.behind_ports.Given as goal

abbrev pub invariant-loop-port : goal.invariant-loop-port
invariant-loop-port l = behind (flat_map port_tokens l.ports) l.places ≡ behind (flat_map port_tokens (drop l.port-index l.ports)) l.next
