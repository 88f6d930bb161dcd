use Rattle.std.proofs.Common.{◌≡◌, map, take}
use Rattle.fir_ast.specs.working.Views.{port_of}
use Rattle.fir_leaf_text.proofs.declarations.declared_names.Given as goal

abbrev pub invariant-loop-port : goal.invariant-loop-port
invariant-loop-port l = l.names.items ≡ map (λ p. p.named.name) (map port_of (take l.port-index l.port-items))
