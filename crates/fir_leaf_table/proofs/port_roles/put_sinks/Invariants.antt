use Rattle.std.proofs.Common.{◌≡◌, ◌++◌, List, map}
use Rattle.fir_leaf.specs.declared.node.Node.{Node}
use Rattle.fir_meaning.specs.working.LeafMemories.{sinks}
use Rattle.fir_leaf_circuit.specs.working.Seen.{role_seen}
use Rattle.fir_leaf_table.proofs.port_roles.put_sinks.Given as goal

abbrev pub invariant-loop : goal.invariant-loop
invariant-loop l = (nodes : List Node) → map (role_seen nodes) l.roles.items ≡ map (role_seen nodes) l.initial.roles.items ++ sinks l.counter
