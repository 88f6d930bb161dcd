use Rattle.std.proofs.Common.{◌≡◌, ◌++◌, map, take}
use Rattle.fir_ast.specs.working.Views.{named_of}
use Rattle.fir_leaf_table.specs.working.Memories.{port_seen}
use Rattle.fir_leaf_table.proofs.memory_fields.put_each.Given as goal

abbrev pub invariant-loop-name : goal.invariant-loop-name
invariant-loop-name l =
    map port_seen l.ports.items
    ≡ map port_seen l.initial.ports.items ++ map (λ n. port_seen l.port) (map named_of (take l._name-index l.names))
