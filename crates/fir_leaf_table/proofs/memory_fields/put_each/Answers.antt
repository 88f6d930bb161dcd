use Rattle.std.proofs.Common.{◌++◌, map, ap, ◌∙◌}
use Rattle.std.proofs.lemmas.List.{take_all}
use Rattle.fir_ast.specs.working.Views.{named_of}
use Rattle.fir_leaf_table.specs.working.Memories.{port_seen}
use Rattle.fir_leaf_table.proofs.memory_fields.put_each.Goals as goal

pub returns : goal.returns
returns c =
    c.loop-name.invariant
    ∙ ap (λ names. map port_seen c.args.ports.now.items ++ map (λ n. port_seen c.args.port) (map named_of names))
    (take_all c.loop-name._name-index c.args.names.now c.loop-name-test.false)
