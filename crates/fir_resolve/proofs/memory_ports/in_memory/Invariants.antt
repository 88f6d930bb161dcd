use Rattle.std.proofs.Common.{[], map, drop}
use Rattle.fir_ast.specs.working.Views.{memory_part_of}
use Rattle.fir_meaning.specs.Mentions.{memory_mentions}
use Rattle.fir_resolve.proofs.WalkedNames.{At}
use Rattle.fir_resolve.proofs.memory_ports.in_memory.Given as goal

abbrev pub invariant-loop-field : goal.invariant-loop-field
invariant-loop-field l = At memory_mentions l.namespace [] (map memory_part_of l.fields) (map memory_part_of (drop l.field-index l.fields))
