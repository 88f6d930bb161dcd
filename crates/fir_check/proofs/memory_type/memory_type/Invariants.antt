use Rattle.std.proofs.Common.{List}
use Rattle.fir_ast.specs.Types.{DataType}
use Rattle.fir_check.specs.working.MemoryParts.{HasPorts}
use Rattle.fir_check.proofs.MemoryPorts.{PortsSoFar}
use Rattle.fir_check.proofs.memory_type.memory_type.Given as goal

abbrev pub invariant-loop-field : goal.invariant-loop-field
invariant-loop-field l =
    (ts : List DataType) (t : DataType) → HasPorts ts l.fn.place t l.words l.ports → PortsSoFar ts l.fn.place t l.words l.fields l.field-index l.parts.items
