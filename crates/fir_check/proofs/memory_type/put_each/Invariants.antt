use Rattle.std.proofs.Common.{◌≡◌, List, ◌++◌, Some, map, slice_get, take}
use Rattle.fir_ast.specs.Types.{DataType, Fields}
use Rattle.fir_ast.specs.working.Views.{named_of}
use Rattle.fir_meaning.specs.MemoryTypes.{flipped_fields}
use Rattle.fir_check.specs.working.MemoryParts.{AreParts}
use Rattle.fir_check.proofs.memory_type.put_each.Given as goal

abbrev pub invariant-loop-ident : goal.invariant-loop-ident
invariant-loop-ident l =
    (ts : List DataType) (t : DataType) (fs : List (Fields → Fields)) → slice_get ts l.ty.number ≡ Some t → AreParts ts fs l.initial.parts.items
    → AreParts ts (fs ++ flipped_fields t (map named_of (take l.ident-index l.names))) l.parts.items
