-- The fields of a memory, as the code counts them.
use Rattle.std.specs.Prelude.{ℕ, List, [], ◌∷◌, Option, Some, None}
use Rattle.fir_ast.specs.Statements.{MemoryPart}
use Rattle.fir_meaning.specs.MemoryTypes.{depth_of_part}
use Rattle.fir_meaning.specs.MemoryFaults.{read_latency_of_part, write_latency_of_part}
use Rattle.fir_types.specs.declared.memory_fields.NumberField.{NumberField}
use Rattle.fir_types.specs.declared.memory_fields.NumberField.TheVariants as field

abbrev pub number_of_part : NumberField → MemoryPart → List ℕ
number_of_part field.Depth p = depth_of_part p
number_of_part field.ReadLatency p = read_latency_of_part p
number_of_part field.WriteLatency p = write_latency_of_part p

-- the one of a list that has one
abbrev pub only : {A : Type 0} → List A → Option A
only (x ∷ []) = Some x
only _ = None
