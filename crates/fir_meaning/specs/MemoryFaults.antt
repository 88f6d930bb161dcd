-- E15 and E17 of a memory, which stand at its name (FIRRTL spec, "Memories").
-- Data with flips comes first; then the fields, in the order data-type, depth, read-latency, write-latency, read-under-write: each of the first four
-- stands once and in its range, and the last at most once. That a read latency is 0 or 1, and a write latency 1, is a choice of this project.
use Rattle.std.specs.Prelude.{ℕ, List, [], ◌∷◌, ◌++◌, flat_map, codes, nat_le, Bool, true, false, ◌==◌, if◌then◌else◌, Option, Some, None}
use Rattle.fir_ast.specs.declared.statements.ReadUnderWrite.{ReadUnderWrite}
use Rattle.fir_ast.specs.Types.{DataType}
use Rattle.fir_ast.specs.Statements.{PlacedName, MemoryPart, read_latency, write_latency, read_under_write}
use Rattle.fir_ast.specs.Faults.{Fault}
use Rattle.fir_meaning.specs.TypeKinds.{is_passive, is_sized}
use Rattle.fir_meaning.specs.KindFaults.{not_passive, memory_field}
use Rattle.fir_meaning.specs.MemoryTypes.{data_of_part, depth_of_part, first_one}

abbrev pub read_latency_of_part : MemoryPart → List ℕ
read_latency_of_part (read_latency q n) = n ∷ []
read_latency_of_part _ = []

abbrev pub write_latency_of_part : MemoryPart → List ℕ
write_latency_of_part (write_latency q n) = n ∷ []
write_latency_of_part _ = []

abbrev pub read_under_write_of_part : MemoryPart → List ReadUnderWrite
read_under_write_of_part (read_under_write q which) = which ∷ []
read_under_write_of_part _ = []

-- one that passes
abbrev pub is_one : {A : Type 0} → (A → Bool) → List A → Bool
is_one passes (x ∷ []) = passes x
is_one passes _ = false

abbrev pub is_at_most_one : {A : Type 0} → List A → Bool
is_at_most_one [] = true
is_at_most_one (x ∷ []) = true
is_at_most_one _ = false

abbrev pub field_faults_unless : Bool → PlacedName → List ℕ → List Fault
field_faults_unless holds n word = if holds then [] else memory_field n.place n.name word ∷ []

abbrev pub flipped_data : PlacedName → Option DataType → List Fault
flipped_data n None = []
flipped_data n (Some t) = if is_passive t then [] else not_passive n.place t ∷ []

abbrev pub memory_faults : PlacedName → List MemoryPart → List Fault
memory_faults n parts =
    flipped_data n (first_one (flat_map data_of_part parts))
    ++ field_faults_unless (is_one is_sized (flat_map data_of_part parts)) n (codes "data-type")
    ++ field_faults_unless (is_one (λ words. nat_le 1 words) (flat_map depth_of_part parts)) n (codes "depth")
    ++ field_faults_unless (is_one (λ l. nat_le l 1) (flat_map read_latency_of_part parts)) n (codes "read-latency")
    ++ field_faults_unless (is_one (λ l. l == 1) (flat_map write_latency_of_part parts)) n (codes "write-latency")
    ++ field_faults_unless (is_at_most_one (flat_map read_under_write_of_part parts)) n (codes "read-under-write")
