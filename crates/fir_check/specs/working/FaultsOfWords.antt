-- The faults of a memory's words, of their type and of how many they are, which come before those of its other fields.
use Rattle.std.specs.Prelude.{List, ◌++◌, flat_map, codes, nat_le}
use Rattle.fir_ast.specs.Statements.{PlacedName, MemoryPart}
use Rattle.fir_ast.specs.Faults.{Fault}
use Rattle.fir_meaning.specs.MemoryFaults.{field_faults_unless, flipped_data, is_one}
use Rattle.fir_meaning.specs.MemoryTypes.{data_of_part, depth_of_part, first_one}
use Rattle.fir_meaning.specs.TypeKinds.{is_sized}

abbrev pub faults_of_words : PlacedName → List MemoryPart → List Fault
faults_of_words n parts =
    flipped_data n (first_one (flat_map data_of_part parts))
    ++ field_faults_unless (is_one is_sized (flat_map data_of_part parts)) n (codes "data-type")
    ++ field_faults_unless (is_one (λ words. nat_le 1 words) (flat_map depth_of_part parts)) n (codes "depth")
