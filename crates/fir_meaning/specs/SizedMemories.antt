-- The sized type of a memory, and how many numbers it takes (FIRRTL spec, "Memories"): all its widths are written, or follow from the depth, so that no unknown
-- has one of these numbers.
use Rattle.std.specs.Prelude.{ℕ, List, flat_map, Option, Some, None}
use Rattle.fir_ast.specs.declared.place.Place.{Place}
use Rattle.fir_ast.specs.Types.{DataType}
use Rattle.fir_ast.specs.Statements.{MemoryPart}
use Rattle.fir_meaning.specs.MemoryTypes.{data_of_part, first_one, memory_type}
use Rattle.fir_meaning.specs.SharedLeaves.{shared_count}
use Rattle.fir_meaning.specs.SizedTypes.{Sized, sized_bundle, no_sized_fields, untyped, numbered}

abbrev pub as_written : Option DataType → Sized
as_written None = untyped
as_written (Some t) = numbered None t

-- of the memory whose name stands at the place
abbrev pub sized_memory : Place → List MemoryPart → Sized
sized_memory p parts = as_written (memory_type p parts)

-- how many numbers a type takes, where there is one
abbrev pub count_of_any : Option DataType → ℕ
count_of_any None = 0
count_of_any (Some t) = shared_count t

abbrev pub memory_numbers : Place → List MemoryPart → ℕ
memory_numbers p parts = count_of_any (memory_type p parts)

-- what a memory stores
abbrev pub sized_array : List MemoryPart → Sized
sized_array parts = as_written (first_one (flat_map data_of_part parts))

-- the leaves of a memory stand in its ports; without ports those of its arrays are left
abbrev pub ports_or_array : Sized → Sized → Sized
ports_or_array (sized_bundle no_sized_fields) array = array
ports_or_array ports array = ports
