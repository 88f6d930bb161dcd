-- The ports of a memory in the making: the types of which they are made, and their fields.
use Rattle.std.specs.Prelude.{◌≡◌, ℕ, ◌<◌, List, [], ◌∷◌, ◌++◌, false, codes, flat_map, map, length, slice_get, Option, Some, None, option_map}
use Rattle.std.specs.List.{All}
use Rattle.fir_ast.specs.declared.place.Place.{Place}
use Rattle.fir_ast.specs.Statements.{MemoryPart}
use Rattle.fir_ast.specs.Types.{DataType, Fields, uint, clock}
use Rattle.fir_meaning.specs.MemoryTypes.{address_width, bit, data_of_part, first_one, mask_type, part, reader_type, readwriter_type, writer_type}
use Rattle.fir_type_table.specs.declared.entry.Entry.{Entry}
use Rattle.fir_type_table.specs.declared.entry.Part.{Part}
use Rattle.fir_type_table.specs.declared.kind.TypeId.{TypeId}
use Rattle.fir_type_table.specs.working.Tables.{part_of, type_at, types_of}
use Rattle.fir_types.specs.declared.found.Found.{Found}
use Rattle.fir_check.specs.declared.memory_type.PortTypes.{PortTypes}
use Rattle.fir_check.specs.declared.memory_type.Wires.{Wires}
use Rattle.fir_types.specs.working.Seen.{seen}
use Rattle.fir_types.specs.working.Walked.{IsHeld}

-- the table has the types under their ids
pub record HasWires (ts : List DataType) (t : DataType) (words : ℕ) (w : Wires) : Type 0 where
  pub clock : slice_get ts w.clock.number ≡ Some clock
  pub bit : slice_get ts w.bit.number ≡ Some bit
  pub address : slice_get ts w.address.number ≡ Some (uint (Some (address_width words)))
  pub word : slice_get ts w.word_type.number ≡ Some t
  pub mask : slice_get ts w.mask.number ≡ Some (mask_type t)

abbrev pub AreWires : List DataType → Wires → Type 0
AreWires ts w = (t : DataType) × (words : ℕ) × HasWires ts t words w

pub record HasPorts (ts : List DataType) (place : Place) (t : DataType) (words : ℕ) (ports : PortTypes) : Type 0 where
  pub reader : slice_get ts ports.reader.number ≡ Some (reader_type place t words)
  pub writer : slice_get ts ports.writer.number ≡ Some (writer_type place t words)
  pub readwriter : slice_get ts ports.readwriter.number ≡ Some (readwriter_type place t words)

-- a table that has grown has them
pub record HasWiresIn (old new : List Entry) (t : DataType) (words : ℕ) (w : Wires) : Type 0 where
  pub more : List DataType
  pub grown : types_of new ≡ types_of old ++ more
  pub has : HasWires (types_of new) t words w

pub record HasPortsIn (old new : List Entry) (place : Place) (t : DataType) (words : ℕ) (ports : PortTypes) : Type 0 where
  pub more : List DataType
  pub grown : types_of new ≡ types_of old ++ more
  pub has : HasPorts (types_of new) place t words ports

-- the parts are these fields, and their types stand in the table
pub record AreParts (ts : List DataType) (fs : List (Fields → Fields)) (parts : List Part) : Type 0 where
  pub are : map (part_of ts) parts ≡ fs
  pub held : All (λ q. q.ty.number < length ts) parts

-- what all ports begin with
abbrev pub controls_of : Place → ℕ → List (Fields → Fields)
controls_of p words =
    part p false (codes "addr") (uint (Some (address_width words))) ∷ part p false (codes "en") bit ∷ part p false (codes "clk") clock ∷ []

-- the type of a memory's words, where it is written
abbrev pub IsHeldWordType : List DataType → Option TypeId → Type 0
IsHeldWordType ts None = Unit {0}
IsHeldWordType ts (Some id) = id.number < length ts

pub record HasWordType (old new : List Entry) (parts : List MemoryPart) (id : Option TypeId) : Type 0 where
  pub more : List DataType
  pub grown : types_of new ≡ types_of old ++ more
  pub held : IsHeldWordType (types_of new) id
  pub is : option_map (λ id. type_at (types_of new) id.number) id ≡ first_one (flat_map data_of_part parts)

-- what is found stands in a table that has grown
pub record IsFoundIn (old new : List Entry) (t : Option DataType) (found : Option Found) : Type 0 where
  pub more : List DataType
  pub grown : types_of new ≡ types_of old ++ more
  pub held : IsHeld (types_of new) found
  pub is : seen (types_of new) found ≡ t
