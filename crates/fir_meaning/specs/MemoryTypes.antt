-- The type of a memory: a bundle of its ports in the order of the text, each flipped (FIRRTL spec, "Memories").
-- An address has the least width, at least 1, that counts the words; a mask has a bit for each leaf of the data.
use Rattle.std.specs.Prelude.{ℕ, ◌-◌, List, [], ◌∷◌, map, flat_map, codes, Bool, true, false, Option, Some, None}
use Rattle.fir_bits.specs.Literals.{least_width}
use Rattle.fir_ast.specs.declared.place.Place.{Place}
use Rattle.fir_ast.specs.Types.{DataType, uint, clock, bundle, vector, Fields, no_fields, field}
use Rattle.fir_ast.specs.Statements.{PlacedName, MemoryPart, data_type, depth, reader, writer, readwriter}
use Rattle.fir_ast.specs.View.{fields_of}
use Rattle.fir_meaning.specs.Checked.{joined}

-- that of the greatest address
abbrev pub address_width : ℕ → ℕ
address_width words = least_width false false (words - 1)

abbrev mutual
  pub mask_type : DataType → DataType
  mask_type (bundle fs) = bundle (mask_fields fs)
  mask_type (vector t n) = vector (mask_type t) n
  mask_type t = uint (Some 1)

  pub mask_fields : Fields → Fields
  mask_fields no_fields = no_fields
  mask_fields (field p flip x begins t rest) = field p flip x begins (mask_type t) (mask_fields rest)

abbrev pub bit : DataType
bit = uint (Some 1)

-- a field of a port, at the place of the memory's name
abbrev pub part : Place → Bool → List ℕ → DataType → Fields → Fields
part p flip x t rest = field p flip x p t rest

-- what all ports begin with
abbrev pub controls : Place → ℕ → Fields → Fields
controls p words rest =
    part p false (codes "addr") (uint (Some (address_width words))) (part p false (codes "en") bit (part p false (codes "clk") clock rest))

abbrev pub reader_type : Place → DataType → ℕ → DataType
reader_type p t words = bundle (controls p words (part p true (codes "data") t no_fields))

abbrev pub writer_type : Place → DataType → ℕ → DataType
writer_type p t words = bundle (controls p words (part p false (codes "data") t (part p false (codes "mask") (mask_type t) no_fields)))

abbrev pub readwriter_type : Place → DataType → ℕ → DataType
readwriter_type p t words =
    bundle
    (controls
    p
    words
    (part
    p
    true
    (codes "rdata")
    t
    (part p false (codes "wmode") bit (part p false (codes "wdata") t (part p false (codes "wmask") (mask_type t) no_fields)))))

-- a flipped field of each name
abbrev pub flipped_fields : DataType → List PlacedName → List (Fields → Fields)
flipped_fields t = map (λ n. field n.place true n.name n.place t)

abbrev pub port_fields_of : Place → DataType → ℕ → MemoryPart → List (Fields → Fields)
port_fields_of p t words (reader q names) = flipped_fields (reader_type p t words) names
port_fields_of p t words (writer q names) = flipped_fields (writer_type p t words) names
port_fields_of p t words (readwriter q names) = flipped_fields (readwriter_type p t words) names
port_fields_of p t words _ = []

-- the types of the data, and the depths, in the order of the text
abbrev pub data_of_part : MemoryPart → List DataType
data_of_part (data_type q begins t) = t ∷ []
data_of_part _ = []

abbrev pub depth_of_part : MemoryPart → List ℕ
depth_of_part (depth q n) = n ∷ []
depth_of_part _ = []

abbrev pub first_one : {A : Type 0} → List A → Option A
first_one [] = None
first_one (x ∷ xs) = Some x

abbrev pub memory_bundle : Place → List MemoryPart → DataType → ℕ → DataType
memory_bundle p parts t words = bundle (fields_of (flat_map (port_fields_of p t words) parts))

-- of the memory whose name stands at the place
abbrev pub memory_type : Place → List MemoryPart → Option DataType
memory_type p parts = joined (memory_bundle p parts) (first_one (flat_map data_of_part parts)) (first_one (flat_map depth_of_part parts))
