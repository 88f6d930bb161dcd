-- The type of a memory has words, where its data and its ports have.
use Rattle.std.proofs.Common.{ℕ, List, [], ◌∷◌, refl}
use Rattle.std.specs.Prelude.{IfSome, flat_map}
use Rattle.std.specs.List.{AllByRecursion}
use Rattle.fir_base.proofs.Each.{all_joined}
use Rattle.fir_ast.specs.declared.place.Place.{Place}
use Rattle.fir_ast.specs.Types.{DataType, Fields}
use Rattle.fir_ast.specs.Statements.{PlacedName, MemoryPart, data_type, reader, writer, readwriter}
use Rattle.fir_ast.specs.View.{fields_of}
use Rattle.fir_meaning.specs.MemoryTypes.{reader_type, writer_type, readwriter_type, flipped_fields, port_fields_of, data_of_part, depth_of_part, first_one, memory_bundle, memory_type}
use Rattle.fir_flatten.specs.working.Words.{TypeHasWords, FieldsHaveWords, NamesAreWords, PartHasWords}
use Rattle.fir_flatten.proofs.WordTexts.{word_bytes}
use Rattle.fir_flatten.proofs.TypeWords.{mask_words}
use Rattle.fir_flatten.proofs.HeldForms.{left_holds}

-- a field that is put before others which have words
abbrev KeepsWords : (Fields → Fields) → Type 0
KeepsWords f = (rest : Fields) → FieldsHaveWords rest → FieldsHaveWords (f rest)

put_words : (fs : List (Fields → Fields)) → AllByRecursion KeepsWords fs → FieldsHaveWords (fields_of fs)
put_words [] h = tt
put_words (f ∷ fs) h = h.0 (fields_of fs) (put_words fs h.1)

flipped_words : (t : DataType) (names : List PlacedName) → TypeHasWords t → NamesAreWords names → AllByRecursion KeepsWords (flipped_fields t names)
flipped_words t [] h named = tt
flipped_words t (n ∷ names) h named = (λ rest k. (word_bytes n.name named.0, h, k), flipped_words t names h named.1)

-- the ports of a part
reader_words : (p : Place) (t : DataType) (words : ℕ) → TypeHasWords t → TypeHasWords (reader_type p t words)
reader_words p t words h = (refl, tt, (refl, tt, (refl, tt, (refl, h, tt))))

writer_words : (p : Place) (t : DataType) (words : ℕ) → TypeHasWords t → TypeHasWords (writer_type p t words)
writer_words p t words h = (refl, tt, (refl, tt, (refl, tt, (refl, h, (refl, mask_words t h, tt)))))

readwriter_words : (p : Place) (t : DataType) (words : ℕ) → TypeHasWords t → TypeHasWords (readwriter_type p t words)
readwriter_words p t words h = (refl, tt, (refl, tt, (refl, tt, (refl, h, (refl, tt, (refl, h, (refl, mask_words t h, tt)))))))

port_words : (p : Place) (t : DataType) (words : ℕ) (x : MemoryPart) → TypeHasWords t → PartHasWords x
    → AllByRecursion KeepsWords (port_fields_of p t words x)
port_words p t words (reader q names) h k = flipped_words (reader_type p t words) names (reader_words p t words h) k
port_words p t words (writer q names) h k = flipped_words (writer_type p t words) names (writer_words p t words h) k
port_words p t words (readwriter q names) h k = flipped_words (readwriter_type p t words) names (readwriter_words p t words h) k
port_words p t words x h k = tt

ports_words : (p : Place) (t : DataType) (words : ℕ) (parts : List MemoryPart) → TypeHasWords t → AllByRecursion PartHasWords parts
    → AllByRecursion KeepsWords (flat_map (port_fields_of p t words) parts)
ports_words p t words [] h k = tt
ports_words p t words (x ∷ parts) h k =
    all_joined KeepsWords (port_fields_of p t words x) (flat_map (port_fields_of p t words) parts) (port_words p t words x h k.0)
    (ports_words p t words parts h k.1)

-- the data
pub data_words : (parts : List MemoryPart) → AllByRecursion PartHasWords parts → IfSome (first_one (flat_map data_of_part parts)) TypeHasWords
data_words [] h = tt
data_words (data_type q begins t ∷ parts) h = h.0
data_words (x ∷ parts) h = data_words parts h.1

pub memory_words : (p : Place) (parts : List MemoryPart) → AllByRecursion PartHasWords parts → IfSome (memory_type p parts) TypeHasWords
memory_words p parts h =
    left_holds TypeHasWords TypeHasWords (memory_bundle p parts) (first_one (flat_map data_of_part parts)) (first_one (flat_map depth_of_part parts))
    (data_words parts h) (λ t words k. put_words (flat_map (port_fields_of p t words) parts) (ports_words p t words parts k h))
