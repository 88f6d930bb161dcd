-- The ports of a memory in the making: one more field behind others, bundles of fields, and the types of ports in a table that grows.
use Rattle.std.proofs.Common.{◌≡◌, ℕ, ◌<◌, List, [], ◌∷◌, ◌++◌, map, length, slice_get, Bool, true, Some, refl, ap, ◌∙◌, sym, subst, append_assoc, take, get_or, ◌+◌, ◌≤◌, flat_map}
use Rattle.std.proofs.lemmas.List.{map-append, map_more}
use Rattle.std.proofs.lemmas.List.Elements.{All-nil, All-push}
use Rattle.std.proofs.lemmas.Option.{slice_get_within}
use Rattle.fir_ast.specs.declared.place.Place.{Place}
use Rattle.fir_ast.specs.declared.statements.Ident.{Ident}
use Rattle.fir_ast.specs.declared.statements.MemoryField.{MemoryField}
use Rattle.fir_ast.specs.Statements.{PlacedName}
use Rattle.fir_ast.specs.Types.{DataType, Fields, bundle, clock, uint}
use Rattle.fir_ast.specs.View.{fields_of}
use Rattle.fir_ast.specs.working.Views.{memory_part_of, named_of}
use Rattle.fir_meaning.specs.MemoryTypes.{address_width, bit, flipped_fields, mask_type, part, port_fields_of, reader_type, readwriter_type, writer_type}
use Rattle.fir_type_table.specs.declared.entry.Entry.{Entry}
use Rattle.fir_type_table.specs.declared.entry.Part.{Part}
use Rattle.fir_type_table.specs.declared.kind.TypeId.{TypeId}
use Rattle.fir_type_table.specs.working.Tables.{Adds, part_of, type_at, types_of}
use Rattle.fir_check.specs.declared.memory_type.PortTypes.{PortTypes}
use Rattle.fir_check.specs.declared.memory_type.Wires.{Wires}
use Rattle.fir_check.specs.working.MemoryParts.{AreParts, HasPortsIn, HasWires, HasWiresIn}
use Rattle.fir_types.proofs.FieldsLeft.{Left, left_next, left_none}
use Rattle.fir_check.proofs.HeldTypes.{grown_held, grown_twice, type_held}

pub parts_more : (ts : List DataType) (t : DataType) (fs : List (Fields → Fields)) (old new : List Part) (p : Place) (flip : Bool) (x y : List ℕ) (ty : TypeId)
    → y ≡ x → new ≡ old ++ record { place = p; flip = flip; name = y; type_place = p; ty = ty } ∷ [] → slice_get ts ty.number ≡ Some t → AreParts ts fs old
    → AreParts ts (fs ++ part p flip x t ∷ []) new
parts_more ts t fs old new p flip x y ty named is at parts =
    let q : Part = record { place = p; flip = flip; name = y; type_place = p; ty = ty } in
    rw (is, ← named)
    record {
      are =
          map-append (part_of ts) old (q ∷ []) ∙ ap (λ gs. gs ++ part_of ts q ∷ []) parts.are
          ∙ ap (λ u. fs ++ part p flip y u ∷ []) (type_held ts ty.number t at);
      held = All-push (λ q. q.ty.number < length ts) old q parts.held (slice_get_within ts ty.number t at);
    }

pub no_parts : (ts : List DataType) (parts : List Part) → parts ≡ [] → AreParts ts [] parts
no_parts ts parts none = rw none record { are = refl; held = All-nil (λ q. q.ty.number < length ts) }

-- such fields in a bundle
pub parts_bundle : (old new : List Entry) (id : ℕ) (fs : List (Fields → Fields)) (parts : List Part) → AreParts (types_of old) fs parts
    → Adds old new id (bundle (fields_of (map (part_of (types_of old)) parts))) → Adds old new id (bundle (fields_of fs))
parts_bundle old new id fs parts are adds = subst (λ gs. Adds old new id (bundle (fields_of gs))) are.are adds

-- a flipped field for one more name
pub flipped_more : (t : DataType) (fs : List (Fields → Fields)) (names : List Ident) (i : ℕ) (n : Ident) → i < length names → n ≡ get_or names i n
    → fs ++ flipped_fields t (map named_of (take i names)) ++ part n.place true n.name t ∷ [] ≡ fs ++ flipped_fields t (map named_of (take (i + 1) names))
flipped_more t fs names i n within at =
    let flipped : PlacedName → Fields → Fields = λ m. part m.place true m.name t in
    append_assoc fs (flipped_fields t (map named_of (take i names))) (part n.place true n.name t ∷ [])
    ∙ ap (λ gs. fs ++ gs)
    (ap (λ m. flipped_fields t (map named_of (take i names)) ++ flipped (named_of m) ∷ []) at
    ∙ sym (ap (map flipped) (map_more named_of names i n within) ∙ map-append flipped (map named_of (take i names)) (named_of (get_or names i n) ∷ [])))

-- the table grows
pub wires_grown : (old new : List Entry) (more : List DataType) (t : DataType) (words : ℕ) (w : Wires) → types_of new ≡ types_of old ++ more
    → HasWires (types_of old) t words w → HasWires (types_of new) t words w
wires_grown old new more t words w grown has = record {
  clock = grown_held old new more w.clock.number _ grown has.clock;
  bit = grown_held old new more w.bit.number _ grown has.bit;
  address = grown_held old new more w.address.number _ grown has.address;
  word = grown_held old new more w.word_type.number _ grown has.word;
  mask = grown_held old new more w.mask.number _ grown has.mask;
}

pub wires_made : (old next new : List Entry) (t : DataType) (words : ℕ) (w : Wires) → slice_get (types_of old) w.clock.number ≡ Some clock
    → slice_get (types_of old) w.bit.number ≡ Some bit → slice_get (types_of old) w.word_type.number ≡ Some t
    → Adds old next w.address.number (uint (Some (address_width words)))
    → Adds next new w.mask.number (mask_type (type_at (types_of next) w.word_type.number)) → HasWiresIn old new t words w
wires_made old next new t words w at_clock at_bit at_word address mask =
    let grown = grown_twice old next new address.more mask.more address.grown mask.grown in
    let here : slice_get (types_of next) w.word_type.number ≡ Some t = grown_held old next address.more w.word_type.number t address.grown at_word in
    record {
      more = address.more ++ mask.more;
      grown = grown;
      has = record {
        clock = grown_held old new (address.more ++ mask.more) w.clock.number clock grown at_clock;
        bit = grown_held old new (address.more ++ mask.more) w.bit.number bit grown at_bit;
        address = grown_held next new mask.more w.address.number (uint (Some (address_width words))) mask.grown address.held;
        word = grown_held next new mask.more w.word_type.number t mask.grown here;
        mask = mask.held ∙ ap (λ u. Some (mask_type u)) (type_held (types_of next) w.word_type.number t here);
      };
    }

pub ports_made : (old one two new : List Entry) (p : Place) (t : DataType) (words : ℕ) (ports : PortTypes) → Adds old one ports.reader.number (reader_type p t words)
    → Adds one two ports.writer.number (writer_type p t words) → Adds two new ports.readwriter.number (readwriter_type p t words)
    → HasPortsIn old new p t words ports
ports_made old one two new p t words ports reader writer both =
    let behind = grown_twice one two new writer.more both.more writer.grown both.grown in
    record {
      more = reader.more ++ (writer.more ++ both.more);
      grown = grown_twice old one new reader.more (writer.more ++ both.more) reader.grown behind;
      has = record {
        reader = grown_held one new (writer.more ++ both.more) ports.reader.number (reader_type p t words) behind reader.held;
        writer = grown_held two new both.more ports.writer.number (writer_type p t words) both.grown writer.held;
        readwriter = both.held;
      };
    }

-- a walk over the fields of a memory: the ports are made of those that are behind it
pub record PortsSoFar (ts : List DataType) (p : Place) (t : DataType) (words : ℕ) (fields : List MemoryField) (i : ℕ) (parts : List Part) : Type 0 where
  pub so_far : List (Fields → Fields)
  pub left : Left (port_fields_of p t words) so_far fields i
  pub are : AreParts ts so_far parts

pub ports_first : (ts : List DataType) (p : Place) (t : DataType) (words : ℕ) (fields : List MemoryField) (parts : List Part) → parts ≡ []
    → PortsSoFar ts p t words fields 0 parts
ports_first ts p t words fields parts none = record { so_far = []; left = record { are = refl }; are = no_parts ts parts none }

pub ports_next : (ts : List DataType) (p : Place) (t : DataType) (words : ℕ) (fields : List MemoryField) (i : ℕ) (f : MemoryField) (old new : List Part)
    → i < length fields → f ≡ get_or fields i f
    → ((fs : List (Fields → Fields)) → AreParts ts fs old → AreParts ts (fs ++ port_fields_of p t words (memory_part_of f)) new)
    → PortsSoFar ts p t words fields i old → PortsSoFar ts p t words fields (i + 1) new
ports_next ts p t words fields i f old new within at more ports = record {
  so_far = ports.so_far ++ port_fields_of p t words (memory_part_of f);
  left = left_next (port_fields_of p t words) ports.so_far fields i f within at ports.left;
  are = more ports.so_far ports.are;
}

pub ports_all : (ts : List DataType) (p : Place) (t : DataType) (words : ℕ) (fields : List MemoryField) (i : ℕ) (parts : List Part) → length fields ≤ i
    → PortsSoFar ts p t words fields i parts → AreParts ts (flat_map (port_fields_of p t words) (map memory_part_of fields)) parts
ports_all ts p t words fields i parts past ports = rw (left_none (port_fields_of p t words) ports.so_far fields i past ports.left) ports.are
