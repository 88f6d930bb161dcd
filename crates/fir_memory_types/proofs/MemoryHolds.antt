-- What the leaves of a memory's ports hold, port after port, and what its arrays hold.
use Rattle.std.proofs.Common.{◌≡◌, ℕ, zero, suc, ◌-◌, ◌≤◌, List, [], ◌∷◌, ◌++◌, map, flat_map, length, Bool, true, false, ◌==◌, if◌then◌else◌, Option, Some, None, refl, sym, ap, ap₂, ◌∙◌, subst, arith, append_assoc, length-append}
use Rattle.std.specs.List.{AllByRecursion}
use Rattle.std.proofs.lemmas.List.{append-nil, length-map, map-append}
use Rattle.std.proofs.lemmas.List.Concat.{flat_map-append}
use Rattle.fir_base.proofs.Each.{all_left}
use Rattle.fir_base.proofs.Tests.{both}
use Rattle.fir_bits.proofs.LiteralWidths.{least_width-is_least}
use Rattle.fir_ast.specs.declared.place.Place.{Place}
use Rattle.fir_ast.specs.Types.{DataType, uint, sint, clock, reset, async_reset, bundle, vector, Fields, no_fields, field}
use Rattle.fir_ast.specs.Statements.{PlacedName, MemoryPart, data_type, depth, read_latency, write_latency, read_under_write, reader, writer, readwriter}
use Rattle.fir_ast.specs.View.{fields_of}
use Rattle.fir_meaning.specs.LeafPaths.{LeafPath}
use Rattle.fir_meaning.specs.TypeKinds.{are_numeric, are_sized, is_numeric, is_sized}
use Rattle.fir_meaning.specs.WidthExpressions.{Widths, known, width_under}
use Rattle.fir_meaning.specs.SizedTypes.{numbered, numbered_fields}
use Rattle.fir_meaning.specs.SizedMemories.{as_written, ports_or_array, sized_array, sized_memory}
use Rattle.fir_meaning.specs.OverFaults.{leaves_over}
use Rattle.fir_meaning.specs.MemoryTypes.{address_width, flipped_fields, mask_fields, mask_type, memory_bundle, memory_type, port_fields_of, reader_type, readwriter_type, writer_type}
use Rattle.fir_meaning.specs.MemoryPorts.{MemoryPortKind, reads, writes, reads_and_writes}
use Rattle.fir_meaning.specs.LeafTypes.{LeafType, a_clock, number}
use Rattle.fir_meaning.specs.HeldTypes.{held_field_types, held_types, repeated}
use Rattle.fir_meaning.specs.working.LeafMemories.{count_of_data, port_kinds_of, port_size}
use Rattle.fir_meaning.specs.working.WellTyped.{MemoryIsLegal}
use Rattle.fir_meaning.proofs.SizedShapes.{numbered_bare}
use Rattle.fir_leaf_types.specs.working.TypedTerms.{IsNarrow, one_bit}
use Rattle.fir_leaf_types.proofs.HeldKinds.{IsNumber, map_repeated, not_zero, numeric_holds}
use Rattle.fir_leaf_types.proofs.HeldPlaces.{counted_by_type}
use Rattle.fir_leaf_types.proofs.NarrowHolds.{narrow_by_faults, narrow_ports}

abbrev pub an_address : ℕ → LeafType
an_address width = number (record { signed = false; width = width })

abbrev pub as_bit : LeafType → LeafType
as_bit h = one_bit

-- a bit for each leaf of the data
abbrev pub masks : List LeafType → List LeafType
masks = map as_bit

-- behind the controls of a port, whose data holds these
abbrev pub behind_controls : List LeafType → MemoryPortKind → List LeafType
behind_controls hs reads = hs
behind_controls hs writes = hs ++ masks hs
behind_controls hs reads_and_writes = hs ++ one_bit ∷ (hs ++ masks hs)

-- the leaves of a port, where an address has so many bits
abbrev pub port_holds : ℕ → List LeafType → MemoryPortKind → List LeafType
port_holds width hs k = an_address width ∷ one_bit ∷ a_clock ∷ behind_controls hs k

pub port_counted : (width : ℕ) (hs : List LeafType) (k : MemoryPortKind) → length (port_holds width hs k) ≡ port_size (length hs) k
port_counted width hs reads = omega arith
port_counted width hs writes = omega (arith, length-append hs (masks hs), length-map hs as_bit)
port_counted width hs reads_and_writes =
    omega (arith, length-append hs (one_bit ∷ (hs ++ masks hs)), length-append hs (masks hs), length-map hs as_bit)

-- types as they are written
none_either : (b : Bool) (t : DataType) → numbered (if b then None else None) t ≡ numbered None t
none_either true t = refl
none_either false t = refl

module _ (w : Widths) where
  mutual
    mask_holds : (t : DataType) → held_types w (numbered None (mask_type t)) ≡ masks (held_types w (numbered None t))
    mask_holds (uint a) = refl
    mask_holds (sint a) = refl
    mask_holds clock = refl
    mask_holds reset = refl
    mask_holds async_reset = refl
    mask_holds (bundle fs) = mask_fields_hold fs
    mask_holds (vector t n) =
        ap (λ x. repeated n (held_types w x)) (none_either (n == 0) (mask_type t)) ∙ ap (repeated n) (mask_holds t)
        ∙ sym (map_repeated as_bit n (held_types w (numbered None t)))
        ∙ ap (λ x. masks (repeated n (held_types w x))) (sym (none_either (n == 0) t))

    mask_fields_hold : (fs : Fields) → held_field_types w (numbered_fields None (mask_fields fs)) ≡ masks (held_field_types w (numbered_fields None fs))
    mask_fields_hold no_fields = refl
    mask_fields_hold (field p f x b t rest) =
        ap₂ (λ xs ys. xs ++ ys) (mask_holds t) (mask_fields_hold rest)
        ∙ sym (map-append as_bit (held_types w (numbered None t)) (held_field_types w (numbered_fields None rest)))

  module _ (p : Place) (t : DataType) (words : ℕ) where
    abbrev hs : List LeafType
    hs = held_types w (numbered None t)

    abbrev width : ℕ
    width = address_width words

    addressed : width_under (known (address_width words)) w ≡ address_width words
    addressed = omega (arith, (least_width-is_least false false (words - 1)).high)

    reader_holds : held_types w (numbered None (reader_type p t words)) ≡ port_holds width hs reads
    reader_holds =
        ap (λ x. an_address x ∷ one_bit ∷ a_clock ∷ (hs ++ [])) addressed ∙ ap (λ xs. an_address width ∷ one_bit ∷ a_clock ∷ xs) (append-nil hs)

    writer_holds : held_types w (numbered None (writer_type p t words)) ≡ port_holds width hs writes
    writer_holds =
        ap (λ x. an_address x ∷ one_bit ∷ a_clock ∷ (hs ++ (held_types w (numbered None (mask_type t)) ++ []))) addressed ∙
        ap (λ xs. an_address width ∷ one_bit ∷ a_clock ∷ (hs ++ xs)) (append-nil (held_types w (numbered None (mask_type t))) ∙ mask_holds t)

    readwriter_holds : held_types w (numbered None (readwriter_type p t words)) ≡ port_holds width hs reads_and_writes
    readwriter_holds =
        ap (λ x. an_address x ∷ one_bit ∷ a_clock ∷ (hs ++ one_bit ∷ (hs ++ (held_types w (numbered None (mask_type t)) ++ [])))) addressed ∙
        ap (λ xs. an_address width ∷ one_bit ∷ a_clock ∷ (hs ++ one_bit ∷ (hs ++ xs)))
        (append-nil (held_types w (numbered None (mask_type t))) ∙ mask_holds t)

    abbrev fields_hold : List (Fields → Fields) → List LeafType
    fields_hold fs = held_field_types w (numbered_fields None (fields_of fs))

    -- ports of one type, before others
    names_hold : (port : DataType) (k : MemoryPortKind) → held_types w (numbered None port) ≡ port_holds width hs k → (names : List PlacedName)
        (more : List (Fields → Fields)) (rest : List LeafType) → fields_hold more ≡ rest
        → fields_hold (flipped_fields port names ++ more) ≡ flat_map (port_holds width hs) (map (λ n. k) names) ++ rest
    names_hold port k is [] more rest e = e
    names_hold port k is (n ∷ names) more rest e =
        ap₂ (λ xs ys. xs ++ ys) is (names_hold port k is names more rest e)
        ∙ sym (append_assoc (port_holds width hs k) (flat_map (port_holds width hs) (map (λ m. k) names)) rest)

    some : (port : DataType) (k : MemoryPortKind) → held_types w (numbered None port) ≡ port_holds width hs k → (names : List PlacedName)
        (parts : List MemoryPart)
        → fields_hold (flat_map (port_fields_of p t words) parts) ≡ flat_map (port_holds width hs) (flat_map port_kinds_of parts)
        → fields_hold (flipped_fields port names ++ flat_map (port_fields_of p t words) parts)
        ≡ flat_map (port_holds width hs) (map (λ n. k) names ++ flat_map port_kinds_of parts)
    some port k is names parts e =
        names_hold port k is names (flat_map (port_fields_of p t words) parts) _ e
        ∙ sym (flat_map-append (port_holds width hs) (map (λ n. k) names) (flat_map port_kinds_of parts))

    parts_hold : (parts : List MemoryPart)
        → fields_hold (flat_map (port_fields_of p t words) parts) ≡ flat_map (port_holds width hs) (flat_map port_kinds_of parts)
    parts_hold [] = refl
    parts_hold (data_type q b u ∷ parts) = parts_hold parts
    parts_hold (depth q n ∷ parts) = parts_hold parts
    parts_hold (read_latency q n ∷ parts) = parts_hold parts
    parts_hold (write_latency q n ∷ parts) = parts_hold parts
    parts_hold (read_under_write q which ∷ parts) = parts_hold parts
    parts_hold (reader q names ∷ parts) = some (reader_type p t words) reads reader_holds names parts (parts_hold parts)
    parts_hold (writer q names ∷ parts) = some (writer_type p t words) writes writer_holds names parts (parts_hold parts)
    parts_hold (readwriter q names ∷ parts) = some (readwriter_type p t words) reads_and_writes readwriter_holds names parts (parts_hold parts)

    -- without ports there are no fields
    no_names : (port : DataType) (k : MemoryPortKind) (names : List PlacedName) (ks : List MemoryPortKind) (more : List (Fields → Fields))
        → map (λ n. k) names ++ ks ≡ [] → (ks ≡ [] → more ≡ []) → flipped_fields port names ++ more ≡ []
    no_names port k [] ks more e h = h e
    no_names port k (n ∷ names) ks more e h = absurd (cc)

    no_ports : (parts : List MemoryPart) → flat_map port_kinds_of parts ≡ [] → flat_map (port_fields_of p t words) parts ≡ []
    no_ports [] e = refl
    no_ports (data_type q b u ∷ parts) e = no_ports parts e
    no_ports (depth q n ∷ parts) e = no_ports parts e
    no_ports (read_latency q n ∷ parts) e = no_ports parts e
    no_ports (write_latency q n ∷ parts) e = no_ports parts e
    no_ports (read_under_write q which ∷ parts) e = no_ports parts e
    no_ports (reader q names ∷ parts) e =
        no_names (reader_type p t words) reads names (flat_map port_kinds_of parts) (flat_map (port_fields_of p t words) parts) e (no_ports parts)
    no_ports (writer q names ∷ parts) e =
        no_names (writer_type p t words) writes names (flat_map port_kinds_of parts) (flat_map (port_fields_of p t words) parts) e (no_ports parts)
    no_ports (readwriter q names ∷ parts) e =
        no_names (readwriter_type p t words) reads_and_writes names (flat_map port_kinds_of parts) (flat_map (port_fields_of p t words) parts) e
        (no_ports parts)

-- data with its widths holds numbers
mutual
  sized_numeric : (t : DataType) → is_sized t ≡ true → is_numeric t ≡ true
  sized_numeric (uint (Some n)) h = refl
  sized_numeric (uint None) h = absurd (cc)
  sized_numeric (sint (Some n)) h = refl
  sized_numeric (sint None) h = absurd (cc)
  sized_numeric (bundle fs) h = sized_fields_numeric fs h
  sized_numeric (vector t zero) h = refl
  sized_numeric (vector t (suc n)) h = rw (not_zero n) (sized_numeric t (rw (not_zero n) at h))
  sized_numeric clock h = absurd (cc)
  sized_numeric reset h = absurd (cc)
  sized_numeric async_reset h = absurd (cc)

  sized_fields_numeric : (fs : Fields) → are_sized fs ≡ true → are_numeric fs ≡ true
  sized_fields_numeric no_fields h = refl
  sized_fields_numeric (field p f x b t rest) h =
      let tests = both (is_sized t) (are_sized rest) h in
      rw (sized_numeric t tests.0, sized_fields_numeric rest tests.1) refl

-- the data is in each port
data_in_port : (P : LeafType → Type 0) (width : ℕ) (hs : List LeafType) (k : MemoryPortKind) → AllByRecursion P (port_holds width hs k) → AllByRecursion P hs
data_in_port P address values reads h = h.1.1.1
data_in_port P address values writes h = all_left P values (masks values) h.1.1.1
data_in_port P address values reads_and_writes h = all_left P values (one_bit ∷ (values ++ masks values)) h.1.1.1

-- a memory as it is to be, whose name stands at the place
module _ (w : Widths) (n : PlacedName) (parts : List MemoryPart) (legal : MemoryIsLegal parts) where
  abbrev pub ports_hold : List LeafType
  ports_hold = flat_map (port_holds (address_width legal.words) (held_types w (sized_array parts))) (flat_map port_kinds_of parts)

  data_is : sized_array parts ≡ numbered None legal.word_type
  data_is = rw legal.one_data refl

  pub type_is : memory_type n.place parts ≡ Some (memory_bundle n.place parts legal.word_type legal.words)
  type_is = rw (legal.one_data, legal.one_depth) refl

  pub memory_holds : held_types w (sized_memory n.place parts) ≡ ports_hold
  memory_holds =
      ap (λ o. held_types w (as_written o)) type_is ∙ parts_hold w n.place legal.word_type legal.words parts
      ∙ ap (λ x. flat_map (port_holds (address_width legal.words) (held_types w x)) (flat_map port_kinds_of parts)) (sym data_is)

  pub array_numbers : AllByRecursion IsNumber (held_types w (sized_array parts))
  array_numbers =
      rw data_is
      (numeric_holds w (numbered None legal.word_type) legal.word_type (numbered_bare None legal.word_type) (sized_numeric legal.word_type legal.sized))

  pub array_narrow : (path : LeafPath) → leaves_over w n.place path (ports_or_array (sized_memory n.place parts) (sized_array parts)) ≡ []
      → AllByRecursion IsNarrow (held_types w (sized_array parts))
  array_narrow path within = by (flat_map port_kinds_of parts) refl
    where
      by : (ks : List MemoryPortKind) → flat_map port_kinds_of parts ≡ ks → AllByRecursion IsNarrow (held_types w (sized_array parts))
      by [] e =
          let none : sized_memory n.place parts ≡ numbered None (bundle no_fields) =
          ap as_written type_is ∙ ap (λ fs. numbered None (bundle (fields_of fs))) (no_ports w n.place legal.word_type legal.words parts e) in
          narrow_by_faults w n.place path (sized_array parts)
          (subst (λ x. leaves_over w n.place path (ports_or_array x (sized_array parts)) ≡ []) none within)
      by (k ∷ ks) e =
          let width = address_width legal.words in
          let hs = held_types w (sized_array parts) in
          let all : AllByRecursion IsNarrow (port_holds width hs k ++ flat_map (port_holds width hs) ks) =
          subst (AllByRecursion IsNarrow) (memory_holds ∙ ap (flat_map (port_holds width hs)) e)
          (narrow_ports w n.place path (sized_memory n.place parts) (sized_array parts) within) in
          data_in_port IsNarrow width hs k (all_left IsNarrow (port_holds width hs k) (flat_map (port_holds width hs) ks) all)

  pub address_has_bits : 1 ≤ address_width legal.words
  address_has_bits = (least_width-is_least false false (legal.words - 1)).low

-- as many arrays as the data has leaves, whatever the memory is
pub array_counted : (w : Widths) (o : Option DataType) → length (held_types w (as_written o)) ≡ count_of_data o
array_counted w None = refl
array_counted w (Some t) = counted_by_type w (numbered None t) t (numbered_bare None t)
