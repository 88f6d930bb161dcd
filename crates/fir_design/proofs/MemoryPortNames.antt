-- Each port of a memory is found by its name.
use Rattle.std.proofs.Common.{◌≡◌, ℕ, List, [], ◌∷◌, ◌++◌, map, flat_map, Some, refl, sym, ap, ◌∙◌, subst, inl, inr}
use Rattle.std.proofs.lemmas.List.{map-append}
use Rattle.fir_base.specs.Lists.{Distinct, In}
use Rattle.fir_base.proofs.Members.{in_map}
use Rattle.fir_base.proofs.SameNames.{name_other, name_same}
use Rattle.fir_ast.specs.declared.place.Place.{Place}
use Rattle.fir_ast.specs.Types.{DataType, Fields, field, no_fields}
use Rattle.fir_ast.specs.Statements.{PlacedName, MemoryPart, reader, writer, readwriter}
use Rattle.fir_ast.specs.View.{fields_of}
use Rattle.fir_meaning.specs.MemoryTypes.{flipped_fields, memory_bundle, port_fields_of, reader_type, readwriter_type, writer_type}
use Rattle.fir_meaning.specs.Mentions.{type_mentions}
use Rattle.fir_meaning.specs.NameGroups.{faults_in}
use Rattle.fir_meaning.proofs.FreshFields.{AreFresh, field_names, fresh_fields}
use Rattle.fir_meaning.specs.MemoryPorts.{MemoryPortKind, reads, reads_and_writes, writes}
use Rattle.fir_meaning.specs.SourceRoles.{NamedPort, kind_of, ports_of_part}

abbrev port_name : NamedPort → List ℕ
port_name p = p.name

-- of ports with distinct names
kind_alone : (ps : List NamedPort) → Distinct (map port_name ps) → (p : NamedPort) → In ps p → kind_of ps p.name ≡ Some p.kind
kind_alone [] d p m = absurd m
kind_alone (q ∷ ps) d p (inl e) = subst (λ (x : NamedPort). kind_of (q ∷ ps) x.name ≡ Some x.kind) e (rw (name_same q.name) refl)
kind_alone (q ∷ ps) d p (inr m) =
    let apart = name_other q.name p.name (λ e. d.0 (subst (In (map port_name ps)) (sym e) (in_map port_name ps p m))) in
    rw apart (kind_alone ps d.1 p m)

fresh_names : (fs : Fields) → AreFresh fs → Distinct (field_names fs)
fresh_names no_fields h = tt
fresh_names (field p flip x b t rest) h = (h.0, fresh_names rest h.2)

module _ (p : Place) (t : DataType) (words : ℕ) where
  -- the fields of the memory's type have the names of its ports
  names_of : (u : DataType) (k : MemoryPortKind) (ns : List PlacedName) (more : List (Fields → Fields))
      → field_names (fields_of (flipped_fields u ns ++ more))
      ≡ map port_name (map (λ (n : PlacedName). record { name = n.name; kind = k }) ns) ++ field_names (fields_of more)
  names_of u k [] more = refl
  names_of u k (n ∷ ns) more = ap (λ names. n.name ∷ names) (names_of u k ns more)

  port_names : (parts : List MemoryPart)
      → field_names (fields_of (flat_map (port_fields_of p t words) parts)) ≡ map port_name (flat_map ports_of_part parts)
  port_names [] = refl
  port_names (m ∷ ms) =
      by m ∙ ap (λ names. map port_name (ports_of_part m) ++ names) (port_names ms)
      ∙ sym (map-append port_name (ports_of_part m) (flat_map ports_of_part ms))
    where
      more : List (Fields → Fields)
      more = flat_map (port_fields_of p t words) ms

      by : (m : MemoryPart) → field_names (fields_of (port_fields_of p t words m ++ more))
          ≡ map port_name (ports_of_part m) ++ field_names (fields_of more)
      by (reader q ns) = names_of (reader_type p t words) reads ns more
      by (writer q ns) = names_of (writer_type p t words) writes ns more
      by (readwriter q ns) = names_of (readwriter_type p t words) reads_and_writes ns more
      by m = refl

  pub port_found : (parts : List MemoryPart) → faults_in (type_mentions (memory_bundle p parts t words)) ≡ [] → (port : NamedPort)
      → In (flat_map ports_of_part parts) port → kind_of (flat_map ports_of_part parts) port.name ≡ Some port.kind
  port_found parts clear port m =
      let fresh = fresh_names (fields_of (flat_map (port_fields_of p t words) parts)) (fresh_fields (memory_bundle p parts t words) clear) in
      kind_alone (flat_map ports_of_part parts) (subst Distinct (port_names parts) fresh) port m
