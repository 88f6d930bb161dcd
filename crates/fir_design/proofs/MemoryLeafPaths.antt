-- The leaves of a memory's type are those of its ports, path by path.
use Rattle.std.proofs.Common.{◌≡◌, ℕ, List, [], ◌∷◌, ◌++◌, map, flat_map, true, false, Some, refl, sym, ap, ap₂, ◌∙◌, append-nil, append_assoc}
use Rattle.std.specs.Prelude.{codes}
use Rattle.std.proofs.lemmas.List.Concat.{flat_map-append}
use Rattle.fir_ast.specs.declared.place.Place.{Place}
use Rattle.fir_ast.specs.Types.{DataType, uint, Fields}
use Rattle.fir_ast.specs.Statements.{PlacedName, MemoryPart, reader, writer, readwriter}
use Rattle.fir_ast.specs.View.{fields_of}
use Rattle.fir_meaning.specs.LeafPaths.{LeafPath, named}
use Rattle.fir_meaning.specs.MemoryTypes.{flipped_fields, mask_type, port_fields_of, reader_type, readwriter_type, writer_type}
use Rattle.fir_meaning.specs.TypeLeaves.{field_leaves, type_leaves, under}
use Rattle.fir_meaning.proofs.LeafSteps.{behind_step, path_of, paths_joined}
use Rattle.fir_meaning.specs.MemoryPorts.{MemoryPortKind, reads, reads_and_writes, writes}
use Rattle.fir_meaning.specs.SourceRoles.{ports_of_part}
use Rattle.fir_design.proofs.MaskLeaves.{mask_paths}
use Rattle.fir_design.proofs.MemoryPortPaths.{behind_field, control_paths, kind_paths, port_paths}

module _ (p : Place) (t : DataType) (words : ℕ) where
  abbrev qs : List LeafPath
  qs = map path_of (type_leaves t)

  reader_paths : map path_of (type_leaves (reader_type p t words)) ≡ kind_paths qs reads
  reader_paths =
      ap (λ ps. control_paths ++ ps) (paths_joined true (named (codes "data")) (type_leaves t) [] ∙ append-nil (behind_field (codes "data") qs))

  masked : (x : List ℕ) → map path_of (map (under false (named x)) (type_leaves (mask_type t)) ++ []) ≡ behind_field x qs
  masked x =
      paths_joined false (named x) (type_leaves (mask_type t)) [] ∙ append-nil (behind_field x (map path_of (type_leaves (mask_type t))))
      ∙ ap (behind_field x) (mask_paths t)

  writer_paths : map path_of (type_leaves (writer_type p t words)) ≡ kind_paths qs writes
  writer_paths =
      ap (λ ps. control_paths ++ ps)
      (paths_joined false (named (codes "data")) (type_leaves t) (map (under false (named (codes "mask"))) (type_leaves (mask_type t)) ++ [])
      ∙ ap (λ ps. behind_field (codes "data") qs ++ ps) (masked (codes "mask")))

  readwriter_paths : map path_of (type_leaves (readwriter_type p t words)) ≡ kind_paths qs reads_and_writes
  readwriter_paths =
      let mask = map (under false (named (codes "wmask"))) (type_leaves (mask_type t)) ++ [] in
      let given = map (under false (named (codes "wdata"))) (type_leaves t) ++ mask in
      ap (λ ps. control_paths ++ ps)
      (paths_joined true (named (codes "rdata")) (type_leaves t) (map (under false (named (codes "wmode"))) (type_leaves (uint (Some 1))) ++ given)
      ∙ ap (λ ps. behind_field (codes "rdata") qs ++ (named (codes "wmode") ∷ []) ∷ ps)
      (paths_joined false (named (codes "wdata")) (type_leaves t) mask
      ∙ ap (λ ps. behind_field (codes "wdata") qs ++ ps) (masked (codes "wmask"))))

  -- of ports of one kind, and of fields behind them
  ports_same : (u : DataType) (k : MemoryPortKind) → map path_of (type_leaves u) ≡ kind_paths qs k
      → (ns : List PlacedName) (more : List (Fields → Fields))
      → map path_of (field_leaves (fields_of (flipped_fields u ns ++ more)))
      ≡ flat_map (port_paths qs) (map (λ (n : PlacedName). record { name = n.name; kind = k }) ns) ++ map path_of (field_leaves (fields_of more))
  ports_same u k h [] more = refl
  ports_same u k h (n ∷ ns) more =
      paths_joined true (named n.name) (type_leaves u) (field_leaves (fields_of (flipped_fields u ns ++ more)))
      ∙ ap₂ (λ xs ys. map (behind_step (named n.name)) xs ++ ys) h (ports_same u k h ns more)
      ∙ sym (append_assoc (port_paths qs (record { name = n.name; kind = k })) _ _)

  pub memory_paths : (parts : List MemoryPart)
      → map path_of (field_leaves (fields_of (flat_map (port_fields_of p t words) parts)))
      ≡ flat_map (port_paths qs) (flat_map ports_of_part parts)
  memory_paths [] = refl
  memory_paths (m ∷ ms) =
      by m ∙ ap (λ ps. flat_map (port_paths qs) (ports_of_part m) ++ ps) (memory_paths ms)
      ∙ sym (flat_map-append (port_paths qs) (ports_of_part m) (flat_map ports_of_part ms))
    where
      more : List (Fields → Fields)
      more = flat_map (port_fields_of p t words) ms

      by : (m : MemoryPart) → map path_of (field_leaves (fields_of (port_fields_of p t words m ++ more)))
          ≡ flat_map (port_paths qs) (ports_of_part m) ++ map path_of (field_leaves (fields_of more))
      by (reader q ns) = ports_same (reader_type p t words) reads reader_paths ns more
      by (writer q ns) = ports_same (writer_type p t words) writes writer_paths ns more
      by (readwriter q ns) = ports_same (readwriter_type p t words) reads_and_writes readwriter_paths ns more
      by m = refl
