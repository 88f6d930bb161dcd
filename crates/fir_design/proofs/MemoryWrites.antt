-- What the ports of a memory write into its arrays, by numbers and by paths.
use Rattle.std.proofs.Common.{◌≡◌, ℕ, ◌+◌, ◌*◌, List, [], ◌∷◌, ◌++◌, map, flat_map, length, slice_get, Some, refl, ap₂, ◌∙◌, arith}
use Rattle.std.specs.Prelude.{codes}
use Rattle.std.proofs.lemmas.List.{map-append}
use Rattle.fir_meaning.specs.LeafPaths.{LeafPath, named}
use Rattle.fir_meaning.proofs.LeafSteps.{behind_step}
use Rattle.fir_meaning.specs.MemoryPorts.{MemoryPortKind, reads, reads_and_writes, writes}
use Rattle.fir_meaning.specs.working.LeafMemories.{port_size, port_writings, writings_from}
use Rattle.fir_meaning.specs.working.LeafModules.{LeafDeclared}
use Rattle.fir_design.specs.working.SameRoles.{path_at, writing_on}
use Rattle.fir_meaning.specs.SourceRoles.{NamedPort, PathWriting, port_writing, writings_at}
use Rattle.fir_design.proofs.MemoryPortPaths.{behind_field, kind_paths, port_long, port_paths}
use Rattle.fir_design.proofs.MemoryPortPlaces.{AtPort, address_there, clock_there, enable_there, field_behind, field_first, field_there, fields_there, given_there, mode_there}
use Rattle.fir_design.proofs.StandingLists.{Stands, stands_left, stands_right, stands_unmapped}

module _ (leaves : List LeafDeclared) (name : List ℕ) (qs : List LeafPath) (d : ℕ) (long : length qs ≡ d) where
  abbrev on : ℕ → ℕ → MemoryPortKind → List PathWriting
  on i b kind = map (writing_on leaves) (port_writings d i b kind)

  -- the array of the data leaf of a number, which has the path
  module _ (i : ℕ) (q : LeafPath) (there : slice_get qs i ≡ Some q) where
    module _ (port : List ℕ) (b : ℕ) where
      writer_writes : AtPort leaves name port b (kind_paths qs writes) → on i b writes ≡ port_writing name q port writes
      writer_writes h =
          let mask = behind_field (codes "mask") qs in
          let address = address_there leaves name port qs d long writes b h in
          let enabled = enable_there leaves name port qs d long writes b h in
          let clock = clock_there leaves name port qs d long writes b h in
          let fields = fields_there leaves name port qs d long writes b h in
          let first = field_first leaves name port qs d long (codes "data") (b + 3) mask fields in
          let second = field_behind leaves name port qs d long (codes "data") (b + 3) mask fields in
          let given = field_there leaves name port qs d long (codes "data") (b + 3) first i q there in
          let masked = field_there leaves name port qs d long (codes "mask") (b + 3 + d) second i q there in
          rw (address, enabled, clock, given, masked) refl

      readwriter_writes : AtPort leaves name port b (kind_paths qs reads_and_writes)
          → on i b reads_and_writes ≡ port_writing name q port reads_and_writes
      readwriter_writes h =
          let mask = behind_field (codes "wmask") qs in
          let address = address_there leaves name port qs d long reads_and_writes b h in
          let enabled = enable_there leaves name port qs d long reads_and_writes b h in
          let clock = clock_there leaves name port qs d long reads_and_writes b h in
          let moded = mode_there leaves name port qs d long b h in
          let fields = given_there leaves name port qs d long b h in
          let start = b + 3 + d + 1 in
          let first = field_first leaves name port qs d long (codes "wdata") start mask fields in
          let second = field_behind leaves name port qs d long (codes "wdata") start mask fields in
          let data_at : start + i ≡ b + 4 + d + i = omega arith in
          let mask_at : start + d + i ≡ b + 4 + 2 * d + i = omega arith in
          let given = rw data_at at (field_there leaves name port qs d long (codes "wdata") start first i q there) in
          let masked = rw mask_at at (field_there leaves name port qs d long (codes "wmask") (start + d) second i q there) in
          rw (address, enabled, clock, moded, given, masked) refl

      port_writes : (kind : MemoryPortKind) → AtPort leaves name port b (kind_paths qs kind) → on i b kind ≡ port_writing name q port kind
      port_writes reads h = refl
      port_writes writes h = writer_writes h
      port_writes reads_and_writes h = readwriter_writes h

    -- of ports from a leaf on
    pub writings_same : (b : ℕ) (ps : List NamedPort) → Stands (path_at leaves) (behind_step (named name)) b (flat_map (port_paths qs) ps)
        → map (writing_on leaves) (writings_from d i b (map (λ (p : NamedPort). p.kind) ps)) ≡ writings_at name q ps
    writings_same b [] h = refl
    writings_same b (p ∷ ps) h =
        let at = path_at leaves in
        let g = behind_step (named name) in
        let rest = flat_map (port_paths qs) ps in
        let next = b + port_size d p.kind in
        map-append (writing_on leaves) (port_writings d i b p.kind) (writings_from d i next (map (λ (p : NamedPort). p.kind) ps))
        ∙ ap₂ (λ xs ys. xs ++ ys)
        (port_writes p.name b p.kind
        (stands_unmapped at g b (behind_step (named p.name)) (kind_paths qs p.kind) (stands_left at g b (port_paths qs p) rest h)))
        (writings_same next ps (stands_right at g b (port_size d p.kind) (port_paths qs p) rest (port_long qs d long p) h))
