-- The roles of the leaves of a memory's ports, port after port, by numbers and by paths.
use Rattle.std.proofs.Common.{◌≡◌, ℕ, ◌+◌, ◌*◌, List, [], ◌∷◌, ◌++◌, map, flat_map, Some, false, refl, inl, inr}
use Rattle.std.specs.Prelude.{codes}
use Rattle.std.proofs.lemmas.List.{map-append}
use Rattle.fir_base.specs.Lists.{In}
use Rattle.fir_ast.specs.Statements.{MemoryPart}
use Rattle.fir_meaning.specs.LeafPaths.{LeafPath, element, named}
use Rattle.fir_meaning.proofs.LeafSteps.{behind_step}
use Rattle.fir_meaning.specs.working.LeafMemories.{LeafMemory, enable, mode, port_roles, port_size, read_roles, roles_from, sinks}
use Rattle.fir_meaning.specs.MemoryPorts.{MemoryPortKind, reads, reads_and_writes, writes}
use Rattle.fir_meaning.specs.working.LeafModules.{LeafArray, LeafDeclared, Need, Role, sink}
use Rattle.fir_design.specs.working.SameRoles.{path_at}
use Rattle.fir_meaning.specs.SourceRoles as tree
use Rattle.fir_meaning.specs.SourceRoles.{NamedPort, PathNeed, SourceRole, kind_of, memory_role, port_field, ports_of_part}
use Rattle.fir_design.proofs.MemoryPortPaths.{behind_field, kind_paths, port_long, port_paths}
use Rattle.fir_design.proofs.MemoryPortPlaces.{AtPort, address_there, clock_there, enable_there, mode_there}
use Rattle.fir_design.proofs.RolesInOrder.{SameInOrder, roles_joined}
use Rattle.fir_design.proofs.StandingLists.{Stands, stands_left, stands_right, stands_unmapped}
use Rattle.fir_design.proofs.MemoryReads.{IsMemoryOf, reads_same}
use Rattle.fir_design.proofs.MemorySinks.{controls_same, sinks_joined, two_sinks}

module _ (leaves : List LeafDeclared) (arrays : List LeafArray) (name : List ℕ) (parts : List MemoryPart) (m : LeafMemory) (qs : List LeafPath)
    (is : IsMemoryOf leaves arrays name parts m qs) where
  abbrev Same : List Role → List SourceRole → Type 0
  Same = SameInOrder leaves arrays

  -- of a port that is found by its name
  abbrev known_role : List ℕ → MemoryPortKind → LeafPath → SourceRole
  known_role port kind (named x ∷ q) = tree.port_role name parts port x q (Some kind)
  known_role port kind _ = tree.source

  role_known : (p : NamedPort) → kind_of (flat_map ports_of_part parts) p.name ≡ Some p.kind → (q : LeafPath)
      → memory_role name parts (named p.name ∷ q) ≡ known_role p.name p.kind q
  role_known p e [] = refl
  role_known p e (named x ∷ q) = rw e refl
  role_known p e (element i ∷ q) = refl

  module _ (port : List ℕ) (b : ℕ) where
    reader_same : AtPort leaves name port b (kind_paths qs reads)
        → Same (port_roles m b reads) (map (known_role port reads) (kind_paths qs reads))
    reader_same h =
        let d = m.data_leaves in
        let f = known_role port reads in
        let needs = enable b ∷ [] in
        let address = address_there leaves name port qs d is.data_leaves reads b h in
        let enabled = enable_there leaves name port qs d is.data_leaves reads b h in
        let clock = clock_there leaves name port qs d is.data_leaves reads b h in
        controls_same leaves arrays (read_roles m needs b 0 d) (map f (behind_field (codes "data") qs))
        (reads_same leaves arrays name parts m qs is port b needs [] address clock (rw enabled refl) f (codes "data") (λ q. refl))

    writer_same : Same (port_roles m b writes) (map (known_role port writes) (kind_paths qs writes))
    writer_same =
        let d = m.data_leaves in
        let f = known_role port writes in
        rw (sinks_joined 3 (2 * d))
        (controls_same leaves arrays (sinks (2 * d)) (map f (behind_field (codes "data") qs ++ behind_field (codes "mask") qs))
        (two_sinks leaves arrays f (codes "data") (codes "mask") qs d is.data_leaves (λ q. refl) (λ q. refl)))

    readwriter_same : AtPort leaves name port b (kind_paths qs reads_and_writes)
        → Same (port_roles m b reads_and_writes) (map (known_role port reads_and_writes) (kind_paths qs reads_and_writes))
    readwriter_same h =
        let d = m.data_leaves in
        let f = known_role port reads_and_writes in
        let needs : List Need = enable b ∷ record { leaf = mode d b; high = false } ∷ [] in
        let more : List PathNeed = record { leaf = port_field name port (codes "wmode"); high = false } ∷ [] in
        let read = behind_field (codes "rdata") qs in
        let given = behind_field (codes "wdata") qs ++ behind_field (codes "wmask") qs in
        let behind : List LeafPath = (named (codes "wmode") ∷ []) ∷ given in
        let address = address_there leaves name port qs d is.data_leaves reads_and_writes b h in
        let enabled = enable_there leaves name port qs d is.data_leaves reads_and_writes b h in
        let clock = clock_there leaves name port qs d is.data_leaves reads_and_writes b h in
        let moded = mode_there leaves name port qs d is.data_leaves b h in
        rw (sinks_joined 1 (2 * d))
        (controls_same leaves arrays (read_roles m needs b 0 d ++ sink ∷ sinks (2 * d)) (map f (read ++ behind))
        (rw (map-append f read behind)
        (roles_joined leaves arrays (read_roles m needs b 0 d) (sink ∷ sinks (2 * d)) (map f read) (map f behind)
        (reads_same leaves arrays name parts m qs is port b needs more address clock (rw (enabled, moded) refl) f (codes "rdata") (λ q. refl))
        (tt, two_sinks leaves arrays f (codes "wdata") (codes "wmask") qs d is.data_leaves (λ q. refl) (λ q. refl)))))

    port_same : (kind : MemoryPortKind) → AtPort leaves name port b (kind_paths qs kind)
        → Same (port_roles m b kind) (map (known_role port kind) (kind_paths qs kind))
    port_same reads h = reader_same h
    port_same writes h = writer_same
    port_same reads_and_writes h = readwriter_same h

  all_known : (p : NamedPort) → kind_of (flat_map ports_of_part parts) p.name ≡ Some p.kind → (ps : List LeafPath)
      → map (memory_role name parts) (map (behind_step (named p.name)) ps) ≡ map (known_role p.name p.kind) ps
  all_known p e [] = refl
  all_known p e (q ∷ ps) = rw (role_known p e q, all_known p e ps) refl

  -- of ports from a leaf on
  pub ports_same : (b : ℕ) (ps : List NamedPort) → ((p : NamedPort) → In ps p → In (flat_map ports_of_part parts) p)
      → Stands (path_at leaves) (behind_step (named name)) b (flat_map (port_paths qs) ps)
      → Same (roles_from m b (map (λ (p : NamedPort). p.kind) ps)) (map (memory_role name parts) (flat_map (port_paths qs) ps))
  ports_same b [] among h = tt
  ports_same b (p ∷ ps) among h =
      let d = m.data_leaves in
      let rest = flat_map (port_paths qs) ps in
      let at = path_at leaves in
      let g = behind_step (named name) in
      let own : Same (port_roles m b p.kind) (map (memory_role name parts) (port_paths qs p)) =
      rw (all_known p (is.found p (among p (inl refl))) (kind_paths qs p.kind))
      (port_same p.name b p.kind
      (stands_unmapped at g b (behind_step (named p.name)) (kind_paths qs p.kind) (stands_left at g b (port_paths qs p) rest h))) in
      rw (map-append (memory_role name parts) (port_paths qs p) rest)
      (roles_joined leaves arrays (port_roles m b p.kind) _ (map (memory_role name parts) (port_paths qs p)) (map (memory_role name parts) rest) own
      (ports_same (b + port_size d p.kind) ps (λ q i. among q (inr i))
      (stands_right at g b (port_size d p.kind) (port_paths qs p) rest (port_long qs d is.data_leaves p) h)))
