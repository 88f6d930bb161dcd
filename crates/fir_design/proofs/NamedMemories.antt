-- The leaves that the roles of a memory's ports and the writes of its arrays speak of have paths that are not empty.
use Rattle.std.proofs.Common.{ℕ, zero, suc, List, [], ◌∷◌, flat_map, codes, Bool, true, false, if◌then◌else◌, Option, Some, None}
use Rattle.std.specs.Str.{bytes_eq}
use Rattle.std.specs.List.{AllByRecursion}
use Rattle.fir_base.proofs.Each.{all_joined}
use Rattle.fir_ast.specs.declared.statements.ReadUnderWrite.{ReadUnderWrite}
use Rattle.fir_ast.specs.Statements.{MemoryPart}
use Rattle.fir_meaning.specs.LeafPaths.{LeafPath, Step, element, named}
use Rattle.fir_meaning.specs.TypeLeaves.{TypeLeaf}
use Rattle.fir_meaning.specs.MemoryPorts.{MemoryPortKind, reads, reads_and_writes, writes}
use Rattle.fir_meaning.specs.LeafTypes.{LeafType}
use Rattle.fir_meaning.specs.SourceRoles as tree
use Rattle.fir_meaning.specs.SourceRoles.{NamedPort, PathNeed, PathReading, PathWriting, SourceArray, SourceLeaf, SourceRole, arrays_of_data, kind_of, latency_of, memory_role, port_field, port_role, port_writing, ports_of_part, read_by, read_role, source_arrays, source_arrays_in, source_arrays_in_block, source_leaves_of, source_reset, sources_in, sources_in_block, under_write_of, writings_at}
use Rattle.fir_design.proofs.NamedPaths.{ArrayHasNames, HasName, NeedsHaveNames, ReadingHasNames, RoleHasNames, WritingHasNames}

pub begins_so : (s : Step) (q : LeafPath) → HasName (s ∷ q)
begins_so s q = record { some = λ e. cc }

module _ (memory_name : List ℕ) (parts : List MemoryPart) where
  field_named : (port field : List ℕ) → HasName (port_field memory_name port field)
  field_named port field = begins_so (named memory_name) (named port ∷ named field ∷ [])

  by_named : (latency : ℕ) (r : PathReading) (clock : LeafPath) (kept : ReadUnderWrite) → ReadingHasNames r → HasName clock
      → RoleHasNames (read_by latency r clock kept)
  by_named zero r clock kept h k = h
  by_named (suc n) r clock kept h k = (h, k)

  read_named : (port : List ℕ) (needs : List PathNeed) (q : LeafPath) → NeedsHaveNames needs
      → RoleHasNames (read_role memory_name parts port needs q)
  read_named port needs q h =
      by_named (latency_of parts) _ (port_field memory_name port (codes "clk")) (under_write_of parts)
      (record {
        array = begins_so (named memory_name) q;
        address = field_named port (codes "addr");
        needs = (field_named port (codes "en"), h);
      }) (field_named port (codes "clk"))

  read_if : (b : Bool) (port : List ℕ) (needs : List PathNeed) (q : LeafPath) → NeedsHaveNames needs
      → RoleHasNames (if b then read_role memory_name parts port needs q else tree.sink)
  read_if true port needs q h = read_named port needs q h
  read_if false port needs q h = tt

  port_named : (port field : List ℕ) (q : LeafPath) (o : Option MemoryPortKind) → RoleHasNames (port_role memory_name parts port field q o)
  port_named port field q None = tt
  port_named port field q (Some reads) = read_if (bytes_eq field (codes "data")) port [] q tt
  port_named port field q (Some writes) = tt
  port_named port field q (Some reads_and_writes) =
      read_if (bytes_eq field (codes "rdata")) port (record { leaf = port_field memory_name port (codes "wmode"); high = false } ∷ []) q
      (field_named port (codes "wmode"), tt)

  pub memory_named : (q : LeafPath) → RoleHasNames (memory_role memory_name parts q)
  memory_named [] = tt
  memory_named (element i ∷ q) = tt
  memory_named (named port ∷ []) = tt
  memory_named (named port ∷ element i ∷ q) = tt
  memory_named (named port ∷ named field ∷ q) = port_named port field q (kind_of (flat_map ports_of_part parts) port)

  writing_named : (q : LeafPath) (port : List ℕ) (kind : MemoryPortKind) → AllByRecursion WritingHasNames (port_writing memory_name q port kind)
  writing_named q port reads = tt
  writing_named q port writes = (
    record {
      address = field_named port (codes "addr");
      needs = (field_named port (codes "en"), (begins_so (named memory_name) (named port ∷ named (codes "mask") ∷ q), tt));
      clock = field_named port (codes "clk");
      given = begins_so (named memory_name) (named port ∷ named (codes "data") ∷ q);
    },
    tt,
  )
  writing_named q port reads_and_writes = (
    record {
      address = field_named port (codes "addr");
      needs = (
        field_named port (codes "en"),
        (field_named port (codes "wmode"), (begins_so (named memory_name) (named port ∷ named (codes "wmask") ∷ q), tt)),
      );
      clock = field_named port (codes "clk");
      given = begins_so (named memory_name) (named port ∷ named (codes "wdata") ∷ q);
    },
    tt,
  )

  writings_named : (q : LeafPath) (ports : List NamedPort) → AllByRecursion WritingHasNames (writings_at memory_name q ports)
  writings_named q [] = tt
  writings_named q (p ∷ ports) =
      all_joined WritingHasNames (port_writing memory_name q p.name p.kind) (writings_at memory_name q ports)
      (writing_named q p.name p.kind) (writings_named q ports)

  pub data_named : (ls : List TypeLeaf) (hs : List LeafType) → AllByRecursion ArrayHasNames (arrays_of_data memory_name parts ls hs)
  data_named [] hs = tt
  data_named (l ∷ ls) [] = tt
  data_named (l ∷ ls) (h ∷ hs) = (
    record { path = begins_so (named memory_name) l.path; writings = writings_named l.path (flat_map ports_of_part parts) },
    data_named ls hs,
  )
