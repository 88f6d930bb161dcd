-- What gives the leaves of a module their values, and what its memories hold, by expressions and paths (FIRRTL spec, "Ports", "Wires", "Registers", "Nodes",
-- "Instances", "Memories").
use Rattle.std.specs.Prelude.{ℕ, zero, suc, List, [], ◌∷◌, ◌++◌, map, flat_map, codes, Bool, true, false, if◌then◌else◌, Option, Some, None, option_map, unwrap_or}
use Rattle.std.specs.Str.{bytes_eq}
use Rattle.fir_ast.specs.declared.statements.ReadUnderWrite.{ReadUnderWrite}
use Rattle.fir_ast.specs.declared.statements.ReadUnderWrite.TheVariants as under
use Rattle.fir_ast.specs.Circuits.{PortTree}
use Rattle.fir_ast.specs.Expressions.{Expression}
use Rattle.fir_ast.specs.Statements.{Block, MemoryPart, PlacedName, Reset, Statement, done, instance, memory, node, reader, readwriter, then, when, wire, writer}
use Rattle.fir_ast.specs.Statements as statement
use Rattle.fir_base.specs.declared.direction.Direction.{Direction}
use Rattle.fir_meaning.specs.Components as component
use Rattle.fir_meaning.specs.Components.{Component}
use Rattle.fir_meaning.specs.Flows.{flow_under, is_source, port_flow}
use Rattle.fir_meaning.specs.LeafPaths.{LeafPath, named}
use Rattle.fir_meaning.specs.MemoryFaults.{read_latency_of_part, read_under_write_of_part}
use Rattle.fir_meaning.specs.MemoryTypes.{data_of_part, depth_of_part, first_one}
use Rattle.fir_meaning.specs.SizedMemories.{sized_array}
use Rattle.fir_meaning.specs.TypeLeaves.{TypeLeaf}
use Rattle.fir_meaning.specs.TypedScopes.{TypedScope}
use Rattle.fir_meaning.specs.Visibility.{Before, at_head, behind, behind_block, opened, reopened, with_declaration}
use Rattle.fir_meaning.specs.MemoryPorts.{MemoryPortKind, reads, reads_and_writes, writes}
use Rattle.fir_meaning.specs.FoundTypes.{leaves_of_data}
use Rattle.fir_meaning.specs.LeafTypes.{LeafType}
use Rattle.fir_meaning.specs.ModuleScenes.{Scene, behind_all_ports, held_by_declared, scope_before, type_of_declared}
use Rattle.fir_meaning.specs.HeldTypes.{held_types}
use Rattle.fir_meaning.specs.AsyncResets.{is_async_reset}

-- a leaf that has to be 1 or 0
pub record PathNeed : Type 0 where
  pub leaf : LeafPath
  pub high : Bool

-- what a port reads: the array, and the leaf of its address
pub record PathReading : Type 0 where
  pub array : LeafPath
  pub address : LeafPath
  pub needs : List PathNeed

pub record PathWriting : Type 0 where
  pub address : LeafPath
  pub needs : List PathNeed
  pub clock : LeafPath
  pub given : LeafPath

-- what resets a register, where these are known
pub record SourceReset : Type 0 where
  pub scope : TypedScope
  pub is_async : Bool
  pub condition : Expression
  pub init : Expression

-- what gives a leaf its value: what is outside of the module; statements; the leaf at a path of an expression, where these are known; a register, with its clock,
-- where these are known, its reset, and the path of the leaf in it; the data of a read at once, and of a pipe, with the leaf of its clock
pub data SourceRole : Type 0 where
  source : SourceRole
  sink : SourceRole
  computed : TypedScope → Expression → LeafPath → SourceRole
  register : TypedScope → Expression → Option SourceReset → LeafPath → SourceRole
  reading : PathReading → SourceRole
  pipe : PathReading → LeafPath → ReadUnderWrite → SourceRole

pub record SourceLeaf : Type 0 where
  pub path : LeafPath
  pub holds : LeafType
  pub role : SourceRole

-- an array of a memory, with its writes in the order of the ports
pub record SourceArray : Type 0 where
  pub path : LeafPath
  pub holds : LeafType
  pub words : ℕ
  pub writings : List PathWriting

-- the ports of a memory, by their names
pub record NamedPort : Type 0 where
  pub name : List ℕ
  pub kind : MemoryPortKind

abbrev pub ports_of_part : MemoryPart → List NamedPort
ports_of_part (reader q names) = map (λ n. record { name = n.name; kind = reads }) names
ports_of_part (writer q names) = map (λ n. record { name = n.name; kind = writes }) names
ports_of_part (readwriter q names) = map (λ n. record { name = n.name; kind = reads_and_writes }) names
ports_of_part _ = []

abbrev pub kind_of : List NamedPort → List ℕ → Option MemoryPortKind
kind_of [] name = None
kind_of (p ∷ ps) name = if bytes_eq p.name name then Some p.kind else kind_of ps name

-- a field of a port of the memory of a name
abbrev pub port_field : List ℕ → List ℕ → List ℕ → LeafPath
port_field memory_name port field = named memory_name ∷ named port ∷ named field ∷ []

abbrev pub needed : LeafPath → PathNeed
needed path = record { leaf = path; high = true }

abbrev pub latency_of : List MemoryPart → ℕ
latency_of parts = unwrap_or (first_one (flat_map read_latency_of_part parts)) 0

abbrev pub under_write_of : List MemoryPart → ReadUnderWrite
under_write_of parts = unwrap_or (first_one (flat_map read_under_write_of_part parts)) under.Old

-- how late a port reads
abbrev pub read_by : ℕ → PathReading → LeafPath → ReadUnderWrite → SourceRole
read_by zero r clock under_write = reading r
read_by (suc n) r clock under_write = pipe r clock under_write

-- the leaf at a path of the data that a port reads, with what is needed besides its enable
abbrev pub read_role : List ℕ → List MemoryPart → List ℕ → List PathNeed → LeafPath → SourceRole
read_role memory_name parts port needs q =
    read_by (latency_of parts)
    (record {
      array = named memory_name ∷ q;
      address = port_field memory_name port (codes "addr");
      needs = needed (port_field memory_name port (codes "en")) ∷ needs;
    }) (port_field memory_name port (codes "clk")) (under_write_of parts)

abbrev pub port_role : List ℕ → List MemoryPart → List ℕ → List ℕ → LeafPath → Option MemoryPortKind → SourceRole
port_role memory_name parts port field q None = source
port_role memory_name parts port field q (Some reads) = if bytes_eq field (codes "data") then read_role memory_name parts port [] q else sink
port_role memory_name parts port field q (Some writes) = sink
port_role memory_name parts port field q (Some reads_and_writes) =
    if bytes_eq field (codes "rdata")
    then read_role memory_name parts port (record { leaf = port_field memory_name port (codes "wmode"); high = false } ∷ []) q
    else sink

-- of a leaf of a memory's ports, by its path in the memory
abbrev pub memory_role : List ℕ → List MemoryPart → LeafPath → SourceRole
memory_role memory_name parts (named port ∷ named field ∷ q) = port_role memory_name parts port field q (kind_of (flat_map ports_of_part parts) port)
memory_role memory_name parts _ = source

-- what a port writes into the array of the data at a path
abbrev pub port_writing : List ℕ → LeafPath → List ℕ → MemoryPortKind → List PathWriting
port_writing memory_name q port reads = []
port_writing memory_name q port writes = record {
  address = port_field memory_name port (codes "addr");
  needs = needed (port_field memory_name port (codes "en")) ∷ needed (port_field memory_name port (codes "mask") ++ q) ∷ [];
  clock = port_field memory_name port (codes "clk");
  given = port_field memory_name port (codes "data") ++ q;
} ∷ []
port_writing memory_name q port reads_and_writes = record {
  address = port_field memory_name port (codes "addr");
  needs = needed (port_field memory_name port (codes "en")) ∷ needed (port_field memory_name port (codes "wmode"))
      ∷ needed (port_field memory_name port (codes "wmask") ++ q) ∷ [];
  clock = port_field memory_name port (codes "clk");
  given = port_field memory_name port (codes "wdata") ++ q;
} ∷ []

abbrev pub writings_at : List ℕ → LeafPath → List NamedPort → List PathWriting
writings_at memory_name q ports = flat_map (λ (p : NamedPort). port_writing memory_name q p.name p.kind) ports

-- an array for each leaf of the data
abbrev pub arrays_of_data : List ℕ → List MemoryPart → List TypeLeaf → List LeafType → List SourceArray
arrays_of_data memory_name parts (l ∷ ls) (h ∷ hs) = record {
  path = named memory_name ∷ l.path;
  holds = h;
  words = unwrap_or (first_one (flat_map depth_of_part parts)) 0;
  writings = writings_at memory_name l.path (flat_map ports_of_part parts);
} ∷ arrays_of_data memory_name parts ls hs
arrays_of_data memory_name parts _ _ = []

-- the leaves of what is declared, each with its role
abbrev pub source_leaves_of : List ℕ → (TypeLeaf → SourceRole) → List TypeLeaf → List LeafType → List SourceLeaf
source_leaves_of name role_of (l ∷ ls) (h ∷ hs) = record { path = named name ∷ l.path; holds = h; role = role_of l } ∷ source_leaves_of name role_of ls hs
source_leaves_of name role_of _ _ = []

abbrev pub source_reset : Scene → TypedScope → Reset → SourceReset
source_reset s scope r = record { scope = scope; is_async = is_async_reset s.is_async scope r.condition; condition = r.condition; init = r.init }

module _ (s : Scene) where
  abbrev pub declared_sources : Before → PlacedName → Component → (TypeLeaf → SourceRole) → List SourceLeaf
  declared_sources before n c role_of =
      source_leaves_of n.name role_of (leaves_of_data (type_of_declared s (record { named = n; component = c; before = before })))
      (held_by_declared s (record { named = n; component = c; before = before }))

  -- a register is known in its reset, and not in its clock
  abbrev mutual
    pub sources_in : Before → Statement → List SourceLeaf
    sources_in before (wire p n begins t) = declared_sources before n (component.wire t) (λ l. sink)
    sources_in before (statement.register p n begins t c r) =
        declared_sources before n (component.register t) (λ l. register (scope_before s before) c
        (option_map (source_reset s (scope_before s (with_declaration before n (component.register t)))) r) l.path)
    sources_in before (node p n e) = declared_sources before n (component.node e) (λ l. computed (scope_before s before) e l.path)
    sources_in before (instance p n other) = declared_sources before n (component.instance other.name) (λ l. if l.flip then sink else source)
    sources_in before (memory p n parts) = declared_sources before n (component.memory parts) (λ l. memory_role n.name parts l.path)
    sources_in before (when p c a b) =
        sources_in_block (opened before) a ++ sources_in_block (reopened before (behind_block (opened before) a)) b
    sources_in before _ = []

    pub sources_in_block : Before → Block → List SourceLeaf
    sources_in_block before done = []
    sources_in_block before ((then) x b) = sources_in before x ++ sources_in_block (behind before x) b

  abbrev pub source_port_role : Direction → TypeLeaf → SourceRole
  source_port_role d l = if is_source (flow_under l.flip (port_flow d)) then source else sink

  abbrev pub sources_of_ports : Before → List PortTree → List SourceLeaf
  sources_of_ports before [] = []
  sources_of_ports before (p ∷ ps) =
      declared_sources before p.named (component.port p.direction p.data_type) (source_port_role p.direction)
      ++ sources_of_ports (with_declaration before p.named (component.port p.direction p.data_type)) ps

  -- all leaves of the module
  abbrev pub source_leaves : List SourceLeaf
  source_leaves = sources_of_ports at_head s.own.inside.ports ++ sources_in_block (behind_all_ports s.own.inside) s.own.inside.body

  abbrev mutual
    pub source_arrays_in : Statement → List SourceArray
    source_arrays_in (memory p n parts) =
        arrays_of_data n.name parts (leaves_of_data (first_one (flat_map data_of_part parts))) (held_types s.widths (sized_array parts))
    source_arrays_in (when p c a b) = source_arrays_in_block a ++ source_arrays_in_block b
    source_arrays_in _ = []

    pub source_arrays_in_block : Block → List SourceArray
    source_arrays_in_block done = []
    source_arrays_in_block ((then) x b) = source_arrays_in x ++ source_arrays_in_block b

  -- and all arrays
  abbrev pub source_arrays : List SourceArray
  source_arrays = source_arrays_in_block s.own.inside.body
