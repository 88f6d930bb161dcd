-- What the leaves of a memory read is the same by numbers and by paths: no term stands in their roles.
use Rattle.std.proofs.Common.{◌≡◌, ℕ, zero, suc, List, [], ◌∷◌, map, Bool, true, false, if◌then◌else◌, Option, Some, None, refl, ap, ◌∙◌}
use Rattle.std.specs.List.{AllByRecursion}
use Rattle.std.specs.Prelude.{codes, flat_map}
use Rattle.std.specs.Str.{bytes_eq}
use Rattle.fir_ast.specs.declared.statements.ReadUnderWrite.{ReadUnderWrite}
use Rattle.fir_ast.specs.Statements.{MemoryPart}
use Rattle.fir_meaning.specs.working.Dependence as over
use Rattle.fir_meaning.specs.MemoryPorts.{MemoryPortKind, reads, reads_and_writes, writes}
use Rattle.fir_meaning.specs.working.LeafModules as role
use Rattle.fir_meaning.specs.working.LeafModules.{LeafArray, LeafDeclared, Need, Reading, Role}
use Rattle.fir_meaning.specs.LeafTypes.{LeafType}
use Rattle.fir_meaning.specs.LeafPaths.{LeafPath, element, named}
use Rattle.fir_meaning.specs.ModuleScenes.{Scene}
use Rattle.fir_meaning.specs.working.LeafedModules.{leafed_module, module_leaves}
use Rattle.fir_meaning.specs.SourceDependence as tree
use Rattle.fir_meaning.specs.SourceRoles as sources
use Rattle.fir_meaning.specs.SourceRoles.{PathNeed, PathReading, SourceLeaf, SourceRole, kind_of, latency_of, memory_role, port_role, ports_of_part, read_by, source_leaves_of}
use Rattle.fir_meaning.specs.TypeLeaves.{TypeLeaf}
use Rattle.fir_design.proofs.ListsInStep.{AreInStep}
use Rattle.fir_design.specs.working.SameRoles.{SameLeaves, SameRole, need_on, reading_on}
use Rattle.fir_source_faults.specs.working.ReadsByPath.{path_in, paths_in}
use Rattle.fir_source_faults.proofs.RoleReads.{init_reads, path_inits, path_reads, role_reads}

pub record SameLeafReads (s : Scene) (l : LeafDeclared) (t : SourceLeaf) : Type 0 where
  pub reads : paths_in s (role_reads l.role) ≡ path_reads t.role
  pub inits : paths_in s (init_reads l.role) ≡ path_inits t.role

-- without expressions
abbrev IsPlain : SourceRole → Type 0
IsPlain (sources.computed scope e q) = ⊥
IsPlain (sources.register scope clock reset q) = ⊥
IsPlain _ = Unit {0}

if_plain : (b : Bool) (r : SourceRole) → IsPlain r → IsPlain (if b then r else sources.sink)
if_plain true r h = h
if_plain false r h = tt

read_by_plain : (n : ℕ) (r : PathReading) (clock : LeafPath) (u : ReadUnderWrite) → IsPlain (read_by n r clock u)
read_by_plain zero r clock u = tt
read_by_plain (suc n) r clock u = tt

port_plain : (name : List ℕ) (parts : List MemoryPart) (port field : List ℕ) (q : LeafPath) (k : Option MemoryPortKind) → IsPlain (port_role name parts port field q k)
port_plain name parts port field q None = tt
port_plain name parts port field q (Some reads) =
    if_plain (bytes_eq field (codes "data")) (sources.read_role name parts port [] q) (read_by_plain (latency_of parts) _ _ _)
port_plain name parts port field q (Some writes) = tt
port_plain name parts port field q (Some reads_and_writes) =
    if_plain (bytes_eq field (codes "rdata"))
    (sources.read_role name parts port (record { leaf = sources.port_field name port (codes "wmode"); high = false } ∷ []) q)
    (read_by_plain (latency_of parts) _ _ _)

memory_plain : (name : List ℕ) (parts : List MemoryPart) (q : LeafPath) → IsPlain (memory_role name parts q)
memory_plain name parts [] = tt
memory_plain name parts (element i ∷ q) = tt
memory_plain name parts (named port ∷ []) = tt
memory_plain name parts (named port ∷ element i ∷ q) = tt
memory_plain name parts (named port ∷ named field ∷ q) =
    port_plain name parts port field q (kind_of (flat_map ports_of_part parts) port)

all_plain : (name : List ℕ) (role_of : TypeLeaf → SourceRole) → ((l : TypeLeaf) → IsPlain (role_of l)) → (ls : List TypeLeaf) (hs : List LeafType)
    → AllByRecursion (λ (t : SourceLeaf). IsPlain t.role) (source_leaves_of name role_of ls hs)
all_plain name role_of h [] hs = tt
all_plain name role_of h (l ∷ ls) [] = tt
all_plain name role_of h (l ∷ ls) (x ∷ hs) = (h l, all_plain name role_of h ls hs)

module _ (s : Scene) where
  needs_read : (ns : List Need) → paths_in s (map (λ (n : Need). n.leaf) ns)
      ≡ map (λ (n : PathNeed). n.leaf) (map (need_on (module_leaves s)) ns)
  needs_read [] = refl
  needs_read (n ∷ ns) = ap (λ ps. path_in s n.leaf ∷ ps) (needs_read ns)

  reading_read : (arrays : List LeafArray) (r : Reading) → paths_in s (over.reading_reads r) ≡ tree.reading_reads (reading_on (module_leaves s) arrays r)
  reading_read arrays r = ap (λ ps. path_in s r.address ∷ ps) (needs_read r.needs)

  plain_read : (arrays : List LeafArray) (r : Role) (t : SourceRole) → SameRole (module_leaves s) arrays r t → IsPlain t
      → paths_in s (role_reads r) ≡ path_reads t
  plain_read arrays role.source sources.source h p = refl
  plain_read arrays role.sink sources.sink h p = refl
  plain_read arrays (role.computed t) (sources.computed scope e q) h p = absurd p
  plain_read arrays (role.register c r) (sources.register scope clock reset q) h p = absurd p
  plain_read arrays (role.reading r) (sources.reading q) h p = reading_read arrays r ∙ ap tree.reading_reads h
  plain_read arrays (role.pipe r x u) (sources.pipe q clock kept) h p = refl
  plain_read arrays _ _ h p = absurd h

  plain_init : (arrays : List LeafArray) (r : Role) (t : SourceRole) → SameRole (module_leaves s) arrays r t → IsPlain t
      → paths_in s (init_reads r) ≡ path_inits t
  plain_init arrays role.source sources.source h p = refl
  plain_init arrays role.sink sources.sink h p = refl
  plain_init arrays (role.computed t) (sources.computed scope e q) h p = absurd p
  plain_init arrays (role.register c r) (sources.register scope clock reset q) h p = absurd p
  plain_init arrays (role.reading r) (sources.reading q) h p = refl
  plain_init arrays (role.pipe r x u) (sources.pipe q clock kept) h p = refl
  plain_init arrays _ _ h p = absurd h

  all_read : (ls : List LeafDeclared) (ts : List SourceLeaf) → SameLeaves (module_leaves s) (leafed_module s).arrays ls ts
      → AllByRecursion (λ (t : SourceLeaf). IsPlain t.role) ts → AreInStep (SameLeafReads s) ls ts
  all_read [] [] h p = tt
  all_read [] (t ∷ ts) h p = absurd h
  all_read (l ∷ ls) [] h p = absurd h
  all_read (l ∷ ls) (t ∷ ts) h p = (
    record {
      reads = plain_read (leafed_module s).arrays l.role t.role h.0.2 p.0;
      inits = plain_init (leafed_module s).arrays l.role t.role h.0.2 p.0;
    },
    all_read ls ts h.1 p.1,
  )

  pub memory_reads : (name : List ℕ) (parts : List MemoryPart) (ks : List TypeLeaf) (hs : List LeafType) (ls : List LeafDeclared)
      → SameLeaves (module_leaves s) (leafed_module s).arrays ls (source_leaves_of name (λ l. memory_role name parts l.path) ks hs)
      → AreInStep (SameLeafReads s) ls (source_leaves_of name (λ l. memory_role name parts l.path) ks hs)
  memory_reads name parts ks hs ls h =
      all_read ls (source_leaves_of name (λ l. memory_role name parts l.path) ks hs) h
      (all_plain name (λ l. memory_role name parts l.path) (λ l. memory_plain name parts l.path) ks hs)
