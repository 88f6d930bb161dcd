-- A role without terms reads nothing: those of memories and of instances.
use Rattle.std.proofs.Common.{◌≡◌, ℕ, zero, suc, ◌+◌, ◌*◌, List, [], ◌∷◌, ◌++◌, Bool, true, false, if◌then◌else◌, refl}
use Rattle.std.specs.List.{AllByRecursion}
use Rattle.fir_base.proofs.Each.{all_joined}
use Rattle.fir_ast.specs.declared.place.Place.{Place}
use Rattle.fir_meaning.specs.TypeLeaves.{TypeLeaf}
use Rattle.fir_meaning.specs.ModuleScenes.{Declared}
use Rattle.fir_meaning.specs.working.LeafedModules.{leaves_from, role_in}
use Rattle.fir_meaning.specs.working.LeafMemories.{LeafMemory, enable, mode, port_roles, port_size, read_role, read_roles, roles_from, sinks}
use Rattle.fir_meaning.specs.MemoryPorts.{MemoryPortKind, reads, reads_and_writes, writes}
use Rattle.fir_meaning.specs.working.LeafModules as over
use Rattle.fir_meaning.specs.working.LeafModules.{LeafDeclared, LeafModule, Need, Role}
use Rattle.fir_meaning.specs.LeafTypes.{LeafType}
use Rattle.fir_design_faults.proofs.AllTerms.{RoleReads}

module _ (m : LeafModule) where
  abbrev pub RolesRead : List LeafDeclared → Type 0
  RolesRead = AllByRecursion (λ (l : LeafDeclared). RoleReads m l.role)

  pub from_reads : (d : Declared) (place : TypeLeaf → Place) (role_of : ℕ → TypeLeaf → Role) (k : ℕ)
      (ls : List TypeLeaf) (hs : List LeafType)
      → ((x : ℕ) (l : TypeLeaf) → RoleReads m (role_of x l)) → RolesRead (leaves_from d place role_of k ls hs)
  from_reads d place role_of k [] hs each = tt
  from_reads d place role_of k (l ∷ ls) [] each = tt
  from_reads d place role_of k (l ∷ ls) (h ∷ hs) each = (each k l, from_reads d place role_of (suc k) ls hs each)

  pub instance_reads : (b : Bool) → RoleReads m (if b then over.sink else over.source)
  instance_reads true = tt
  instance_reads false = tt

  -- those of a memory have no terms
  abbrev NoTerms : List Role → Type 0
  NoTerms = AllByRecursion (RoleReads m)

  sinks_read : (k : ℕ) → NoTerms (sinks k)
  sinks_read zero = tt
  sinks_read (suc k) = (tt, sinks_read k)

  read_reads : (x : LeafMemory) (needs : List Need) (b i : ℕ) → RoleReads m (read_role x needs b i)
  read_reads x needs b i = go x.read_latency refl
    where
      go : (l : ℕ) → x.read_latency ≡ l → RoleReads m (read_role x needs b i)
      go zero e = rw e tt
      go (suc l) e = rw e tt

  all_read : (x : LeafMemory) (needs : List Need) (b i k : ℕ) → NoTerms (read_roles x needs b i k)
  all_read x needs b i zero = tt
  all_read x needs b i (suc k) = (read_reads x needs b i, all_read x needs b (suc i) k)

  port_reads : (x : LeafMemory) (b : ℕ) (p : MemoryPortKind) → NoTerms (port_roles x b p)
  port_reads x b reads =
      all_joined (RoleReads m) (sinks 3) (read_roles x (enable b ∷ []) b 0 x.data_leaves) (sinks_read 3)
      (all_read x (enable b ∷ []) b 0 x.data_leaves)
  port_reads x b writes = sinks_read (3 + 2 * x.data_leaves)
  port_reads x b reads_and_writes =
      let needs = enable b ∷ record { leaf = mode x.data_leaves b; high = false } ∷ [] in
      let these = read_roles x needs b 0 x.data_leaves in
      let more = sinks (1 + 2 * x.data_leaves) in
      all_joined (RoleReads m) (sinks 3) (these ++ more) (sinks_read 3)
      (all_joined (RoleReads m) these more (all_read x needs b 0 x.data_leaves) (sinks_read (1 + 2 * x.data_leaves)))

  pub ports_read : (x : LeafMemory) (b : ℕ) (ps : List MemoryPortKind) → NoTerms (roles_from x b ps)
  ports_read x b [] = tt
  ports_read x b (p ∷ ps) =
      let next = b + port_size x.data_leaves p in
      all_joined (RoleReads m) (port_roles x b p) (roles_from x next ps) (port_reads x b p) (ports_read x next ps)

  pub role_reads : (rs : List Role) (k : ℕ) (l : TypeLeaf) → NoTerms rs → RoleReads m (role_in rs k l)
  role_reads [] k l h = tt
  role_reads (r ∷ rs) zero l h = h.0
  role_reads (r ∷ rs) (suc k) l h = role_reads rs k l h.1
