-- The roles of the data that a port of a memory reads, by numbers and by paths.
use Rattle.std.proofs.Common.{◌≡◌, ℕ, zero, suc, ◌+◌, List, [], ◌∷◌, map, flat_map, length, Some, refl, arith}
use Rattle.std.specs.Prelude.{codes}
use Rattle.fir_base.specs.Lists.{In}
use Rattle.fir_ast.specs.Statements.{MemoryPart}
use Rattle.fir_meaning.specs.LeafPaths.{LeafPath, named}
use Rattle.fir_meaning.proofs.LeafSteps.{behind_step}
use Rattle.fir_leaf.specs.working.DesignStates.{array_at}
use Rattle.fir_meaning.specs.working.LeafMemories.{LeafMemory, read_role, read_roles}
use Rattle.fir_meaning.specs.working.LeafModules.{LeafArray, LeafDeclared, Need}
use Rattle.fir_design.specs.working.SameRoles.{SameRole, need_on, path_at}
use Rattle.fir_meaning.specs.SourceRoles as tree
use Rattle.fir_meaning.specs.SourceRoles.{NamedPort, PathNeed, SourceRole, kind_of, latency_of, needed, port_field, ports_of_part, under_write_of}
use Rattle.fir_design.proofs.MemoryPortPaths.{behind_field}
use Rattle.fir_design.proofs.RolesInOrder.{SameInOrder}
use Rattle.fir_design.proofs.StandingLists.{Stands, stands_first, stands_right}

-- the memory as the statement has it, with the paths of the leaves of its data
pub record IsMemoryOf (leaves : List LeafDeclared) (arrays : List LeafArray) (name : List ℕ) (parts : List MemoryPart) (m : LeafMemory)
    (qs : List LeafPath) : Type 0 where
  pub read_latency : m.read_latency ≡ latency_of parts
  pub under_write : m.under_write ≡ under_write_of parts
  pub data_leaves : length qs ≡ m.data_leaves
  pub in_arrays : Stands (λ x. (array_at arrays x).path) (behind_step (named name)) m.first_array qs
  pub found : (p : NamedPort) → In (flat_map ports_of_part parts) p → kind_of (flat_map ports_of_part parts) p.name ≡ Some p.kind

module _ (leaves : List LeafDeclared) (arrays : List LeafArray) (name : List ℕ) (parts : List MemoryPart) (m : LeafMemory) (qs : List LeafPath)
    (is : IsMemoryOf leaves arrays name parts m qs) where
  -- at a port that begins at a leaf, with what it needs besides its enable
  module _ (port : List ℕ) (b : ℕ) (needs : List Need) (more : List PathNeed) (address : path_at leaves b ≡ port_field name port (codes "addr"))
      (clock : path_at leaves (b + 2) ≡ port_field name port (codes "clk"))
      (same : map (need_on leaves) needs ≡ needed (port_field name port (codes "en")) ∷ more) where
    read_same : (i : ℕ) (q : LeafPath) → (array_at arrays (m.first_array + i)).path ≡ named name ∷ q
        → SameRole leaves arrays (read_role m needs b i) (tree.read_role name parts port more q)
    read_same i q array = by m.read_latency refl
      where
        by : (l : ℕ) → m.read_latency ≡ l → SameRole leaves arrays (read_role m needs b i) (tree.read_role name parts port more q)
        by zero e = rw (← is.read_latency, e) (rw (array, address, same) refl)
        by (suc l) e = rw (← is.read_latency, e) (rw (array, address, same) refl, clock, is.under_write)

    reads_from : (f : LeafPath → SourceRole) (x : List ℕ) → ((q : LeafPath) → f (named x ∷ q) ≡ tree.read_role name parts port more q)
        → (i n : ℕ) (ps : List LeafPath) → length ps ≡ n
        → Stands (λ y. (array_at arrays y).path) (behind_step (named name)) (m.first_array + i) ps
        → SameInOrder leaves arrays (read_roles m needs b i n) (map f (behind_field x ps))
    reads_from f x h i zero [] e there = tt
    reads_from f x h i (suc n) [] e there = absurd (omega (arith, e))
    reads_from f x h i zero (q ∷ ps) e there = absurd (omega (arith, e))
    reads_from f x h i (suc n) (q ∷ ps) e there =
        let at = λ (y : ℕ). (array_at arrays y).path in
        let next : m.first_array + i + 1 ≡ m.first_array + suc i = omega arith in
        let rest = stands_right at (behind_step (named name)) (m.first_array + i) 1 (q ∷ []) ps refl there in (
          rw (h q) (read_same i q (stands_first at (behind_step (named name)) (m.first_array + i) q ps there)),
          reads_from f x h (suc i) n ps (omega (arith, e)) (rw next at rest),
        )

    -- all data leaves
    pub reads_same : (f : LeafPath → SourceRole) (x : List ℕ) → ((q : LeafPath) → f (named x ∷ q) ≡ tree.read_role name parts port more q)
        → SameInOrder leaves arrays (read_roles m needs b 0 m.data_leaves) (map f (behind_field x qs))
    reads_same f x h =
        let none : m.first_array + 0 ≡ m.first_array = omega arith in reads_from f x h 0 m.data_leaves qs is.data_leaves (rw none is.in_arrays)
