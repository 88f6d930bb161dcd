-- The leaves and arrays of a module, and the leaves that their roles and writes speak of, have paths that are not empty.
use Rattle.std.proofs.Common.{ℕ, List, [], ◌∷◌, flat_map, Bool, true, false, if◌then◌else◌, option_map}
use Rattle.std.specs.List.{AllByRecursion}
use Rattle.fir_base.proofs.Each.{all_joined}
use Rattle.fir_ast.specs.Statements.{PlacedName, Statement, wire, register, node, instance, memory, when, connect, partial_connect, invalid, skip, Block, done, then}
use Rattle.fir_meaning.specs.Components.{Component}
use Rattle.fir_meaning.specs.Components as component
use Rattle.fir_meaning.specs.LeafPaths.{named}
use Rattle.fir_meaning.specs.MemoryTypes.{data_of_part, first_one}
use Rattle.fir_meaning.specs.SizedMemories.{sized_array}
use Rattle.fir_meaning.specs.TypeLeaves.{TypeLeaf}
use Rattle.fir_meaning.specs.Visibility.{Before, behind, behind_block, opened, reopened, with_declaration}
use Rattle.fir_meaning.specs.FoundTypes.{leaves_of_data}
use Rattle.fir_meaning.specs.LeafTypes.{LeafType}
use Rattle.fir_meaning.specs.ModuleScenes.{Scene, held_by_declared, scope_before, type_of_declared}
use Rattle.fir_meaning.specs.HeldTypes.{held_types}
use Rattle.fir_meaning.specs.SourceRoles as tree
use Rattle.fir_meaning.specs.SourceRoles.{NamedPort, PathNeed, PathReading, PathWriting, SourceArray, SourceLeaf, SourceRole, arrays_of_data, kind_of, latency_of, memory_role, port_field, port_role, port_writing, ports_of_part, read_by, read_role, source_arrays, source_arrays_in, source_arrays_in_block, source_leaves_of, source_reset, sources_in, sources_in_block, under_write_of, writings_at}
use Rattle.fir_design.proofs.NamedMemories.{begins_so, data_named, memory_named}
use Rattle.fir_design.proofs.NamedPaths.{ArrayHasNames, LeafHasNames, RoleHasNames}

of_named : (name : List ℕ) (role_of : TypeLeaf → SourceRole) (ls : List TypeLeaf) (hs : List LeafType)
    → ((l : TypeLeaf) → RoleHasNames (role_of l))
    → AllByRecursion LeafHasNames (source_leaves_of name role_of ls hs)
of_named name role_of [] hs each = tt
of_named name role_of (l ∷ ls) [] each = tt
of_named name role_of (l ∷ ls) (h ∷ hs) each =
    (record { path = begins_so (named name) l.path; role = each l }, of_named name role_of ls hs each)

either_named : (b : Bool) → RoleHasNames (if b then tree.sink else tree.source)
either_named true = tt
either_named false = tt

module _ (s : Scene) where
  one_named : (before : Before) (n : PlacedName) (c : Component) (role_of : TypeLeaf → SourceRole) → ((l : TypeLeaf) → RoleHasNames (role_of l))
      → AllByRecursion LeafHasNames
      (source_leaves_of n.name role_of (leaves_of_data (type_of_declared s (record { named = n; component = c; before = before })))
      (held_by_declared s (record { named = n; component = c; before = before })))
  one_named before n c role_of each =
      of_named n.name role_of (leaves_of_data (type_of_declared s (record { named = n; component = c; before = before })))
      (held_by_declared s (record { named = n; component = c; before = before })) each

  mutual
    statement_named : (x : Statement) (before : Before) → AllByRecursion LeafHasNames (sources_in s before x)
    statement_named (wire p n begins t) before = one_named before n (component.wire t) (λ l. tree.sink) (λ l. tt)
    statement_named (register p n begins t c r) before =
        one_named before n (component.register t)
        (λ l. tree.register (scope_before s before) c
        (option_map (source_reset s (scope_before s (with_declaration before n (component.register t)))) r) l.path) (λ l. tt)
    statement_named (node p n e) before =
        one_named before n (component.node e) (λ l. tree.computed (scope_before s before) e l.path) (λ l. tt)
    statement_named (instance p n other) before =
        one_named before n (component.instance other.name) (λ l. if l.flip then tree.sink else tree.source) (λ l. either_named l.flip)
    statement_named (memory p n parts) before =
        one_named before n (component.memory parts) (λ l. memory_role n.name parts l.path) (λ l. memory_named n.name parts l.path)
    statement_named (when p c a b) before =
        let first = opened before in
        let second = reopened before (behind_block first a) in
        all_joined LeafHasNames (sources_in_block s first a) (sources_in_block s second b) (block_named a first) (block_named b second)
    statement_named (connect p d e) before = tt
    statement_named (partial_connect p d e) before = tt
    statement_named (invalid p d) before = tt
    statement_named (skip p) before = tt

    pub block_named : (b : Block) (before : Before) → AllByRecursion LeafHasNames (sources_in_block s before b)
    block_named done before = tt
    block_named ((then) x b) before =
        let next = behind before x in
        all_joined LeafHasNames (sources_in s before x) (sources_in_block s next b) (statement_named x before) (block_named b next)

  mutual
    statement_arrays_named : (x : Statement) → AllByRecursion ArrayHasNames (source_arrays_in s x)
    statement_arrays_named (memory p n parts) =
        data_named n.name parts (leaves_of_data (first_one (flat_map data_of_part parts))) (held_types s.widths (sized_array parts))
    statement_arrays_named (when p c a b) =
        all_joined ArrayHasNames (source_arrays_in_block s a) (source_arrays_in_block s b) (arrays_named a) (arrays_named b)
    statement_arrays_named (wire p n begins t) = tt
    statement_arrays_named (register p n begins t c r) = tt
    statement_arrays_named (node p n e) = tt
    statement_arrays_named (instance p n other) = tt
    statement_arrays_named (connect p d e) = tt
    statement_arrays_named (partial_connect p d e) = tt
    statement_arrays_named (invalid p d) = tt
    statement_arrays_named (skip p) = tt

    pub arrays_named : (b : Block) → AllByRecursion ArrayHasNames (source_arrays_in_block s b)
    arrays_named done = tt
    arrays_named ((then) x b) =
        all_joined ArrayHasNames (source_arrays_in s x) (source_arrays_in_block s b) (statement_arrays_named x) (arrays_named b)
