-- The arrays of a module are of its declarations, in their order, and its view has as many as its tree, part by part.
use Rattle.std.proofs.Common.{◌≡◌, ℕ, suc, List, [], ◌∷◌, ◌++◌, flat_map, length, refl, sym, ap, arith, length-append, inl, inr}
use Rattle.fir_base.specs.Lists.{In}
use Rattle.fir_ast.specs.Statements.{MemoryPart, PlacedName, Statement, wire, register, node, instance, memory, when, connect, partial_connect, invalid, skip, Block, done, then}
use Rattle.fir_meaning.specs.Components as component
use Rattle.fir_meaning.specs.MemoryTypes.{data_of_part, first_one}
use Rattle.fir_meaning.specs.SizedMemories.{sized_array}
use Rattle.fir_meaning.specs.TypeLeaves.{TypeLeaf}
use Rattle.fir_meaning.specs.Visibility.{Before, behind, behind_block, declaration_at, opened, reopened}
use Rattle.fir_meaning.specs.working.LeafMemories.{LeafMemory, arrays_from}
use Rattle.fir_meaning.specs.FoundTypes.{leaves_of_data}
use Rattle.fir_meaning.specs.working.LeafModules.{LeafArray}
use Rattle.fir_meaning.specs.LeafTypes.{LeafType}
use Rattle.fir_meaning.specs.ModuleScenes.{Scene}
use Rattle.fir_meaning.specs.working.LeafedModules.{arrays_in, arrays_in_block, memory_before}
use Rattle.fir_meaning.specs.HeldTypes.{held_types}
use Rattle.fir_meaning.specs.SourceRoles.{arrays_of_data, source_arrays_in, source_arrays_in_block}
use Rattle.fir_design.proofs.DeclaredRuns.{IsRun, both_runs, no_run, one_run}
use Rattle.fir_design.proofs.InstanceStatements.{longer_block, longer_statement}
use Rattle.fir_design.proofs.LeavesBeside.{joined_long}

abbrev pub array_declaration : LeafArray → ℕ
array_declaration a = a.declaration

from_declares : (m : LeafMemory) (i : ℕ) (ls : List TypeLeaf) (hs : List LeafType) (a : LeafArray) → In (arrays_from m i ls hs) a
    → a.declaration ≡ m.declaration
from_declares m i [] hs a among = absurd among
from_declares m i (l ∷ ls) [] a among = absurd among
from_declares m i (l ∷ ls) (h ∷ hs) a (inl e) = ap array_declaration (sym e)
from_declares m i (l ∷ ls) (h ∷ hs) a (inr among) = from_declares m (suc i) ls hs a among

from_long : (m : LeafMemory) (i : ℕ) (name : List ℕ) (parts : List MemoryPart) (ls : List TypeLeaf) (hs : List LeafType)
    → length (arrays_from m i ls hs) ≡ length (arrays_of_data name parts ls hs)
from_long m i name parts [] [] = refl
from_long m i name parts [] (h ∷ hs) = refl
from_long m i name parts (l ∷ ls) [] = refl
from_long m i name parts (l ∷ ls) (h ∷ hs) = ap suc (from_long m (suc i) name parts ls hs)

module _ (s : Scene) where
  abbrev data_leaves : List MemoryPart → List TypeLeaf
  data_leaves parts = leaves_of_data (first_one (flat_map data_of_part parts))

  mutual
    pub statement_beside : (x : Statement) (before : Before) → length (arrays_in s before x) ≡ length (source_arrays_in s x)
    statement_beside (memory p n parts) before =
        from_long (memory_before s before n parts) 0 n.name parts (data_leaves parts) (held_types s.widths (sized_array parts))
    statement_beside (when p c a b) before =
        let second = reopened before (behind_block (opened before) a) in
        joined_long (arrays_in_block s (opened before) a) (arrays_in_block s second b) (source_arrays_in_block s a) (source_arrays_in_block s b)
        (block_beside a (opened before)) (block_beside b second)
    statement_beside (wire p n begins t) before = refl
    statement_beside (register p n begins t c r) before = refl
    statement_beside (node p n e) before = refl
    statement_beside (instance p n other) before = refl
    statement_beside (connect p d e) before = refl
    statement_beside (partial_connect p d e) before = refl
    statement_beside (invalid p d) before = refl
    statement_beside (skip p) before = refl

    pub block_beside : (b : Block) (before : Before) → length (arrays_in_block s before b) ≡ length (source_arrays_in_block s b)
    block_beside done before = refl
    block_beside ((then) x b) before =
        joined_long (arrays_in s before x) (arrays_in_block s (behind before x) b) (source_arrays_in s x) (source_arrays_in_block s b)
        (statement_beside x before) (block_beside b (behind before x))

  -- a memory's arrays are of its declaration
  pub memory_declares : (before : Before) (n : PlacedName) (parts : List MemoryPart) (a : LeafArray)
      → In (arrays_from (memory_before s before n parts) 0 (data_leaves parts) (held_types s.widths (sized_array parts))) a
      → a.declaration ≡ length before.declared
  memory_declares before n parts a i =
      from_declares (memory_before s before n parts) 0 (data_leaves parts) (held_types s.widths (sized_array parts)) a i

  mutual
    pub statement_run : (x : Statement) (before : Before)
        → IsRun array_declaration (length before.declared) (length (behind before x).declared) (arrays_in s before x)
    statement_run (memory p n parts) before =
        let d = declaration_at before n (component.memory parts) in
        one_run array_declaration (length before.declared) (length (before.declared ++ d ∷ [])) (arrays_in s before (memory p n parts))
        (omega (arith, length-append before.declared (d ∷ []))) (memory_declares before n parts)
    statement_run (when p c a b) before =
        let inside = behind_block (opened before) a in
        let second = reopened before inside in
        both_runs array_declaration (length before.declared) (length inside.declared) (length (behind_block second b).declared)
        (arrays_in_block s (opened before) a) (arrays_in_block s second b) (longer_block (opened before) a) (longer_block second b)
        (block_run a (opened before)) (block_run b second)
    statement_run (wire p n begins t) before = no_run array_declaration _ _
    statement_run (register p n begins t c r) before = no_run array_declaration _ _
    statement_run (node p n e) before = no_run array_declaration _ _
    statement_run (instance p n other) before = no_run array_declaration _ _
    statement_run (connect p d e) before = no_run array_declaration _ _
    statement_run (partial_connect p d e) before = no_run array_declaration _ _
    statement_run (invalid p d) before = no_run array_declaration _ _
    statement_run (skip p) before = no_run array_declaration _ _

    pub block_run : (b : Block) (before : Before)
        → IsRun array_declaration (length before.declared) (length (behind_block before b).declared) (arrays_in_block s before b)
    block_run done before = no_run array_declaration _ _
    block_run ((then) x b) before =
        let next = behind before x in
        both_runs array_declaration (length before.declared) (length next.declared) (length (behind_block next b).declared)
        (arrays_in s before x) (arrays_in_block s next b) (longer_statement before x) (longer_block next b) (statement_run x before)
        (block_run b next)
