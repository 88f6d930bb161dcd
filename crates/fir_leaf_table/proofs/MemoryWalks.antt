-- The arrays and the clocks of a memory.
use Rattle.std.proofs.Common.{◌≡◌, ℕ, suc, List, [], ◌∷◌, ◌++◌, map, length, Option, Some, None, refl, sym, ap, ◌∙◌, subst, arith}
use Rattle.std.specs.Prelude.{flat_map}
use Rattle.std.proofs.lemmas.List.{length-map}
use Rattle.fir_ast.specs.Statements.{PlacedName, MemoryPart}
use Rattle.fir_ast.specs.Types.{DataType}
use Rattle.fir_meaning.specs.Components as component
use Rattle.fir_meaning.specs.MemoryTypes.{data_of_part, first_one}
use Rattle.fir_meaning.specs.SizedMemories.{sized_array}
use Rattle.fir_meaning.specs.TypeLeaves.{TypeLeaf}
use Rattle.fir_meaning.specs.Visibility.{Before}
use Rattle.fir_ground.specs.working.DeclarationDrivers.{DriverMeant, drivers_seen}
use Rattle.fir_leaf.specs.declared.node.Node.{Node}
use Rattle.fir_meaning.specs.ModuleScenes.{Scene}
use Rattle.fir_meaning.specs.HeldTypes.{held_types}
use Rattle.fir_meaning.specs.working.LeafedModules.{memory_arrays, memory_before}
use Rattle.fir_meaning.specs.working.LeafMemories.{LeafMemory, arrays_from, count_of_data, memory_behind, memory_declared}
use Rattle.fir_meaning.specs.FoundTypes.{leaves_of_data}
use Rattle.fir_meaning.specs.LeafTypes.{LeafType}
use Rattle.fir_leaf.proofs.LeafPlaces.{leaves_counted}
use Rattle.fir_leaf_table.specs.declared.memory.Memory.{Memory}
use Rattle.fir_leaf_table.specs.declared.walk.Walk.{Walk}
use Rattle.fir_leaf_table.specs.working.Memories.{IsMemory}
use Rattle.fir_leaf_circuit.specs.working.Seen.{array_seen, memory_seen, type_seen, unnamed_array}
use Rattle.fir_leaf_table.specs.working.Walks.{Counts}
use Rattle.fir_leaf_table.proofs.DeclarationWalks.{IsReady}

data_counted : (t : Option DataType) → length (leaves_of_data t) ≡ count_of_data t
data_counted None = refl
data_counted (Some t) = leaves_counted t

arrays_long : (m : LeafMemory) (i : ℕ) (ls : List TypeLeaf) (hs : List LeafType) → length ls ≡ length hs → length (arrays_from m i ls hs) ≡ length ls
arrays_long m i [] hs e = refl
arrays_long m i (l ∷ ls) [] e = absurd (omega (arith, e))
arrays_long m i (l ∷ ls) (h ∷ hs) e = ap suc (arrays_long m (suc i) ls hs (omega (arith, e)))

module _ (s : Scene) (before : Before) (n : PlacedName) (parts : List MemoryPart) where
  abbrev meant : LeafMemory
  meant = memory_before s before n parts

  abbrev holds : List LeafType
  holds = held_types s.widths (sized_array parts)

  abbrev words : List TypeLeaf
  words = leaves_of_data (first_one (flat_map data_of_part parts))

  -- the code has the leaves so far
  pub memory_here : (memory : Memory) (first : ℕ) (walk : Walk) → Counts s before walk → first ≡ length walk.leaves.items
      → IsMemory memory (memory_behind before.declared first n parts) (held_types s.widths (sized_array parts))
      → IsMemory memory (memory_before s before n parts) (held_types s.widths (sized_array parts))
  memory_here memory first walk counts is h =
      subst (λ k. IsMemory memory (memory_behind before.declared k n parts) (held_types s.widths (sized_array parts))) (is ∙ counts.leaves) h

  module _ (memory : Memory) (is : IsMemory memory (memory_before s before n parts) (held_types s.widths (sized_array parts))) where
    pub data_held : length (leaves_of_data (first_one (flat_map data_of_part parts))) ≡ length (held_types s.widths (sized_array parts))
    data_held =
        data_counted (first_one (flat_map data_of_part parts)) ∙ sym is.data_leaves ∙ sym (length-map memory.data.items type_seen) ∙ ap length is.holds_are

    pub memory_ready : (nodes : List Node) (rest : List DriverMeant) (old taken new : Walk)
        → taken ≡ record old { drivers = taken.drivers } → drivers_seen nodes taken.drivers.now ≡ rest
        → new ≡ record taken { arrays = new.arrays; memories = new.memories }
        → map array_seen new.arrays.items ≡ map array_seen taken.arrays.items ++ map unnamed_array (memory_arrays s (memory_before s before n parts) parts)
        → map memory_seen new.memories.items ≡ map memory_seen taken.memories.items ++ memory_declared (memory_before s before n parts) ∷ []
        → IsReady (component.memory parts) nodes rest (memory_arrays s (memory_before s before n parts) parts)
        (memory_declared (memory_before s before n parts) ∷ []) old new
    memory_ready nodes rest old taken new stays drivers same arrays memories =
        record {
          declared = ap (λ (w : Walk). w.declared) same ∙ ap (λ (w : Walk). w.declared) stays;
          leaves = ap (λ (w : Walk). w.leaves) same ∙ ap (λ (w : Walk). w.leaves) stays;
          no_node = ap (λ (w : Walk). w.no_node) same ∙ ap (λ (w : Walk). w.no_node) stays;
          drivers = ap (λ (w : Walk). drivers_seen nodes w.drivers.now) same ∙ drivers;
          arrays =
              arrays
              ∙ ap (λ (w : Walk). map array_seen w.arrays.items ++ map unnamed_array (memory_arrays s (memory_before s before n parts) parts)) stays;
          many = arrays_long meant 0 words holds data_held ∙ data_counted (first_one (flat_map data_of_part parts));
          memories =
              memories
              ∙ ap (λ (w : Walk). map memory_seen w.memories.items ++ memory_declared (memory_before s before n parts) ∷ []) stays;
        }
