-- How many leaves and arrays a module has for what it declares: as many leaves as the types have, and an array for each leaf of a memory's data.
use Rattle.std.proofs.Common.{◌≡◌, ℕ, suc, List, [], ◌∷◌, length, Option, Some, None, refl, ap, ◌∙◌, arith}
use Rattle.std.specs.Prelude.{flat_map}
use Rattle.fir_ast.specs.declared.place.Place.{Place}
use Rattle.fir_ast.specs.Types.{DataType}
use Rattle.fir_ast.specs.Statements.{MemoryPart}
use Rattle.fir_meaning.specs.Costs.{leaves_where}
use Rattle.fir_meaning.specs.MemoryTypes.{data_of_part, first_one}
use Rattle.fir_meaning.specs.SizedMemories.{as_written}
use Rattle.fir_meaning.specs.SizedTypes.{numbered}
use Rattle.fir_meaning.specs.TypeLeaves.{TypeLeaf, leaf_count, type_leaves}
use Rattle.fir_meaning.specs.Visibility.{at_head}
use Rattle.fir_meaning.specs.working.DesignPaths.{no_name}
use Rattle.fir_meaning.specs.working.LeafMemories.{LeafMemory, array_count, arrays_from, count_of_data}
use Rattle.fir_meaning.specs.FoundTypes.{leaves_of_data}
use Rattle.fir_meaning.specs.LeafTypes.{LeafType}
use Rattle.fir_meaning.specs.working.LeafModules.{Role}
use Rattle.fir_meaning.specs.ModuleScenes.{Declared, Scene, held_by_declared, type_of_declared}
use Rattle.fir_meaning.specs.working.LeafedModules.{declared_leaves, leaves_from, memory_arrays}
use Rattle.fir_meaning.specs.HeldTypes.{held_types}
use Rattle.fir_leaf.proofs.HeldCounts.{held_by_type}
use Rattle.fir_leaf.proofs.LeafPlaces.{leaves_counted}
use Rattle.fir_design.proofs.DataHeld.{data_held}

from_long : (d : Declared) (place : TypeLeaf → Place) (role_of : ℕ → TypeLeaf → Role) (k : ℕ) (ls : List TypeLeaf) (hs : List LeafType)
    → length hs ≡ length ls → length (leaves_from d place role_of k ls hs) ≡ length ls
from_long d place role_of k [] hs e = refl
from_long d place role_of k (l ∷ ls) [] e = absurd (omega (arith, e))
from_long d place role_of k (l ∷ ls) (h ∷ hs) e = ap suc (from_long d place role_of (suc k) ls hs (omega (arith, e)))

arrays_long : (m : LeafMemory) (i : ℕ) (ls : List TypeLeaf) (hs : List LeafType) → length hs ≡ length ls
    → length (arrays_from m i ls hs) ≡ length ls
arrays_long m i [] hs e = refl
arrays_long m i (l ∷ ls) [] e = absurd (omega (arith, e))
arrays_long m i (l ∷ ls) (h ∷ hs) e = ap suc (arrays_long m (suc i) ls hs (omega (arith, e)))

module _ (s : Scene) (none : s.own.start.scope ≡ []) where
  pub declared_long : (d : Declared) (place : TypeLeaf → Place) (role_of : ℕ → TypeLeaf → Role)
      → length (declared_leaves s d place role_of) ≡ leaves_where (type_of_declared s d)
  declared_long d place role_of = by (type_of_declared s d) (λ t h. held_by_type s.own none s.widths d.before d.named d.component t h)
    where
      by : (o : Option DataType) → ((t : DataType) → o ≡ Some t → length (held_by_declared s d) ≡ leaf_count t)
          → length (leaves_from d place role_of 0 (leaves_of_data o) (held_by_declared s d)) ≡ leaves_where o
      by None h = refl
      by (Some t) h =
          from_long d place role_of 0 (type_leaves t) (held_by_declared s d) (omega (arith, h t refl, leaves_counted t)) ∙ leaves_counted t

  pub memory_long : (m : LeafMemory) (parts : List MemoryPart) → length (memory_arrays s m parts) ≡ array_count parts
  memory_long m parts = by (first_one (flat_map data_of_part parts))
    where
      by : (o : Option DataType) → length (arrays_from m 0 (leaves_of_data o) (held_types s.widths (as_written o))) ≡ count_of_data o
      by None = refl
      by (Some t) =
          let held = data_held s.own none s.widths at_head no_name t in
          arrays_long m 0 (type_leaves t) (held_types s.widths (numbered None t)) (omega (arith, held, leaves_counted t)) ∙ leaves_counted t
