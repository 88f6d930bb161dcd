-- E26 in a tree of designs over numbered leaves (FIRRTL spec, "Memories", "Clock Type"): two ports of a memory of one of its modules on different clocks.
-- Told is the fault of the first memory: by its place in the text, and then by its instance.
use Rattle.std.specs.Prelude.{◌≡◌, ℕ, ◌≤◌, Some, false, slice_get}
use Rattle.fir_ast.specs.Faults.{Fault}
use Rattle.fir_meaning.specs.Lack.{is_before}
use Rattle.fir_meaning.specs.SourceDependence.{PlacedModule, all_modules}
use Rattle.fir_meaning.specs.SourceDesigns.{SourceDesign}
use Rattle.fir_meaning.specs.working.LeafedModules.{leafed_module}
use Rattle.fir_leaf.specs.working.MemoryClockFaults.{ShowsMemoryClocks}

-- in the module of the instance of a number
pub record ShowsMemoryFault (t : SourceDesign) (f : Fault) : Type 0 where
  pub number : ℕ
  pub holder : PlacedModule
  pub is_holder : slice_get (all_modules t) number ≡ Some holder
  pub shows : ShowsMemoryClocks (leafed_module holder.scene) holder.at f

-- at a memory before which no other shows one
pub record TellsMemoryFault (t : SourceDesign) (f : Fault) : Type 0 where
  pub told : ShowsMemoryFault t f
  pub first :
      (other : Fault) (shown : ShowsMemoryFault t other) → is_before shown.shows.name.place told.shows.name.place ≡ false
  pub first_instance :
      (other : Fault) (shown : ShowsMemoryFault t other) → shown.shows.name.place ≡ told.shows.name.place → told.number ≤ shown.number
