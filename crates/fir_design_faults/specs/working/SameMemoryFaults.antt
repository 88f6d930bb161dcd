-- Of all modules of a tree of designs the fault E26 is shown, and told, over numbered leaves exactly where it is by paths (FIRRTL spec, "Memories", "Clock Type",
-- "Instances").
use Rattle.std.specs.Prelude.{◌≡◌, ◌↔◌, []}
use Rattle.fir_ast.specs.Circuits.{CircuitTree}
use Rattle.fir_ast.specs.Faults.{Fault}
use Rattle.fir_meaning.specs.Elaborated.{IsSourceOf}
use Rattle.fir_meaning.specs.SourceDesigns.{SourceDesign}
use Rattle.fir_meaning.specs.SourceMemoryClocks.{ShowsMemoryFault, TellsMemoryFault}
use Rattle.fir_meaning.specs.TypeGroup.{type_faults}
use Rattle.fir_meaning.specs.working.NameGroups.{HasNames}
use Rattle.fir_design_faults.specs.working.MemoryFaults as numbered

abbrev pub SameMemoryFaults : Type 0
SameMemoryFaults =
    (c : CircuitTree) (t : SourceDesign) (f : Fault) → HasNames c → type_faults c ≡ [] → IsSourceOf c t
    → (numbered.ShowsMemoryFault t f ↔ ShowsMemoryFault t f) × (numbered.TellsMemoryFault t f ↔ TellsMemoryFault t f)
