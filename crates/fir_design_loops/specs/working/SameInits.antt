-- The faults E27 stand over numbered leaves exactly where they stand by paths, in every design (FIRRTL spec, "Registers", "Instances").
use Rattle.std.specs.Prelude.{◌↔◌}
use Rattle.fir_ast.specs.Circuits.{CircuitTree}
use Rattle.fir_ast.specs.Faults.{Fault}
use Rattle.fir_meaning.specs.working.Designs.{Design}
use Rattle.fir_meaning.specs.working.Flattened.{flattened}
use Rattle.fir_meaning.specs.SourceDesigns.{SourceDesign}
use Rattle.fir_meaning.specs.SourceInits.{ShowsAsyncInit}
use Rattle.fir_leaf.specs.working.InitFaults as numbered
use Rattle.fir_design.specs.working.MeaningLaws.{AreDesigns}

abbrev pub SameInits : Type 0
SameInits = (c : CircuitTree) (d : Design) (t : SourceDesign) (f : Fault) → AreDesigns c d t → numbered.ShowsAsyncInit (flattened d) f ↔ ShowsAsyncInit t f
