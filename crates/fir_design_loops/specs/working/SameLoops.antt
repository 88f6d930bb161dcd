-- The faults E28 stand over numbered leaves exactly where they stand by paths, in every design (FIRRTL spec, "Connects", "Last Connect Semantics", "Instances").
use Rattle.std.specs.Prelude.{◌↔◌}
use Rattle.fir_ast.specs.Circuits.{CircuitTree}
use Rattle.fir_ast.specs.Faults.{Fault}
use Rattle.fir_meaning.specs.working.Designs.{Design}
use Rattle.fir_meaning.specs.working.Flattened.{flattened}
use Rattle.fir_meaning.specs.working.LoopFaults as numbered
use Rattle.fir_meaning.specs.SourceDesigns.{SourceDesign}
use Rattle.fir_meaning.specs.SourceLoops.{ShowsLoop}
use Rattle.fir_design.specs.working.MeaningLaws.{AreDesigns}

abbrev pub SameLoops : Type 0
SameLoops = (c : CircuitTree) (d : Design) (t : SourceDesign) (f : Fault) → AreDesigns c d t → numbered.ShowsLoop (flattened d) f ↔ ShowsLoop t f
