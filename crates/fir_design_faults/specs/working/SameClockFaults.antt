-- The faults E25 of a design stand over numbered leaves exactly where they stand by paths (FIRRTL spec, "Clock Type", "Last Connect Semantics", "Instances").
use Rattle.std.specs.Prelude.{◌↔◌}
use Rattle.fir_ast.specs.Circuits.{CircuitTree}
use Rattle.fir_ast.specs.Faults.{Fault}
use Rattle.fir_meaning.specs.SourceClocks.{ShowsClockFault}
use Rattle.fir_meaning.specs.SourceDesigns.{SourceDesign}
use Rattle.fir_meaning.specs.working.Designs.{Design}
use Rattle.fir_meaning.specs.working.Flattened.{flattened}
use Rattle.fir_leaf.specs.working.ClockFaults as numbered
use Rattle.fir_design.specs.working.MeaningLaws.{AreDesigns}

abbrev pub SameClockFaults : Type 0
SameClockFaults =
    (c : CircuitTree) (d : Design) (t : SourceDesign) (f : Fault) → AreDesigns c d t → numbered.ShowsClockFault (flattened d) f ↔ ShowsClockFault t f
