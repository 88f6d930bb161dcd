-- A leaf of a whole design is read by a statement that is live for another over numbered leaves exactly where a drive of one of its modules reads it that is live
-- for the other by paths (FIRRTL spec, "Last Connect Semantics", "Instances").
use Rattle.std.specs.Prelude.{◌↔◌, ℕ, ◌<◌, length}
use Rattle.fir_ast.specs.Circuits.{CircuitTree}
use Rattle.fir_meaning.specs.SourceDependence.{DriveReads}
use Rattle.fir_meaning.specs.SourceDesigns.{SourceDesign}
use Rattle.fir_meaning.specs.working.Choices.{LiveReads}
use Rattle.fir_meaning.specs.working.Designs.{Design}
use Rattle.fir_meaning.specs.working.Flattened.{flattened}
use Rattle.fir_meaning.specs.working.LeafCircuits.{depth_of}
use Rattle.fir_leaf.specs.working.SoundDesigns.{circuit_path}
use Rattle.fir_design.specs.working.MeaningLaws.{AreDesigns}

abbrev pub SameDriveReads : Type 0
SameDriveReads =
    (c : CircuitTree) (d : Design) (t : SourceDesign) (x y : ℕ) → AreDesigns c d t → x < length (flattened d).leaves → y < length (flattened d).leaves
    → LiveReads (depth_of (flattened d) x) x (flattened d).body y ↔ DriveReads t (circuit_path (flattened d) x) (circuit_path (flattened d) y)
