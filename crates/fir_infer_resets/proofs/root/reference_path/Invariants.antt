use Rattle.std.proofs.Common.{◌≡◌, ◌++◌, drop, map}
use Rattle.fir_ast.specs.working.Views.{parts_of, sink_of}
use Rattle.fir_names.specs.working.Parts.{part_of}
use Rattle.fir_types.specs.working.Seen.{sink_path, steps_of}
use Rattle.fir_infer_resets.specs.working.Holding.{path_of}
use Rattle.fir_infer_resets.proofs.root.reference_path.Given as goal

abbrev pub invariant-loop-part : goal.invariant-loop-part
invariant-loop-part l =
    path_of l.path.items ++ steps_of (parts_of (map part_of (drop l.part-index l.part-items))) ≡ sink_path (sink_of l.reference)
