use Rattle.std.proofs.Common.{◌≡◌, ◌++◌, drop, flat_map, map}
use Rattle.fir_ast.specs.working.Views.{parts_of, sink_of}
use Rattle.fir_meaning.specs.LeafPaths.{path_text, step_text}
use Rattle.fir_names.specs.working.Parts.{part_of}
use Rattle.fir_types.specs.working.Seen.{sink_path, steps_of}
use Rattle.fir_check.proofs.drives.put_reference.Given as goal

abbrev pub invariant-loop-part : goal.invariant-loop-part
invariant-loop-part l =
    l.out.items ++ flat_map step_text (steps_of (parts_of (map part_of (drop l.part-index l.part-items)))) ≡ l.fn.out.items ++ path_text (sink_path (sink_of l.reference))
