use Rattle.std.proofs.Common.{◌≡◌, ◌+◌, drop}
use Rattle.std.specs.Prelude.{option_map}
use Rattle.fir_type_table.specs.working.Saturated.{saturated}
use Rattle.fir_type_table.specs.working.Tables.{types_of}
use Rattle.fir_types.specs.working.Seen.{found_type}
use Rattle.fir_infer_resets.specs.working.Holding.{path_of}
use Rattle.fir_reset.specs.working.LeafClasses.{offset_in}
use Rattle.fir_infer_resets.proofs.leaf_offsets.leaves_before.Given as goal

abbrev pub invariant-loop-step : goal.invariant-loop-step
invariant-loop-step l =
    option_map (λ k. saturated (l.before + k)) (offset_in (found_type (types_of l.table) l.reached) (path_of (drop l.step-index l.path)))
    ≡ option_map saturated (offset_in (found_type (types_of l.fn.table) l.fn.found) (path_of l.fn.path))
