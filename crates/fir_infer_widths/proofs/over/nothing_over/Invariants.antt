use Rattle.std.proofs.Common.{◌≡◌, drop, flat_map}
use Rattle.fir_type_table.specs.working.Tables.{types_of}
use Rattle.fir_meaning.specs.working.AssignedWidths.{assigned}
use Rattle.fir_infer_widths.specs.working.SpotFaults.{over_at}
use Rattle.fir_infer_widths.proofs.over.nothing_over.Given as goal

abbrev pub invariant-loop-spot : goal.invariant-loop-spot
invariant-loop-spot l = flat_map (over_at (types_of l.table) (assigned l.widths)) l.spots ≡ flat_map (over_at (types_of l.table) (assigned l.widths)) (drop l.spot-index l.spots)
