use Rattle.std.proofs.Common.{◌∙◌}
use Rattle.fir_type_table.specs.working.Tables.{types_of}
use Rattle.fir_meaning.specs.working.AssignedWidths.{assigned}
use Rattle.fir_infer_widths.specs.working.SpotFaults.{leaves_of_side}
use Rattle.fir_infer_widths.proofs.ToldLeaves.{any_found}
use Rattle.fir_infer_widths.proofs.over.is_any_over.Goals as goal

pub returns : goal.returns
returns c =
    c.is_some.ensures
    ∙ any_found (λ v. v.items) (assigned c.args.widths.now) (leaves_of_side (types_of c.args.table.now) c.args.side) c.in_ok-leaf.leaf c.in_ok-leaf.ensures
