use Rattle.fir_type_table.specs.working.Tables.{type_at, types_of}
use Rattle.fir_meaning.specs.working.AssignedWidths.{assigned}
use Rattle.fir_infer_widths.specs.working.FirstLeaves.{leaf_is_over}
use Rattle.fir_infer_widths.proofs.FirstLeaves.{shown_leaves}
use Rattle.fir_infer_widths.proofs.first_over.find_in_side.Goals as goal

pub returns-in-Type : goal.returns-in-Type
returns-in-Type c =
    rw (
      c.in-Type.is,
      shown_leaves (leaf_is_over (assigned c.args.widths.now)) c.in-Type.field-1 c.args.side.first
          (type_at (types_of c.args.table.now) c.in-Type.id.number),
    ) c.find_leaf.ensures
