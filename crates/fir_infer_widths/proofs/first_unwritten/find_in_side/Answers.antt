use Rattle.fir_type_table.specs.working.Tables.{type_at, types_of}
use Rattle.fir_infer_widths.specs.working.FirstLeaves.{is_unwritten_input}
use Rattle.fir_infer_widths.proofs.FirstLeaves.{shown_leaves}
use Rattle.fir_infer_widths.proofs.first_unwritten.find_in_side.Goals as goal

pub returns-in-Type : goal.returns-in-Type
returns-in-Type c =
    rw (
      c.in-Type.is,
      shown_leaves (is_unwritten_input c.args.inward) c.in-Type.is_bare c.args.side.first
          (type_at (types_of c.args.table.now) c.in-Type.id.number),
    ) c.find_leaf.ensures
