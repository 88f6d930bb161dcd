use Rattle.fir_type_table.specs.working.Tables.{types_of}
use Rattle.fir_types.specs.working.Seen.{found_type}
use Rattle.fir_infer_resets.proofs.SteppedOffsets.{field_steps, no_field_steps}
use Rattle.fir_infer_resets.proofs.leaf_offsets.behind.Goals as goal

pub returns-in_err-field-in-Named : goal.returns-in_err-field-in-Named
returns-in_err-field-in-Named c =
    let ts = types_of c.args.table.now in
    rw (c.in-Named.is, c.from_residual.ensures)
    (no_field_steps ts (found_type ts c.args.found) c.in-Named.name.now c.in_err-field-in-Named.ensures.found)

pub returns-in_ok-field-in-Named : goal.returns-in_ok-field-in-Named
returns-in_ok-field-in-Named c =
    let ts = types_of c.args.table.now in
    rw c.in-Named.is
    (field_steps ts (found_type ts c.args.found) c.in-Named.name.now c.in_ok-field-in-Named.field c.in_ok-field-in-Named.ensures.found
    c.in_ok-field-in-Named.ensures.shared_offset)
