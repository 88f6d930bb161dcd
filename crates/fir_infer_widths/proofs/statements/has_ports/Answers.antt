use Rattle.std.proofs.Common.{ap, ◌∙◌}
use Rattle.fir_type_table.specs.working.Tables.{made_of, members_at, type_at, types_of}
use Rattle.fir_infer_widths.proofs.MemoryWalks.{bundle_ports}
use Rattle.fir_infer_widths.proofs.statements.has_ports.Goals as goal

pub returns-in-Bundle : goal.returns-in-Bundle
returns-in-Bundle c =
    let table = c.args.table.now in
    let ts = types_of table in
    let id = c.in-Type.id.number in
    rw (c.in-Type.is, c.is_empty.ensures, c.members.ensures.members)
    (bundle_ports ts c.in-Type.field-1 (type_at ts id) (members_at table id) (c.kind.ensures.made ∙ ap (λ k. made_of ts k (members_at table id)) c.in-Bundle.is))
