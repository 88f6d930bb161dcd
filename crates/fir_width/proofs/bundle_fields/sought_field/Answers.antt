use Rattle.fir_type_table.specs.working.Tables.{members_at, type_at, types_of}
use Rattle.fir_width.proofs.FieldsFound.{sought}
use Rattle.fir_width.proofs.bundle_fields.sought_field.Goals as goal

pub returns-clause-field : goal.returns-clause-field
returns-clause-field c =
    let es = c.args.table.now in
    let ts = types_of es in
    let found = c.in_ok-field.ensures in
    sought ts c.args.counted (members_at es c.args.id.number) (type_at ts c.args.id.number) c.in_ok-member.member.now.name c.args.leaf c.before-2.result
    c.leaves.result c.in_ok-field.field c.requires.bundle found.found found.offset found.shared_offset c.before-2.ensures c.if-before-leaf.false
    c.requires.small c.leaves.ensures c.if-leaves-eq0.false
