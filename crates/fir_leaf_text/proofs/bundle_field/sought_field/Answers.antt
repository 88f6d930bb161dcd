use Rattle.fir_type_table.specs.working.Tables.{members_at, type_at, types_of}
use Rattle.fir_leaf_text.proofs.FieldsSought.{lies_in_sought}
use Rattle.fir_leaf_text.proofs.bundle_field.sought_field.Goals as goal

pub returns-then-inside-leaves-clause-field : goal.returns-then-inside-leaves-clause-field
returns-then-inside-leaves-clause-field c =
    let es = c.args.table.now in
    let ts = types_of es in
    let found = c.in_ok-field.ensures in
    let f = c.in_ok-field.field in
    lies_in_sought ts c.in_ok-member.member.now.name (members_at es c.args.id.number) (type_at ts c.args.id.number) f c.args.leaf c.in_ok-inside.inside
    c.leaves.result c.requires.bundle found.found found.offset c.in_ok-inside.ensures.0 c.in_ok-inside.ensures.1 c.requires.small c.leaves.ensures
    c.if-inside-leaves.true
