use Rattle.std.proofs.Common.{◌<◌, subst}
use Rattle.fir_type_table.specs.working.Tables.{types_of}
use Rattle.fir_leaf_text.specs.working.FieldsOfLeaves.{LiesIn}
use Rattle.fir_leaf_text.proofs.FieldsOfLeaves.{lies_in_counted, member_passed}
use Rattle.fir_leaf_text.proofs.bundle_field.counted_field.Goals as goal

pub returns-then-number-leaves-clause-field : goal.returns-then-number-leaves-clause-field
returns-then-number-leaves-clause-field c =
    let ts = types_of c.args.table.now in
    let m = c.member-item.result in
    let number = c.loop-member.number in
    subst (λ ms. LiesIn ts ms c.args.leaf m.name m.ty number) c.members-member-items.ensures.members
    (lies_in_counted ts c.members-member-items.result.now c.args.leaf c.loop-member.member-index number m c.loop-member-test.true c.member-item.is
    c.loop-member.invariant (subst (λ n. number < n) c.leaves-leaves.ensures c.if-number-leaves.true))

pub loop-member-preserved : goal.loop-member-preserved
loop-member-preserved c =
    member_passed (types_of c.args.table.now) c.members-member-items.result.now c.args.leaf c.loop-member.member-index c.loop-member.number
    c.member-item.result c.loop-member-test.true c.member-item.is c.loop-member.invariant c.leaves-leaves.result c.leaves-leaves.ensures c.requires
    c.if-number-leaves.false
