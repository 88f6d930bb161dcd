use Rattle.fir_type_table.proofs.NamedMembers.{no_member, member_by_get}
use Rattle.fir_type_table.proofs.table.TypeTable.member_named.Goals as goal

pub returns-in_default-get : goal.returns-in_default-get
returns-in_default-get c =
    no_member c.args.self.now c.args.id.number c.in_ok-entry.entry.now c.args.name.now c.in_ok-entry.ensures c.in-Bundle.is
    c.in_default-get.ensures.value

pub returns : goal.returns
returns c =
    member_by_get c.args.self.now c.args.id.number c.in_ok-entry.entry.now c.args.name.now c.in-Some.number.now c.deref.result.now c.get-2.result
    c.in_ok-entry.ensures c.in-Bundle.is c.in-Some.ensures.value c.deref.ensures.value c.get-2.ensures.lookup
