use Rattle.std.proofs.Common.{sym}
use Rattle.fir_type_table.specs.working.Tables.{members_at, types_of}
use Rattle.fir_type_table.specs.working.Meetings.{scalar_test}
use Rattle.fir_type_table.proofs.MemberLists.{other_length}
use Rattle.fir_type_table.proofs.table.TypeTable.+alike.Goals as goal

pub are_bundles_alike-returns-then-fs-gs : goal.are_bundles_alike-returns-then-fs-gs
are_bundles_alike-returns-then-fs-gs t c =
    let table = c.args.self.now in
    let other = rw (c.members-fs.ensures.members, c.members-gs.ensures.members) at c.if-fs-gs.true in
    sym (other_length (scalar_test c.args.in_connect) (types_of table) (members_at table c.args.a.number) (members_at table c.args.b.number) other)
