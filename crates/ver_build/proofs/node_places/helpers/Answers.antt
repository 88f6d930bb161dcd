use Rattle.ver_build.proofs.NodeNames.{one_more_name}
use Rattle.ver_build.proofs.node_places.helpers.Goals as goal

pub loop-k-preserved : goal.loop-k-preserved
loop-k-preserved c =
    let t = c.args.table.now in
    let name = c.in_ok-name.ensures in
    rw c.in_ok-push.ensures.items
    (one_more_name t c.loop-k.k c.args.from c.loop-k.next c.in_ok-name.field-0.number c.loop-k.names.items c.in_ok-name.field-0.name
    c.loop-k.invariant name.first name.named name.spelled name.near)
