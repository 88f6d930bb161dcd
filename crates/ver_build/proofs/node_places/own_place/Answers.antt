use Rattle.ver_build.proofs.NodeNames.{own_named}
use Rattle.ver_build.proofs.node_places.own_place.Goals as goal

pub returns : goal.returns
returns c =
    let name = c.in_ok-name.ensures in
    own_named c.args.table.now c.args.count c.args.signed c.args.width c.args.from c.in_ok-helpers.next c.in_ok-name.field-0.number
    c.in_ok-helpers.helpers c.in_ok-name.field-0.name
    c.whole-held.result c.requires.few c.if-width-eq0.false c.in_ok-helpers.ensures name.first name.named name.spelled name.near c.whole-held.ensures
