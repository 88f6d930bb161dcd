use Rattle.ver_sim.proofs.LackingItems.{unchecked, other_has}
use Rattle.ver_sim.proofs.lacking.put_check.Goals as goal

pub returns-in_default : goal.returns-in_default
returns-in_default c v k m =
    unchecked v c.args.place c.args.item.now c.args.out.now.items
    (λ state named values can. other_has v k.valid state values can named c.args.item.now m c.in_default.not-Assign c.in_default.not-Writing)
