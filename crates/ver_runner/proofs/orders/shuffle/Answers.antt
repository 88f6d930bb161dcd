use Rattle.std.proofs.Common.{◌≡◌, ◌-◌, ◌∙◌, arith}
use Rattle.ver_runner.specs.Orders.{shuffled}
use Rattle.ver_runner.proofs.Shuffles.{one_turn, no_turn}
use Rattle.ver_runner.proofs.orders.shuffle.Goals as goal

pub loop-i-preserved : goal.loop-i-preserved
loop-i-preserved c =
    let i = c.loop-i.i - 1 in
    let turn : shuffled (i - 1) c.next_seed-seed.result c.swap.new.self ≡ shuffled i c.loop-i.seed c.loop-i.list =
    one_turn i c.loop-i.seed c.next_seed-seed.result c.loop-i.list c.swap.new.self (omega arith) (omega arith) c.next_seed-seed.ensures c.swap.ensures.after in
    turn ∙ c.loop-i.invariant

pub returns : goal.returns
returns c = no_turn c.loop-i.i c.loop-i.seed c.loop-i.list c.loop-i-test.false ∙ c.loop-i.invariant
