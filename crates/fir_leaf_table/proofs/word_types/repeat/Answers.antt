use Rattle.std.proofs.Common.{◌≡◌, length, arith}
use Rattle.fir_leaf_table.proofs.RepeatedLists.{repeat_next, repeat_nothing}
use Rattle.fir_leaf_table.proofs.word_types.repeat.Goals as goal

pub loop-preserved : goal.loop-preserved
loop-preserved c =
    let ends : c.len-end.result ≡ length c.args.types.now.items = omega arith in
    repeat_next c.args.types.now.items c.loop.types.items c.extend_from_within.new.self.items c.args.start c.len-end.result c.loop.counter
    c.loop.invariant c.if-start-end.true ends c.in_ok-extend_from_within.ensures.items

pub returns-else-start-end : goal.returns-else-start-end
returns-else-start-end c = repeat_nothing c.args.types.now.items c.args.start c.args.times (omega arith)
