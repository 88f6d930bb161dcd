use Rattle.std.proofs.Common.{◌≡◌, length, arith}
use Rattle.fir_leaf_table.proofs.RepeatedLeaves.{once_more, within}
use Rattle.fir_leaf_table.proofs.push_leaves.repeat.Goals as goal

pub extend_from_within-requires-clause-in_bounds : goal.extend_from_within-requires-clause-in_bounds
extend_from_within-requires-clause-in_bounds c =
    let old = c.args.leaves.now.items in
    let whole : c.len-end.result ≡ length old = omega (arith, c.len-end.ensures, c.args.leaves.now.ok.0) in
    let short = within old c.loop.leaves.items c.args.start c.len-end.result c.loop.counter c.requires whole c.loop.invariant.are in
    omega (arith, short, c.loop.leaves.ok.0)

pub loop-preserved : goal.loop-preserved
loop-preserved c =
    let old = c.args.leaves.now.items in
    let whole : c.len-end.result ≡ length old = omega (arith, c.len-end.ensures, c.args.leaves.now.ok.0) in
    record {
      are =
          once_more old c.loop.leaves.items c.args.start c.len-end.result c.loop.counter c.requires whole c.loop.invariant.are
          c.extend_from_within.new.self.items c.loop.auto.counter c.in_ok-extend_from_within.ensures.items;
      far = omega arith;
    }
