use Rattle.std.proofs.Common.{◌≡◌, ◌++◌, ◌-◌, ◌≤◌, [], length, drop, sym, ap, ◌∙◌, arith}
use Rattle.std.proofs.lemmas.List.{append-nil, drop_all}
use Rattle.fir_type_table.specs.working.Saturated.{saturated}
use Rattle.fir_leaf_pairs.specs.working.Pairing.{copies}
use Rattle.fir_leaf_pairs.proofs.PairCopies.{no_copies, copies_more}
use Rattle.fir_leaf_pairs.proofs.pairs.repeat_pairs.Goals as goal

pub returns-then-start-end : goal.returns-then-start-end
returns-then-start-end c = λ from.
    let old = c.args.pairs.now.items in
    let none : drop c.args.start old ≡ [] = drop_all c.args.start old (omega (arith, c.len-end.ensures)) in
    sym (append-nil old)
    ∙ ap (λ xs. old ++ xs) (sym (no_copies 1 (c.args.count - 1) c.args.each c.args.other))
    ∙ ap (λ xs. old ++ copies 1 (c.args.count - 1) c.args.each c.args.other xs) (sym none)

pub loop-i-preserved : goal.loop-i-preserved
loop-i-preserved c =
    let each : c.args.each ≡ saturated c.args.each = omega (arith, c.ranges.each.fits) in
    let other : c.args.other ≡ saturated c.args.other = omega (arith, c.ranges.other.fits) in
    let whole : c.len-end.result ≡ length c.args.pairs.now.items = omega (arith, c.len-end.ensures, c.args.pairs.now.ok.0) in
    let from : c.args.start ≤ length c.args.pairs.now.items = omega (arith, whole) in
    record {
      are =
          copies_more c.args.pairs.now.items c.loop-i.pairs.items c.push_moved.new.pairs.items c.args.start c.len-end.result c.loop-i.i c.args.each c.args.other
          c.times.result c.times-in-loop-i.result from whole c.loop-i.auto.i c.loop-i.invariant.are (c.times.ensures c.args.each each)
          (c.times-in-loop-i.ensures c.args.other other) c.in_ok-push_moved.ensures;
      far = omega arith;
    }
