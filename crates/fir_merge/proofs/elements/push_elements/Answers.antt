use Rattle.std.proofs.Common.{◌≡◌, ◌+◌, rules, arith}
use Rattle.fir_merge.proofs.StandingElements.{adds_all, adds_one}
use Rattle.fir_merge.proofs.elements.push_elements.Goals as goal

pub loop-number-preserved : goal.loop-number-preserved
loop-number-preserved c =
    let each = c.args.index.now.stride in
    let next : c.in_ok-offset.offset ≡ c.loop-number.offset + each = search rules in
    record {
      so_far = adds_one c.args.net.now c.loop-number.net c.add_condition.new.net c.args.earlier.now c.args.first c.args.index.now c.args.elements.now.items
          c.loop-number.elements.items c.push.new.self.items c.loop-number.offset c.loop-number.number c.in_ok-offset.offset c.in_ok-condition.condition
          c.loop-number.invariant.so_far c.in_ok-condition.ensures.grown c.in_ok-condition.ensures.stands c.in_ok-push.ensures.items next;
      within = omega arith;
    }

pub returns : goal.returns
returns c =
    adds_all c.args.net.now c.loop-number.net c.args.earlier.now c.args.first c.args.index.now c.args.elements.now.items c.loop-number.elements.items
    c.loop-number.offset c.loop-number.number c.loop-number.invariant.so_far (omega arith)
