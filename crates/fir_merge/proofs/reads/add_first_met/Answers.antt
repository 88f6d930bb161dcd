use Rattle.std.proofs.Common.{◌≡◌, ◌+◌, ◌-◌, ◌<◌, length, rules, arith, ◌∙◌}
use Rattle.fir_merge.proofs.GrownTerms.{below_later}
use Rattle.fir_merge.proofs.StandingElements.{element_below}
use Rattle.fir_merge.proofs.StandingReads.{met_all, met_one}
use Rattle.fir_merge.proofs.reads.add_first_met.Goals as goal

pub add_mux-requires-clause-condition : goal.add_mux-requires-clause-condition
add_mux-requires-clause-condition c =
    let e = c.index-elements-left.result in
    let within : c.loop-left.left - 1 < length c.args.elements.now = omega arith in
    below_later c.args.net.now c.loop-left.net e.condition.read c.loop-left.invariant.so_far.grows
    (element_below (length c.args.net.now) c.args.elements.now (c.loop-left.left - 1) e c.requires.elements within c.index-elements-left.is)

pub loop-left-preserved : goal.loop-left-preserved
loop-left-preserved c =
    let e = c.index-elements-left.result in
    let next = c.loop-left.left - 1 in
    let within : next < length c.args.elements.now = omega arith in
    let step : c.loop-left.left ≡ next + 1 = omega arith in
    let at : c.in_ok-number.number ≡ c.args.leaf + e.offset = search rules in
    record {
      so_far = met_one c.args.net.now c.loop-left.net c.add_mux.new.net c.args.ty c.args.leaf c.args.elements.now c.args.other.now c.loop-left.left next
          c.new.result c.loop-left.met c.in_ok-met.met e c.loop-left.invariant.so_far step within c.index-elements-left.is (c.new.ensures ∙ at)
          c.in_ok-met.ensures.grown c.in_ok-met.ensures.stands;
      within = omega arith;
    }

pub returns-clause-stands : goal.returns-clause-stands
returns-clause-stands c =
    met_all c.args.net.now c.loop-left.net c.args.ty c.args.leaf c.args.elements.now c.args.other.now c.loop-left.left c.loop-left.met
    c.loop-left.invariant.so_far (omega arith)
