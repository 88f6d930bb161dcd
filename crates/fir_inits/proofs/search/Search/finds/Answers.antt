use Rattle.std.proofs.Common.{None, subst, arith}
use Rattle.fir_inits.specs.declared.search.Origin.TheVariants as origin
use Rattle.fir_inits.specs.working.Steps.{GoesOn, Meets, Opens}
use Rattle.fir_inits.proofs.Inits.{init_is_of}
use Rattle.fir_inits.proofs.Meeting.{meets_end, meets_it, meets_on}
use Rattle.fir_inits.proofs.Taking.{taken_fewer, taken_knows, taken_within}
use Rattle.fir_inits.proofs.search.Search.finds.Goals as goal

pub meet-requires-clause-there : goal.meet-requires-clause-there
meet-requires-clause-there c = init_is_of c.args.net.now c.requires.whole c.args.register.leaf c.args.register.init c.requires.init

pub returns-then-branch : goal.returns-then-branch
returns-then-branch c =
    let net = c.args.net.now in
    let r = c.args.register in
    meets_end net c.args.self.now c.meet.new.self r.init (origin.Init r.leaf) (init_is_of net c.requires.whole r.leaf r.init c.requires.init) c.requires.init c.requires.idle.knows.met
    (subst (Meets net c.args.self.now c.meet.new.self r.init (origin.Init r.leaf)) c.if-branch.true c.in_ok-meet.ensures)

pub loop-number-init : goal.loop-number-init
loop-number-init c =
    let net = c.args.net.now in
    let r = c.args.register in
    let of = init_is_of net c.requires.whole r.leaf r.init c.requires.init in
    let met = subst (Meets net c.args.self.now c.meet.new.self r.init (origin.Init r.leaf)) c.if-branch.false c.in_ok-meet.ensures in
    let on = meets_on net c.args.self.now c.meet.new.self r.init (origin.Init r.leaf) of c.requires.init _ c.requires.idle.knows met in
    record {
      knows = on.knows;
      keeps = on.keeps;
      met = meets_it net c.args.self.now c.meet.new.self r.init (origin.Init r.leaf) of c.requires.init c.requires.idle.knows.met met;
    }

pub open-requires-clause-knows : goal.open-requires-clause-knows
open-requires-clause-knows c = taken_knows c.args.net.now c.loop-number.self c.next.new.self c.in-Some.number c.in-Some.ensures c.loop-number.invariant.knows

pub open-requires-clause-within : goal.open-requires-clause-within
open-requires-clause-within c = taken_within c.args.net.now c.loop-number.self c.next.new.self c.in-Some.number c.in-Some.ensures c.loop-number.invariant.knows

pub loop-number-smaller : goal.loop-number-smaller
loop-number-smaller c =
    let taken = taken_fewer c.args.net.now c.loop-number.self c.next.new.self c.in-Some.number c.in-Some.ensures in
    let goes : GoesOn c.args.net.now None c.next.new.self c.open.new.self = subst (Opens c.args.net.now c.next.new.self c.open.new.self) c.if-branch-2.false c.in_ok-open.ensures in
    omega (arith, taken, goes.fewer)
