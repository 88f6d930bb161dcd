use Rattle.std.proofs.Common.{sym, subst, arith}
use Rattle.std.proofs.lemmas.Option.{slice_get_within}
use Rattle.fir_net.specs.working.Dependence.{reads_of}
use Rattle.fir_inits.specs.declared.search.Origin.TheVariants as origin
use Rattle.fir_inits.specs.working.Steps.{Meets}
use Rattle.fir_inits.proofs.Opening.{opened, opening_ends, opening_more, target_of}
use Rattle.fir_inits.proofs.search.Search.open.Goals as goal

pub meet-requires-clause-there : goal.meet-requires-clause-there
meet-requires-clause-there c = target_of c.args.net.now c.requires.whole c.args.self.now c.args.number c.loop-target.self c.index.result.now.read c.loop-target.place c.loop-target.invariant c.in-Some.target c.in-Some.ensures.read

pub returns-then-branch : goal.returns-then-branch
returns-then-branch c =
    opening_ends c.args.net.now c.requires.whole c.args.self.now c.args.number c.loop-target.self c.index.result.now.read c.loop-target.place c.loop-target.invariant c.in-Some.target c.in-Some.ensures.read c.meet.new.self
    (subst (Meets c.args.net.now c.loop-target.self c.meet.new.self c.in-Some.target (origin.Met c.args.number)) c.if-branch.true c.in_ok-meet.ensures)

pub loop-target-smaller : goal.loop-target-smaller
loop-target-smaller c = let low = slice_get_within (reads_of c.args.net.now c.index.result.now.read) c.loop-target.place c.in-Some.target (sym c.in-Some.ensures.read) in omega (arith, low)

pub loop-target-preserved : goal.loop-target-preserved
loop-target-preserved c =
    opening_more c.args.net.now c.requires.whole c.args.self.now c.args.number c.loop-target.self c.index.result.now.read c.loop-target.place c.loop-target.invariant c.in-Some.target c.in-Some.ensures.read c.meet.new.self
    (subst (Meets c.args.net.now c.loop-target.self c.meet.new.self c.in-Some.target (origin.Met c.args.number)) c.if-branch.false c.in_ok-meet.ensures)

pub returns : goal.returns
returns c = opened c.args.net.now c.requires.whole c.args.self.now c.args.number c.loop-target.self c.index.result.now.read c.loop-target.place c.loop-target.invariant c.in_default.ensures.read
