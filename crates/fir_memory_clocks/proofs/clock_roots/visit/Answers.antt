use Rattle.std.proofs.Common.{Some, length, refl, ap, ◌∙◌}
use Rattle.std.proofs.lemmas.Option.{slice_get_read}
use Rattle.fir_memory_clocks.specs.working.Marks.{IsOnWay}
use Rattle.fir_memory_clocks.proofs.MarkedLeaves.{at_end, at_passed, past_all}
use Rattle.fir_memory_clocks.proofs.clock_roots.visit.Goals as goal

pub returns-in_default : goal.returns-in_default
returns-in_default c = λ from steps h.
    past_all c.args.roles.now (IsOnWay c.args.roles.now from 0 steps) c.args.marks.now h c.args.leaf c.in_default.ensures.lookup.3

pub returns-in-Passed : goal.returns-in-Passed
returns-in-Passed c = λ from steps h.
    let there = c.in-Some.ensures.lookup.3 in
    let m = c.in-Some.mark.now in
    at_passed c.args.roles.now (IsOnWay c.args.roles.now from 0 steps) c.args.marks.now h c.args.leaf
    (slice_get_read c.args.marks.now (length c.args.marks.now) c.args.leaf m refl there.0 (there.1 m) ∙ ap Some c.in-Passed.is)

pub returns-in-Ends : goal.returns-in-Ends
returns-in-Ends c = λ from steps h.
    let there = c.in-Some.ensures.lookup.3 in
    let m = c.in-Some.mark.now in
    at_end c.args.roles.now (IsOnWay c.args.roles.now from 0 steps) c.args.marks.now h c.args.leaf c.in-Ends.root
    (slice_get_read c.args.marks.now (length c.args.marks.now) c.args.leaf m refl there.0 (there.1 m) ∙ ap Some c.in-Ends.is)
