use Rattle.std.proofs.Common.{◌≤◌, arith, length}
use Rattle.fir_memory_clocks.specs.declared.clock_roots.Step.TheVariants as step
use Rattle.fir_memory_clocks.proofs.MarkedLeaves.{comes_to, ends_nowhere, goes_round, keeps_on, marked_on, marked_round, none_taken, one_more}
use Rattle.fir_memory_clocks.proofs.clock_roots.walk_from.Goals as goal

pub loop-steps-init : goal.loop-steps-init
loop-steps-init c = none_taken c.args.roles.now c.args.leaf c.args.marks.now c.requires

pub loop-steps-preserved : goal.loop-steps-preserved
loop-steps-preserved c =
    let u = c.loop-steps.invariant in
    one_more c.args.roles.now c.args.leaf c.args.marks.now c.loop-steps.marks c.loop-steps.steps c.loop-steps.at u c.visit.new.marks c.in-On.next
    (rw c.in-On.is at (c.visit.ensures c.args.leaf c.loop-steps.steps u.marks_are))

pub returns-in-Root-clause-walk : goal.returns-in-Root-clause-walk
returns-in-Root-clause-walk c =
    let u = c.loop-steps.invariant in
    comes_to c.args.roles.now c.args.leaf c.args.marks.now c.loop-steps.marks c.loop-steps.steps c.loop-steps.at u c.visit.new.marks c.in-Root.root
    (rw c.in-Root.is at (c.visit.ensures c.args.leaf c.loop-steps.steps u.marks_are))

pub returns-in-Root-clause-keeps : goal.returns-in-Root-clause-keeps
returns-in-Root-clause-keeps c =
    let u = c.loop-steps.invariant in
    keeps_on c.args.roles.now c.args.leaf c.args.marks.now c.loop-steps.marks c.loop-steps.steps c.loop-steps.at u c.visit.new.marks (step.Root c.in-Root.root)
    (rw c.in-Root.is at (c.visit.ensures c.args.leaf c.loop-steps.steps u.marks_are))

pub returns-in-Root-clause-marked : goal.returns-in-Root-clause-marked
returns-in-Root-clause-marked c = λ lt.
    let u = c.loop-steps.invariant in
    marked_on c.args.roles.now c.args.leaf c.args.marks.now c.loop-steps.marks c.loop-steps.steps c.loop-steps.at u c.visit.new.marks (step.Root c.in-Root.root)
    (rw c.in-Root.is at (c.visit.ensures c.args.leaf c.loop-steps.steps u.marks_are))

pub returns-in-Nowhere-clause-walk : goal.returns-in-Nowhere-clause-walk
returns-in-Nowhere-clause-walk c =
    let u = c.loop-steps.invariant in
    ends_nowhere c.args.roles.now c.args.leaf c.args.marks.now c.loop-steps.marks c.loop-steps.steps c.loop-steps.at u c.visit.new.marks
    (rw c.in-Nowhere.is at (c.visit.ensures c.args.leaf c.loop-steps.steps u.marks_are))

pub returns-in-Nowhere-clause-keeps : goal.returns-in-Nowhere-clause-keeps
returns-in-Nowhere-clause-keeps c =
    let u = c.loop-steps.invariant in
    keeps_on c.args.roles.now c.args.leaf c.args.marks.now c.loop-steps.marks c.loop-steps.steps c.loop-steps.at u c.visit.new.marks step.Nowhere
    (rw c.in-Nowhere.is at (c.visit.ensures c.args.leaf c.loop-steps.steps u.marks_are))

pub returns-in-Nowhere-clause-marked : goal.returns-in-Nowhere-clause-marked
returns-in-Nowhere-clause-marked c = λ lt.
    let u = c.loop-steps.invariant in
    marked_on c.args.roles.now c.args.leaf c.args.marks.now c.loop-steps.marks c.loop-steps.steps c.loop-steps.at u c.visit.new.marks step.Nowhere
    (rw c.in-Nowhere.is at (c.visit.ensures c.args.leaf c.loop-steps.steps u.marks_are))

pub returns-clause-walk : goal.returns-clause-walk
returns-clause-walk c =
    let past : length c.args.roles.now ≤ c.loop-steps.steps = omega arith in
    goes_round c.args.roles.now c.args.leaf c.args.marks.now c.loop-steps.marks c.loop-steps.steps c.loop-steps.at c.loop-steps.invariant past

pub returns-clause-keeps : goal.returns-clause-keeps
returns-clause-keeps c = c.loop-steps.invariant.keeps

pub returns-clause-marked : goal.returns-clause-marked
returns-clause-marked c =
    let past : length c.args.roles.now ≤ c.loop-steps.steps = omega arith in
    marked_round c.args.roles.now c.args.leaf c.args.marks.now c.loop-steps.marks c.loop-steps.steps c.loop-steps.at c.loop-steps.invariant past
