use Rattle.fir_memory_clocks.proofs.MarkedLeaves.{all_settled, none_settled, one_settled, stops, stops_keeps}
use Rattle.std.proofs.Common.{sym, ◌∙◌}
use Rattle.fir_memory_clocks.proofs.clock_roots.settle.Goals as goal

pub loop-step-init : goal.loop-step-init
loop-step-init c = none_settled c.args.roles.now c.args.leaf c.args.marks.now c.args.walk.steps c.requires.passed

pub loop-step-preserved : goal.loop-step-preserved
loop-step-preserved c =
    rw c.put_root.ensures
    (one_settled c.args.roles.now c.args.leaf c.args.marks.now c.args.walk.steps c.args.walk.root c.requires.root c.loop-step.marks c.loop-step._step c.loop-step.at
    c.loop-step.invariant c.in-Some.next (sym c.next_at.ensures ∙ c.in-Some.is))

pub returns-in-None-clause-settled : goal.returns-in-None-clause-settled
returns-in-None-clause-settled c =
    rw c.put_root.ensures
    (stops c.args.roles.now c.args.leaf c.args.marks.now c.args.walk.steps c.args.walk.root c.requires.root c.loop-step.marks c.loop-step._step c.loop-step.at
    c.loop-step.invariant (sym c.next_at.ensures ∙ c.in-None.is))

pub returns-in-None-clause-keeps : goal.returns-in-None-clause-keeps
returns-in-None-clause-keeps c =
    rw c.put_root.ensures
    (stops_keeps c.args.roles.now c.args.leaf c.args.marks.now c.args.walk.steps c.args.walk.root c.requires.root c.loop-step.marks c.loop-step._step c.loop-step.at
    c.loop-step.invariant)

pub returns-clause-settled : goal.returns-clause-settled
returns-clause-settled c =
    all_settled c.args.roles.now c.args.leaf c.args.marks.now c.args.walk.steps c.args.walk.root c.requires.root c.loop-step.marks c.loop-step._step c.loop-step.at
    c.loop-step.invariant c.loop-step-test.false

pub returns-clause-keeps : goal.returns-clause-keeps
returns-clause-keeps c = c.loop-step.invariant.keeps
