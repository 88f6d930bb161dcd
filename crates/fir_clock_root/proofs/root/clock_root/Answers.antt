use Rattle.std.proofs.Common.{◌≤◌, ◌∙◌, sym, ap, subst, length, List}
use Rattle.fir_net.specs.declared.leaf.Leaf.{Leaf}
use Rattle.fir_clock_root.specs.working.ClockSteps.{driver_at, number_at}
use Rattle.fir_clock_root.proofs.RootWalks.{none_taken, step_taken, goes_round, none_at_end, root_at_end}
use Rattle.fir_clock_root.proofs.root.clock_root.Goals as goal

pub loop-step-init : goal.loop-step-init
loop-step-init c = none_taken c.args.net.now c.args.leaf

pub loop-step-preserved : goal.loop-step-preserved
loop-step-preserved c =
    step_taken c.args.net.now c.args.leaf c.loop-step._step c.loop-step.end c.loop-step.invariant c.in-Some.driver
    (ap (λ (ls : List Leaf). driver_at ls c.loop-step.end) (sym c.as_slice-leaves.ensures) ∙ sym c.driver_of.ensures ∙ c.in-Some.is)

pub returns-in-None-clause-root : goal.returns-in-None-clause-root
returns-in-None-clause-root c =
    root_at_end c.args.net.now c.args.leaf c.loop-step._step c.loop-step.end c.loop-step.invariant c.input_number.result
    (c.input_number.ensures ∙ ap (λ (ls : List Leaf). number_at ls c.loop-step.end) c.as_slice-leaves.ensures)

pub returns-in-None-clause-none : goal.returns-in-None-clause-none
returns-in-None-clause-none c =
    none_at_end c.args.net.now c.args.leaf c.loop-step._step c.loop-step.end c.loop-step.invariant
    (ap (λ (ls : List Leaf). driver_at ls c.loop-step.end) (sym c.as_slice-leaves.ensures) ∙ sym c.driver_of.ensures ∙ c.in-None.is)
    c.input_number.result (c.input_number.ensures ∙ ap (λ (ls : List Leaf). number_at ls c.loop-step.end) c.as_slice-leaves.ensures)

pub returns-clause-none : goal.returns-clause-none
returns-clause-none c =
    goes_round c.args.net.now c.args.leaf c.loop-step._step c.loop-step.end c.loop-step.invariant
    (subst (λ (ls : List Leaf). length ls ≤ c.loop-step._step) c.as_slice-leaves.ensures c.loop-step-test.false)
