use Rattle.std.proofs.Common.{◌+◌, List, [], ◌∷◌, ◌++◌, length, take, Option, Some, None, refl, sym, ap, ◌∙◌, subst, append-nil}
use Rattle.std.specs.Option.{option_to_list}
use Rattle.std.proofs.lemmas.List.{take_all, take_more}
use Rattle.std.proofs.lemmas.Option.{slice_get_read}
use Rattle.fir_net.specs.declared.reads.Read.{Read}
use Rattle.fir_tick.specs.declared.steps.Step.{Step}
use Rattle.fir_tick.specs.working.Steps.{AreSteps, IsWorkOf}
use Rattle.fir_tick.proofs.StepTasks.{steps_more}
use Rattle.fir_tick.proofs.steps.steps_of.Goals as goal
use Rattle.fir_tick.proofs.steps.steps_of.Goals.{in-Some+in_ok-push, in_default}

pub step_of-requires-clause-there : goal.step_of-requires-clause-there
step_of-requires-clause-there c =
    let order = c.args.order.now in
    let n = c.loop-read.read-index in
    let v = c.read-item.result in
    c.requires.ordered.only n v (slice_get_read order (length order) n v refl c.loop-read-test.true c.read-item.is)

pub loop-read-preserved : goal.loop-read-preserved
loop-read-preserved c =
    let net = c.args.net.now in
    let order = c.args.order.now in
    let n = c.loop-read.read-index in
    let v = c.read-item.result in
    let more : (work : Option Step) → IsWorkOf net v work → AreSteps net (take (n + 1) order) (c.loop-read.steps.items ++ option_to_list work) = λ work is_work.
    subst (λ (vs : List Read). AreSteps net vs (c.loop-read.steps.items ++ option_to_list work)) (sym (take_more order n v c.loop-read-test.true ∙ ap (λ (u : Read). take n order ++ u ∷ []) (sym c.read-item.is)))
    (steps_more net (take n order) c.loop-read.steps.items v work c.loop-read.invariant is_work)
    in
    elim c.match-step_of.branch [
      | in-Some+in_ok-push w ↦ rw (w.steps-is, w.in_ok-push.ensures.items) (more (Some w.in-Some.step) w.in-Some.ensures)
      | in_default w ↦ rw w.steps-is (subst (AreSteps net (take (n + 1) order)) (append-nil c.loop-read.steps.items) (more None w.in_default.ensures))
    ]

pub returns : goal.returns
returns c = subst (λ (vs : List Read). AreSteps c.args.net.now vs c.loop-read.steps.items) (take_all c.loop-read.read-index c.args.order.now c.loop-read-test.false) c.loop-read.invariant
