use Rattle.std.proofs.Common.{◌≡◌, length, subst}
use Rattle.std.proofs.lemmas.Result.{IfOk-weaker, IfErr-weaker}
use Rattle.ver_ast.specs.Nets.{variables}
use Rattle.ver_ast.specs.Stores.{store_of}
use Rattle.ver_order.specs.working.Laws.{ShowValues}
use Rattle.ver_order.specs.Steps.{steps}
use Rattle.ver_sim.specs.working.Tasks.{IsNotYet}
use Rattle.ver_sim.specs.working.Turns.{ShowFirst, IsFirstUnsettled}
use Rattle.ver_sim.specs.working.Valued.{env_of}
use Rattle.ver_sim.specs.working.Views.{VSimView}
use Rattle.ver_sim.proofs.ProcessSteps.{all_shown, first_is}
use Rattle.ver_sim.proofs.OutputValues.{outputs_are, outputs_long}
use Rattle.ver_sim.proofs.Keeping.{runs_on, steps_are, new_fit}
use Rattle.ver_sim.proofs.sim.VSim.settle_by.Goals as goal

pub show_outputs-requires : goal.show_outputs-requires
show_outputs-requires c = outputs_long c.self.inside.tree c.self.inside.plan c.self.inside.values.items c.self.inside.outputs.items c.self.invariant.0.plan c.self.invariant.1

pub invariant_of-self : goal.invariant_of-self
invariant_of-self c = (
  runs_on _ _ _ _ c.self.invariant.0 c.args.order.now _ c.settle_along-settled.ensures.turns,
  outputs_are c.self.inside.tree c.self.inside.plan c.settle_along-settled.new.values.items c.show_outputs.new.outputs.items c.self.invariant.0.plan c.show_outputs.ensures,
)

pub returns-clause-steps : goal.returns-clause-steps
returns-clause-steps c =
    let v = c.self.inside.tree in
    let new = c.settle_along-settled.new.values.items in
    subst (λ (s : VSimView). env_of v new ≡ steps s.tree (store_of (variables s.tree) s.state) c.args.order.now (env_of s.tree s.values)) c.self.view_is
    (steps_are v c.self.inside.plan c.self.inside.values.items c.self.inside.state.items c.self.invariant.0 c.args.order.now new c.settle_along-settled.ensures.turns)

pub returns-clause-settled : goal.returns-clause-settled
returns-clause-settled c =
    let v = c.self.inside.tree in
    let tasks = c.self.inside.plan.tasks.items in
    let state = c.self.inside.state.items in
    let new = c.settle_along-settled.new.values.items in
    let r = c.self.invariant.0 in
    let fit = new_fit v c.self.inside.plan c.self.inside.values.items state r c.args.order.now new c.settle_along-settled.ensures.turns in
    IfOk-weaker c.settle_along-settled.result (λ _. ShowFirst tasks state new (length tasks)) (λ _. ShowValues v state (env_of v new))
    (λ _ h. all_shown v tasks state r.valid r.plan.tasks_are r.state_fits new fit h) c.settle_along-settled.ensures.settled

pub returns-clause-not_yet : goal.returns-clause-not_yet
returns-clause-not_yet c =
    let v = c.self.inside.tree in
    let tasks = c.self.inside.plan.tasks.items in
    let state = c.self.inside.state.items in
    let new = c.settle_along-settled.new.values.items in
    let r = c.self.invariant.0 in
    let fit = new_fit v c.self.inside.plan c.self.inside.values.items state r c.args.order.now new c.settle_along-settled.ensures.turns in
    IfErr-weaker c.settle_along-settled.result (IsFirstUnsettled tasks state new) (IsNotYet v (store_of (variables v) state) (env_of v new))
    (λ n h. first_is v tasks state r.valid r.plan.tasks_are r.state_fits new fit n h) c.settle_along-settled.ensures.not_yet
