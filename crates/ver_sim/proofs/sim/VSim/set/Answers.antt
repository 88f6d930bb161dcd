use Rattle.std.proofs.Common.{◌≡◌, List, ℕ, map, ap, sym, ◌∙◌, subst}
use Rattle.ver_ast.specs.Nets.{names_of, output_nets}
use Rattle.ver_sim.specs.working.Inputs.{inputs_put}
use Rattle.ver_sim.specs.Inputs.{HaveInputs}
use Rattle.ver_sim.specs.working.Valued.{env_of}
use Rattle.ver_sim.specs.working.Views.{VSimView, shown_outputs, IsTickOf}
use Rattle.ver_sim.proofs.OutputValues.{set_outputs}
use Rattle.ver_sim.proofs.Keeping.{runs_set, inputs_set, sources_set}
use Rattle.ver_sim.proofs.sim.VSim.set.Goals as goal

pub invariant_of-self : goal.invariant_of-self
invariant_of-self c =
    let v = c.self.inside.tree in
    let tick : IsTickOf v c.args.tick.now.tick = subst (λ (s : VSimView). IsTickOf s.tree c.args.tick.now.tick) (sym c.self.view_is) c.requires in
    let put = c.set_inputs.ensures ∙ ap (λ (xs : List ℕ). inputs_put c.self.inside.plan.inputs.items xs c.self.inside.values.items) c.inputs.ensures in
    let p = c.self.inside.plan in
    let values = c.self.inside.values.items in
    let state = c.self.inside.state.items in
    let new = c.set_inputs.new.values.items in
    let r = c.self.invariant.0 in (
      runs_set v p values state r c.args.tick.now.tick tick new put,
      c.self.invariant.1 ∙ sym (set_outputs v r.valid c.args.tick.now.tick.inputs (env_of v values) (env_of v new) (inputs_set v p values state r c.args.tick.now.tick tick new put)),
    )

pub returns-clause-outputs : goal.returns-clause-outputs
returns-clause-outputs c =
    let v = c.self.inside.tree in
    let values = c.self.inside.values.items in
    let new = c.set_inputs.new.values.items in
    let r = c.self.invariant.0 in
    let tick : IsTickOf v c.args.tick.now.tick = subst (λ (s : VSimView). IsTickOf s.tree c.args.tick.now.tick) (sym c.self.view_is) c.requires in
    let put = c.set_inputs.ensures ∙ ap (λ (xs : List ℕ). inputs_put c.self.inside.plan.inputs.items xs c.self.inside.values.items) c.inputs.ensures in
    subst (λ (s : VSimView). map (env_of v new) (names_of (output_nets v)) ≡ shown_outputs s) c.self.view_is
    (set_outputs v r.valid c.args.tick.now.tick.inputs (env_of v values) (env_of v new) (inputs_set v c.self.inside.plan values c.self.inside.state.items r c.args.tick.now.tick tick new put))

pub returns-clause-inputs : goal.returns-clause-inputs
returns-clause-inputs c =
    let v = c.self.inside.tree in
    let new = c.set_inputs.new.values.items in
    let tick : IsTickOf v c.args.tick.now.tick = subst (λ (s : VSimView). IsTickOf s.tree c.args.tick.now.tick) (sym c.self.view_is) c.requires in
    let put = c.set_inputs.ensures ∙ ap (λ (xs : List ℕ). inputs_put c.self.inside.plan.inputs.items xs c.self.inside.values.items) c.inputs.ensures in
    subst (λ (s : VSimView). HaveInputs s.tree c.args.tick.now.tick.inputs (env_of s.tree s.values) (env_of v new)) c.self.view_is
    (inputs_set v c.self.inside.plan c.self.inside.values.items c.self.inside.state.items c.self.invariant.0 c.args.tick.now.tick tick new put)

pub returns-clause-sources : goal.returns-clause-sources
returns-clause-sources c =
    let v = c.self.inside.tree in
    let tick : IsTickOf v c.args.tick.now.tick = subst (λ (s : VSimView). IsTickOf s.tree c.args.tick.now.tick) (sym c.self.view_is) c.requires in
    let put = c.set_inputs.ensures ∙ ap (λ (xs : List ℕ). inputs_put c.self.inside.plan.inputs.items xs c.self.inside.values.items) c.inputs.ensures in
    sources_set v c.self.inside.plan c.self.inside.values.items c.self.inside.state.items c.self.invariant.0 c.args.tick.now.tick tick c.set_inputs.new.values.items put
