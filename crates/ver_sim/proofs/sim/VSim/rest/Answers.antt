use Rattle.std.proofs.Common.{subst}
use Rattle.fir_base.specs.Ticks.{Tick}
use Rattle.ver_ast.specs.Settled.{SourcesShown, Rest}
use Rattle.ver_sim.specs.working.Valued.{env_of}
use Rattle.ver_sim.specs.working.Views.{VSimView}
use Rattle.ver_sim.proofs.Keeping.{runs_on}
use Rattle.ver_sim.proofs.OutputValues.{outputs_are, outputs_long}
use Rattle.ver_sim.proofs.Settling.{at_rest}
use Rattle.ver_sim.proofs.sim.VSim.rest.Goals as goal

pub show_outputs-requires : goal.show_outputs-requires
show_outputs-requires c = outputs_long c.self.inside.tree c.self.inside.plan c.self.inside.values.items c.self.inside.outputs.items c.self.invariant.0.plan c.self.invariant.1

pub invariant_of-self : goal.invariant_of-self
invariant_of-self c = (
  runs_on _ _ _ _ c.self.invariant.0 c.self.inside.plan.order.items _ c.settle.ensures,
  outputs_are c.self.inside.tree c.self.inside.plan c.settle.new.values.items c.show_outputs.new.outputs.items c.self.invariant.0.plan c.show_outputs.ensures,
)

pub returns-clause-rest : goal.returns-clause-rest
returns-clause-rest c =
    let v = c.self.inside.tree in
    let state = c.self.inside.state.items in
    let new = c.settle.new.values.items in
    subst (λ (s : VSimView). (tick : Tick) → SourcesShown s.tree s.state tick (env_of s.tree s.values) → Rest v state tick (env_of v new)) c.self.view_is
    (at_rest v c.self.inside.plan c.self.inside.values.items state new c.self.invariant.0 c.settle.ensures)
