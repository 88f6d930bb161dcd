-- What the simulator keeps from tick to tick.
use Rattle.std.specs.Prelude.{List}
use Rattle.fir_net.specs.declared.net.FlatNet.{FlatNet}
use Rattle.fir_net.specs.working.IsNet.{IsNet}
use Rattle.fir_work.specs.working.Held.{IsHeld}
use Rattle.fir_tick.specs.working.Views.{view_of, HasWidths}
use Rattle.fir_tick.specs.working.Plans.{IsPlan}
use Rattle.fir_tick.specs.working.Steps.{IsStepped}
use Rattle.fir_tick.specs.declared.plan.Plan.{Plan}
use Rattle.fir_tick.specs.declared.steps.Step.{Step}
use Rattle.fir_tick.specs.declared.values.Values.{Values}

pub record IsRunning (net : FlatNet) (steps : List Step) (p : Plan) (v : Values) : Type 0 where
  pub whole : IsNet net
  pub stepped : IsStepped net steps
  pub view : HasWidths (view_of net v.outputs.items v.state.items)
  pub plan : IsPlan net p
  pub held : IsHeld net v.numbers.items
