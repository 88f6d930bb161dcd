-- The passes of a tick in turn: what each finds, and that they make a tick.
use Rattle.std.proofs.Common.{◌≡◌, ℕ, ◌≤◌, Bool, List, length, map, sym, ap, ap₂, ◌∙◌, subst}
use Rattle.std.specs.List.{AllByRecursion}
use Rattle.std.proofs.lemmas.List.{length-map}
use Rattle.fir_base.specs.Ticks.{FitEach, Tick}
use Rattle.fir_bits.specs.Values.{BitVector, IsBitVector}
use Rattle.fir_bits.specs.working.Laws.{HasItsType}
use Rattle.fir_net.specs.declared.net.FlatNet.{FlatNet}
use Rattle.fir_net.specs.working.Laws.{NodesHaveTheirTypes}
use Rattle.fir_net.specs.working.Settled.{shape}
use Rattle.fir_tick.specs.declared.pipe_plans.PipePlan.{PipePlan}
use Rattle.fir_tick.specs.declared.plan.Plan.{Plan}
use Rattle.fir_tick.specs.declared.steps.Step.{Step}
use Rattle.fir_tick.specs.declared.values.Values.{Values}
use Rattle.fir_work.specs.working.Held.{IsHeld}
use Rattle.fir_tick.specs.working.Views.{numbers, IsTickOf}
use Rattle.fir_tick.specs.working.Settling.{IsSettled}
use Rattle.fir_tick.specs.working.ArrayWrites.{after_edges, CanWrite}
use Rattle.fir_tick.specs.working.Passes.{with_inputs, with_state, CanTake, IsPlaced, IsShown, IsWithin, output_value}
use Rattle.fir_tick.specs.working.PipePlans.{ArePipePlans}
use Rattle.fir_tick.specs.working.PipeReads.{CanPipe}
use Rattle.fir_sim.specs.working.Running.{IsRunning}
use Rattle.fir_sim.proofs.PipesCan.{pipes_can}
use Rattle.fir_sim.proofs.PlanFacts.{registers_placed, inputs_within, outputs_can_be_shown}
use Rattle.fir_sim.proofs.Ticking.{state_fits, state_put, inputs_put, outputs_room, state_room, IsTicked}
use Rattle.fir_sim.proofs.Words.{registers_can}
use Rattle.fir_sim.proofs.WritesCan.{writes_can}

module _ (net : FlatNet) (steps : List Step) (p : Plan) (tick : Tick) (is_tick : IsTickOf net tick) (v0 : Values) (running : IsRunning net steps p v0) where
  pub placed0 : AllByRecursion (IsPlaced (length v0.numbers.items)) p.registers.items
  placed0 = registers_placed net running.whole p running.plan v0.numbers.items running.held

  module _ (v1 : Values) (put1 : v1.numbers.items ≡ with_state p.registers.items v0.state.items v0.numbers.items) (others1 : v1 ≡ record v0 { numbers = v1.numbers }) where
    held1 : IsHeld net v1.numbers.items
    held1 = subst (IsHeld net) (sym put1) (state_put net steps p v0 running)

    pub within1 : AllByRecursion (IsWithin (length v1.numbers.items)) p.inputs.items
    within1 = inputs_within net running.whole p running.plan v1.numbers.items held1

    module _ (v2 : Values) (put2 : v2.numbers.items ≡ with_inputs p.inputs.items tick.inputs v1.numbers.items) (others2 : v2 ≡ record v1 { numbers = v2.numbers }) where
      put : v2.numbers.items ≡ with_inputs p.inputs.items tick.inputs (with_state p.registers.items v0.state.items v0.numbers.items)
      put = put2 ∙ ap (with_inputs p.inputs.items tick.inputs) put1

      pub held2 : IsHeld net v2.numbers.items
      held2 = subst (IsHeld net) (sym put) (inputs_put net steps p v0 running tick is_tick)

      -- the state is the one before the tick
      state2 : v2.state.items ≡ v0.state.items
      state2 = ap (λ (v : Values). v.state.items) others2 ∙ ap (λ (v : Values). v.state.items) others1

      pub fits2 : FitEach (shape net).state (numbers v2.state.items)
      fits2 = subst (λ (vs : List BitVector). FitEach (shape net).state (numbers vs)) (sym state2) (state_fits net steps p v0 running)

      module _ (v3 : Values) (settled3 : IsSettled net (numbers v2.state.items) v2.numbers.items v3.numbers.items) (others3 : v3 ≡ record v2 { numbers = v3.numbers }) where
        pub shown3 : AllByRecursion (IsShown v3.numbers.items) p.outputs.items
        shown3 = outputs_can_be_shown net running.whole p running.plan v3.numbers.items settled3.held

        pub room3 : length v3.outputs.items ≡ length p.outputs.items
        room3 = ap (λ (v : Values). length v.outputs.items) others3 ∙ ap (λ (v : Values). length v.outputs.items) others2 ∙ ap (λ (v : Values). length v.outputs.items) others1 ∙ outputs_room net steps p v0 running

        module _ (v4 : Values) (others4 : v4 ≡ record v3 { outputs = v4.outputs }) where
          numbers4 : v4.numbers.items ≡ v3.numbers.items
          numbers4 = ap (λ (v : Values). v.numbers.items) others4

          pub can4 : HasItsType → NodesHaveTheirTypes → AllByRecursion (CanTake net v4.numbers.items) p.registers.items
          can4 has types = registers_can has types net running.whole v4.numbers.items (subst (IsHeld net) (sym numbers4) settled3.held) running.plan.roots p.registers.items running.plan.registers

          state4 : v4.state.items ≡ v0.state.items
          state4 = ap (λ (v : Values). v.state.items) others4 ∙ ap (λ (v : Values). v.state.items) others3 ∙ state2

          pub writes4 : HasItsType → NodesHaveTheirTypes → AllByRecursion (CanWrite net v4.numbers.items (length v4.state.items)) p.writes.items
          writes4 has types =
              writes_can net running.plan.roots p.writes.items running.plan.writes tick.clocks v4.numbers.items has types running.whole (subst (IsHeld net) (sym numbers4) settled3.held)
              (numbers v0.state.items) (state_fits net steps p v0 running) (length v4.state.items) (length-map v0.state.items (λ (v : BitVector). v.number) ∙ ap length (sym state4))

          pub pipes4 : (is_new : Bool) (ps : List PipePlan) → ArePipePlans net running.plan.roots is_new 0 net.state ps → AllByRecursion (CanPipe (length v4.state.items)) ps
          pipes4 is_new ps are =
              pipes_can net running.whole running.plan.roots is_new ps are (numbers v0.state.items) (state_fits net steps p v0 running) (length v4.state.items)
              (length-map v0.state.items (λ (v : BitVector). v.number) ∙ ap length (sym state4))

          pub room4 : length p.registers.items ≤ length v4.state.items
          room4 = subst (λ (vs : List BitVector). length p.registers.items ≤ length vs) (sym state4) (state_room net steps p v0 running)

          pub whole4 : AllByRecursion IsBitVector v4.state.items
          whole4 = subst (AllByRecursion IsBitVector) (sym state4) running.view.state_is

          module _
              (v5 : Values)
              (outputs : v4.outputs.items ≡ map (output_value v3.numbers.items) p.outputs.items)
              (outputs_whole : AllByRecursion IsBitVector v4.outputs.items)
              (state : v5.state.items ≡ after_edges net v4.numbers.items tick.clocks p v4.state.items)
              (state_whole : AllByRecursion IsBitVector v5.state.items)
              (others5 : v5 ≡ record v4 { state = v5.state }) where
            numbers5 : v5.numbers.items ≡ v4.numbers.items
            numbers5 = ap (λ (v : Values). v.numbers.items) others5

            outputs5 : v5.outputs.items ≡ v4.outputs.items
            outputs5 = ap (λ (v : Values). v.outputs.items) others5

            pub ticked : IsTicked net p tick v0 v5 v2.numbers.items
            ticked = record {
              put = put;
              settled =
                  subst (IsSettled net (numbers v0.state.items) v2.numbers.items) (sym (numbers5 ∙ numbers4)) (subst (λ (vs : List BitVector). IsSettled net (numbers vs) v2.numbers.items v3.numbers.items) state2 settled3);
              outputs = outputs5 ∙ outputs ∙ ap (λ (ns : List ℕ). map (output_value ns) p.outputs.items) (sym (numbers5 ∙ numbers4));
              outputs_whole = subst (AllByRecursion IsBitVector) (sym outputs5) outputs_whole;
              state = state ∙ ap₂ (λ (ns : List ℕ) (vs : List BitVector). after_edges net ns tick.clocks p vs) (sym numbers5) state4;
              state_whole = state_whole;
            }
