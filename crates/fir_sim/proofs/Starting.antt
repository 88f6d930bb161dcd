-- What the simulator begins with: each leaf, node and output at 0, and registers and pipes at the words of the state.
use Rattle.std.proofs.Common.{◌≡◌, ℕ, ◌+◌, ◌≤◌, List, [], ◌∷◌, length, map, replicate, refl, sym, ap, ◌∙◌, subst}
use Rattle.std.specs.List.{AllByRecursion}
use Rattle.std.proofs.Math.Pow.{pow_pos}
use Rattle.fir_base.specs.Ticks.{FitEach}
use Rattle.fir_base.proofs.Each.{all_mapped}
use Rattle.fir_bits.specs.Values.{BitVector, IsBitVector}
use Rattle.fir_net.specs.declared.net.FlatNet.{FlatNet}
use Rattle.fir_net.specs.working.IsNet.{IsNet}
use Rattle.fir_net.specs.working.Settled.{shape}
use Rattle.fir_tick.specs.declared.plan.Plan.{Plan}
use Rattle.fir_tick.specs.declared.plan.OutputPlan.{OutputPlan}
use Rattle.fir_tick.specs.declared.steps.Step.{Step}
use Rattle.fir_tick.specs.declared.values.Values.{Values}
use Rattle.fir_work.specs.working.Held.{IsHeld}
use Rattle.fir_tick.specs.working.Views.{numbers, widths, output_widths}
use Rattle.fir_tick.specs.working.Plans.{IsPlan}
use Rattle.fir_tick.specs.working.Steps.{IsStepped}
use Rattle.fir_tick.specs.working.Passes.{zero_of, output_zero, output_width, values_of, IsNarrowOutput}
use Rattle.fir_sim.specs.working.Running.{IsRunning}
use Rattle.fir_work.proofs.HeldNumbers.{zeros_held}
use Rattle.fir_tick.proofs.Lists.{all_map}
use Rattle.fir_sim.proofs.Placings.{values_numbers, values_widths}
use Rattle.fir_sim.proofs.PlanFacts.{shown_widths, outputs_narrow}
use Rattle.fir_sim.proofs.Ticking.{widths_of}

zero_whole : (w : ℕ) → w ≤ 128 → IsBitVector (zero_of w)
zero_whole w narrow = record { narrow = narrow; below = pow_pos w }

zero_numbers : (ps : List OutputPlan) → numbers (map output_zero ps) ≡ replicate (length (map output_width ps)) 0
zero_numbers [] = refl
zero_numbers (q ∷ ps) = ap (λ ns. 0 ∷ ns) (zero_numbers ps)

module _ (net : FlatNet) (whole : IsNet net) where
  zeros_whole : (p : Plan) → IsPlan net p → AllByRecursion IsBitVector (map output_zero p.outputs.items)
  zeros_whole p plan =
      all_mapped IsBitVector output_zero p.outputs.items
      (all_map IsNarrowOutput (λ q. IsBitVector (output_zero q)) (λ q narrow. zero_whole q.width narrow) p.outputs.items (outputs_narrow net whole p plan))

  pub outputs_are_zeros : (p : Plan) → IsPlan net p → (vs : List BitVector) → vs ≡ map output_zero p.outputs.items
      → numbers vs ≡ replicate (length (output_widths net)) 0
  outputs_are_zeros p plan vs shown =
      ap numbers shown ∙ zero_numbers p.outputs.items ∙ ap (λ (ws : List ℕ). replicate (length ws) 0) (shown_widths net whole p plan)

  module _ (ns : List ℕ) (fit : FitEach (shape net).state ns) (v : Values) (state : v.state.items ≡ values_of (shape net).state ns) where
    pub state_is : numbers v.state.items ≡ ns
    state_is = ap numbers state ∙ values_numbers (shape net).state ns fit

    pub starts : (p : Plan) → IsPlan net p → AllByRecursion IsBitVector v.state.items → (steps : List Step) → IsStepped net steps → v.numbers.items ≡ replicate (length net.leaves + length net.nodes) 0 → v.outputs.items ≡ map output_zero p.outputs.items → IsRunning net steps p v
    starts p plan words_whole steps stepped zeros outputs = record {
      whole = whole;
      stepped = stepped;
      view = record {
        outputs = ap widths outputs ∙ widths_of output_zero p.outputs.items ∙ shown_widths net whole p plan;
        outputs_are = subst (AllByRecursion IsBitVector) (sym outputs) (zeros_whole p plan);
        state = ap widths state ∙ values_widths (shape net).state ns fit;
        state_is = words_whole;
      };
      plan = plan;
      held = subst (IsHeld net) (sym zeros) (zeros_held net);
    }
