-- What the plan of a whole net gives: what the passes ask of it, and the widths and numbers that the specs of the net speak of.
use Rattle.std.proofs.Common.{◌≡◌, ℕ, ◌^◌, ◌<◌, List, length, map, sym, ◌∙◌, subst, Option, Some}
use Rattle.std.specs.Prelude.{slice_get}
use Rattle.std.specs.List.{AllByRecursion, AllZip}
use Rattle.std.proofs.lemmas.List.{map-id}
use Rattle.std.proofs.lemmas.Option.{slice_get_within}
use Rattle.fir_bits.specs.declared.types.NumTy.{NumTy}
use Rattle.fir_net.specs.declared.reads.Read.TheVariants as read
use Rattle.fir_net.specs.declared.leaf.Role.TheVariants as role
use Rattle.fir_net.specs.declared.leaf.Leaf.{Leaf}
use Rattle.fir_net.specs.declared.net.FlatNet.{FlatNet}
use Rattle.fir_net.specs.working.Values.{leaf_width}
use Rattle.fir_net.specs.working.IsNet.{IsNet}
use Rattle.fir_net.specs.working.Settled.{inputs, outputs, registers, shape}
use Rattle.fir_net.proofs.WholeValues.{type_at, width_at}
use Rattle.fir_work.specs.working.Numbers.{number_at}
use Rattle.fir_tick.specs.declared.plan.InputPlan.{InputPlan}
use Rattle.fir_tick.specs.declared.plan.OutputPlan.{OutputPlan}
use Rattle.fir_tick.specs.declared.plan.RegisterPlan.{RegisterPlan}
use Rattle.fir_tick.specs.declared.plan.Plan.{Plan}
use Rattle.fir_work.specs.working.Held.{IsHeld}
use Rattle.fir_tick.specs.working.Views.{output_widths}
use Rattle.fir_tick.specs.working.Plans.{IsPlan, IsRegisterPlan, TakesBy}
use Rattle.fir_tick.specs.working.Passes.{input_leaf, input_width, output_width, register_leaf, register_width, IsWithin, IsPlaced, IsShown, IsNarrowOutput}
use Rattle.fir_work.proofs.HeldNumbers.{place_within}
use Rattle.fir_tick.proofs.Lists.{pairs_left, pairs_right, pairs_same}
use Rattle.fir_sim.proofs.Placings.{Apart}
use Rattle.fir_sim.proofs.PlanPairs.{IsInput, IsOutput, inputs_paired, outputs_paired}

-- an input takes no word
clash : (net : FlatNet) (roots : List (Option ℕ)) (q : RegisterPlan) (o : Option Leaf) (a b : Leaf) → o ≡ Some a → o ≡ Some b → a.role ≡ role.Input → TakesBy net roots q b.role → ⊥
clash net roots q o a b e f g takes = let is : b.role ≡ role.Input = cc in subst (TakesBy net roots q) is takes

module _ (net : FlatNet) (whole : IsNet net) (p : Plan) (plan : IsPlan net p) where
  pub input_pairs : AllZip (IsInput net) p.inputs.items (inputs net)
  input_pairs = subst (λ (ps : List InputPlan). AllZip (IsInput net) ps (inputs net)) (sym plan.inputs) (inputs_paired net whole)

  pub output_pairs : AllZip (IsOutput net) p.outputs.items (outputs net)
  output_pairs = subst (λ (ps : List OutputPlan). AllZip (IsOutput net) ps (outputs net)) (sym plan.outputs) (outputs_paired net whole)

  pub register_pairs : AllZip (IsRegisterPlan net plan.roots) p.registers.items (registers net)
  register_pairs = plan.registers

  pub input_leaves : map input_leaf p.inputs.items ≡ inputs net
  input_leaves = pairs_same (IsInput net) input_leaf (λ k. k) (λ q k i. i.place) p.inputs.items (inputs net) input_pairs ∙ map-id (inputs net)

  pub register_leaves : map register_leaf p.registers.items ≡ registers net
  register_leaves = pairs_same (IsRegisterPlan net plan.roots) register_leaf (λ k. k) (λ q k i. i.place) p.registers.items (registers net) register_pairs ∙ map-id (registers net)

  pub input_widths : map input_width p.inputs.items ≡ (shape net).inputs
  input_widths = pairs_same (IsInput net) input_width (leaf_width net.leaves) (λ q k i. sym (width_at net.leaves k i.leaf i.at ∙ i.width)) p.inputs.items (inputs net) input_pairs

  pub shown_widths : map output_width p.outputs.items ≡ output_widths net
  shown_widths = pairs_same (IsOutput net) output_width (leaf_width net.leaves) (λ q k i. sym (width_at net.leaves k i.leaf i.at ∙ i.width)) p.outputs.items (outputs net) output_pairs

  pub register_widths : map register_width p.registers.items ≡ map (leaf_width net.leaves) (registers net)
  register_widths = pairs_same (IsRegisterPlan net plan.roots) register_width (leaf_width net.leaves) (λ q k i. sym (width_at net.leaves k i.leaf i.at ∙ i.width)) p.registers.items (registers net) register_pairs

  -- what the passes ask
  module _ (ns : List ℕ) (held : IsHeld net ns) where
    within : (k : ℕ) (l : Leaf) (j : ℕ) → slice_get net.leaves k ≡ Some l → j ≡ k → j < length ns
    within k l j at e = subst (λ (n : ℕ). n < length ns) (sym e) (place_within net ns held (read.Leaf k) (slice_get_within net.leaves k l at))

    pub inputs_within : AllByRecursion (IsWithin (length ns)) p.inputs.items
    inputs_within = pairs_left (IsInput net) (IsWithin (length ns)) (λ q k i. within k i.leaf q.leaf i.at i.place) p.inputs.items (inputs net) input_pairs

    pub registers_placed : AllByRecursion (IsPlaced (length ns)) p.registers.items
    registers_placed = pairs_left (IsRegisterPlan net plan.roots) (IsPlaced (length ns)) (λ q k i. within k i.leaf q.leaf i.at i.place) p.registers.items (registers net) register_pairs

    pub outputs_can_be_shown : AllByRecursion (IsShown ns) p.outputs.items
    outputs_can_be_shown = pairs_left (IsOutput net) (IsShown ns) shown p.outputs.items (outputs net) output_pairs
      where
        shown : (q : OutputPlan) (k : ℕ) → IsOutput net q k → IsShown ns q
        shown q k i =
            let below = subst (λ (t : NumTy). number_at ns k < 2 ^ t.width) (type_at net.leaves k i.leaf i.at) (held.fits (read.Leaf k) (slice_get_within net.leaves k i.leaf i.at)) in
            record {
              leaf = within k i.leaf q.leaf i.at i.place;
              narrow = i.narrow;
              below = subst (λ (w : ℕ). number_at ns q.leaf < 2 ^ w) i.width (subst (λ (j : ℕ). number_at ns j < 2 ^ i.leaf.width) (sym i.place) below);
            }

  pub outputs_narrow : AllByRecursion IsNarrowOutput p.outputs.items
  outputs_narrow = pairs_left (IsOutput net) IsNarrowOutput (λ q k i. i.narrow) p.outputs.items (outputs net) output_pairs

  -- leaves of the net
  pub input_leaves_there : AllByRecursion (λ k. k < length net.leaves) (inputs net)
  input_leaves_there = pairs_right (IsInput net) (λ k. k < length net.leaves) (λ q k i. slice_get_within net.leaves k i.leaf i.at) p.inputs.items (inputs net) input_pairs

  pub register_leaves_there : AllByRecursion (λ k. k < length net.leaves) (registers net)
  register_leaves_there = pairs_right (IsRegisterPlan net plan.roots) (λ k. k < length net.leaves) (λ q k i. slice_get_within net.leaves k i.leaf i.at) p.registers.items (registers net) register_pairs

  -- no register and no pipe is an input
  pub registers_apart : AllByRecursion (λ k. Apart k (inputs net)) (registers net)
  registers_apart = pairs_right (IsRegisterPlan net plan.roots) (λ k. Apart k (inputs net)) apart p.registers.items (registers net) register_pairs
    where
      apart : (q : RegisterPlan) (k : ℕ) → IsRegisterPlan net plan.roots q k → Apart k (inputs net)
      apart q k r =
          pairs_right (IsInput net) (λ n. n ≡ k → ⊥)
          (λ j n i e. clash net plan.roots q (slice_get net.leaves k) i.leaf r.leaf (subst (λ (m : ℕ). slice_get net.leaves m ≡ Some i.leaf) e i.at) r.at i.kind r.takes)
          p.inputs.items (inputs net) input_pairs
