-- What a simulator shows: its net, the outputs of the last tick, and the state after it.
use Rattle.std.specs.Prelude.{◌≡◌, ℕ, List, map}
use Rattle.std.specs.List.{AllByRecursion}
use Rattle.fir_base.specs.Ticks.{FitEach, AreClocks, Tick}
use Rattle.fir_bits.specs.Values.{BitVector, IsBitVector}
use Rattle.fir_net.specs.declared.net.FlatNet.{FlatNet}
use Rattle.fir_net.specs.working.Values.{leaf_width}
use Rattle.fir_net.specs.working.Settled.{outputs, shape}

pub record SimView : Type 0 where
  pub net : FlatNet
  pub outputs : List BitVector
  pub state : List BitVector

abbrev pub view_of : FlatNet → List BitVector → List BitVector → SimView
view_of net outputs state = record { net = net; outputs = outputs; state = state }

abbrev pub numbers : List BitVector → List ℕ
numbers = map (λ v. v.number)

abbrev pub widths : List BitVector → List ℕ
widths = map (λ v. v.width)

-- the widths of the outputs in port order
abbrev pub output_widths : FlatNet → List ℕ
output_widths net = map (leaf_width net.leaves) (outputs net)

-- outputs and state are values of their widths
pub record HasWidths (s : SimView) : Type 0 where
  pub outputs : widths s.outputs ≡ output_widths s.net
  pub outputs_are : AllByRecursion IsBitVector s.outputs
  pub state : widths s.state ≡ (shape s.net).state
  pub state_is : AllByRecursion IsBitVector s.state

-- a tick of the net's shape
pub record IsTickOf (net : FlatNet) (tick : Tick) : Type 0 where
  pub inputs : FitEach (shape net).inputs tick.inputs
  pub clocks : AreClocks 0 (shape net).clocks tick.clocks
