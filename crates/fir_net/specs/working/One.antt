-- When a net has exactly one choice of values.
use Rattle.std.specs.Prelude.{◌≡◌, ℕ, List, slice_get, Option, Some, true, false}
use Rattle.fir_base.specs.Ticks.{Tick, HasShape}
use Rattle.fir_net.specs.declared.leaf.Leaf.{Leaf}
use Rattle.fir_net.specs.declared.net.FlatNet.{FlatNet}
use Rattle.fir_net.specs.working.Settled.{Settled, shape, is_clock}

-- some values and clocks are settled, and any two such choices agree on every leaf
pub record HasOne (net : FlatNet) (state : List ℕ) (tick : Tick) : Type 0 where
  pub env : ℕ → ℕ
  pub clock : ℕ → Option ℕ
  pub settled : Settled net state tick env clock
  pub same : (e f : ℕ → ℕ) (c d : ℕ → Option ℕ) → Settled net state tick e c → Settled net state tick f d → (k : ℕ) (l : Leaf) → slice_get net.leaves k ≡ Some l → is_clock l.role ≡ false → e k ≡ f k
  pub same_clocks : (e f : ℕ → ℕ) (c d : ℕ → Option ℕ) → Settled net state tick e c → Settled net state tick f d → (k : ℕ) (l : Leaf) → slice_get net.leaves k ≡ Some l → is_clock l.role ≡ true → c k ≡ d k

-- at every state and tick of the net's shape
abbrev pub One : FlatNet → Type 0
One net = (state : List ℕ) (tick : Tick) → HasShape (shape net) state tick → HasOne net state tick
