-- The values of inits that are constants (FIRRTL spec, "Registers"): by the numbers of the leaves, what a register with an asynchronous reset shows while the
-- reset is 1, at every state and tick.
use Rattle.std.specs.Prelude.{◌≡◌, ℕ, ◌<◌, ◌^◌, List, slice_get, slice_index_or, Option, Some}
use Rattle.fir_base.specs.Ticks.{Tick}
use Rattle.fir_net.specs.declared.leaf.Leaf.{Leaf}
use Rattle.fir_net.specs.declared.leaf.Register.{Register}
use Rattle.fir_net.specs.declared.leaf.Reset.{Reset}
use Rattle.fir_net.specs.declared.leaf.ResetKind.TheVariants.{Asynchronous}
use Rattle.fir_net.specs.declared.leaf.Role.TheVariants as role
use Rattle.fir_net.specs.declared.net.FlatNet.{FlatNet}
use Rattle.fir_net.specs.working.IsWritable.{IsConstant}
use Rattle.fir_net.specs.working.Settled.{Settled, value_at}
use Rattle.fir_net.specs.working.Values.{at_width}

-- the number for a leaf; one for which none stands has 0
abbrev pub init_at : List ℕ → ℕ → ℕ
init_at inits k = slice_index_or inits k 0

pub record AreInitValues (net : FlatNet) (inits : List ℕ) : Type 0 where
  pub fits : (k : ℕ) (l : Leaf) → slice_get net.leaves k ≡ Some l → init_at inits k < 2 ^ l.width
  pub each :
      (k : ℕ) (l : Leaf) (own : Register) (reset : Reset) → slice_get net.leaves k ≡ Some l → l.role ≡ role.Register own → own.reset ≡ Some reset
      → reset.kind ≡ Asynchronous → IsConstant net reset.init → (state : List ℕ) (tick : Tick) (env : ℕ → ℕ) (clock : ℕ → Option ℕ)
      → Settled net state tick env clock → at_width (value_at net env reset.init) l.width ≡ init_at inits k
