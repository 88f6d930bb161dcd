-- When a net is another one without pipes: it has the same name, ports, words and arrays, allows the same at every tick, and has its registers; each pipe is a
-- register that takes a value on the same clock.
use Rattle.std.specs.Prelude.{◌≡◌, ◌↔◌, ℕ, List, Option, Some, None, IsSome, slice_get}
use Rattle.fir_base.specs.Ticks.{Tick}
use Rattle.fir_net.specs.declared.array.Pipe.{Pipe}
use Rattle.fir_net.specs.declared.leaf.Leaf.{Leaf}
use Rattle.fir_net.specs.declared.leaf.Register.{Register}
use Rattle.fir_net.specs.declared.leaf.Role.{Role}
use Rattle.fir_net.specs.declared.leaf.Role.TheVariants as role
use Rattle.fir_net.specs.declared.net.FlatNet.{FlatNet}
use Rattle.fir_net.specs.declared.reads.Read.{Read}
use Rattle.fir_net.specs.working.Allows.{Allows}
use Rattle.fir_net.specs.working.IsNet.{IsNet}
use Rattle.fir_net.specs.working.IsWritable.{HasNoPipes, IsWritable}
use Rattle.fir_net.specs.working.Rows.{net_arrays, net_rows, net_words}
use Rattle.fir_net.specs.working.Settled.{Settled, shape}
use Rattle.fir_net.specs.working.WordNames.{HasWordNames}

-- the leaf of that number has this role
pub record HasRole (net : FlatNet) (k : ℕ) (r : Role) : Type 0 where
  pub leaf : Leaf
  pub at : slice_get net.leaves k ≡ Some leaf
  pub is : leaf.role ≡ r

-- a clock leaf has a clock in all settled values
abbrev pub HasClock : FlatNet → ℕ → Type 0
HasClock net k =
    (state : List ℕ) (tick : Tick) (env : ℕ → ℕ) (clock : ℕ → Option ℕ) → Settled net state tick env clock → IsSome (clock k)

pub record Lowers (net lowered : FlatNet) : Type 0 where
  pub whole : IsNet lowered
  pub names : HasWordNames net → HasWordNames lowered
  pub writable : IsWritable lowered
  pub no_pipes : HasNoPipes lowered
  pub name : lowered.name ≡ net.name
  pub state : lowered.state ≡ net.state
  pub rows : net_rows lowered ≡ net_rows net
  pub words : net_words lowered ≡ net_words net
  pub arrays : net_arrays lowered ≡ net_arrays net
  pub shapes : shape lowered ≡ shape net
  pub allows :
      (state : List ℕ) (tick : Tick) (shown : List ℕ) (clocks : List (Option ℕ)) (after : List ℕ)
      → Allows lowered state tick shown clocks after ↔ Allows net state tick shown clocks after
  pub registers : (k : ℕ) (r : Register) → HasRole net k (role.Register r) → HasRole lowered k (role.Register r)
  pub pipes :
      (k : ℕ) (p : Pipe) → HasRole net k (role.Pipe p)
      → (next : Read) × HasRole lowered k (role.Register (record { clock = p.clock; reset = None; next = Some next }))
  pub clocks : (k : ℕ) (l : Leaf) → slice_get net.leaves k ≡ Some l → HasClock lowered k ↔ HasClock net k
