-- When a net may stand in the place of another, as sequential equivalence with the same state has it: it has the same name, ports, words and arrays; it allows the
-- same outputs and the same next state at every state and tick; and each of its registers and pipes takes values where that of the other does.
use Rattle.std.specs.Prelude.{◌≡◌, ◌↔◌, ℕ, List, Option, Some, IsSome, map, slice_get}
use Rattle.fir_base.specs.Ticks.{Tick}
use Rattle.fir_net.specs.declared.array.Pipe.{Pipe}
use Rattle.fir_net.specs.declared.leaf.Leaf.{Leaf}
use Rattle.fir_net.specs.declared.leaf.Register.{Register}
use Rattle.fir_net.specs.declared.leaf.Role.{Role}
use Rattle.fir_net.specs.declared.leaf.Role.TheVariants as role
use Rattle.fir_net.specs.declared.net.FlatNet.{FlatNet}
use Rattle.fir_net.specs.working.Allows.{Allows}
use Rattle.fir_net.specs.working.IsNet.{IsNet}
use Rattle.fir_net.specs.working.IsWritable.{IsWritable}
use Rattle.fir_net.specs.working.Rows.{net_arrays, net_rows, net_words}
use Rattle.fir_net.specs.working.Settled.{Settled, outputs, shape}
use Rattle.fir_net.specs.working.Values.{leaf_width}
use Rattle.fir_net.specs.working.WordNames.{HasWordNames}

-- a clock leaf has a clock in all settled values
abbrev pub HasClock : FlatNet → ℕ → Type 0
HasClock net k =
    (state : List ℕ) (tick : Tick) (env : ℕ → ℕ) (clock : ℕ → Option ℕ) → Settled net state tick env clock → IsSome (clock k)

-- a register beside a register: each has a reset, a driver and a clock where the other has; or a pipe beside a pipe
pub data TakesAlike (net other : FlatNet) : Role → Role → Type 0 where
  registers :
      (r s : Register) → IsSome s.reset ↔ IsSome r.reset → IsSome s.next ↔ IsSome r.next → HasClock other s.clock ↔ HasClock net r.clock
      → TakesAlike net other (role.Register r) (role.Register s)
  pipes : (p q : Pipe) → HasClock other q.clock ↔ HasClock net p.clock → TakesAlike net other (role.Pipe p) (role.Pipe q)

-- the leaf of a word of the state beside that of the same word
pub record IsAlikeWord (net other : FlatNet) (k j : ℕ) : Type 0 where
  pub leaf : Leaf
  pub is : slice_get net.leaves k ≡ Some leaf
  pub beside : Leaf
  pub is_beside : slice_get other.leaves j ≡ Some beside
  pub alike : TakesAlike net other leaf.role beside.role

pub record IsEquivalent (net other : FlatNet) : Type 0 where
  pub whole : IsNet other
  pub names : HasWordNames net → HasWordNames other
  pub writable : IsWritable net → IsWritable other
  pub name : other.name ≡ net.name
  pub rows : net_rows other ≡ net_rows net
  pub words : net_words other ≡ net_words net
  pub arrays : net_arrays other ≡ net_arrays net
  pub shapes : shape other ≡ shape net
  pub output_widths : map (leaf_width other.leaves) (outputs other) ≡ map (leaf_width net.leaves) (outputs net)
  pub allows :
      (state : List ℕ) (tick : Tick) (shown : List ℕ) (clocks : List (Option ℕ)) (after : List ℕ)
      → Allows other state tick shown clocks after ↔ Allows net state tick shown clocks after
  pub alike : (n j : ℕ) → slice_get other.state n ≡ Some j → (k : ℕ) × (slice_get net.state n ≡ Some k) × IsAlikeWord net other k j
