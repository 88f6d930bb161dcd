-- Which nets have a Verilog text, once each pipe is a register: each reset is asynchronous, and what gives its register its init hangs on no input and on no leaf
-- that shows state, so that it is a constant; and all ports of an array that have a clock have the same one.
use Rattle.std.specs.Prelude.{◌≡◌, ℕ, Bool, true, false, slice_get, Option, Some, None}
use Rattle.fir_net.specs.declared.array.Array.{Array}
use Rattle.fir_net.specs.declared.array.ArrayWrite.{ArrayWrite}
use Rattle.fir_net.specs.declared.array.Pipe.{Pipe}
use Rattle.fir_net.specs.declared.reads.Read.{Read}
use Rattle.fir_net.specs.declared.reads.Read.TheVariants as read
use Rattle.fir_net.specs.declared.leaf.Register.{Register}
use Rattle.fir_net.specs.declared.leaf.Reset.{Reset}
use Rattle.fir_net.specs.declared.leaf.ResetKind.TheVariants.{Asynchronous}
use Rattle.fir_net.specs.declared.leaf.Role.{Role}
use Rattle.fir_net.specs.declared.leaf.Role.TheVariants as role
use Rattle.fir_net.specs.declared.leaf.Leaf.{Leaf}
use Rattle.fir_net.specs.declared.net.FlatNet.{FlatNet}
use Rattle.fir_net.specs.working.Dependence.{Reads}
use Rattle.fir_net.specs.working.Settled.{clock_driver}

-- a read is reached from itself, and from all that hangs on it at once or through others
pub data Reaches (net : FlatNet) : Read → Read → Type 0 where
  itself : (v : Read) → Reaches net v v
  through : (v w x : Read) → Reads net v w → Reaches net w x → Reaches net v x

abbrev pub is_input_or_state : Role → Bool
is_input_or_state role.Input = true
is_input_or_state role.Clock = true
is_input_or_state (role.Register r) = true
is_input_or_state (role.Reading r) = true
is_input_or_state (role.Pipe p) = true
is_input_or_state _ = false

-- it reaches no input and no leaf that shows state
pub record IsConstant (net : FlatNet) (r : Read) : Type 0 where
  pub none : (k : ℕ) (l : Leaf) → Reaches net r (read.Leaf k) → slice_get net.leaves k ≡ Some l → is_input_or_state l.role ≡ false

-- the init of each register with an asynchronous reset is a constant
pub record HasConstantInits (net : FlatNet) : Type 0 where
  pub each :
      (k : ℕ) (l : Leaf) (own : Register) (reset : Reset) → slice_get net.leaves k ≡ Some l → l.role ≡ role.Register own → own.reset ≡ Some reset
      → reset.kind ≡ Asynchronous → IsConstant net reset.init

-- no reset waits for a clock: one that does is a choice in what its register takes
abbrev pub ActsAtOnce : Option Reset → Type 0
ActsAtOnce None = Unit {0}
ActsAtOnce (Some r) = r.kind ≡ Asynchronous

abbrev pub IsWritableRole : Role → Type 0
IsWritableRole (role.Register r) = ActsAtOnce r.reset
IsWritableRole _ = Unit {0}

-- the leaf of the clock of a port of the array of a number: of what writes it, or of what reads it at edges
pub data IsPortClock (net : FlatNet) (k : ℕ) : ℕ → Type 0 where
  of_write : (a : Array) (n : ℕ) (w : ArrayWrite) → slice_get net.arrays k ≡ Some a → slice_get a.writes n ≡ Some w → IsPortClock net k w.clock
  of_pipe : (x : ℕ) (l : Leaf) (p : Pipe) → slice_get net.leaves x ≡ Some l → l.role ≡ role.Pipe p → p.read.array ≡ k → IsPortClock net k p.clock

-- the drivers of a clock leaf end at a clock input
pub data EndsAt (net : FlatNet) : ℕ → ℕ → Type 0 where
  input : (k : ℕ) (l : Leaf) → slice_get net.leaves k ≡ Some l → l.role ≡ role.Clock → EndsAt net k k
  driven : (k j n : ℕ) (l : Leaf) → slice_get net.leaves k ≡ Some l → clock_driver l.role ≡ Some (Some j) → EndsAt net j n → EndsAt net k n

-- those of any two of these end at one, where they end at all
pub record HasOneClocks (net : FlatNet) : Type 0 where
  pub same : (k x y i j : ℕ) → IsPortClock net k x → IsPortClock net k y → EndsAt net x i → EndsAt net y j → i ≡ j

pub record IsWritable (net : FlatNet) : Type 0 where
  pub leaves : (k : ℕ) (l : Leaf) → slice_get net.leaves k ≡ Some l → IsWritableRole l.role
  pub inits : HasConstantInits net
  pub clocks : HasOneClocks net

-- no leaf is a pipe
pub record HasNoPipes (net : FlatNet) : Type 0 where
  pub none : (k : ℕ) (l : Leaf) (p : Pipe) → slice_get net.leaves k ≡ Some l → l.role ≡ role.Pipe p → ⊥
