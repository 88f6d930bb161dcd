-- The values of a net's leaves while nothing changes.
-- An input has the tick's value, a register its word of the state, or its init while an asynchronous reset is 1, and a pipe its word; what is read of an array is
-- the word at the address, and zero past the end or while it is not enabled; every other leaf has the value that drives it. A leaf takes a value fitted to its width, by the value's own sign. A clock input has its number, counted from 0 in port order, and every
-- other clock leaf is the clock that drives it, or none. All is guessed whole and then tested; no order of evaluation stands in the definition.
-- Leaves are numbered from 0, the ports in their order and then the others.
use Rattle.std.specs.Prelude.{◌≡◌, ℕ, ◌+◌, ◌^◌, ◌<◌, List, [], ◌∷◌, ◌++◌, map, length, slice_get, slice_index, nat_eq, nat_lt, ◌&&◌, if◌then◌else◌, Bool, true, false, Option, Some, None}
use Rattle.fir_bits.specs.declared.values.Num.{Num}
use Rattle.fir_base.specs.Ticks.{Tick, Shape, HasShape}
use Rattle.fir_net.specs.declared.array.ArrayRead.{ArrayRead}
use Rattle.fir_net.specs.declared.array.Pipe.{Pipe}
use Rattle.fir_net.specs.declared.reads.Read.{Read}
use Rattle.fir_net.specs.declared.leaf.ResetKind.{ResetKind}
use Rattle.fir_net.specs.declared.leaf.ResetKind.TheVariants.{Synchronous, Asynchronous}
use Rattle.fir_net.specs.declared.leaf.Reset.{Reset}
use Rattle.fir_net.specs.declared.leaf.Register.{Register}
use Rattle.fir_net.specs.declared.leaf.Role.{Role}
use Rattle.fir_net.specs.declared.leaf.Role.TheVariants as role
use Rattle.fir_net.specs.declared.leaf.Leaf.{Leaf}
use Rattle.fir_net.specs.declared.net.FlatNet.{FlatNet}
use Rattle.fir_net.specs.working.Arrays.{array_widths, begin_of, word_in, words_of}
use Rattle.fir_net.specs.working.Values.{at_width, leaf_width, read_value, values}

-- leaves of no bits are in no list of values
abbrev pub with_bits : ℕ → ℕ → List ℕ
with_bits width k = if nat_eq width 0 then [] else (k ∷ [])

abbrev pub input_number : Role → ℕ → ℕ → List ℕ
input_number role.Input width k = with_bits width k
input_number _ width k = []

abbrev pub clock_number : Role → ℕ → ℕ → List ℕ
clock_number role.Clock width k = k ∷ []
clock_number _ width k = []

abbrev pub output_number : Role → ℕ → ℕ → List ℕ
output_number (role.Output r) width k = with_bits width k
output_number _ width k = []

abbrev pub clock_output_number : Role → ℕ → ℕ → List ℕ
clock_output_number (role.ClockOutput c) width k = k ∷ []
clock_output_number _ width k = []

-- the numbers that each leaf gives, where the leaves are numbered from k on
abbrev pub numbers_by : (Role → ℕ → ℕ → List ℕ) → ℕ → List Leaf → List ℕ
numbers_by number k [] = []
numbers_by number k (l ∷ ls) = number l.role l.width k ++ numbers_by number (k + 1) ls

abbrev pub inputs : FlatNet → List ℕ
inputs net = numbers_by input_number 0 net.leaves

-- the clock inputs
abbrev pub clocks : FlatNet → List ℕ
clocks net = numbers_by clock_number 0 net.leaves

-- the outputs that are no clocks
abbrev pub outputs : FlatNet → List ℕ
outputs net = numbers_by output_number 0 net.leaves

-- the outputs that are clocks
abbrev pub clock_outputs : FlatNet → List ℕ
clock_outputs net = numbers_by clock_output_number 0 net.leaves

-- the registers and pipes, whose words stand in front of the state
abbrev pub registers : FlatNet → List ℕ
registers net = net.state

abbrev pub shape : FlatNet → Shape
shape net =
    record {
      inputs = map (leaf_width net.leaves) (inputs net);
      clocks = length (clocks net);
      state = map (leaf_width net.leaves) (registers net) ++ array_widths net;
    }

-- the value that is read
abbrev pub value_at : FlatNet → (ℕ → ℕ) → Read → Num
value_at net env r = read_value net.leaves env (values net env) r

abbrev pub is_clock : Role → Bool
is_clock role.Clock = true
is_clock (role.ClockOutput c) = true
is_clock (role.ClockWire c) = true
is_clock _ = false

-- what drives a leaf that is neither an input nor a register nor a clock
abbrev pub driver : Role → Option Read
driver (role.Output r) = Some r
driver (role.Wire r) = Some r
driver _ = None

-- what drives a clock leaf that is no input: another clock leaf, or no clock
abbrev pub clock_driver : Role → Option (Option ℕ)
clock_driver (role.ClockOutput c) = Some c
clock_driver (role.ClockWire c) = Some c
clock_driver _ = None

abbrev pub driven_clock : (ℕ → Option ℕ) → Option ℕ → Option ℕ
driven_clock clock None = None
driven_clock clock (Some k) = clock k

-- whether a condition is 1
abbrev pub is_high : FlatNet → (ℕ → ℕ) → Read → Bool
is_high net env r = nat_eq (value_at net env r).value.number 1

abbrev pub shown_by : FlatNet → (ℕ → ℕ) → ℕ → ResetKind → Read → Read → ℕ → ℕ
shown_by net env width Synchronous condition init word = word
shown_by net env width Asynchronous condition init word = if is_high net env condition then at_width (value_at net env init) width else word

-- what a register of that width shows, whose word of the state is this
abbrev pub shown : FlatNet → (ℕ → ℕ) → ℕ → Option Reset → ℕ → ℕ
shown net env width None word = word
shown net env width (Some r) word = shown_by net env width r.kind r.condition r.init word

-- what is read of an array
abbrev pub is_read : FlatNet → (ℕ → ℕ) → ArrayRead → Bool
is_read net env r = is_high net env r.enable && nat_lt (value_at net env r.address).value.number (words_of net.arrays r.array)

abbrev pub word_read : FlatNet → List ℕ → (ℕ → ℕ) → ArrayRead → ℕ
word_read net state env r = if is_read net env r then word_in state (begin_of net r.array) (value_at net env r.address).value.number else 0

pub record Settled (net : FlatNet) (state : List ℕ) (tick : Tick) (env : ℕ → ℕ) (clock : ℕ → Option ℕ) : Type 0 where
  pub shaped : HasShape (shape net) state tick
  -- each leaf that is no clock has a value of its width
  pub fits : (k : ℕ) (l : Leaf) → slice_get net.leaves k ≡ Some l → is_clock l.role ≡ false → env k < 2 ^ l.width
  pub input_values : map env (inputs net) ≡ tick.inputs
  pub registers_show : (n k : ℕ) (l : Leaf) (r : Register) → slice_get (registers net) n ≡ Some k → slice_get net.leaves k ≡ Some l → l.role ≡ role.Register r → env k ≡ shown net env l.width r.reset (slice_index state n)
  pub pipes_show : (n k : ℕ) (l : Leaf) (p : Pipe) → slice_get (registers net) n ≡ Some k → slice_get net.leaves k ≡ Some l → l.role ≡ role.Pipe p → env k ≡ slice_index state n
  pub arrays_read : (k : ℕ) (l : Leaf) (r : ArrayRead) → slice_get net.leaves k ≡ Some l → l.role ≡ role.Reading r → env k ≡ word_read net state env r
  pub driven : (k : ℕ) (l : Leaf) (r : Read) → slice_get net.leaves k ≡ Some l → driver l.role ≡ Some r → env k ≡ at_width (value_at net env r) l.width
  pub clock_inputs : (n : ℕ) (k : ℕ) → slice_get (clocks net) n ≡ Some k → clock k ≡ Some n
  pub clocks_driven : (k : ℕ) (l : Leaf) (c : Option ℕ) → slice_get net.leaves k ≡ Some l → clock_driver l.role ≡ Some c → clock k ≡ driven_clock clock c
