-- What a leaf or a node takes from the values that it hangs on, and which numbers are settled.
-- A number that hangs on nothing stays as it was put there. What is read of an array is a word of the state.
use Rattle.std.specs.Prelude.{◌≡◌, ℕ, List, slice_get, nat_eq, nat_lt, ◌&&◌, if◌then◌else◌, Bool, Option, Some, None}
use Rattle.fir_bits.specs.declared.values.Num.{Num}
use Rattle.fir_net.specs.declared.array.ArrayRead.{ArrayRead}
use Rattle.fir_net.specs.declared.reads.Read.{Read}
use Rattle.fir_net.specs.declared.reads.Read.TheVariants as read
use Rattle.fir_net.specs.declared.leaf.ResetKind.{ResetKind}
use Rattle.fir_net.specs.declared.leaf.ResetKind.TheVariants.{Synchronous, Asynchronous}
use Rattle.fir_net.specs.declared.leaf.Reset.{Reset}
use Rattle.fir_net.specs.declared.leaf.Role.{Role}
use Rattle.fir_net.specs.declared.leaf.Role.TheVariants as role
use Rattle.fir_net.specs.declared.leaf.Leaf.{Leaf}
use Rattle.fir_net.specs.declared.net.FlatNet.{FlatNet}
use Rattle.fir_net.specs.working.Arrays.{begin_of, word_in, words_of}
use Rattle.fir_net.specs.working.Dependence.{IsOf}
use Rattle.fir_net.specs.working.Values.{at_width}
use Rattle.fir_work.specs.working.Numbers.{number_at, place, value_in}
use Rattle.fir_work.specs.working.NodeValues.{held_node_at}
use Rattle.fir_work.specs.working.Held.{IsHeld}

abbrev pub is_one : Num → Bool
is_one v = nat_eq v.value.number 1

abbrev pub held_under : (Read → Num) → ℕ → ResetKind → Read → Read → ℕ → ℕ
held_under value width Synchronous condition init now = now
held_under value width Asynchronous condition init now = if is_one (value condition) then at_width (value init) width else now

-- what a register shows whose word is this
abbrev pub held_register : (Read → Num) → ℕ → Option Reset → ℕ → ℕ
held_register value width None now = now
held_register value width (Some r) now = held_under value width r.kind r.condition r.init now

-- what is read of an array, where these are the words of the state
abbrev pub held_is_read : FlatNet → (Read → Num) → ArrayRead → Bool
held_is_read net value r = is_one (value r.enable) && nat_lt (value r.address).value.number (words_of net.arrays r.array)

abbrev pub held_word : FlatNet → List ℕ → (Read → Num) → ArrayRead → ℕ
held_word net state value r = if held_is_read net value r then word_in state (begin_of net r.array) (value r.address).value.number else 0

abbrev pub held_role : FlatNet → List ℕ → (Read → Num) → ℕ → ℕ → Role → ℕ
held_role net state value width now (role.Output r) = at_width (value r) width
held_role net state value width now (role.Wire r) = at_width (value r) width
held_role net state value width now (role.Register r) = held_register value width r.reset now
held_role net state value width now (role.Reading r) = held_word net state value r
held_role net state value width now _ = now

abbrev pub held_leaf_at : FlatNet → List ℕ → (Read → Num) → ℕ → Option Leaf → ℕ
held_leaf_at net state value now None = now
held_leaf_at net state value now (Some l) = held_role net state value l.width now l.role

-- the number that a leaf or a node is worth, where these are the words of the state and these numbers were put
abbrev pub worth : FlatNet → List ℕ → List ℕ → (Read → Num) → Read → ℕ
worth net state start value (read.Leaf k) = held_leaf_at net state value (number_at start k) (slice_get net.leaves k)
worth net state start value (read.Node k) = (held_node_at value (slice_get net.nodes k)).value.number

-- all leaves and nodes are what they are worth
pub record IsSettled (net : FlatNet) (state start ns : List ℕ) : Type 0 where
  pub held : IsHeld net ns
  pub meets : (v : Read) → IsOf net v → number_at ns (place net v) ≡ worth net state start (value_in net ns) v
