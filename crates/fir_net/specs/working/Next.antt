-- The state after a tick.
-- A register whose asynchronous reset is 1 takes its init, which is what it shows. Else, where its clock is named, it takes its init while a synchronous reset
-- is 1, and else the value that drives it, fitted to its width. One that nothing drives, or whose clock is not named or none, holds. A word of an array takes
-- what the last write gives it whose clock is named, whose condition is 1 and whose address is the word's; else it holds. A pipe whose clock is named takes what
-- it reads of its array, as that was before all writes of the tick or as it is after them; else it holds.
use Rattle.std.specs.Prelude.{ℕ, List, [], ◌∷◌, ◌++◌, map, flat_map, Bool, false, ◌&&◌, nat_eq, slice_get, if◌then◌else◌, Option, Some, None}
use Rattle.fir_base.specs.Ticks.{Tick, rises}
use Rattle.fir_net.specs.declared.array.Array.{Array}
use Rattle.fir_net.specs.declared.array.ArrayRead.{ArrayRead}
use Rattle.fir_net.specs.declared.array.ArrayWrite.{ArrayWrite}
use Rattle.fir_net.specs.declared.array.Pipe.{Pipe}
use Rattle.fir_net.specs.declared.reads.Read.{Read}
use Rattle.fir_net.specs.declared.leaf.ResetKind.{ResetKind}
use Rattle.fir_net.specs.declared.leaf.ResetKind.TheVariants.{Synchronous, Asynchronous}
use Rattle.fir_net.specs.declared.leaf.Reset.{Reset}
use Rattle.fir_net.specs.declared.leaf.Role.{Role}
use Rattle.fir_net.specs.declared.leaf.Role.TheVariants as role
use Rattle.fir_net.specs.declared.leaf.Leaf.{Leaf}
use Rattle.fir_net.specs.declared.net.FlatNet.{FlatNet}
use Rattle.fir_net.specs.working.Arrays.{addresses, begin_of, word_in}
use Rattle.fir_net.specs.working.Values.{at_width}
use Rattle.fir_net.specs.working.Settled.{value_at, is_high, is_read, registers, word_read}

-- what drives a register of that width, or what it shows
abbrev pub taken : FlatNet → (ℕ → ℕ) → ℕ → ℕ → Option Read → ℕ
taken net env width now None = now
taken net env width now (Some r) = at_width (value_at net env r) width

-- what a register takes at an edge of its clock; while an asynchronous reset is 1 it shows its init, and keeps it
abbrev pub taken_under : FlatNet → (ℕ → ℕ) → ℕ → ℕ → ResetKind → Read → Read → ℕ → ℕ
taken_under net env width now Synchronous condition init next = if is_high net env condition then at_width (value_at net env init) width else next
taken_under net env width now Asynchronous condition init next = if is_high net env condition then now else next

abbrev pub taken_with : FlatNet → (ℕ → ℕ) → ℕ → ℕ → Option Reset → ℕ → ℕ
taken_with net env width now None next = next
taken_with net env width now (Some r) next = taken_under net env width now r.kind r.condition r.init next

-- whether a clock, or none, is named
abbrev pub ticks : List ℕ → Option ℕ → Bool
ticks named None = false
ticks named (Some clock) = rises named clock

module _ (net : FlatNet) (env : ℕ → ℕ) (clock : ℕ → Option ℕ) (named : List ℕ) where
  -- whether a write acts at an address
  abbrev pub is_written : ArrayWrite → ℕ → Bool
  is_written w address = ticks named (clock w.clock) && (is_high net env w.condition && nat_eq (value_at net env w.address).value.number address)

  -- what these writes leave there of a word of that width
  abbrev pub word_after : ℕ → List ArrayWrite → ℕ → ℕ → ℕ
  word_after width [] address word = word
  word_after width (w ∷ ws) address word = word_after width ws address (if is_written w address then at_width (value_at net env w.given) width else word)

  -- the word of an array at an address after all writes
  abbrev pub word_left : List ℕ → ℕ → ℕ → Option Array → ℕ
  word_left state k address None = 0
  word_left state k address (Some a) = word_after a.width a.writes address (word_in state (begin_of net k) address)

  abbrev pub read_left : List ℕ → ArrayRead → ℕ
  read_left state r =
      if is_read net env r
      then word_left state r.array (value_at net env r.address).value.number (slice_get net.arrays r.array)
      else 0

  -- what a pipe takes at an edge of its clock
  abbrev pub piped : List ℕ → Pipe → ℕ
  piped state p = if p.is_new then read_left state p.read else word_read net state env p.read

  -- what follows a word of that width, which is now shown
  abbrev pub next_by : List ℕ → ℕ → ℕ → Role → ℕ
  next_by state width now (role.Register r) =
      if ticks named (clock r.clock) then taken_with net env width now r.reset (taken net env width now r.next) else now
  next_by state width now (role.Pipe p) = if ticks named (clock p.clock) then piped state p else now
  next_by state width now _ = now

  abbrev pub next_of : List ℕ → ℕ → Option Leaf → ℕ
  next_of state now None = now
  next_of state now (Some l) = next_by state l.width now l.role

  abbrev pub next_word : List ℕ → ℕ → ℕ
  next_word state k = next_of state (env k) (slice_get net.leaves k)

  -- the words of registers and pipes
  abbrev pub words_next : List ℕ → List ℕ
  words_next state = map (next_word state) (registers net)

  abbrev pub array_after : List ℕ → ℕ → Option Array → List ℕ
  array_after state k None = []
  array_after state k (Some a) = map (λ address. word_after a.width a.writes address (word_in state (begin_of net k) address)) (addresses 0 a.words)

  -- the arrays after all writes, in the order of the state
  abbrev pub arrays_next : List ℕ → List ℕ
  arrays_next state = flat_map (λ k. array_after state k (slice_get net.arrays k)) net.array_order

abbrev pub next : FlatNet → List ℕ → (ℕ → ℕ) → (ℕ → Option ℕ) → Tick → List ℕ
next net state env clock tick = words_next net env clock tick.clocks state ++ arrays_next net env clock tick.clocks state
