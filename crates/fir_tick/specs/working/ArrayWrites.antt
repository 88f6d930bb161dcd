-- What the writes of arrays leave of the words of the state: each changes one word at most, and a later one what an earlier one left.
use Rattle.std.specs.Prelude.{ℕ, ◌+◌, ◌≤◌, List, [], ◌∷◌, ◌++◌, drop, length, map, slice_set, nat_eq, nat_lt, ◌&&◌, if◌then◌else◌, Bool}
use Rattle.fir_bits.specs.Values.{BitVector}
use Rattle.fir_net.specs.declared.net.FlatNet.{FlatNet}
use Rattle.fir_net.specs.working.Next.{ticks}
use Rattle.fir_work.specs.working.Numbers.{number_at}
use Rattle.fir_work.specs.working.Tasks.{worked}
use Rattle.fir_tick.specs.declared.write_plans.WritePlan.{WritePlan}
use Rattle.fir_tick.specs.declared.plan.Plan.{Plan}
use Rattle.fir_tick.specs.working.Passes.{register_value, vector_of, Gives}
use Rattle.fir_tick.specs.working.PipeReads.{piped}

-- whether something is written: the clock is named, the condition is 1, and there is a word at the address
abbrev pub is_written : List ℕ → List ℕ → WritePlan → Bool
is_written ns named p = ticks named p.clock && (nat_eq (number_at ns p.condition) 1 && nat_lt (number_at ns p.address) p.span.words)

abbrev pub one_written : FlatNet → List ℕ → List ℕ → WritePlan → List BitVector → List BitVector
one_written net ns named p words =
    if is_written ns named p then slice_set words (p.span.begin + number_at ns p.address) (vector_of p.width (worked net p.given ns)) else words

-- one after the other
abbrev pub written : FlatNet → List ℕ → List ℕ → List WritePlan → List BitVector → List BitVector
written net ns named [] words = words
written net ns named (p ∷ ps) words = written net ns named ps (one_written net ns named p words)

-- the words of the state after the edges of the named clocks: the registers take theirs, then the pipes that take old words, then all writes are done, and then
-- the pipes take theirs that take new words
abbrev pub after_edges : FlatNet → List ℕ → List ℕ → Plan → List BitVector → List BitVector
after_edges net ns named p words =
    piped ns named p.after_writes.items
    (written net ns named p.writes.items (piped ns named p.before_writes.items (map (register_value net ns named) p.registers.items ++ drop (length p.registers.items) words)))

-- it can be done where the state has so many words
pub record CanWrite (net : FlatNet) (ns : List ℕ) (room : ℕ) (p : WritePlan) : Type 0 where
  pub within : p.span.begin + p.span.words ≤ room
  pub narrow : p.width ≤ 128
  pub given : Gives net ns p.width p.given
