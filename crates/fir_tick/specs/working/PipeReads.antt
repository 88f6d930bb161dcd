-- What pipes leave of the words of the state: each changes its own word at most, to one that stands in an array.
use Rattle.std.specs.Prelude.{ℕ, ◌+◌, ◌<◌, ◌≤◌, List, [], ◌∷◌, slice_set, if◌then◌else◌}
use Rattle.fir_bits.specs.Values.{BitVector}
use Rattle.fir_net.specs.working.Next.{ticks}
use Rattle.fir_tick.specs.declared.pipe_plans.PipePlan.{PipePlan}
use Rattle.fir_tick.specs.working.ArrayReads.{word_at}

abbrev pub one_piped : List ℕ → List ℕ → PipePlan → List BitVector → List BitVector
one_piped ns named p words = if ticks named p.clock then slice_set words p.place (word_at p.read p.width words ns) else words

-- one after the other
abbrev pub piped : List ℕ → List ℕ → List PipePlan → List BitVector → List BitVector
piped ns named [] words = words
piped ns named (p ∷ ps) words = piped ns named ps (one_piped ns named p words)

-- it can be done where the state has so many words
pub record CanPipe (room : ℕ) (p : PipePlan) : Type 0 where
  pub place : p.place < room
  pub within : p.read.span.begin + p.read.span.words ≤ room
  pub narrow : p.width ≤ 128
