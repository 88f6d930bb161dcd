use Rattle.std.proofs.Common.{◌≡◌, drop, length}
use Rattle.std.specs.List.{AllByRecursion}
use Rattle.fir_bits.specs.Values.{IsBitVector}
use Rattle.fir_tick.specs.working.PipeReads.{piped}
use Rattle.fir_tick.proofs.pipe_reads.take_words.Given as goal

abbrev pub invariant-loop-plan : goal.invariant-loop-plan
invariant-loop-plan l = record {
  rest : piped l.numbers l.named (drop l.plan-index l.plans) l.state ≡ piped l.numbers l.named l.plans l.initial.state;
  room : length l.state ≡ length l.initial.state;
  whole : AllByRecursion IsBitVector l.state;
}
