use Rattle.std.proofs.Common.{◌≡◌, drop, length}
use Rattle.std.specs.List.{AllByRecursion}
use Rattle.fir_bits.specs.Values.{IsBitVector}
use Rattle.fir_tick.specs.working.ArrayWrites.{written}
use Rattle.fir_tick.proofs.array_writes.write_arrays.Given as goal

abbrev pub invariant-loop-plan : goal.invariant-loop-plan
invariant-loop-plan l = record {
  rest : written l.net l.numbers l.named (drop l.plan-index l.plans) l.state ≡ written l.net l.numbers l.named l.plans l.initial.state;
  room : length l.state ≡ length l.initial.state;
  whole : AllByRecursion IsBitVector l.state;
}
