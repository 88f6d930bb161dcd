use Rattle.std.proofs.Common.{◌≡◌, take, drop, map}
use Rattle.std.specs.List.{AllByRecursion}
use Rattle.fir_bits.specs.Values.{IsBitVector}
use Rattle.fir_tick.specs.working.Passes.{register_value}
use Rattle.fir_tick.proofs.passes.take_edges.Given as goal

abbrev pub invariant-loop-j : goal.invariant-loop-j
invariant-loop-j l = record {
  values : take l.j l.state ≡ map (register_value l.net l.numbers l.named) (take l.j l.plans);
  rest : drop l.j l.state ≡ drop l.j l.initial.state;
  whole : AllByRecursion IsBitVector l.state;
}
