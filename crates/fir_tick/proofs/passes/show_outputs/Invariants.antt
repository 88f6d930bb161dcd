use Rattle.std.proofs.Common.{◌≡◌, take, map}
use Rattle.std.specs.List.{AllByRecursion}
use Rattle.fir_bits.specs.Values.{IsBitVector}
use Rattle.fir_tick.specs.working.Passes.{output_value}
use Rattle.fir_tick.proofs.passes.show_outputs.Given as goal

abbrev pub invariant-loop-j : goal.invariant-loop-j
invariant-loop-j l = record {
  values : take l.j l.outputs ≡ map (output_value l.numbers) (take l.j l.plans);
  whole : AllByRecursion IsBitVector (take l.j l.outputs);
}
