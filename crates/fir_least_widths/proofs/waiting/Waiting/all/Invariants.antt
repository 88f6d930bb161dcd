use Rattle.std.proofs.Common.{◌≡◌, ◌-◌, ◌<◌, ℕ, length, Some}
use Rattle.std.specs.Prelude.{slice_get}
use Rattle.fir_least_widths.proofs.waiting.Waiting.all.Given as goal

abbrev pub invariant-loop-i : goal.invariant-loop-i
invariant-loop-i l = record {
  long : length l.stack.items ≡ l.i;
  each : (k : ℕ) → k < l.i → slice_get l.stack.items k ≡ Some (l.count - 1 - k);
}
