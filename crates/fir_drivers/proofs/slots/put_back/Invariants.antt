use Rattle.std.proofs.Common.{◌≡◌, ℕ, length, map, take}
use Rattle.fir_merge.specs.declared.bound.Bound.{Bound}
use Rattle.fir_drivers.specs.working.Slots.{PutsBack}
use Rattle.fir_drivers.proofs.slots.put_back.Given as goal

abbrev pub invariant-loop-leaf : goal.invariant-loop-leaf
invariant-loop-leaf l = (f : ℕ → Bound) → l.bounds ≡ map f l.leaves → PutsBack l.fn.slots.items l.slots.items (take (length l.yielded) l.leaves) f
