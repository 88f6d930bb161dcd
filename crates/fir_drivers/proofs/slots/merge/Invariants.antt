use Rattle.std.proofs.Common.{◌≡◌, ℕ, length, map, take}
use Rattle.fir_merge.specs.declared.bound.Bound.{Bound}
use Rattle.fir_merge.specs.working.Entries.{BoundsBelow}
use Rattle.fir_merge.specs.working.NodeTerms.{Grows}
use Rattle.fir_drivers.specs.working.Slots.{Merges}
use Rattle.fir_drivers.proofs.slots.merge.Given as goal

abbrev pub invariant-loop-place : goal.invariant-loop-place
invariant-loop-place l = record {
  grows : Grows l.fn.net l.net;
  below : BoundsBelow (length l.net) l.slots.items;
  merges : (f g : ℕ → Bound) → l.first ≡ map f l.leaves → l.second ≡ map g l.leaves
      → Merges l.fn.net l.net l.fn.slots.items l.slots.items l.condition (take l.place l.leaves) f g;
}
