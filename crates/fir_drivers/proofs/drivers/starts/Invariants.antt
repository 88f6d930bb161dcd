use Rattle.std.proofs.Common.{◌≡◌, ℕ, ◌<◌, ◌≤◌, length}
use Rattle.fir_connect.specs.working.Drivers.{start}
use Rattle.fir_driven.specs.working.Covering.{flag_at}
use Rattle.fir_merge.specs.working.Bounds.{types_in}
use Rattle.fir_merge.specs.working.Entries.{BoundsBelow}
use Rattle.fir_merge.specs.working.NodeTerms.{Grows}
use Rattle.fir_drivers.specs.working.Slots.{SlotStands}
use Rattle.fir_drivers.proofs.drivers.starts.Given as goal

abbrev pub invariant-loop-leaf : goal.invariant-loop-leaf
invariant-loop-leaf l = record {
  grows : Grows l.fn.net l.net;
  below : BoundsBelow (length l.net) l.slots.items;
  count : length l.slots.items ≡ l.leaf;
  stand : (x : ℕ) → ((y : ℕ) → (types_in l.types y).width ≤ 128) → x < l.leaf
      → SlotStands (types_in l.types) l.net l.slots.items x (start (types_in l.types) (flag_at l.registers x) x);
}
