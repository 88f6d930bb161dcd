-- The kept entries of an order are an order of what is kept.
use Rattle.std.proofs.Common.{◌≡◌, ℕ, ◌<◌, List, map, Some, Bool, true, false, ap, sym, ◌∙◌, subst, unwrap_or}
use Rattle.std.specs.Prelude.{slice_get, Option}
use Rattle.fir_net.specs.declared.net.FlatNet.{FlatNet}
use Rattle.fir_net.specs.declared.reads.Read.{Read}
use Rattle.fir_net.specs.working.Dependence.{IsOf, Reads}
use Rattle.fir_net.specs.working.IsOrder.{IsOrder}
use Rattle.fir_drop_dead.specs.working.Marks.{Marked, has, mark_at}
use Rattle.fir_drop_dead.specs.working.Moved.{kept_net, kept_order, moved_read}
use Rattle.fir_drop_dead.specs.working.Needed.{AreNeeded}
use Rattle.fir_drop_dead.specs.working.Numbers.{place}
use Rattle.fir_drop_dead.proofs.KeptDependence.{of_moved, of_net, old_of, read_once, reads_old}
use Rattle.fir_drop_dead.proofs.KeptItems.{map_there, place_below}
use Rattle.fir_drop_dead.proofs.KeptLeaves.{moved_from, moved_there}

module _ (net : FlatNet) (m : Marked) (are : AreNeeded net m) (order : List Read) (ordered : IsOrder net order) where
  abbrev other : FlatNet
  other = kept_net m net

  abbrev marks : List Bool
  marks = map (has m) order

  same_mark : (i : ℕ) (v : Read) → slice_get order i ≡ Some v → mark_at marks i ≡ has m v
  same_mark i v at = ap (λ (o : Option Bool). unwrap_or o false) (map_there (has m) order i v at)

  entry_there : (i : ℕ) (v : Read) → slice_get order i ≡ Some v → has m v ≡ true → slice_get (kept_order m order) (place marks i) ≡ Some (moved_read m v)
  entry_there i v at h = moved_there (moved_read m) marks order i v at (same_mark i v at ∙ h)

  record OldEntry (j : ℕ) (w : Read) : Type 0 where
    old : ℕ
    entry : Read
    at : slice_get order old ≡ Some entry
    marked : has m entry ≡ true
    set : mark_at marks old ≡ true
    place : place marks old ≡ j
    is : moved_read m entry ≡ w

  entry_from : (j : ℕ) (w : Read) → slice_get (kept_order m order) j ≡ Some w → OldEntry j w
  entry_from j w at =
      let r = moved_from (moved_read m) marks order j w at in
      record {
        old = r.from.old;
        entry = r.item;
        at = r.from.at;
        marked = sym (same_mark r.from.old r.item r.from.at) ∙ r.from.marked;
        set = r.from.marked;
        place = r.from.place;
        is = r.is;
      }

  entry_of : (j : ℕ) (w : Read) → slice_get (kept_order m order) j ≡ Some w → IsOf other w
  entry_of j w at = let r = entry_from j w at in subst (IsOf other) r.is (of_moved net m are r.entry r.marked)

  entry_once : (i j : ℕ) (w : Read) → slice_get (kept_order m order) i ≡ Some w → slice_get (kept_order m order) j ≡ Some w → i ≡ j
  entry_once i j w p q =
      let a = entry_from i w p in
      let b = entry_from j w q in
      let same = read_once m a.entry b.entry a.marked b.marked (a.is ∙ sym b.is) in
      let old = ordered.once a.old b.old b.entry (a.at ∙ ap Some same) b.at in
      sym a.place ∙ ap (place marks) old ∙ b.place

  entry_after : (i : ℕ) (v w : Read) → slice_get (kept_order m order) i ≡ Some v → Reads other v w → (j : ℕ) × (j < i) × (slice_get (kept_order m order) j ≡ Some w)
  entry_after i v w at hangs =
      let a = entry_from i v at in
      let b = reads_old net m are a.entry w a.marked (subst (λ (x : Read). Reads other x w) (sym a.is) hangs) in
      let before = ordered.after a.old a.entry b.read a.at b.hangs in
      let low = place_below marks before.0 a.old before.1 (same_mark before.0 b.read before.2 ∙ b.marked) in
      (place marks before.0, subst (λ (p : ℕ). place marks before.0 < p) a.place low, entry_there before.0 b.read before.2 b.marked ∙ ap Some b.is)

  entry_all : (v : Read) → IsOf other v → (i : ℕ) × (slice_get (kept_order m order) i ≡ Some v)
  entry_all v of =
      let r = old_of net m are v of in
      let at = ordered.all r.read (of_net net m are r.read r.marked) in
      (place marks at.0, entry_there at.0 r.read at.1 r.marked ∙ ap Some r.is)

  pub kept_is_order : IsOrder other (kept_order m order)
  kept_is_order = record { only = entry_of; once = entry_once; after = entry_after; all = entry_all }
