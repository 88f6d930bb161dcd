-- The end of a when: what the steps of a join come to.
use Rattle.std.proofs.Common.{◌≡◌, ℕ, ◌<◌, List, Bool, true, false, not, ◌&&◌, ◌||◌, if◌then◌else◌, length, ◌∙◌, nat_lt, arith}
use Rattle.fir_meaning.specs.working.TermReads.{is_among}
use Rattle.fir_driven.specs.working.Covering.{depth_in, flag_at}
use Rattle.fir_driven.specs.working.FlagChanges.{FlagsBecome}
use Rattle.fir_driven.specs.working.CoverWalks.{IsReady, Joins, MovesMarked}
use Rattle.fir_driven.specs.declared.covered.Covering.{Covering}

no_mark : (first second was : Bool) → was ≡ false → (if first then false else ((if first then true else was) && not second)) ≡ false
no_mark first second was h = grind arith

both_flagged : (first second inner was : Bool) → ((was || (first && inner)) || (second && inner)) ≡ (was || ((first || second) && inner))
both_flagged first second inner was = grind arith

both_listed : (first second before was : Bool) → was ≡ false → (before || ((if first then true else was) && second)) ≡ (before || (first && second))
both_listed first second before was h = grind arith

pub joins : (depths : List ℕ) (k : ℕ) (first second : List ℕ) (old new : Covering) (flagged marked moved : List Bool) (before after : List ℕ)
    → IsReady depths old
    → FlagsBecome old.covered.items flagged (λ x was. was || (is_among first x && nat_lt k (depth_in depths x)))
    → FlagsBecome flagged new.covered.items (λ x was. was || (is_among second x && nat_lt k (depth_in depths x)))
    → FlagsBecome old.marks.items marked (λ x was. if is_among first x then true else was) → MovesMarked second marked moved before after
    → FlagsBecome moved new.marks.items (λ x was. if is_among first x then false else was) → Joins depths k first second old new before after
joins depths k first second old new flagged marked moved before after ready one two mark move unmark = record {
  ready = record {
    covered = two.count ∙ one.count ∙ ready.covered;
    marks = unmark.count ∙ move.marks.count ∙ mark.count ∙ ready.marks;
    unmarked = λ x lt.
        let at_old : x < length old.marks.items = omega (arith, ready.marks) in
        let at_marked : x < length marked = omega (arith, ready.marks, mark.count) in
        let at_moved : x < length moved = omega (arith, ready.marks, mark.count, move.marks.count) in
        rw (unmark.each x at_moved, move.marks.each x at_marked, mark.each x at_old)
        (no_mark (is_among first x) (is_among second x) (flag_at old.marks.items x) (ready.unmarked x lt));
  };
  flags = λ x lt.
      let at_old : x < length old.covered.items = omega (arith, ready.covered) in
      let at_flagged : x < length flagged = omega (arith, ready.covered, one.count) in
      rw (two.each x at_flagged, one.each x at_old)
      (both_flagged (is_among first x) (is_among second x) (nat_lt k (depth_in depths x)) (flag_at old.covered.items x));
  listed = λ x lt.
      let at_old : x < length old.marks.items = omega (arith, ready.marks) in
      let at_marked : x < length marked = omega (arith, ready.marks, mark.count) in
      rw (move.listed x at_marked, mark.each x at_old)
      (both_listed (is_among first x) (is_among second x) (is_among before x) (flag_at old.marks.items x) (ready.unmarked x lt));
}
