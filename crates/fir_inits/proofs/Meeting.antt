-- A search that meets one leaf or node more, at which it does not end, knows as much.
use Rattle.std.proofs.Common.{◌≡◌, ℕ, suc, ◌<◌, ◌≤◌, List, [], ◌∷◌, ◌++◌, Bool, true, false, Some, length, length-append, sym, ap, ◌∙◌, subst, inl, inr, ◌⊎◌, arith}
use Rattle.std.specs.Prelude.{slice_get, Option}
use Rattle.fir_base.proofs.Writes.{PushedOr, push_left, push_cases}
use Rattle.fir_net.specs.declared.net.FlatNet.{FlatNet}
use Rattle.fir_net.specs.declared.reads.Read.{Read}
use Rattle.fir_net.specs.declared.reads.Read.TheVariants as read
use Rattle.fir_net.specs.working.Dependence.{IsOf}
use Rattle.fir_work.specs.working.Numbers.{place}
use Rattle.fir_inits.specs.declared.search.Met.{Met}
use Rattle.fir_inits.specs.declared.search.Origin.{Origin}
use Rattle.fir_inits.specs.declared.search.Search.{Search}
use Rattle.fir_inits.specs.working.Searched.{ends, looks_left, unmarked, AreMet, ComesFrom, HasEnd, IsDone, IsMet, Keeps, Knows, Waits}
use Rattle.fir_inits.specs.working.Steps.{GoesOn, IsNew, IsQueued, Meets}
use Rattle.fir_inits.proofs.Marking.{marked_more, now_met, one_fewer, still_met}
use Rattle.fir_inits.proofs.Queues.{IsMore, far_more, near_more}

-- what was met is met
pub keeps_itself : (s : Search) → Keeps s s
keeps_itself s = record { met = λ v h. h }

pub keeps_on : (a b c : Search) → Keeps a b → Keeps b c → Keeps a c
keeps_on a b c p q = record { met = λ v h. q.met v (p.met v h) }

queued_more : (v : Read) (i : ℕ) (old new : Search) → IsQueued v i old new → IsMore old.near.items old.far.items new.near.items new.far.items i
queued_more (read.Leaf k) i old new q = rw (q.0, q.1) (far_more old.near.items old.far.items i)
queued_more (read.Node k) i old new q = rw (q.0, q.1) (near_more old.near.items old.far.items i)

done_more : (net : FlatNet) (met : List Met) (m : Met) (v : Read) → IsDone net met v → IsDone net (met ++ m ∷ []) v
done_more net met m v d = record { each = λ w r. still_met met m w (d.each w r) }

module _ (net : FlatNet) (old new : Search) (v : Read) (o : Origin) (of : IsOf net v) (comes : ComesFrom net old.met.items (length old.met.items) v o) where
  abbrev one : Met
  one = record { read = v; origin = o }

  are_more : AreMet net old.marks.items old.met.items → IsNew net old new v o → AreMet net new.marks.items new.met.items
  are_more are n = rw (n.marks, n.met) (marked_more net old.marks.items old.met.items are v o of n.mark comes)

  keeps_more : IsNew net old new v o → Keeps old new
  keeps_more n = record { met = λ w h. rw n.met (still_met old.met.items one w h) }

  -- where the search ends
  pub meets_end : AreMet net old.marks.items old.met.items → Meets net old new v o true → HasEnd net new
  meets_end are m = record { met = are_more are m.0; before = old.met.items; last = one; is = m.0.met; ends = m.1 }

  -- where it goes on
  module _ (open_ : Option ℕ) (knows : Knows net open_ old) where
    knows_more : IsNew net old new v o → ends net v ≡ false → IsQueued v (length old.met.items) old new → Knows net open_ new
    knows_more n goes q = record {
      met = are_more knows.met n;
      ahead = λ i m h. ahead i m (cases i m h);
      waiting = λ i w. rw n.met (waiting i (more.from i w));
      done = λ i m h. rw n.met (done i m (cases i m h));
    }
      where
        more : IsMore old.near.items old.far.items new.near.items new.far.items (length old.met.items)
        more = queued_more v (length old.met.items) old new q

        cases : (i : ℕ) (m : Met) → slice_get new.met.items i ≡ Some m → PushedOr old.met.items one i m
        cases i m h = push_cases old.met.items one i m (ap (λ (ms : List Met). slice_get ms i) (sym n.met) ∙ h)

        ahead : (i : ℕ) (m : Met) → PushedOr old.met.items one i m → ends net m.read ≡ false
        ahead i m (inl h) = knows.ahead i m h
        ahead i m (inr (e, f)) = subst (λ (x : Met). ends net x.read ≡ false) f goes

        waiting : (i : ℕ) → Waits old i ⊎ (length old.met.items ≡ i) → i < length (old.met.items ++ one ∷ [])
        waiting i (inl w) = let low = knows.waiting i w in simp length-append (omega (arith, low))
        waiting i (inr e) = simp length-append (omega (arith, e))

        done : (i : ℕ) (m : Met) → PushedOr old.met.items one i m → (open_ ≡ Some i) ⊎ (Waits new i ⊎ IsDone net (old.met.items ++ one ∷ []) m.read)
        done i m (inl h) = by (knows.done i m h)
          where
            by : (open_ ≡ Some i) ⊎ (Waits old i ⊎ IsDone net old.met.items m.read) → (open_ ≡ Some i) ⊎ (Waits new i ⊎ IsDone net (old.met.items ++ one ∷ []) m.read)
            by (inl e) = inl e
            by (inr (inl w)) = inr (inl (more.stays i w))
            by (inr (inr d)) = inr (inr (done_more net old.met.items one m.read d))
        done i m (inr (e, f)) = inr (inl (subst (Waits new) (sym e) more.here))

    fewer_more : IsNew net old new v o → IsQueued v (length old.met.items) old new → looks_left new ≤ looks_left old
    unfolding looks_left
    fewer_more n q =
        let more = queued_more v (length old.met.items) old new q in
        let count = more.count in
        let marks : unmarked old.marks.items ≡ suc (unmarked new.marks.items) = one_fewer old.marks.items (place net v) n.mark ∙ ap (λ (ms : List Bool). suc (unmarked ms)) (sym n.marks) in
        omega (arith, count, marks)

    pub meets_on : Meets net old new v o false → GoesOn net open_ old new
    meets_on (inl m) = subst (GoesOn net open_ old) (sym m.same) (record { knows = knows; keeps = keeps_itself old; fewer = omega arith })
    meets_on (inr (n, goes, q)) = record { knows = knows_more n goes q; keeps = keeps_more n; fewer = fewer_more n q }

  pub meets_it : AreMet net old.marks.items old.met.items → Meets net old new v o false → IsMet new.met.items v
  meets_it are (inl m) = rw m.same (are.only v of m.mark)
  meets_it are (inr (n, goes, q)) = rw n.met (now_met old.met.items v o)

  -- what was met keeps its number
  pub stays_at : Meets net old new v o false → (i : ℕ) (m : Met) → slice_get old.met.items i ≡ Some m → slice_get new.met.items i ≡ Some m
  stays_at (inl m) i n h = rw m.same h
  stays_at (inr (n, goes, q)) i m h = rw n.met (push_left old.met.items (one ∷ []) i m h)
