-- One is taken to be looked at, or none is left.
use Rattle.std.proofs.Common.{◌≡◌, ℕ, ◌<◌, List, [], ◌∷◌, ◌++◌, None, Some, length, sym, ap, ◌∙◌, subst, inl, inr, ◌⊎◌, arith}
use Rattle.std.specs.Prelude.{slice_get}
use Rattle.fir_base.specs.Lists.{In}
use Rattle.fir_net.specs.declared.net.FlatNet.{FlatNet}
use Rattle.fir_inits.specs.declared.search.Met.{Met}
use Rattle.fir_inits.specs.declared.search.Search.{Search}
use Rattle.fir_inits.specs.working.Searched.{looks_left, unmarked, IsDone, IsIdle, IsMet, Keeps, Knows, Waits}
use Rattle.fir_inits.specs.working.Steps.{IsTaken, IsThrough}
use Rattle.fir_inits.proofs.Queues.{IsMore, near_more, swapped_more}

module _ (net : FlatNet) (old new : Search) where
  taken_more : (i : ℕ) → IsTaken old new i → IsMore new.near.items new.far.items old.near.items old.far.items i
  taken_more i t = by t.from
    where
      by : ((old.near.items ≡ new.near.items ++ i ∷ []) × (new.far.items ≡ old.far.items)) ⊎ ((old.near.items ≡ []) × (old.far.items ≡ new.near.items ++ i ∷ []) × (new.far.items ≡ [])) → IsMore new.near.items new.far.items old.near.items old.far.items i
      by (inl (e, f)) = rw (e, f) (near_more new.near.items old.far.items i)
      by (inr (e, f, g)) = rw (e, f, g) (swapped_more new.near.items i)

  pub taken_keeps : old.met.items ≡ new.met.items → Keeps old new
  taken_keeps e = record { met = λ v h. subst (λ (ms : List Met). IsMet ms v) e h }

  module _ (i : ℕ) (t : IsTaken old new i) where
    pub taken_knows : Knows net None old → Knows net (Some i) new
    taken_knows knows = record {
      met = rw (t.marks, t.met) knows.met;
      ahead = λ j m h. knows.ahead j m (ap (λ (ms : List Met). slice_get ms j) (sym t.met) ∙ h);
      waiting = λ j w. rw t.met (knows.waiting j ((taken_more i t).stays j w));
      done = λ j m h. rw t.met (done j m (knows.done j m (ap (λ (ms : List Met). slice_get ms j) (sym t.met) ∙ h)));
    }
      where
        done : (j : ℕ) (m : Met) → (None ≡ Some j) ⊎ (Waits old j ⊎ IsDone net old.met.items m.read) → (Some i ≡ Some j) ⊎ (Waits new j ⊎ IsDone net old.met.items m.read)
        done j m (inl e) = absurd (cc)
        done j m (inr (inl w)) = by ((taken_more i t).from j w)
          where
            by : Waits new j ⊎ (i ≡ j) → (Some i ≡ Some j) ⊎ (Waits new j ⊎ IsDone net old.met.items m.read)
            by (inl n) = inr (inl n)
            by (inr e) = inl (ap Some e)
        done j m (inr (inr d)) = inr (inr d)

    pub taken_within : Knows net None old → i < length new.met.items
    taken_within knows = rw t.met (knows.waiting i (taken_more i t).here)

    pub taken_fewer : looks_left new < looks_left old
    unfolding looks_left
    taken_fewer =
        let more = taken_more i t in
        let count = more.count in
        let marks : unmarked new.marks.items ≡ unmarked old.marks.items = ap unmarked t.marks in
        omega (arith, count, marks)

  pub through_idle : Knows net None old → IsThrough old new → IsIdle net new
  through_idle knows t = record {
    knows = record {
      met = rw (t.marks, t.met) knows.met;
      ahead = λ j m h. knows.ahead j m (ap (λ (ms : List Met). slice_get ms j) (sym t.met) ∙ h);
      waiting = λ j w. absurd (none new t.near t.far j w);
      done = λ j m h. rw t.met (done j m (knows.done j m (ap (λ (ms : List Met). slice_get ms j) (sym t.met) ∙ h)));
    };
    near = t.near;
    far = t.far;
  }
    where
      none : (s : Search) → s.near.items ≡ [] → s.far.items ≡ [] → (j : ℕ) → Waits s j → ⊥
      none s e f j (inl w) = subst (λ (xs : List ℕ). In xs j) e w
      none s e f j (inr w) = subst (λ (xs : List ℕ). In xs j) f w

      done : (j : ℕ) (m : Met) → (None ≡ Some j) ⊎ (Waits old j ⊎ IsDone net old.met.items m.read) → (None ≡ Some j) ⊎ (Waits new j ⊎ IsDone net old.met.items m.read)
      done j m (inl e) = absurd (cc)
      done j m (inr (inl w)) = absurd (none old t.old_near t.old_far j w)
      done j m (inr (inr d)) = inr (inr d)
