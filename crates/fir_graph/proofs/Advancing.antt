-- One more target of an open vertex is done.
use Rattle.std.proofs.Common.{◌≡◌, ℕ, ◌+◌, ◌<◌, ◌≤◌, List, Some, length, length-set, set, sym, ap, ◌∙◌, inl, inr, ◌⊎◌, arith}
use Rattle.std.specs.Prelude.{slice_get}
use Rattle.std.proofs.lemmas.Bool.{cases_lt, cases_eq}
use Rattle.std.proofs.lemmas.Option.{same_Some, slice_get_within}
use Rattle.fir_graph.specs.declared.marks.Mark.{Mark}
use Rattle.fir_graph.specs.declared.marks.Mark.TheVariants.{Open, Done}
use Rattle.fir_graph.specs.working.Searched.{Searched}
use Rattle.fir_base.proofs.Writes.{write_same, write_other, WrittenOr, write_cases, kept}
use Rattle.fir_graph.proofs.Opening.{same_open}

module _ (size : ℕ) (targets : ℕ → List ℕ) (marks : List Mark) (path order : List ℕ) (s : Searched size targets marks path order) where
  pub advanced : (top w place : ℕ) → slice_get marks top ≡ Some (Open place) → slice_get (targets top) place ≡ Some w → slice_get marks w ≡ Some Done → Searched size targets (set marks top (Open (place + 1))) path order
  advanced top w place open_ is done_ = record {
    covers = length-set marks top (Open (place + 1)) ∙ s.covers;
    done = λ i v h. stays v (s.done i v h);
    done_in = λ v h. done_in v (write_cases marks top (Open (place + 1)) v Done has h);
    done_once = s.done_once;
    after = s.after;
    open_at = λ i v h. open_at v (s.open_at i v h) (cases_eq v top);
    open_in = λ v k h. open_in v k (write_cases marks top (Open (place + 1)) v (Open k) has h);
    open_once = s.open_once;
    steps = s.steps;
    seen = λ v u k j h jk r. seen v u k j jk r (write_cases marks top (Open (place + 1)) v (Open k) has h);
  }
    where
      has : top < length marks
      has = slice_get_within marks top (Open place) open_

      stays : (v : ℕ) → slice_get marks v ≡ Some Done → slice_get (set marks top (Open (place + 1))) v ≡ Some Done
      stays v h = kept marks top (Open place) (Open (place + 1)) open_ v Done (λ e. cc) h

      done_in : (v : ℕ) → WrittenOr marks top (Open (place + 1)) v Done → (i : ℕ) × (slice_get order i ≡ Some v)
      done_in v (inl (e, f)) = cc
      done_in v (inr (n, h)) = s.done_in v h

      open_at : (v : ℕ) → (k : ℕ) × (slice_get marks v ≡ Some (Open k)) → (v ≡ top) ⊎ (v ≡ top → ⊥) → (k : ℕ) × (slice_get (set marks top (Open (place + 1))) v ≡ Some (Open k))
      open_at v o (inl e) = (place + 1, ap (slice_get (set marks top (Open (place + 1)))) e ∙ write_same marks top (Open (place + 1)) has)
      open_at v o (inr n) = (o.0, write_other marks top (Open (place + 1)) v n ∙ o.1)

      open_in : (v k : ℕ) → WrittenOr marks top (Open (place + 1)) v (Open k) → (i : ℕ) × (slice_get path i ≡ Some v)
      open_in v k (inl (e, f)) = s.open_in v place (ap (slice_get marks) e ∙ open_)
      open_in v k (inr (n, h)) = s.open_in v k h

      seen : (v u k j : ℕ) → j < k → slice_get (targets v) j ≡ Some u → WrittenOr marks top (Open (place + 1)) v (Open k) → slice_get (set marks top (Open (place + 1))) u ≡ Some Done
      seen v u k j jk r (inl (e, f)) = stays u (by (cases_lt j place))
        where
          by : (j < place) ⊎ (place ≤ j) → slice_get marks u ≡ Some Done
          by (inl l) = s.seen top u place j open_ l (ap (λ x. slice_get (targets x) j) (sym e) ∙ r)
          by (inr l) =
              let here : j ≡ place = omega (arith, jk, l, same_open (place + 1) k f) in
              let same : w ≡ u = same_Some w u (sym is ∙ ap (slice_get (targets top)) (sym here) ∙ ap (λ x. slice_get (targets x) j) (sym e) ∙ r) in
              ap (slice_get marks) (sym same) ∙ done_
      seen v u k j jk r (inr (n, h)) = stays u (s.seen v u k j h jk r)
