-- The last of the path is done.
use Rattle.std.proofs.Common.{◌≡◌, ℕ, ◌+◌, ◌<◌, ◌≤◌, List, [], ◌∷◌, ◌++◌, Some, None, length, length-set, set, sym, ap, ◌∙◌, subst, inl, inr, ◌⊎◌, arith}
use Rattle.std.specs.Prelude.{slice_get}
use Rattle.std.proofs.lemmas.Bool.{cases_lt}
use Rattle.std.proofs.lemmas.Option.{none-some, slice_get_within}
use Rattle.fir_base.proofs.Elements.{there}
use Rattle.fir_graph.specs.working.HasTarget.{HasTarget}
use Rattle.fir_graph.specs.declared.marks.Mark.{Mark}
use Rattle.fir_graph.specs.declared.marks.Mark.TheVariants.{Open, Done}
use Rattle.fir_graph.specs.working.Searched.{Searched}
use Rattle.fir_base.proofs.Writes.{PushedOr, push_left, push_end, push_cases, write_same, write_other, WrittenOr, write_cases, two_items, kept}

module _ (size : ℕ) (targets : ℕ → List ℕ) (marks : List Mark) (rest order : List ℕ) (top : ℕ) (s : Searched size targets marks (rest ++ top ∷ []) order) where
  pub finished : (place : ℕ) → slice_get marks top ≡ Some (Open place) → slice_get (targets top) place ≡ None → Searched size targets (set marks top Done) rest (order ++ top ∷ [])
  finished place open_ none = record {
    covers = length-set marks top Done ∙ s.covers;
    done = λ i v h. done i v (push_cases order top i v h);
    done_in = λ v h. done_in v (write_cases marks top Done v Done has h);
    done_once = λ i j v h k. once i j v (push_cases order top i v h) (push_cases order top j v k);
    after = λ i v w h r. after i v w r (push_cases order top i v h);
    open_at = open_at;
    open_in = λ v k h. open_in v k (write_cases marks top Done v (Open k) has h);
    open_once = λ i j v h k. s.open_once i j v (push_left rest (top ∷ []) i v h) (push_left rest (top ∷ []) j v k);
    steps = λ i v w h k. s.steps i v w (push_left rest (top ∷ []) i v h) (push_left rest (top ∷ []) (i + 1) w k);
    seen = λ v w k j h jk r. seen v w k j jk r (write_cases marks top Done v (Open k) has h);
  }
    where
      has : top < length marks
      has = slice_get_within marks top (Open place) open_

      stays : (v : ℕ) → slice_get marks v ≡ Some Done → slice_get (set marks top Done) v ≡ Some Done
      stays v h = kept marks top (Open place) Done open_ v Done (λ e. cc) h

      not_done : (i : ℕ) → slice_get order i ≡ Some top → ⊥
      not_done i h = let f : Open place ≡ Done = two_items marks top (Open place) Done open_ (s.done i top h) in cc

      done : (i v : ℕ) → PushedOr order top i v → slice_get (set marks top Done) v ≡ Some Done
      done i v (inl h) = stays v (s.done i v h)
      done i v (inr (e, f)) = subst (λ (x : ℕ). slice_get (set marks top Done) x ≡ Some Done) f (write_same marks top Done has)

      done_in : (v : ℕ) → WrittenOr marks top Done v Done → (i : ℕ) × (slice_get (order ++ top ∷ []) i ≡ Some v)
      done_in v (inl (e, f)) = (length order, push_end order top ∙ ap Some (sym e))
      done_in v (inr (n, h)) = let o = s.done_in v h in (o.0, push_left order (top ∷ []) o.0 v o.1)

      once : (i j v : ℕ) → PushedOr order top i v → PushedOr order top j v → i ≡ j
      once i j v (inl h) (inl k) = s.done_once i j v h k
      once i j v (inl h) (inr (e, f)) = absurd (not_done i (h ∙ ap Some (sym f)))
      once i j v (inr (e, f)) (inl k) = absurd (not_done j (k ∙ ap Some (sym f)))
      once i j v (inr (e, f)) (inr (g, w)) = e ∙ sym g

      -- each of its targets was seen
      low : (j w : ℕ) → slice_get (targets top) j ≡ Some w → (j < place) ⊎ (place ≤ j) → j < place
      low j w is (inl l) = l
      low j w is (inr l) =
          let past = there (targets top) place (omega (arith, l, slice_get_within (targets top) j w is)) in
          absurd (none-some past.0 (sym none ∙ past.1))

      after : (i v w : ℕ) → HasTarget targets v w → PushedOr order top i v → (j : ℕ) × (j < i) × (slice_get (order ++ top ∷ []) j ≡ Some w)
      after i v w r (inl h) = let a = s.after i v w h r in (a.0, a.1, push_left order (top ∷ []) a.0 w a.2)
      after i v w r (inr (e, f)) =
          let is : slice_get (targets top) r.place ≡ Some w = ap (λ x. slice_get (targets x) r.place) f ∙ r.is in
          let o = s.done_in w (s.seen top w place r.place open_ (low r.place w is (cases_lt r.place place)) is) in
          let before : o.0 < i = omega (arith, e, slice_get_within order o.0 w o.1) in
          (o.0, before, push_left order (top ∷ []) o.0 w o.1)

      open_at : (i v : ℕ) → slice_get rest i ≡ Some v → (k : ℕ) × (slice_get (set marks top Done) v ≡ Some (Open k))
      open_at i v h =
          let at_path = push_left rest (top ∷ []) i v h in
          let o = s.open_at i v at_path in
          let other : v ≡ top → ⊥ = λ e. omega (arith, slice_get_within rest i v h, s.open_once i (length rest) top (at_path ∙ ap Some e) (push_end rest top)) in
          (o.0, write_other marks top Done v other ∙ o.1)

      open_in : (v k : ℕ) → WrittenOr marks top Done v (Open k) → (i : ℕ) × (slice_get rest i ≡ Some v)
      open_in v k (inl (e, f)) = cc
      open_in v k (inr (n, h)) = let o = s.open_in v k h in by o.0 (push_cases rest top o.0 v o.1)
        where
          by : (i : ℕ) → PushedOr rest top i v → (i : ℕ) × (slice_get rest i ≡ Some v)
          by i (inl g) = (i, g)
          by i (inr (e, f)) = absurd (n (sym f))

      seen : (v w k j : ℕ) → j < k → slice_get (targets v) j ≡ Some w → WrittenOr marks top Done v (Open k) → slice_get (set marks top Done) w ≡ Some Done
      seen v w k j jk r (inl (e, f)) = cc
      seen v w k j jk r (inr (n, h)) = stays w (s.seen v w k j h jk r)
