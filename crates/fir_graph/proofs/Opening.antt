-- A vertex that is new is opened.
use Rattle.std.proofs.Common.{◌≡◌, ℕ, ◌+◌, ◌<◌, List, [], ◌∷◌, ◌++◌, Some, length, length-set, set, sym, ap, ◌∙◌, subst, inl, inr, arith}
use Rattle.std.specs.Prelude.{slice_get}
use Rattle.std.proofs.lemmas.Option.{slice_get_within}
use Rattle.fir_graph.specs.working.HasTarget.{HasTarget}
use Rattle.fir_graph.specs.declared.marks.Mark.{Mark}
use Rattle.fir_graph.specs.declared.marks.Mark.TheVariants.{New, Open, Done}
use Rattle.fir_graph.specs.working.Searched.{Searched}
use Rattle.fir_base.proofs.Writes.{PushedOr, push_left, push_end, push_cases, write_same, WrittenOr, write_cases, two_items, kept}

pub same_open : (a b : ℕ) → ◌≡◌ {A = Mark} (Open a) (Open b) → a ≡ b
same_open a b h = cc

module _ (size : ℕ) (targets : ℕ → List ℕ) (marks : List Mark) (path order : List ℕ) (s : Searched size targets marks path order) where
  -- one that is new is opened, a target of the last of the path
  pub entered : (v : ℕ) → slice_get marks v ≡ Some New → ((i x : ℕ) → slice_get path i ≡ Some x → i + 1 ≡ length path → HasTarget targets x v) → Searched size targets (set marks v (Open 0)) (path ++ v ∷ []) order
  entered v new last = record {
    covers = length-set marks v (Open 0) ∙ s.covers;
    done = λ i u h. stays u Done (λ e. cc) (s.done i u h);
    done_in = λ u h. done_in u (write_cases marks v (Open 0) u Done has h);
    done_once = s.done_once;
    after = s.after;
    open_at = λ i u h. open_at i u (push_cases path v i u h);
    open_in = λ u k h. open_in u k (write_cases marks v (Open 0) u (Open k) has h);
    open_once = λ i j u h k. once i j u (push_cases path v i u h) (push_cases path v j u k);
    steps = λ i u w h k. steps i u w (push_cases path v i u h) (push_cases path v (i + 1) w k);
    seen = λ u w k j h jk r. seen u w k j jk r (write_cases marks v (Open 0) u (Open k) has h);
  }
    where
      has : v < length marks
      has = slice_get_within marks v New new

      stays : (u : ℕ) (m : Mark) → (New ≡ m → ⊥) → slice_get marks u ≡ Some m → slice_get (set marks v (Open 0)) u ≡ Some m
      stays u m n h = kept marks v New (Open 0) new u m n h

      done_in : (u : ℕ) → WrittenOr marks v (Open 0) u Done → (i : ℕ) × (slice_get order i ≡ Some u)
      done_in u (inl (e, f)) = cc
      done_in u (inr (n, h)) = s.done_in u h

      open_at : (i u : ℕ) → PushedOr path v i u → (k : ℕ) × (slice_get (set marks v (Open 0)) u ≡ Some (Open k))
      open_at i u (inl h) = let o = s.open_at i u h in (o.0, stays u (Open o.0) (λ e. cc) o.1)
      open_at i u (inr (e, f)) = (0, subst (λ (x : ℕ). slice_get (set marks v (Open 0)) x ≡ Some (Open 0)) f (write_same marks v (Open 0) has))

      open_in : (u k : ℕ) → WrittenOr marks v (Open 0) u (Open k) → (i : ℕ) × (slice_get (path ++ v ∷ []) i ≡ Some u)
      open_in u k (inl (e, f)) = (length path, push_end path v ∙ ap Some (sym e))
      open_in u k (inr (n, h)) = let o = s.open_in u k h in (o.0, push_left path (v ∷ []) o.0 u o.1)

      fresh : (i : ℕ) → slice_get path i ≡ Some v → ⊥
      fresh i h = let o = s.open_at i v h in let e : New ≡ Open o.0 = two_items marks v New (Open o.0) new o.1 in cc

      once : (i j u : ℕ) → PushedOr path v i u → PushedOr path v j u → i ≡ j
      once i j u (inl h) (inl k) = s.open_once i j u h k
      once i j u (inl h) (inr (e, f)) = absurd (fresh i (h ∙ ap Some (sym f)))
      once i j u (inr (e, f)) (inl k) = absurd (fresh j (k ∙ ap Some (sym f)))
      once i j u (inr (e, f)) (inr (g, w)) = e ∙ sym g

      steps : (i u w : ℕ) → PushedOr path v i u → PushedOr path v (i + 1) w → HasTarget targets u w
      steps i u w (inl h) (inl k) = s.steps i u w h k
      steps i u w (inl h) (inr (e, f)) = subst (HasTarget targets u) f (last i u h e)
      steps i u w (inr (e, f)) (inl k) = absurd (omega (arith, e, slice_get_within path (i + 1) w k))
      steps i u w (inr (e, f)) (inr (g, t)) = absurd (omega (arith, e, g))

      seen : (u w k j : ℕ) → j < k → slice_get (targets u) j ≡ Some w → WrittenOr marks v (Open 0) u (Open k) → slice_get (set marks v (Open 0)) w ≡ Some Done
      seen u w k j jk r (inl (e, f)) = absurd (omega (arith, jk, same_open 0 k f))
      seen u w k j jk r (inr (n, h)) = stays w Done (λ e. cc) (s.seen u w k j h jk r)
