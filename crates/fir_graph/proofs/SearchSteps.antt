-- A step of a search keeps what it knows, and leaves fewer steps.
use Rattle.std.proofs.Common.{◌≡◌, ℕ, ◌+◌, ◌<◌, List, [], ◌∷◌, ◌++◌, Some, None, length, drop, set, sym, ap, ◌∙◌, subst, inl, inr, arith}
use Rattle.std.specs.Prelude.{slice_get, slice_set}
use Rattle.std.proofs.lemmas.Option.{none-some, same_Some, slice_get_within}
use Rattle.fir_graph.specs.working.HasTarget.{HasTarget}
use Rattle.fir_graph.specs.working.IsCircle.{IsCircle}
use Rattle.fir_graph.specs.declared.marks.Mark.{Mark}
use Rattle.fir_graph.specs.declared.marks.Mark.TheVariants.{New, Open, Done}
use Rattle.fir_graph.specs.declared.search.Search.{Search}
use Rattle.fir_graph.specs.working.Searched.{Searched, Knows, IsIdle, IsLast, IsMet, Stepped, Entered, Finished}
use Rattle.fir_base.proofs.Writes.{write_same, WrittenOr, write_cases, two_items}
use Rattle.fir_graph.proofs.StepsLeft.{steps_change}
use Rattle.fir_graph.proofs.Closing.{closes}
use Rattle.fir_graph.proofs.Opening.{entered}
use Rattle.fir_graph.proofs.Advancing.{advanced}
use Rattle.fir_graph.proofs.Finishing.{finished}

-- what was met stays so
met_set : (marks : List Mark) (v : ℕ) (m : Mark) (u : ℕ) → v < length marks → (m ≡ New → ⊥) → IsMet marks u → IsMet (set marks v m) u
met_set marks v m u has old h new = by (write_cases marks v m u New has new)
  where
    by : WrittenOr marks v m u New → ⊥
    by (inl (e, f)) = old f
    by (inr (n, k)) = h k

-- one step at the last of the path
module _ (size : ℕ) (targets : ℕ → List ℕ) (s : Search) (top place : ℕ) (knows : Knows size targets s) (last : IsLast s.path.items top) (open_ : slice_get s.marks top ≡ Some (Open place)) where
  last_has : (w : ℕ) → Some w ≡ slice_get (targets top) place → (i x : ℕ) → slice_get s.path.items i ≡ Some x → i + 1 ≡ length s.path.items → HasTarget targets x w
  last_has w r i x h l =
      let same : i ≡ last.place = omega (arith, last.last, l) in
      let e : top ≡ x = same_Some top x (sym last.at ∙ ap (slice_get s.path.items) (sym same) ∙ h) in
      subst (λ (y : ℕ). HasTarget targets y w) e (record { place = place; is = sym r })

  pub step_finishes : (new : Search) → None ≡ slice_get (targets top) place → Finished s new top → Stepped size targets s new
  step_finishes new r f =
      let before : Searched size targets s.marks (new.path.items ++ top ∷ []) s.order.items = subst (λ (p : List ℕ). Searched size targets s.marks p s.order.items) f.path knows in
      record {
        knows = rw (f.marks, f.order) (finished size targets s.marks new.path.items s.order.items top before place open_ (sym r));
        fewer = rw f.marks (omega (arith, steps_change targets s.marks top (Open place) Done open_));
        met = λ v h. rw f.marks (met_set s.marks top Done v (slice_get_within s.marks top (Open place) open_) (λ e. cc) h);
      }

  pub step_enters : (new : Search) (w : ℕ) → Some w ≡ slice_get (targets top) place → slice_get s.marks w ≡ Some New → Entered s new w → Stepped size targets s new
  step_enters new w r is f = record {
    knows = rw (f.marks, f.path, f.order) (entered size targets s.marks s.path.items s.order.items knows w is (last_has w r));
    fewer = rw f.marks (omega (arith, steps_change targets s.marks w New (Open 0) is));
    met = λ v h. rw f.marks (met_set s.marks w (Open 0) v (slice_get_within s.marks w New is) (λ e. cc) h);
  }

  pub step_advances : (new : Search) (w : ℕ) → Some w ≡ slice_get (targets top) place → slice_get s.marks w ≡ Some Done → new.marks ≡ slice_set s.marks top (Open (place + 1)) → new.path.items ≡ s.path.items → new.order.items ≡ s.order.items → Stepped size targets s new
  step_advances new w r is em ep eo = record {
    knows = rw (em, ep, eo) (advanced size targets s.marks s.path.items s.order.items knows top w place open_ (sym r) is);
    fewer = rw em (omega (arith, steps_change targets s.marks top (Open place) (Open (place + 1)) open_, slice_get_within (targets top) place w (sym r)));
    met = λ v h. rw em (met_set s.marks top (Open (place + 1)) v (slice_get_within s.marks top (Open place) open_) (λ e. cc) h);
  }

  pub step_closes : (w : ℕ) (circle : List ℕ) → Some w ≡ slice_get (targets top) place → (i : ℕ) × (slice_get s.path.items i ≡ Some w) × (circle ≡ drop i s.path.items) → IsCircle targets circle
  step_closes w circle r c = rw c.2 (closes targets s.path.items knows.open_once knows.steps c.0 w c.1 (last_has w r))

-- a root that is new is opened first
pub root_enters : (size : ℕ) (targets : ℕ → List ℕ) (s new : Search) (root : ℕ) → IsIdle size targets s → slice_get s.marks root ≡ Some New → Entered s new root → Knows size targets new
root_enters size targets s new root i is f =
    let first : (j x : ℕ) → slice_get s.path.items j ≡ Some x → j + 1 ≡ length s.path.items → HasTarget targets x root =
    λ j x h l. absurd (none-some x (ap (λ p. slice_get p j) (sym i.idle) ∙ h))
    in
    rw (f.marks, f.path, f.order) (entered size targets s.marks s.path.items s.order.items i.knows root is first)

pub root_met : (s new : Search) (root : ℕ) → slice_get s.marks root ≡ Some New → Entered s new root → (v : ℕ) → IsMet s.marks v → IsMet new.marks v
root_met s new root is f v h = rw f.marks (met_set s.marks root (Open 0) v (slice_get_within s.marks root New is) (λ e. cc) h)

pub root_is_met : (s new : Search) (root : ℕ) → slice_get s.marks root ≡ Some New → Entered s new root → IsMet new.marks root
root_is_met s new root is f k =
    let e : Open 0 ≡ New = two_items (set s.marks root (Open 0)) root (Open 0) New (write_same s.marks root (Open 0) (slice_get_within s.marks root New is)) (ap (λ m. slice_get m root) (sym f.marks) ∙ k) in
    cc
