-- A rise of a bound's unknown leaves the widths below every solution, and the bounds that do not read it as they were.
use Rattle.std.proofs.Common.{◌≡◌, ℕ, ◌<◌, ◌≤◌, List, Some, length, ap, ◌∙◌, subst, inl, inr, ◌⊎◌, arith, le_trans, length-set}
use Rattle.std.specs.Prelude.{slice_get, slice_index}
use Rattle.std.proofs.lemmas.Bool.{cases_eq}
use Rattle.std.proofs.lemmas.List.{get_or-set_same, get_or-set_other}
use Rattle.fir_base.specs.Lists.{In}
use Rattle.fir_bits.specs.working.Laws.{Monotone}
use Rattle.fir_least_widths.specs.declared.bound.Bound.{Bound}
use Rattle.fir_least_widths.specs.working.Bounds.{Holds, IsBelowAll, reads, term_width}
use Rattle.fir_meaning.specs.working.AssignedWidths.{assigned}
use Rattle.fir_least_widths.specs.working.Raises.{Rises}
use Rattle.fir_least_widths.proofs.Terms.{term_grows, term_same}

module _ (b : Bound) (old new : List ℕ) (within : b.unknown < length old) (r : Rises b old new) where
  pub same_length : length new ≡ length old
  same_length = ap length r.set ∙ length-set old b.unknown (term_width b.term (assigned old))

  pub risen : slice_index new b.unknown ≡ term_width b.term (assigned old)
  risen = ap (λ ws. slice_index ws b.unknown) r.set ∙ get_or-set_same old b.unknown (term_width b.term (assigned old)) 0 within

  pub others : (k : ℕ) → (k ≡ b.unknown → ⊥) → slice_index new k ≡ slice_index old k
  others k n = ap (λ ws. slice_index ws k) r.set ∙ get_or-set_other old b.unknown k (term_width b.term (assigned old)) 0 n

  pub still_below : Monotone → (bounds : List Bound) (place : ℕ) → slice_get bounds place ≡ Some b → IsBelowAll bounds (assigned old) → IsBelowAll bounds (assigned new)
  still_below law bounds place here below v m k = by (cases_eq k b.unknown)
    where
      by : (k ≡ b.unknown) ⊎ (k ≡ b.unknown → ⊥) → slice_index new k ≤ v k
      by (inl e) = rw (e, risen) (le_trans (term_grows law b.term (assigned old) v (below v m)) (m.each place b here))
      by (inr n) = rw (others k n) (below v m k)

  grown : (k : ℕ) → slice_index old k ≤ slice_index new k
  grown k = by (cases_eq k b.unknown)
    where
      by : (k ≡ b.unknown) ⊎ (k ≡ b.unknown → ⊥) → slice_index old k ≤ slice_index new k
      by (inl e) = rw (e, risen) (omega (arith, r.less))
      by (inr n) = rw (others k n) (omega arith)

  -- a bound that does not read the unknown has the width that it had
  unread : (c : Bound) → (In (reads c.term) b.unknown → ⊥) → term_width c.term (assigned new) ≡ term_width c.term (assigned old)
  unread c n = term_same c.term (assigned new) (assigned old) (λ k h. others k (λ e. n (subst (λ (x : ℕ). In (reads c.term) x) e h)))

  pub holds_still : (c : Bound) → (In (reads c.term) b.unknown → ⊥) → Holds c (assigned old) → Holds c (assigned new)
  holds_still c n h = rw (unread c n) (le_trans h (grown c.unknown))

  pub holds_now : (In (reads b.term) b.unknown → ⊥) → Holds b (assigned new)
  holds_now n = rw (unread b n, risen) (omega arith)
