-- A graph in which one stands in the list of another, or each in the list of the other.
use Rattle.std.proofs.Common.{◌≡◌, ℕ, ◌<◌, List, [], ◌∷◌, ◌++◌, Some, length, set, sym, ap, ◌∙◌, inl, inr, ◌⊎◌, ⊎_elim, arith, length-set, Vec, Global}
use Rattle.std.specs.Prelude.{slice_get}
use Rattle.std.proofs.lemmas.Bool.{cases_eq}
use Rattle.std.proofs.lemmas.Option.{same_Some, slice_get_within}
use Rattle.fir_base.proofs.Writes.{PushedOr, WrittenOr, push_left, push_end, push_cases, write_same, write_other, write_cases}
use Rattle.fir_infer_resets.specs.working.ResetGraphs.{IsJoined}
use Rattle.fir_infer_resets.specs.working.Adding.{AddsOne, AddsBoth}

-- one list has grown by one
module _ (old : List (Vec ℕ Global)) (one other : ℕ) (before after : Vec ℕ Global) (here : slice_get old one ≡ Some before) (pushed : after.items ≡ before.items ++ other ∷ []) where
  within : one < length old
  within = slice_get_within old one before here

  -- an element of the list that has grown, by its index
  at_after : (index : ℕ) → slice_get after.items index ≡ slice_get (before.items ++ other ∷ []) index
  at_after index = ap (λ xs. slice_get xs index) pushed

  keeps : (x y : ℕ) → IsJoined old x y → IsJoined (set old one after) x y
  keeps x y r = by (cases_eq x one)
    where
      by : (x ≡ one) ⊎ (x ≡ one → ⊥) → IsJoined (set old one after) x y
      by (inr n) = record { list = r.list; at = write_other old one after x n ∙ r.at; index = r.index; is = r.is }
      by (inl e) =
          let same : r.list ≡ before = same_Some r.list before (sym r.at ∙ ap (slice_get old) e ∙ here) in
          let was : slice_get before.items r.index ≡ Some y = ap (λ (l : Vec ℕ Global). slice_get l.items r.index) (sym same) ∙ r.is in
          record {
            list = after;
            at = ap (slice_get (set old one after)) e ∙ write_same old one after within;
            index = r.index;
            is = at_after r.index ∙ push_left before.items (other ∷ []) r.index y was;
          }

  from : (x y : ℕ) → IsJoined (set old one after) x y → IsJoined old x y ⊎ ((x ≡ one) × (y ≡ other))
  from x y r = by (write_cases old one after x r.list within r.at)
    where
      last : x ≡ one → PushedOr before.items other r.index y → IsJoined old x y ⊎ ((x ≡ one) × (y ≡ other))
      last e (inl h) = inl (record { list = before; at = ap (slice_get old) e ∙ here; index = r.index; is = h })
      last e (inr (f, g)) = inr (e, sym g)

      by : WrittenOr old one after x r.list → IsJoined old x y ⊎ ((x ≡ one) × (y ≡ other))
      by (inr (n, h)) = inl (record { list = r.list; at = h; index = r.index; is = r.is })
      by (inl (e, f)) = last e (push_cases before.items other r.index y (sym (at_after r.index) ∙ ap (λ (l : Vec ℕ Global). slice_get l.items r.index) f ∙ r.is))

  pub adds_one : AddsOne old (set old one after) one other
  adds_one =
      record {
        long = length-set old one after;
        kept = keeps;
        from = from;
        added = λ h. record {
          list = after;
          at = write_same old one after within;
          index = length before.items;
          is = at_after (length before.items) ∙ push_end before.items other;
        };
      }

pub adds_both : (old middle new : List (Vec ℕ Global)) (one other : ℕ) → AddsOne old middle one other → AddsOne middle new other one → AddsBoth old new one other
adds_both old middle new one other a b = record {
  long = b.long ∙ a.long;
  kept = λ x y j. b.kept x y (a.kept x y j);
  from = λ x y j. from x y (b.from x y j);
  added = λ h. b.kept one other (a.added h);
  back = λ h. b.added (omega (arith, h, a.long));
}
  where
    from : (x y : ℕ) → IsJoined middle x y ⊎ ((x ≡ other) × (y ≡ one)) → IsJoined old x y ⊎ ((x ≡ one) × (y ≡ other)) ⊎ ((x ≡ other) × (y ≡ one))
    from x y (inr e) = inr (inr e)
    from x y (inl j) = ⊎_elim (λ (k : IsJoined old x y). inl k) (λ (e : (x ≡ one) × (y ≡ other)). inr (inl e)) (a.from x y j)
