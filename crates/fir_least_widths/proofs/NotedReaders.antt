-- A place that is noted at an unknown, and those that were noted before.
use Rattle.std.proofs.Common.{◌≡◌, ℕ, ◌+◌, ◌<◌, ◌≤◌, List, [], ◌∷◌, ◌++◌, Some, length, set, get_or, sym, ap, ◌∙◌, subst, inl, inr, ◌⊎◌, arith, length-set, Vec, Global}
use Rattle.std.specs.Prelude.{slice_get}
use Rattle.std.proofs.lemmas.Bool.{cases_eq}
use Rattle.std.proofs.lemmas.Option.{none-some, same_Some, slice_get_within, slice_get-get_or}
use Rattle.fir_base.specs.Lists.{In}
use Rattle.fir_least_widths.specs.declared.bound.Bound.{Bound}
use Rattle.fir_least_widths.specs.working.Bounds.{reads}
use Rattle.fir_least_widths.specs.working.Readers.{IsReader, Notes, AllRead, ReadersWithin}
use Rattle.fir_base.proofs.Writes.{PushedOr, WrittenOr, push_left, push_end, push_cases, write_same, write_other, write_cases}

-- one list has grown by the place
module _ (old : List (Vec ℕ Global)) (unknown place : ℕ) (before after : Vec ℕ Global) (here : slice_get old unknown ≡ Some before) (pushed : after.items ≡ before.items ++ place ∷ []) where
  within : unknown < length old
  within = slice_get_within old unknown before here

  -- an element of the list that has grown, by its index
  at_after : (index : ℕ) → slice_get after.items index ≡ slice_get (before.items ++ place ∷ []) index
  at_after index = ap (λ xs. slice_get xs index) pushed

  keeps : (v p : ℕ) → IsReader old v p → IsReader (set old unknown after) v p
  keeps v p r = by (cases_eq v unknown)
    where
      by : (v ≡ unknown) ⊎ (v ≡ unknown → ⊥) → IsReader (set old unknown after) v p
      by (inr n) = record { list = r.list; at = write_other old unknown after v n ∙ r.at; index = r.index; is = r.is }
      by (inl e) =
          let same : r.list ≡ before = same_Some r.list before (sym r.at ∙ ap (slice_get old) e ∙ here) in
          let was : slice_get before.items r.index ≡ Some p = ap (λ (l : Vec ℕ Global). slice_get l.items r.index) (sym same) ∙ r.is in
          record {
            list = after;
            at = ap (slice_get (set old unknown after)) e ∙ write_same old unknown after within;
            index = r.index;
            is = at_after r.index ∙ push_left before.items (place ∷ []) r.index p was;
          }

  only : (v p : ℕ) → IsReader (set old unknown after) v p → IsReader old v p ⊎ (p ≡ place)
  only v p r = by (write_cases old unknown after v r.list within r.at)
    where
      last : v ≡ unknown → PushedOr before.items place r.index p → IsReader old v p ⊎ (p ≡ place)
      last e (inl h) = inl (record { list = before; at = ap (slice_get old) e ∙ here; index = r.index; is = h })
      last e (inr (f, g)) = inr (sym g)

      by : WrittenOr old unknown after v r.list → IsReader old v p ⊎ (p ≡ place)
      by (inr (n, h)) = inl (record { list = r.list; at = h; index = r.index; is = r.is })
      by (inl (e, f)) = last e (push_cases before.items place r.index p (sym (at_after r.index) ∙ ap (λ (l : Vec ℕ Global). slice_get l.items r.index) f ∙ r.is))

  has : (v : ℕ) → In (unknown ∷ []) v → IsReader (set old unknown after) v place
  has v (inr f) = absurd f
  has v (inl e) =
      record {
        list = after;
        at = ap (slice_get (set old unknown after)) (sym e) ∙ write_same old unknown after within;
        index = length before.items;
        is = at_after (length before.items) ∙ push_end before.items place;
      }

  pub noted : Notes old (set old unknown after) (unknown ∷ []) place
  noted = record { long = length-set old unknown after; keeps = keeps; has = has; only = only }

pub noted_two : (old middle new : List (Vec ℕ Global)) (u v place : ℕ) → Notes old middle (u ∷ []) place → Notes middle new (v ∷ []) place → Notes old new (u ∷ v ∷ []) place
noted_two old middle new u v place a b = record { long = b.long ∙ a.long; keeps = λ w p r. b.keeps w p (a.keeps w p r); has = has; only = λ w p r. only w p (b.only w p r) }
  where
    only : (w p : ℕ) → IsReader middle w p ⊎ (p ≡ place) → IsReader old w p ⊎ (p ≡ place)
    only w p (inl r) = a.only w p r
    only w p (inr e) = inr e

    has : (w : ℕ) → In (u ∷ v ∷ []) w → IsReader new w place
    has w (inl e) = b.keeps w place (a.has w (inl e))
    has w (inr h) = b.has w h

-- one more bound is noted
pub all_read_more : (bounds : List Bound) (old new : List (Vec ℕ Global)) (n : ℕ) (d : Bound) → AllRead bounds old n → n < length bounds → Notes old new (reads (get_or bounds n d).term) n → AllRead bounds new (n + 1)
all_read_more bounds old new n d all lt a = record { each = λ i c u less is h. by i c u less is h (cases_eq i n) }
  where
    here : slice_get bounds n ≡ Some (get_or bounds n d)
    here = slice_get-get_or bounds n d lt

    by : (i : ℕ) (c : Bound) (u : ℕ) → i < n + 1 → slice_get bounds i ≡ Some c → In (reads c.term) u → (i ≡ n) ⊎ (i ≡ n → ⊥) → IsReader new u i
    by i c u less is h (inr m) = a.keeps u i (all.each i c u (omega (arith, m)) is h)
    by i c u less is h (inl e) =
        let same : c ≡ get_or bounds n d = same_Some c (get_or bounds n d) (sym is ∙ ap (slice_get bounds) e ∙ here) in
        let read : In (reads (get_or bounds n d).term) u = subst (λ (x : Bound). In (reads x.term) u) same h in
        subst (λ (k : ℕ). IsReader new u k) (sym e) (a.has u read)

pub all_read : (bounds : List Bound) (readers : List (Vec ℕ Global)) (n : ℕ) → AllRead bounds readers n → length bounds ≤ n → AllRead bounds readers (length bounds)
all_read bounds readers n all le = record { each = λ i b u less. all.each i b u (omega arith) }

pub within_more : (old new : List (Vec ℕ Global)) (unknowns : List ℕ) (n : ℕ) → ReadersWithin old n → Notes old new unknowns n → ReadersWithin new (n + 1)
within_more old new unknowns n w a = record { each = λ u p r. by u p (a.only u p r) }
  where
    by : (u p : ℕ) → IsReader old u p ⊎ (p ≡ n) → p < n + 1
    by u p (inl r) = omega (arith, w.each u p r)
    by u p (inr e) = omega arith

pub within_all : (readers : List (Vec ℕ Global)) (n m : ℕ) → ReadersWithin readers n → n ≤ m → ReadersWithin readers m
within_all readers n m w le = record { each = λ u p r. omega (arith, w.each u p r) }

-- one more empty list
pub none_more : (readers : List (Vec ℕ Global)) (list : Vec ℕ Global) → list.items ≡ [] → ReadersWithin readers 0 → ReadersWithin (readers ++ list ∷ []) 0
none_more readers list e w = record { each = λ u p r. by u p r (push_cases readers list u r.list r.at) }
  where
    by : (u p : ℕ) → (r : IsReader (readers ++ list ∷ []) u p) → PushedOr readers list u r.list → p < 0
    by u p r (inl h) = w.each u p (record { list = r.list; at = h; index = r.index; is = r.is })
    by u p r (inr (f, g)) = absurd (none-some p (ap (λ xs. slice_get xs r.index) (sym e) ∙ ap (λ (l : Vec ℕ Global). slice_get l.items r.index) g ∙ r.is))

pub none_yet : ReadersWithin [] 0
none_yet = record { each = λ u p r. absurd (none-some r.list r.at) }
