-- The stack of those that wait and their marks keep together.
use Rattle.std.proofs.Common.{◌≡◌, ℕ, zero, suc, ◌+◌, ◌-◌, ◌<◌, ◌≤◌, List, [], ◌∷◌, ◌++◌, Bool, true, false, Some, length, set, get_or, replicate, refl, sym, ap, ◌∙◌, subst, inl, inr, ◌⊎◌, arith, length-set}
use Rattle.std.specs.Prelude.{slice_get}
use Rattle.std.proofs.lemmas.Bool.{cases_eq}
use Rattle.std.proofs.lemmas.List.{length-replicate}
use Rattle.std.proofs.lemmas.Option.{none-some, same_Some, slice_get_within, slice_get-get_or, get_or_from_slice_get}
use Rattle.fir_least_widths.specs.working.Waiting.{Waits, IsStackOf, NoneWaits, PlacesWithin, waiting_count, AllWait}
use Rattle.fir_base.proofs.Writes.{PushedOr, WrittenOr, push_left, push_end, push_cases, write_same, write_other, write_cases, get-replicate}

-- the last is popped
module _ (waits : List Bool) (stack rest : List ℕ) (place : ℕ) (s : IsStackOf waits stack) (popped : stack ≡ rest ++ place ∷ []) where
  t : IsStackOf waits (rest ++ place ∷ [])
  t = subst (λ (xs : List ℕ). IsStackOf waits xs) popped s

  pub pop_waited : Waits waits place
  pop_waited = t.only (length rest) place (push_end rest place)

  pub pop_keeps : IsStackOf (set waits place false) rest
  pop_keeps = record { each = λ p w. each p (write_cases waits place false p true within w); only = only; once = λ i j p h k. t.once i j p (push_left rest (place ∷ []) i p h) (push_left rest (place ∷ []) j p k) }
    where
      within : place < length waits
      within = slice_get_within waits place true pop_waited

      found : (p : ℕ) → (p ≡ place → ⊥) → (i : ℕ) → PushedOr rest place i p → (i : ℕ) × (slice_get rest i ≡ Some p)
      found p n i (inl h) = (i, h)
      found p n i (inr (e, f)) = absurd (n (sym f))

      each : (p : ℕ) → WrittenOr waits place false p true → (i : ℕ) × (slice_get rest i ≡ Some p)
      each p (inl (e, f)) = absurd (let c : false ≡ true = f in cc)
      each p (inr (n, w)) = let at = t.each p w in found p n at.0 (push_cases rest place at.0 p at.1)

      only : (i p : ℕ) → slice_get rest i ≡ Some p → Waits (set waits place false) p
      only i p h = by (cases_eq p place)
        where
          by : (p ≡ place) ⊎ (p ≡ place → ⊥) → Waits (set waits place false) p
          by (inr n) = write_other waits place false p n ∙ t.only i p (push_left rest (place ∷ []) i p h)
          by (inl e) =
              let last : i ≡ length rest = t.once i (length rest) place (push_left rest (place ∷ []) i place (h ∙ ap Some e)) (push_end rest place) in
              absurd (omega (arith, last, slice_get_within rest i p h))

pub none_waits : (waits : List Bool) → IsStackOf waits [] → NoneWaits waits
none_waits waits s = record { none = λ p w. let at = s.each p w in none-some p at.1 }

-- one that did not wait is pushed
pub push_keeps : (waits : List Bool) (stack : List ℕ) (place : ℕ) → place < length waits → (Waits waits place → ⊥) → IsStackOf waits stack → IsStackOf (set waits place true) (stack ++ place ∷ [])
push_keeps waits stack place within fresh s = record { each = λ p w. each p (write_cases waits place true p true within w); only = λ i p h. only i p (push_cases stack place i p h); once = λ i j p h k. once i j p (push_cases stack place i p h) (push_cases stack place j p k) }
  where
    each : (p : ℕ) → WrittenOr waits place true p true → (i : ℕ) × (slice_get (stack ++ place ∷ []) i ≡ Some p)
    each p (inl (e, f)) = (length stack, push_end stack place ∙ ap Some (sym e))
    each p (inr (n, w)) = let at = s.each p w in (at.0, push_left stack (place ∷ []) at.0 p at.1)

    stays : (p : ℕ) → Waits waits p → Waits (set waits place true) p
    stays p w = write_other waits place true p (λ e. fresh (ap (slice_get waits) (sym e) ∙ w)) ∙ w

    only : (i p : ℕ) → PushedOr stack place i p → Waits (set waits place true) p
    only i p (inl h) = stays p (s.only i p h)
    only i p (inr (e, f)) = ap (slice_get (set waits place true)) (sym f) ∙ write_same waits place true within

    other : (i p : ℕ) → slice_get stack i ≡ Some p → place ≡ p → ⊥
    other i p h e = fresh (ap (slice_get waits) e ∙ s.only i p h)

    once : (i j p : ℕ) → PushedOr stack place i p → PushedOr stack place j p → i ≡ j
    once i j p (inl h) (inl k) = s.once i j p h k
    once i j p (inl h) (inr (e, f)) = absurd (other i p h f)
    once i j p (inr (e, f)) (inl k) = absurd (other j p k f)
    once i j p (inr (e, f)) (inr (g, h)) = e ∙ sym g

pub not_waits : (waits : List Bool) (p : ℕ) (b : Bool) → p < length waits → b ≡ get_or waits p b → b ≡ false → Waits waits p → ⊥
not_waits waits p b within is unset w =
    let same : get_or waits p b ≡ true = get_or_from_slice_get waits p true b w in
    let c : true ≡ false = sym same ∙ sym is ∙ unset in
    cc

-- all wait, the first on top
pub all_wait : (stack : List ℕ) (n i : ℕ) → n ≤ i → i ≤ n → length stack ≡ i → ((k : ℕ) → k < i → slice_get stack k ≡ Some (n - 1 - k)) → IsStackOf (replicate n true) stack
all_wait stack n i le ge long each = record { each = λ p w. there p (short p w); only = λ k p h. get-replicate n p true (behind k p h); once = once }
  where
    short : (p : ℕ) → Waits (replicate n true) p → p < n
    short p w = omega (arith, slice_get_within (replicate n true) p true w, length-replicate n true)

    turned : (p : ℕ) → p < n → n - 1 - (n - 1 - p) ≡ p
    turned p lt = omega arith

    there : (p : ℕ) → p < n → (k : ℕ) × (slice_get stack k ≡ Some p)
    there p lt = (n - 1 - p, each (n - 1 - p) (omega arith) ∙ ap Some (turned p lt))

    at : (k p : ℕ) → slice_get stack k ≡ Some p → n - 1 - k ≡ p
    at k p h = same_Some (n - 1 - k) p (sym (each k (omega (arith, slice_get_within stack k p h))) ∙ h)

    behind : (k p : ℕ) → slice_get stack k ≡ Some p → p < n
    behind k p h = omega (arith, at k p h, slice_get_within stack k p h)

    once : (k j p : ℕ) → slice_get stack k ≡ Some p → slice_get stack j ≡ Some p → k ≡ j
    once k j p h l = omega (arith, at k p h, at j p l, slice_get_within stack k p h, slice_get_within stack j p l)

pub count_taken : (ws : List Bool) (p : ℕ) → Waits ws p → waiting_count (set ws p false) + 1 ≡ waiting_count ws
count_taken [] p h = absurd (none-some true h)
count_taken (true ∷ ws) zero h = omega arith
count_taken (false ∷ ws) zero h = absurd (let c : false ≡ true = same_Some false true h in cc)
count_taken (true ∷ ws) (suc p) h = omega (arith, count_taken ws p h)
count_taken (false ∷ ws) (suc p) h = count_taken ws p h

count_added : (ws : List Bool) (p : ℕ) → waiting_count (set ws p true) ≤ waiting_count ws + 1
count_added [] p = omega arith
count_added (true ∷ ws) zero = omega arith
count_added (false ∷ ws) zero = omega arith
count_added (true ∷ ws) (suc p) = omega (arith, count_added ws p)
count_added (false ∷ ws) (suc p) = count_added ws p

pub none_added : (waits : List Bool) (places : List ℕ) → AllWait waits waits places 0
none_added waits places = record { long = refl; keeps = λ p w. w; has = λ i p lt. absurd (omega (arith, lt)); room = omega arith }

-- one more of the places waits
pub one_added : (old middle : List Bool) (places : List ℕ) (n : ℕ) → PlacesWithin places (length old) → n < length places → AllWait old middle places n → AllWait old (set middle (get_or places n 0) true) places (n + 1)
one_added old middle places n w lt a = record { long = length-set middle place true ∙ a.long; keeps = λ p h. stays p (a.keeps p h); has = λ i p less h. has i p less h (cases_eq i n); room = omega (arith, a.room, count_added middle place) }
  where
    place : ℕ
    place = get_or places n 0

    here : slice_get places n ≡ Some place
    here = slice_get-get_or places n 0 lt

    added : Waits (set middle place true) place
    added = write_same middle place true (omega (arith, a.long, w.each n place here))

    stays : (p : ℕ) → Waits middle p → Waits (set middle place true) p
    stays p h = by (cases_eq p place)
      where
        by : (p ≡ place) ⊎ (p ≡ place → ⊥) → Waits (set middle place true) p
        by (inl e) = ap (slice_get (set middle place true)) e ∙ added
        by (inr m) = write_other middle place true p m ∙ h

    has : (i p : ℕ) → i < n + 1 → slice_get places i ≡ Some p → (i ≡ n) ⊎ (i ≡ n → ⊥) → Waits (set middle place true) p
    has i p less h (inr m) = stays p (a.has i p (omega (arith, m)) h)
    has i p less h (inl e) =
        let same : p ≡ place = same_Some p place (sym h ∙ ap (slice_get places) e ∙ here) in
        ap (slice_get (set middle place true)) same ∙ added
