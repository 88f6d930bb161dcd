-- Entries that stand behind what they read, and others put behind them.
use Rattle.std.proofs.Common.{◌≡◌, ℕ, zero, suc, ◌+◌, ◌<◌, ◌≤◌, List, [], ◌∷◌, ◌++◌, length, refl, sym, ap, ◌∙◌, subst, arith, ◌⊎◌, inl, inr, ⊎_elim}
use Rattle.std.specs.Prelude.{slice_get, Some}
use Rattle.std.proofs.lemmas.Option.{slice_get_within}
use Rattle.fir_base.specs.Lists.{In}
use Rattle.fir_base.proofs.Elements.{get_left, get_in, number_of}
use Rattle.fir_net.specs.declared.reads.Read.{Read}
use Rattle.fir_fold.specs.working.Walking.{ArePlaced, StandsBefore}

pub get_more : {A : Type 0} → (xs ys : List A) (k : ℕ) (x : A) → slice_get xs k ≡ Some x → slice_get (xs ++ ys) k ≡ Some x
get_more xs ys k x e = get_left xs ys k (slice_get_within xs k x e) ∙ e

-- an element is one of those before the last, or the last one
pub at_end : {A : Type 0} → (xs : List A) (x y : A) (k : ℕ) → slice_get (xs ++ x ∷ []) k ≡ Some y → (slice_get xs k ≡ Some y) ⊎ ((k ≡ length xs) × (x ≡ y))
at_end [] x y zero e = let same : x ≡ y = cc in inr (refl, same)
at_end [] x y (suc k) e = cc
at_end (z ∷ xs) x y zero e = inl e
at_end (z ∷ xs) x y (suc k) e =
    ⊎_elim (λ (h : slice_get xs k ≡ Some y). inl h) (λ (h : (k ≡ length xs) × (x ≡ y)). inr (ap suc h.0, h.1)) (at_end xs x y k e)

pub before_more : (xs ys : List Read) (m n : ℕ) (r : Read) → m ≤ n → StandsBefore xs m r → StandsBefore (xs ++ ys) n r
before_more xs ys m n r le h = record { place = h.place; before = omega (arith, le, h.before); is = get_more xs ys h.place r h.is }

pub sooner : (xs : List Read) (m n : ℕ) (r : Read) → m ≤ n → StandsBefore xs m r → StandsBefore xs n r
sooner xs m n r le h = record { place = h.place; before = omega (arith, le, h.before); is = h.is }

pub among : (xs : List Read) (n : ℕ) (r : Read) → StandsBefore xs n r → In xs r
among xs n r h = get_in xs h.place r h.is

pub before_end : (xs : List Read) (r : Read) → In xs r → StandsBefore xs (length xs) r
before_end xs r m = let n = number_of xs r m in record { place = n.0; before = slice_get_within xs n.0 r n.1; is = n.1 }

-- what is before the next place is before this one, or here
pub last_one : (xs : List Read) (n : ℕ) (v r : Read) → slice_get xs n ≡ Some v → StandsBefore xs (n + 1) r → StandsBefore xs n r ⊎ (v ≡ r)
last_one xs n v r at h = by (below h.place n h.before)
  where
    below : (a b : ℕ) → a < b + 1 → (a < b) ⊎ (a ≡ b)
    below zero zero l = inr refl
    below zero (suc b) l = inl (omega arith)
    below (suc a) zero l = absurd (omega (arith, l))
    below (suc a) (suc b) l = ⊎_elim (λ (x : a < b). inl (omega (arith, x))) (λ (x : a ≡ b). inr (ap suc x)) (below a b (omega (arith, l)))

    same : Some v ≡ Some r → v ≡ r
    same e = cc

    by : (h.place < n) ⊎ (h.place ≡ n) → StandsBefore xs n r ⊎ (v ≡ r)
    by (inl less) = inl (record { place = h.place; before = less; is = h.is })
    by (inr here) = inr (same (sym at ∙ ap (slice_get xs) (sym here) ∙ h.is))

-- the entries read the same by other words
pub placed_again : (reads anew : Read → List Read) (entries : List Read) → ArePlaced reads entries → ((v : Read) → In entries v → anew v ≡ reads v) → ArePlaced anew entries
placed_again reads anew entries h same = record {
  once = h.once;
  after = λ i v w at m. h.after i v w at (subst (λ (rs : List Read). In rs w) (same v (get_in entries i v at)) m);
}

-- one more entry, which reads what is there
pub placed_more : (reads : Read → List Read) (entries : List Read) (e : Read) → ArePlaced reads entries → (In entries e → ⊥) → ((w : Read) → In (reads e) w → In entries w)
    → ArePlaced reads (entries ++ e ∷ [])
placed_more reads entries e h new there = record { once = once; after = after }
  where
    once : (i j : ℕ) (v : Read) → slice_get (entries ++ e ∷ []) i ≡ Some v → slice_get (entries ++ e ∷ []) j ≡ Some v → i ≡ j
    once i j v a b = by (at_end entries e v i a) (at_end entries e v j b)
      where
        by : (slice_get entries i ≡ Some v) ⊎ ((i ≡ length entries) × (e ≡ v)) → (slice_get entries j ≡ Some v) ⊎ ((j ≡ length entries) × (e ≡ v)) → i ≡ j
        by (inl x) (inl y) = h.once i j v x y
        by (inl x) (inr y) = absurd (new (subst (In entries) (sym y.1) (get_in entries i v x)))
        by (inr x) (inl y) = absurd (new (subst (In entries) (sym x.1) (get_in entries j v y)))
        by (inr x) (inr y) = x.0 ∙ sym y.0

    after : (i : ℕ) (v w : Read) → slice_get (entries ++ e ∷ []) i ≡ Some v → In (reads v) w → StandsBefore (entries ++ e ∷ []) i w
    after i v w at m = by (at_end entries e v i at)
      where
        by : (slice_get entries i ≡ Some v) ⊎ ((i ≡ length entries) × (e ≡ v)) → StandsBefore (entries ++ e ∷ []) i w
        by (inl x) = before_more entries (e ∷ []) i i w (omega arith) (h.after i v w x m)
        by (inr x) =
            let here : In entries w = there w (subst (λ (r : Read). In (reads r) w) (sym x.1) m) in
            let end : length entries ≤ i = omega (arith, x.0) in
            before_more entries (e ∷ []) (length entries) i w end (before_end entries w here)
