-- The places of the first items of a list, and one more of them.
use Rattle.std.proofs.Common.{◌≡◌, ℕ, suc, ◌+◌, ◌<◌, ◌≤◌, List, [], ◌∷◌, ◌++◌, length, Some, Bool, if◌then◌else◌, ap, sym, ◌∙◌, arith, ◌⊎◌, inl, inr, length-append}
use Rattle.std.specs.Prelude.{slice_get}
use Rattle.std.proofs.lemmas.Bool.{cases_eq}
use Rattle.fir_base.proofs.Elements.{get_left}
use Rattle.fir_base.proofs.Writes.{push_end}
use Rattle.fir_drop_dead.specs.working.Numbers.{ArePlaces, place}
use Rattle.fir_drop_dead.proofs.KeptItems.{place_next, place_past, place_zero}

module _ (ms : List Bool) where
  pub no_places : (ps : List ℕ) → ps ≡ [] → ArePlaces ms 0 0 ps
  no_places ps none = record { long = ap length none; few = omega arith; all = sym (place_zero ms); each = λ k lt. absurd (omega arith) }

  pub one_place : (i count more : ℕ) (ps : List ℕ) (b : Bool) → slice_get ms i ≡ Some b → more ≡ (if b then suc count else count) → more ≤ i + 1
      → ArePlaces ms i count ps → ArePlaces ms (i + 1) more (ps ++ count ∷ [])
  one_place i count more ps b at is few so =
      let above : suc i ≡ i + 1 = omega arith in
      let next = place_next ms i b at in
      record {
        long = omega (arith, so.long, length-append ps (count ∷ []));
        few = few;
        all = is ∙ ap (λ (n : ℕ). if b then suc n else n) so.all ∙ sym next ∙ ap (place ms) above;
        each = λ k lt. by k lt (cases_eq k i);
      }
    where
      by : (k : ℕ) → k < i + 1 → (k ≡ i) ⊎ (k ≡ i → ⊥) → slice_get (ps ++ count ∷ []) k ≡ Some (place ms k)
      by k lt (inl e) =
          let last : k ≡ length ps = e ∙ sym so.long in
          ap (slice_get (ps ++ count ∷ [])) last ∙ push_end ps count ∙ ap Some (so.all ∙ ap (place ms) (sym e))
      by k lt (inr n) = get_left ps (count ∷ []) k (omega (arith, n, so.long)) ∙ so.each k (omega (arith, n))

  pub past_places : (i count k : ℕ) (ps : List ℕ) → i ≡ length ms → length ps ≤ k → ArePlaces ms i count ps → count ≡ place ms k
  past_places i count k ps all past so = so.all ∙ ap (place ms) all ∙ sym (place_past ms k (omega (arith, so.long, all)))
