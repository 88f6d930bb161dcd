-- Values that are computed along an order: each hangs on those before it, so that one more leaves the others what they are worth.
use Rattle.std.proofs.Common.{◌≡◌, ℕ, ◌+◌, ◌<◌, ◌≤◌, List, sym, ap, ◌∙◌, ⊎_elim, arith}
use Rattle.std.specs.Prelude.{slice_get, Some}
use Rattle.std.proofs.lemmas.Bool.{cases_lt}
use Rattle.std.proofs.lemmas.Option.{same_Some}
use Rattle.fir_net.specs.declared.reads.Read.{Read}

module _ {X : Type 0} (order : List Read) (equation : (Read → X) → Read → X) where
  -- what stands before the place is what it is worth
  pub record Met (n : ℕ) (e : Read → X) : Type 0 where
    pub each : (i : ℕ) (v : Read) → i < n → slice_get order i ≡ Some v → e v ≡ equation e v

  -- each hangs on what stands before it
  pub record Hangs : Type 0 where
    pub each : (i : ℕ) (v : Read) (e f : Read → X) → slice_get order i ≡ Some v → ((j : ℕ) (w : Read) → j < i → slice_get order j ≡ Some w → e w ≡ f w) → equation e v ≡ equation f v

  pub none_met : (e : Read → X) → Met 0 e
  none_met e = record { each = λ i v l at. absurd (omega (arith, l)) }

  module _ (once : (i j : ℕ) (v : Read) → slice_get order i ≡ Some v → slice_get order j ≡ Some v → i ≡ j) (hangs : Hangs) where
    pub one_more : (n : ℕ) (v : Read) (e f : Read → X) → Met n e → slice_get order n ≡ Some v → f v ≡ equation e v → ((j : ℕ) (w : Read) → slice_get order j ≡ Some w → (w ≡ v → ⊥) → f w ≡ e w) → Met (n + 1) f
    one_more n v e f met at is others = record { each = each }
      where
        before : (i : ℕ) → i ≤ n → (j : ℕ) (w : Read) → j < i → slice_get order j ≡ Some w → e w ≡ f w
        before i le j w l here = sym (others j w here (λ same. omega (arith, l, le, once j n v (here ∙ ap (λ (u : Read). Some u) same) at)))

        each : (i : ℕ) (w : Read) → i < n + 1 → slice_get order i ≡ Some w → f w ≡ equation f w
        each i w l here =
            ⊎_elim
            (λ (less : i < n). sym (before n (omega arith) i w less here) ∙ met.each i w less here ∙ hangs.each i w e f here (before i (omega (arith, less))))
            (λ (le : n ≤ i).
            let place : i ≡ n = omega (arith, l, le) in
            let same : w ≡ v = same_Some w v (sym here ∙ ap (slice_get order) place ∙ at) in
            ap f same ∙ is ∙ ap (equation e) (sym same) ∙ hangs.each i w e f here (before i (omega (arith, l))))
            (cases_lt i n)
