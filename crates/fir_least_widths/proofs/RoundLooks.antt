-- One more look at a bound keeps what a round over the bounds has done.
use Rattle.std.proofs.Common.{◌≡◌, ℕ, ◌+◌, ◌<◌, List, Bool, true, false, Some, length, take, drop, ◌++◌, refl, sym, ap, ◌∙◌, subst, inl, inr, ◌⊎◌, arith}
use Rattle.std.specs.Prelude.{slice_get}
use Rattle.std.proofs.lemmas.Bool.{cases_eq}
use Rattle.std.proofs.lemmas.Option.{same_Some, slice_get_within}
use Rattle.fir_bits.specs.working.Laws.{Monotone}
use Rattle.fir_least_widths.specs.declared.bound.Bound.{Bound}
use Rattle.fir_least_widths.specs.working.Bounds.{Holds, IsBelowAll, IsLeast}
use Rattle.fir_meaning.specs.working.AssignedWidths.{assigned}
use Rattle.fir_least_widths.specs.working.Raises.{Rises, Stays}
use Rattle.fir_least_widths.specs.working.Rounds.{Result, Round, room}
use Rattle.fir_least_widths.proofs.Looks.{written_back}
use Rattle.fir_least_widths.proofs.Risen.{same_length, still_below}
use Rattle.fir_least_widths.proofs.RisesLeft.{less_room}

pub round_begun : (bounds : List Bound) (ws : List ℕ) → Round bounds ws ws false 0
round_begun bounds ws = record { long = refl; below = λ h. h; result = (refl, λ i b lt. absurd (omega (arith, lt))) }

module _ (bounds : List Bound) (old middle new : List ℕ) (rose : Bool) (n : ℕ) (b : Bound) (r : Round bounds old middle rose n) (here : slice_get bounds n ≡ Some b) where
  pub round_rises : Monotone → b.unknown < length middle → Rises b middle new → Round bounds old new true (n + 1)
  round_rises law within h =
      record {
        long = same_length b middle new within h ∙ r.long;
        below = λ below. still_below b middle new within h law bounds n here (r.below below);
        result = less rose r.result;
      }
    where
      less : (rose : Bool) → Result bounds old middle rose n → room new < room old
      less true l = omega (arith, l, less_room b middle new h within)
      less false (same, each) = let e : room middle ≡ room old = ap room same in omega (arith, e, less_room b middle new h within)

  pub round_stays : Stays b middle new → Round bounds old new rose (n + 1)
  round_stays h = rw h.same (record { long = r.long; below = r.below; result = result rose r.result })
    where
      result : (rose : Bool) → Result bounds old middle rose n → Result bounds old middle rose (n + 1)
      result true l = l
      result false (same, each) = (same, λ i c less is. met i c less is (cases_eq i n))
        where
          met : (i : ℕ) (c : Bound) → i < n + 1 → slice_get bounds i ≡ Some c → (i ≡ n) ⊎ (i ≡ n → ⊥) → Holds c (assigned old)
          met i c less is (inr m) = each i c (omega (arith, m)) is
          met i c less is (inl e) =
              let is_b : b ≡ c = same_Some b c (sym here ∙ ap (slice_get bounds) (sym e) ∙ is) in
              let holds : Holds b (assigned old) = subst (λ (ws : List ℕ). Holds b (assigned ws)) same h.holds in
              subst (λ (x : Bound). Holds x (assigned old)) is_b holds

-- a round in which nothing rose, over the widths of a slice
pub nothing_rose : (bounds : List Bound) (n : ℕ) (ws slice new : List ℕ) → n ≡ length ws → slice ≡ ws → IsBelowAll bounds (assigned ws) → Round bounds slice new false (length bounds) → IsLeast bounds (assigned (take n (new ++ drop (length new) ws)))
nothing_rose bounds n ws slice new long same below r =
    let old : new ≡ ws = r.result.0 ∙ same in
    let holds : (i : ℕ) (b : Bound) → slice_get bounds i ≡ Some b → Holds b (assigned ws) = λ i b is. subst (λ (xs : List ℕ). Holds b (assigned xs)) same (r.result.1 i b (slice_get_within bounds i b is) is) in
    rw (written_back n ws slice new long same r.long, old) (record { meets = record { each = holds }; least = below })
