-- The ends of numbers, by their places.
use Rattle.std.proofs.Common.{◌≡◌, ℕ, zero, suc, ◌<◌, List, [], ◌∷◌, Some, length, refl, ap, ◌∙◌}
use Rattle.std.specs.Prelude.{slice_get}
use Rattle.std.proofs.lemmas.Option.{none-some}
use Rattle.fir_base.proofs.Elements.{there}
use Rattle.fir_meaning.specs.ResetItems.{End}
use Rattle.fir_infer_resets.specs.working.FoundKinds.{HasEnds}

pub ends_long : (ends : List End) (walk : List ℕ) (es : List End) → HasEnds ends walk es → length walk ≡ length es
ends_long ends [] [] h = refl
ends_long ends [] (e ∷ es) h = absurd h
ends_long ends (x ∷ xs) [] h = absurd h
ends_long ends (x ∷ xs) (e ∷ es) h = ap suc (ends_long ends xs es h.1)

-- the number at the place of an end
pub record NumberAt (ends : List End) (walk : List ℕ) (i : ℕ) (e : End) : Type 0 where
  pub number : ℕ
  pub at : slice_get walk i ≡ Some number
  pub is : slice_get ends number ≡ Some e

pub number_at : (ends : List End) (walk : List ℕ) (es : List End) → HasEnds ends walk es → (i : ℕ) (e : End) → slice_get es i ≡ Some e → NumberAt ends walk i e
number_at ends [] [] h i e p = absurd (none-some e p)
number_at ends [] (f ∷ es) h i e p = absurd h
number_at ends (x ∷ xs) [] h i e p = absurd h
number_at ends (x ∷ xs) (f ∷ es) h zero e p = record { number = x; at = refl; is = h.0 ∙ p }
number_at ends (x ∷ xs) (f ∷ es) h (suc i) e p = let r = number_at ends xs es h.1 i e p in record { number = r.number; at = r.at; is = r.is }

-- numbers that are no more than the ends have ends
pub all_ends : (ends : List End) (walk : List ℕ) → ((i x : ℕ) → slice_get walk i ≡ Some x → x < length ends) → (es : List End) × HasEnds ends walk es
all_ends ends [] h = ([], tt)
all_ends ends (x ∷ xs) h =
    let here = there ends x (h 0 x refl) in
    let rest = all_ends ends xs (λ i y p. h (suc i) y p) in
    (here.0 ∷ rest.0, (here.1, rest.1))
