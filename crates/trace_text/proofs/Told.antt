-- Faults that are told: the first of several kinds, in their order.
use Rattle.std.proofs.Common.{◌≡◌, List, [], ◌∷◌, ◌++◌, refl, ap, ◌∙◌, Option, Some, None}
use Rattle.std.specs.Option.{option_or}
use Rattle.trace_text.specs.declared.fault.Cause.{Cause}
use Rattle.trace_text.specs.working.Readings.{first_cause}

first_of_both : (xs ys : List Cause) → first_cause (xs ++ ys) ≡ option_or (first_cause xs) (first_cause ys)
first_of_both [] ys = refl
first_of_both (x ∷ xs) ys = refl

pub first_of_five : (a b c d e : List Cause)
    → first_cause ((((a ++ b) ++ c) ++ d) ++ e) ≡ option_or (option_or (option_or (option_or (first_cause a) (first_cause b)) (first_cause c)) (first_cause d)) (first_cause e)
first_of_five a b c d e =
    first_of_both (((a ++ b) ++ c) ++ d) e
    ∙ ap (λ o. option_or o (first_cause e))
    (first_of_both ((a ++ b) ++ c) d ∙ ap (λ o. option_or o (first_cause d)) (first_of_both (a ++ b) c ∙ ap (λ o. option_or o (first_cause c)) (first_of_both a b)))

pub or_none : (told : Option Cause) → option_or told None ≡ told
or_none None = refl
or_none (Some cause) = refl

pub or_assoc : (a b c : Option Cause) → option_or (option_or a b) c ≡ option_or a (option_or b c)
or_assoc None b c = refl
or_assoc (Some cause) b c = refl

pub or_some : (told : Option Cause) (cause : Cause) → option_or told (Some cause) ≡ None → ⊥
or_some None cause h = cc
or_some (Some first) cause h = cc

-- what is told last counts only where nothing is told before
pub alike_behind_two : (first second last other : Option Cause) → (first ≡ None → last ≡ other) → option_or (option_or first second) last ≡ option_or (option_or first second) other
alike_behind_two None second last other h = ap (option_or second) (h refl)
alike_behind_two (Some cause) second last other h = refl
