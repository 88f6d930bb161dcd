-- The key of a number is that of its front, and its last digit.
use Rattle.std.proofs.Common.{◌≡◌, ℕ, ◌+◌, ◌/◌, ◌%◌, ◌<◌, [], ◌∷◌, ◌++◌, map, ap, ◌∙◌, arith}
use Rattle.std.specs.Int.Digits.{digits_of}
use Rattle.std.proofs.lemmas.List.{map-append}
use Rattle.std.proofs.lemmas.Int.Digits.{digits_of_step}
use Rattle.fir_infer_resets.specs.working.PathKeys.{number_key}

pub number_more : (n : ℕ) → 0 < n → number_key n ≡ number_key (n / 128) ++ (n % 128 + 3) ∷ []
number_more n h = ap (map (λ d. d + 3)) (digits_of_step 128 n (omega arith) h) ∙ map-append (λ d. d + 3) (digits_of 128 (n / 128)) (n % 128 ∷ [])
