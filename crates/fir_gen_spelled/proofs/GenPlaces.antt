-- The places of the parts of the tree: each is that of a part of a line of the text.
use Rattle.std.proofs.Common.{◌≡◌, ℕ, zero, suc, ◌+◌, ◌-◌, List, [], ◌∷◌, ◌++◌, if◌then◌else◌, refl, ap, arith}
use Rattle.std.specs.Prelude.{nat_lt}
use Rattle.fir_ast.specs.declared.place.Place.{Place}
use Rattle.fir_gen.specs.GenText.{steps_text}
use Rattle.fir_gen_spelled.proofs.RowTokens.{LinePlaces, places_of}
use Rattle.fir_gen_spelled.proofs.GenRows.{head_rows, step_rows, last_rows}
use Rattle.fir_gen_spelled.proofs.GenTexts.{head_bytes}

-- by pairs of a line and a part of it
abbrev pub part_at : (ℕ → LinePlaces) → List (ℕ × ℕ) → ℕ → Place
part_at p [] i = (p 0).begins
part_at p (s ∷ ss) zero = (p s.0).part s.1
part_at p (s ∷ ss) (suc i) = part_at p ss i

-- of a register, in the line that declares it
abbrev pub register_spots : ℕ → List (ℕ × ℕ) → List (ℕ × ℕ)
register_spots l more = (l, 0) ∷ (l, 2) ∷ (l, 6) ∷ (l, 12) ∷ (l, 14) ∷ (l, 24) ∷ (l, 27) ∷ more

-- of a sum, in the line that connects it
abbrev pub sum_spots : ℕ → List (ℕ × ℕ)
sum_spots l = (l, 0) ∷ (l, 4) ∷ (l, 6) ∷ (l, 8) ∷ (l, 11) ∷ []

abbrev pub head_spots : List (ℕ × ℕ)
head_spots =
    (0, 2) ∷ (1, 0) ∷ (1, 2) ∷ (2, 2) ∷ (2, 6) ∷ (3, 2) ∷ (3, 6) ∷ (4, 2) ∷ (4, 6) ∷ (5, 2) ∷ (5, 6) ∷ register_spots 6 (sum_spots 7)

abbrev pub step_spots : List (ℕ × ℕ)
step_spots = register_spots 0 ((1, 0) ∷ (1, 2) ∷ (1, 4) ∷ (2, 0) ∷ (2, 4) ∷ (2, 6) ∷ (2, 9) ∷ sum_spots 4)

abbrev pub last_spots : List (ℕ × ℕ)
last_spots = (0, 0) ∷ (0, 4) ∷ []

-- under the number 0, and under the numbers from 1 on: those of a step from 11, those of the last line from 30
abbrev pub head_at : (ℕ → LinePlaces) → ℕ → Place
head_at p = part_at p head_spots

abbrev pub later_at : (ℕ → LinePlaces) → (ℕ → LinePlaces) → ℕ → Place
later_at p q i = if nat_lt i 30 then part_at p step_spots (i - 11) else part_at q last_spots (i - 30)

-- the bytes before a step
abbrev pub before_step : ℕ → List ℕ
before_step j = head_bytes ++ steps_text 0 j

abbrev pub step_places : ℕ → ℕ → Place
step_places j = later_at (places_of (before_step j) (step_rows [] j)) (places_of (before_step j) (last_rows [] j))

pub gen_places : ℕ → ℕ → Place
gen_places zero = head_at (places_of [] head_rows)
gen_places (suc j) = step_places j

pub head_places : gen_places 0 ≡ head_at (places_of [] head_rows)
unfolding gen_places
head_places = refl

pub later_places : (j : ℕ) → gen_places (j + 1) ≡ step_places j
unfolding gen_places
later_places j = let e : j + 1 ≡ suc j = omega arith in ap gen_places e
