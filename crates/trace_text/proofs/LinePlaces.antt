-- The places at which lines begin and end.
use Rattle.std.proofs.Common.{◌≡◌, ℕ, List, length, take, Bool, true, false, if◌then◌else◌, nat_lt, Some, None, refl, sym, ap}
use Rattle.std.specs.Prelude.{position}
use Rattle.std.specs.List.{position_or_len, before_first}
use Rattle.std.proofs.lemmas.Bool.{ltb-false}
use Rattle.std.proofs.lemmas.List.{take_all}

chosen_some : (b : Bool) (i n : ℕ) → Some n ≡ (if b then Some i else None) → n ≡ i
chosen_some true i n h = cc
chosen_some false i n h = cc

chosen_none : (b : Bool) (i : ℕ) → (if b then Some i else None) ≡ None → b ≡ false
chosen_none true i h = cc
chosen_none false i h = refl

-- what stands before a place that is found
pub found_front : (p : ℕ → Bool) (xs : List ℕ) (n : ℕ) → Some n ≡ position p xs → take n xs ≡ before_first p xs
found_front p xs n h = ap (λ i. take i xs) (chosen_some (nat_lt (position_or_len p xs) (length xs)) (position_or_len p xs) n h)

-- all, where none is found
pub whole_front : (p : ℕ → Bool) (xs : List ℕ) → position p xs ≡ None → xs ≡ before_first p xs
whole_front p xs h =
    let place = position_or_len p xs in
    sym (take_all place xs (ltb-false place (length xs) (chosen_none (nat_lt place (length xs)) place h)))
