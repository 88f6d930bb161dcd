-- The bytes of the pieces of a clock list.
use Rattle.std.proofs.Common.{◌≡◌, ℕ, ◌+◌, List, [], ◌∷◌, length, Bool, true, false, cond, refl, arith}
use Rattle.std.specs.List.{slice_split, onto_first}

-- the bytes of the pieces, with one behind each
abbrev pub bytes_of : List (List ℕ) → ℕ
bytes_of [] = 0
bytes_of (w ∷ ws) = length w + 1 + bytes_of ws

-- pieces in a list, at least one
abbrev are_some : List (List ℕ) → Type 0
are_some [] = ⊥
are_some (w ∷ ws) = Unit {0}

longer_first : (b : ℕ) (ws : List (List ℕ)) → are_some ws → bytes_of (onto_first b ws) ≡ bytes_of ws + 1
longer_first b [] h = absurd h
longer_first b (w ∷ ws) h = omega arith

onto_some : (b : ℕ) (ws : List (List ℕ)) → are_some (onto_first b ws)
onto_some b [] = tt
onto_some b (w ∷ ws) = tt

split_some : (p : ℕ → Bool) (bs : List ℕ) → are_some (slice_split p bs)
split_some p [] = tt
split_some p (b ∷ bs) = elim (p b) as (λ t. are_some (cond t ([] ∷ slice_split p bs) (onto_first b (slice_split p bs)))) [ true ↦ tt | false ↦ onto_some b (slice_split p bs) ]

-- a byte stands behind each piece, and one is none of the list's
pub split_bytes : (p : ℕ → Bool) (bs : List ℕ) → bytes_of (slice_split p bs) ≡ length bs + 1
split_bytes p [] = refl
split_bytes p (b ∷ bs) =
    let e = split_bytes p bs in
    elim (p b) as (λ t. bytes_of (cond t ([] ∷ slice_split p bs) (onto_first b (slice_split p bs))) ≡ length (b ∷ bs) + 1) [
      | true ↦ omega arith
      | false ↦ omega (arith, longer_first b (slice_split p bs) (split_some p bs))
    ]

pub bytes_ahead : (left rest : List (List ℕ)) (piece : List ℕ) → left ≡ piece ∷ rest → bytes_of left ≡ length piece + 1 + bytes_of rest
bytes_ahead left rest piece ahead = rw ahead refl
