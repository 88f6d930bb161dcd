-- A piece of which a front was appended.
use Rattle.std.proofs.Common.{◌≡◌, ℕ, List, [], ◌++◌, take, drop, Some, sym, ap, ◌∙◌, inl, inr, ◌⊎◌, refl, append-nil, take-append-drop}

-- bytes that grew by the first n of a piece, or stayed, grew by a front of it
pub grew_front : (n : ℕ) (piece old new : List ℕ) → (new ≡ old ++ take n piece) ⊎ (new ≡ old) → (front back : List ℕ) × (piece ≡ front ++ back) × (Some new ≡ Some (old ++ front))
grew_front n piece old new (inl e) = (take n piece, drop n piece, sym (take-append-drop n piece), ap (λ b. Some b) e)
grew_front n piece old new (inr e) = ([], piece, refl, ap (λ b. Some b) (e ∙ sym (append-nil old)))
