-- A list that is made one by one of another has the same values.
use Rattle.std.proofs.Common.{◌≡◌, ℕ, ◌+◌, ◌<◌, List, [], ◌∷◌, ◌++◌, map, take, get_or, length, sym, ap, ◌∙◌}
use Rattle.std.proofs.lemmas.List.{map_more, map-append}

pub map_grows : {A B C : Type 0} → (f : A → C) (g : B → C) (xs : List A) (x : A) (ys : List B) (i : ℕ) (y : B) → map f xs ≡ map g (take i ys)
    → i < length ys → y ≡ get_or ys i y → f x ≡ g y → map f (xs ++ x ∷ []) ≡ map g (take (i + 1) ys)
map_grows f g xs x ys i y so_far within at same =
    map-append f xs (x ∷ []) ∙ ap (λ l. l ++ f x ∷ []) so_far ∙ ap (λ z. map g (take i ys) ++ z ∷ []) (same ∙ ap g at) ∙ sym (map_more g ys i y within)
