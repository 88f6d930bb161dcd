-- What is appended for each item of a list, item by item.
use Rattle.std.proofs.Common.{◌≡◌, ℕ, List, ◌∷◌, ◌++◌, flat_map, ap, sym, ◌∙◌, append_assoc}

pub next_appended : {A : Type 0} (text : A → List ℕ) (left rest : List A) (x : A) (old new whole : List ℕ) → left ≡ x ∷ rest → new ≡ old ++ text x
    → old ++ flat_map text left ≡ whole → new ++ flat_map text rest ≡ whole
next_appended text left rest x old new whole at more so_far =
    ap (λ l. l ++ flat_map text rest) more ∙ append_assoc old (text x) (flat_map text rest) ∙ ap (λ xs. old ++ flat_map text xs) (sym at) ∙ so_far
