-- The levels that open and close before rows.
use Rattle.std.proofs.Common.{◌≡◌, ℕ, ◌<◌, List, [], ◌∷◌, refl, inl, inr, ◌⊎◌}
use Rattle.std.proofs.lemmas.List.Elements.{All-nil, All-cons}
use Rattle.fir_lex.specs.Tokens.{Token, level_opens, level_closes}
use Rattle.fir_lex.specs.TokensOf.{OpensLevel, ClosesLevels}
use Rattle.fir_gen_spelled.proofs.Rows.{Row}

abbrev pub Moves : ℕ → List ℕ → List Token → List ℕ → Type 0
Moves spaces levels moves after = OpensLevel spaces levels moves after ⊎ ClosesLevels spaces levels moves after

pub opens : (spaces level : ℕ) (levels : List ℕ) → level < spaces → Moves spaces (level ∷ levels) (level_opens ∷ []) (spaces ∷ level ∷ levels)
opens spaces level levels h = inl (level, levels, refl, h, refl, refl)

pub stays : (level : ℕ) (levels : List ℕ) → Moves level (level ∷ levels) [] (level ∷ levels)
stays level levels = inr ([], levels, refl, All-nil (λ inner. level < inner), refl, refl)

pub closes : (inner level : ℕ) (levels : List ℕ) → level < inner → Moves level (inner ∷ level ∷ levels) (level_closes ∷ []) (level ∷ levels)
closes inner level levels h =
    inr (inner ∷ [], levels, refl, All-cons (λ deep. level < deep) inner [] h (All-nil (λ deep. level < deep)), refl, refl)

-- these rows move so from the one levels to the others
abbrev pub AreMoves : List ℕ → List Row → List ℕ → Type 0
AreMoves levels [] after = levels ≡ after
AreMoves levels (r ∷ rs) after = (next : List ℕ) × Moves r.spaces levels r.moves next × AreMoves next rs after
