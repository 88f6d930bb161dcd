-- Whether a leaf is among others, one more of them, or two lists of them.
use Rattle.std.proofs.Common.{◌≡◌, ℕ, ◌+◌, ◌<◌, List, [], ◌∷◌, ◌++◌, Bool, true, false, ◌||◌, take, get_or, length, refl, ap, ◌∙◌, nat_eq}
use Rattle.std.proofs.lemmas.List.{take_more}
use Rattle.fir_meaning.specs.working.TermReads.{is_among}

or_assoc : (a b c : Bool) → (a || (b || c)) ≡ ((a || b) || c)
or_assoc true b c = refl
or_assoc false b c = refl

pub or_false : (a : Bool) → (a || false) ≡ a
or_false true = refl
or_false false = refl

pub among_push : (xs : List ℕ) (y x : ℕ) → is_among (xs ++ y ∷ []) x ≡ (is_among xs x || nat_eq y x)
among_push [] y x = or_false (nat_eq y x)
among_push (z ∷ xs) y x = ap (λ m. nat_eq z x || m) (among_push xs y x) ∙ or_assoc (nat_eq z x) (is_among xs x) (nat_eq y x)

pub among_both : (xs ys : List ℕ) (x : ℕ) → is_among (xs ++ ys) x ≡ (is_among xs x || is_among ys x)
among_both [] ys x = refl
among_both (z ∷ xs) ys x = ap (λ m. nat_eq z x || m) (among_both xs ys x) ∙ or_assoc (nat_eq z x) (is_among xs x) (is_among ys x)

pub among_more : (xs : List ℕ) (i d x : ℕ) → i < length xs → is_among (take (i + 1) xs) x ≡ (is_among (take i xs) x || nat_eq (get_or xs i d) x)
among_more xs i d x lt = ap (λ ys. is_among ys x) (take_more xs i d lt) ∙ among_push (take i xs) (get_or xs i d) x
