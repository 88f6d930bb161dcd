-- A list whose elements are written anew one after the other.
use Rattle.std.proofs.Common.{◌≡◌, ℕ, zero, suc, ◌+◌, ◌<◌, ◌≤◌, List, [], ◌∷◌, length, map, get_or, set, refl, ap, arith, add-one}

-- the first so many are written anew
abbrev pub first_mapped : {A : Type 0} → (A → A) → ℕ → List A → List A
first_mapped f zero xs = xs
first_mapped f (suc n) [] = []
first_mapped f (suc n) (x ∷ xs) = f x ∷ first_mapped f n xs

pub still : {A : Type 0} → (f : A → A) (xs : List A) (i : ℕ) (d : A) → get_or (first_mapped f i xs) i d ≡ get_or xs i d
still f [] zero d = refl
still f [] (suc i) d = refl
still f (x ∷ xs) zero d = refl
still f (x ∷ xs) (suc i) d = still f xs i d

pub first_long : {A : Type 0} → (f : A → A) (xs : List A) (i : ℕ) → length (first_mapped f i xs) ≡ length xs
first_long f xs zero = refl
first_long f [] (suc i) = refl
first_long f (x ∷ xs) (suc i) = ap suc (first_long f xs i)

turn : {A : Type 0} → (f : A → A) (xs : List A) (i : ℕ) (d : A) → i < length xs → set (first_mapped f i xs) i (f (get_or xs i d)) ≡ first_mapped f (suc i) xs
turn f [] i d h = absurd (omega (arith, h))
turn f (x ∷ xs) zero d h = refl
turn f (x ∷ xs) (suc i) d h = ap (λ ys. f x ∷ ys) (turn f xs i d (omega (arith, h)))

pub one_more : {A : Type 0} → (f : A → A) (xs : List A) (i : ℕ) (d y : A) → i < length xs → y ≡ f (get_or xs i d) → set (first_mapped f i xs) i y ≡ first_mapped f (i + 1) xs
one_more f xs i d y h e = rw (add-one, e) (turn f xs i d h)

pub all_mapped : {A : Type 0} → (f : A → A) (xs : List A) (n : ℕ) → length xs ≤ n → first_mapped f n xs ≡ map f xs
all_mapped f [] zero h = refl
all_mapped f [] (suc n) h = refl
all_mapped f (x ∷ xs) zero h = absurd (omega (arith, h))
all_mapped f (x ∷ xs) (suc n) h = ap (λ ys. f x ∷ ys) (all_mapped f xs n (omega (arith, h)))
