-- Elements of lists by their places, what holds of each, and lists whose elements are related in pairs.
use Rattle.std.proofs.Common.{◌≡◌, ℕ, zero, suc, ◌+◌, ◌<◌, List, [], ◌∷◌, ◌++◌, length, get_or, map, replicate, set, take, refl, sym, ap, ◌∙◌, subst, arith, Some}
use Rattle.std.specs.Prelude.{slice_get}
use Rattle.std.specs.List.{AllByRecursion, AllZip}
use Rattle.std.proofs.lemmas.List.{take_more}
use Rattle.std.proofs.lemmas.Option.{slice_get-get_or}

pub all_map : {A : Type 0} → (P Q : A → Type 0) → ((x : A) → P x → Q x) → (xs : List A) → AllByRecursion P xs → AllByRecursion Q xs
all_map P Q f [] h = tt
all_map P Q f (x ∷ xs) h = (f x h.0, all_map P Q f xs h.1)

pub all_from : {A : Type 0} → (P : A → Type 0) (xs : List A) → ((j : ℕ) (x : A) → slice_get xs j ≡ Some x → P x) → AllByRecursion P xs
all_from P [] h = tt
all_from P (x ∷ xs) h = (h 0 x refl, all_from P xs (λ j y e. h (suc j) y e))

pub all_same : {A : Type 0} → (P : A → Type 0) (n : ℕ) (x : A) → P x → AllByRecursion P (replicate n x)
all_same P zero x h = tt
all_same P (suc n) x h = (h, all_same P n x h)

pub get_set_same : {A : Type 0} → (xs : List A) (k : ℕ) (x : A) → k < length xs → slice_get (set xs k x) k ≡ Some x
get_set_same [] k x h = absurd (omega arith)
get_set_same (y ∷ xs) zero x h = refl
get_set_same (y ∷ xs) (suc k) x h = get_set_same xs k x (omega arith)

pub get_set_other : {A : Type 0} → (xs : List A) (k : ℕ) (x : A) (j : ℕ) → (k ≡ j → ⊥) → slice_get (set xs k x) j ≡ slice_get xs j
get_set_other [] k x j h = refl
get_set_other (y ∷ xs) zero x zero h = absurd (h refl)
get_set_other (y ∷ xs) zero x (suc j) h = refl
get_set_other (y ∷ xs) (suc k) x zero h = refl
get_set_other (y ∷ xs) (suc k) x (suc j) h = get_set_other xs k x j (λ e. h (ap suc e))

pub map_both : {A B C : Type 0} → (f : A → B) (g : B → C) (xs : List A) → map g (map f xs) ≡ map (λ x. g (f x)) xs
map_both f g [] = refl
map_both f g (x ∷ xs) = ap (λ r. g (f x) ∷ r) (map_both f g xs)

-- the element that a walk over a list has come to
module _ {A : Type 0} (ys xs : List A) (same : ys ≡ xs) (i : ℕ) (x d : A) (within : i < length ys) (is : x ≡ get_or ys i d) where
  pub item_stands : slice_get xs i ≡ Some x
  item_stands = subst (λ (zs : List A). slice_get zs i ≡ Some x) same (slice_get-get_or ys i d within ∙ ap Some (sym is))

  pub item_next : take (i + 1) xs ≡ take i xs ++ x ∷ []
  item_next = subst (λ (zs : List A). take (i + 1) zs ≡ take i zs ++ x ∷ []) same (take_more ys i d within ∙ ap (λ (z : A). take i ys ++ z ∷ []) (sym is))

-- pairs
pub pairs_joined : {A B : Type 0} → (R : A → B → Type 0) (xs us : List A) (ys vs : List B) → AllZip R xs ys → AllZip R us vs → AllZip R (xs ++ us) (ys ++ vs)
pairs_joined R [] us [] vs h g = g
pairs_joined R [] us (y ∷ ys) vs h g = absurd h
pairs_joined R (x ∷ xs) us [] vs h g = absurd h
pairs_joined R (x ∷ xs) us (y ∷ ys) vs h g = (h.0, pairs_joined R xs us ys vs h.1 g)

pub pairs_left : {A B : Type 0} → (R : A → B → Type 0) (P : A → Type 0) → ((x : A) (y : B) → R x y → P x) → (xs : List A) (ys : List B) → AllZip R xs ys → AllByRecursion P xs
pairs_left R P f [] [] h = tt
pairs_left R P f [] (y ∷ ys) h = absurd h
pairs_left R P f (x ∷ xs) [] h = absurd h
pairs_left R P f (x ∷ xs) (y ∷ ys) h = (f x y h.0, pairs_left R P f xs ys h.1)

pub pairs_right : {A B : Type 0} → (R : A → B → Type 0) (P : B → Type 0) → ((x : A) (y : B) → R x y → P y) → (xs : List A) (ys : List B) → AllZip R xs ys → AllByRecursion P ys
pairs_right R P f [] [] h = tt
pairs_right R P f [] (y ∷ ys) h = absurd h
pairs_right R P f (x ∷ xs) [] h = absurd h
pairs_right R P f (x ∷ xs) (y ∷ ys) h = (f x y h.0, pairs_right R P f xs ys h.1)

pub pairs_same : {A B C : Type 0} → (R : A → B → Type 0) (f : A → C) (g : B → C) → ((x : A) (y : B) → R x y → f x ≡ g y) → (xs : List A) (ys : List B) → AllZip R xs ys → map f xs ≡ map g ys
pairs_same R f g same [] [] h = refl
pairs_same R f g same [] (y ∷ ys) h = absurd h
pairs_same R f g same (x ∷ xs) [] h = absurd h
pairs_same R f g same (x ∷ xs) (y ∷ ys) h = let first = same x y h.0 in let rest = pairs_same R f g same xs ys h.1 in rw (first, rest) refl
