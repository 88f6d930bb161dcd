-- Elements of lists by their number: in joined lists, where there is one, among the members, what holds of each, and in lists of the same values.
use Rattle.std.proofs.Common.{◌≡◌, ℕ, zero, suc, ◌<◌, List, [], ◌∷◌, ◌++◌, length, map, slice_get, Some, refl, ap, inl, inr, arith}
use Rattle.std.specs.List.{AllByRecursion}
use Rattle.fir_base.specs.Lists.{In}
use Rattle.fir_base.proofs.Each.{all_at}

pub get_left : {A : Type 0} → (xs ys : List A) (k : ℕ) → k < length xs → slice_get (xs ++ ys) k ≡ slice_get xs k
get_left [] ys k h = absurd (omega arith)
get_left (x ∷ xs) ys zero h = refl
get_left (x ∷ xs) ys (suc k) h = get_left xs ys k (omega arith)

pub get_behind : {A : Type 0} → (xs ys : List A) (x : A) → slice_get (xs ++ x ∷ ys) (length xs) ≡ Some x
get_behind [] ys x = refl
get_behind (z ∷ xs) ys x = get_behind xs ys x

pub there : {A : Type 0} → (xs : List A) (k : ℕ) → k < length xs → (x : A) × (slice_get xs k ≡ Some x)
there [] k h = absurd (omega arith)
there (x ∷ xs) zero h = (x, refl)
there (x ∷ xs) (suc k) h = there xs k (omega arith)

-- an element is a member, and a member has a number
pub get_in : {A : Type 0} → (xs : List A) (k : ℕ) (x : A) → slice_get xs k ≡ Some x → In xs x
get_in [] k x e = absurd (cc)
get_in (y ∷ xs) zero x e = inl (cc)
get_in (y ∷ xs) (suc k) x e = inr (get_in xs k x e)

pub number_of : {A : Type 0} → (xs : List A) (x : A) → In xs x → (k : ℕ) × (slice_get xs k ≡ Some x)
number_of [] x m = absurd m
number_of (y ∷ xs) x (inl e) = (0, ap Some e)
number_of (y ∷ xs) x (inr m) = let r = number_of xs x m in (suc r.0, r.1)

-- what holds of each holds of an element
pub all_there : {A : Type 0} → (P : A → Type 0) (xs : List A) → AllByRecursion P xs → (k : ℕ) (x : A) → slice_get xs k ≡ Some x → P x
all_there P xs h k x e = all_at P xs h x (get_in xs k x e)

-- the element beside an element, where both lists have the same values
pub beside : {A B C : Type 0} → (f : A → C) (g : B → C) (xs : List A) (ys : List B) → map f xs ≡ map g ys → (k : ℕ) (y : B) → slice_get ys k ≡ Some y → (x : A) × (slice_get xs k ≡ Some x) × (f x ≡ g y)
beside f g xs [] h k y e = cc
beside f g [] (z ∷ ys) h k y e = cc
beside f g (x ∷ xs) (z ∷ ys) h zero y e = (x, refl, cc)
beside f g (x ∷ xs) (z ∷ ys) h (suc k) y e = let rest : map f xs ≡ map g ys = cc in beside f g xs ys rest k y e
