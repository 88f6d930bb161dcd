-- A list along its names, which stand in a list beside it.
-- Looking names up by their numbers is going along both lists at once.
use Rattle.std.proofs.Common.{◌≡◌, ℕ, zero, suc, ◌+◌, List, [], ◌∷◌, ◌++◌, length, refl, ap, ◌∙◌, subst, arith}
use Rattle.std.specs.Prelude.{map, flat_map, slice_get, Option, Some}
use Rattle.std.specs.List.{AllByRecursion}
use Rattle.std.proofs.Math.Numerals.{add-one}
use Rattle.std.proofs.lemmas.Grind.{flat_map-append}
use Rattle.std.proofs.lemmas.List.{map-append}
use Rattle.fir_base.specs.Lists.{In}
use Rattle.fir_base.proofs.Each.{all_joined}
use Rattle.fir_base.proofs.Members.{in_left, in_right}
use Rattle.fir_net_names.specs.working.LeafNamed.{name_at}
use Rattle.ver_build.specs.working.Built.{along}

abbrev pub NameList : Type 0
NameList = List (Option (List ℕ))

-- each element with its name
unfoldable pub zipped : {A B : Type 0} → (A → Option (List ℕ) → List B) → NameList → List A → List B
zipped f [] xs = []
zipped f (n ∷ ns) [] = []
zipped f (n ∷ ns) (x ∷ xs) = f x n ++ zipped f ns xs

-- what holds of each element with its name; there are as many names as elements
abbrev pub Each : {A : Type 0} → (A → Option (List ℕ) → Type 0) → NameList → List A → Type 0
Each P [] [] = Unit {0}
Each P (n ∷ ns) (x ∷ xs) = P x n × Each P ns xs
Each P _ _ = ⊥

name_behind : (n : Option (List ℕ)) (names : NameList) (k : ℕ) → name_at (n ∷ names) (k + 1) ≡ name_at names k
name_behind n names k = rw add-one refl

along_behind : {A B : Type 0} → (f : A → Option (List ℕ) → List B) (n : Option (List ℕ)) (names : NameList) (k : ℕ) (xs : List A)
    → along f (n ∷ names) (k + 1) xs ≡ along f names k xs
along_behind f n names k [] = refl
along_behind f n names k (x ∷ xs) =
    ap (λ m. f x m ++ along f (n ∷ names) (k + 1 + 1) xs) (name_behind n names k)
    ∙ ap (λ ys. f x (name_at names k) ++ ys) (along_behind f n names (k + 1) xs)

pub along_zipped : {A B : Type 0} → (P : A → Option (List ℕ) → Type 0) (f : A → Option (List ℕ) → List B) (names : NameList) (xs : List A)
    → Each P names xs → along f names 0 xs ≡ zipped f names xs
unfolding zipped
along_zipped P f [] [] h = refl
along_zipped P f [] (x ∷ xs) h = absurd h
along_zipped P f (n ∷ names) [] h = refl
along_zipped P f (n ∷ names) (x ∷ xs) h = ap (λ ys. f x n ++ ys) (along_behind f n names 0 xs ∙ along_zipped P f names xs h.1)

-- what is made of the parts
pub flat_zipped : {A B C : Type 0} → (g : B → List C) (f : A → Option (List ℕ) → List B) (h : A → Option (List ℕ) → List C)
    → ((x : A) (n : Option (List ℕ)) → flat_map g (f x n) ≡ h x n) → (names : NameList) (xs : List A)
    → flat_map g (zipped f names xs) ≡ zipped h names xs
unfolding zipped
flat_zipped g f h e [] xs = refl
flat_zipped g f h e (n ∷ names) [] = refl
flat_zipped g f h e (n ∷ names) (x ∷ xs) =
    flat_map-append g (f x n) (zipped f names xs) ∙ ap (λ ys. ys ++ flat_map g (zipped f names xs)) (e x n)
    ∙ ap (λ ys. h x n ++ ys) (flat_zipped g f h e names xs)

pub map_zipped : {A B C : Type 0} → (g : B → C) (f : A → Option (List ℕ) → List B) (h : A → Option (List ℕ) → List C)
    → ((x : A) (n : Option (List ℕ)) → map g (f x n) ≡ h x n) → (names : NameList) (xs : List A) → map g (zipped f names xs) ≡ zipped h names xs
unfolding zipped
map_zipped g f h e [] xs = refl
map_zipped g f h e (n ∷ names) [] = refl
map_zipped g f h e (n ∷ names) (x ∷ xs) =
    map-append g (f x n) (zipped f names xs) ∙ ap (λ ys. ys ++ map g (zipped f names xs)) (e x n)
    ∙ ap (λ ys. h x n ++ ys) (map_zipped g f h e names xs)

-- the same parts, where something holds of each
pub same_zipped : {A B : Type 0} → (P : A → Option (List ℕ) → Type 0) (f g : A → Option (List ℕ) → List B)
    → ((x : A) (n : Option (List ℕ)) → P x n → f x n ≡ g x n) → (names : NameList) (xs : List A) → Each P names xs
    → zipped f names xs ≡ zipped g names xs
unfolding zipped
same_zipped P f g e [] xs h = refl
same_zipped P f g e (n ∷ names) [] h = refl
same_zipped P f g e (n ∷ names) (x ∷ xs) h =
    ap (λ ys. ys ++ zipped f names xs) (e x n h.0) ∙ ap (λ ys. g x n ++ ys) (same_zipped P f g e names xs h.1)

-- what holds of each part
pub all_zipped : {A B : Type 0} → (P : A → Option (List ℕ) → Type 0) (Q : B → Type 0) (f : A → Option (List ℕ) → List B)
    → ((x : A) (n : Option (List ℕ)) → P x n → AllByRecursion Q (f x n)) → (names : NameList) (xs : List A) → Each P names xs
    → AllByRecursion Q (zipped f names xs)
unfolding zipped
all_zipped P Q f e [] xs h = tt
all_zipped P Q f e (n ∷ names) [] h = tt
all_zipped P Q f e (n ∷ names) (x ∷ xs) h = all_joined Q (f x n) (zipped f names xs) (e x n h.0) (all_zipped P Q f e names xs h.1)

pub each_with : {A : Type 0} → (P Q : A → Option (List ℕ) → Type 0) (R : A → Type 0) → ((x : A) (n : Option (List ℕ)) → P x n → R x → Q x n)
    → (names : NameList) (xs : List A) → Each P names xs → AllByRecursion R xs → Each Q names xs
each_with P Q R f [] [] h k = tt
each_with P Q R f [] (x ∷ xs) h k = h
each_with P Q R f (n ∷ names) [] h k = h
each_with P Q R f (n ∷ names) (x ∷ xs) h k = (f x n h.0 k.0, each_with P Q R f names xs h.1 k.1)

pub each_and : {A : Type 0} → (P Q R : A → Option (List ℕ) → Type 0) → ((x : A) (n : Option (List ℕ)) → P x n → Q x n → R x n)
    → (names : NameList) (xs : List A) → Each P names xs → Each Q names xs → Each R names xs
each_and P Q R f [] [] h k = tt
each_and P Q R f [] (x ∷ xs) h k = h
each_and P Q R f (n ∷ names) [] h k = h
each_and P Q R f (n ∷ names) (x ∷ xs) h k = (f x n h.0 k.0, each_and P Q R f names xs h.1 k.1)

-- each part is in the whole
pub each_part : {A B : Type 0}
    → (P : A → Option (List ℕ) → Type 0) (f : A → Option (List ℕ) → List B) (all : List B) (names : NameList) (xs : List A) → Each P names xs
    → ((y : B) → In (zipped f names xs) y → In all y)
    → Each (λ x n. (y : B) → In (f x n) y → In all y) names xs
unfolding zipped
each_part P f all [] [] h k = tt
each_part P f all [] (x ∷ xs) h k = h
each_part P f all (n ∷ names) [] h k = h
each_part P f all (n ∷ names) (x ∷ xs) h k = (
  λ y m. k y (in_left (f x n) (zipped f names xs) y m),
  each_part P f all names xs h.1 (λ y m. k y (in_right (f x n) (zipped f names xs) y m)),
)

-- what holds of the element of a number
pub each_at : {A : Type 0} → (P : A → Option (List ℕ) → Type 0) (names : NameList) (xs : List A) → Each P names xs → (k : ℕ) (x : A)
    → slice_get xs k ≡ Some x → P x (name_at names k)
each_at P [] [] h k x e = absurd (cc)
each_at P [] (y ∷ xs) h k x e = absurd h
each_at P (n ∷ names) [] h k x e = absurd h
each_at P (n ∷ names) (y ∷ xs) h zero x e = let same : y ≡ x = cc in subst (λ z. P z n) same h.0
each_at P (n ∷ names) (y ∷ xs) h (suc k) x e = each_at P names xs h.1 k x e

-- what holds of each element with the name of its number holds of each with its name, where there are as many names
pub each_by_number : {A : Type 0} → (P : A → Option (List ℕ) → Type 0) (names : NameList) (xs : List A) → length names ≡ length xs
    → ((k : ℕ) (x : A) → slice_get xs k ≡ Some x → P x (name_at names k)) → Each P names xs
each_by_number P [] [] many h = tt
each_by_number P [] (x ∷ xs) many h = absurd (omega arith)
each_by_number P (n ∷ names) [] many h = absurd (omega arith)
each_by_number P (n ∷ names) (x ∷ xs) many h =
    (h zero x refl, each_by_number P names xs (omega (arith, many)) (λ k y e. h (suc k) y e))
