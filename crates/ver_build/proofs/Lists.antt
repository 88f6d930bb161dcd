-- What is built along leaves, or along an order, with one more.
use Rattle.std.proofs.Common.{◌≡◌, ℕ, ◌+◌, ◌<◌, List, [], ◌∷◌, ◌++◌, Option, Some, None, take, length, get_or, flat_map, map, refl, sym, ap, ◌∙◌, inl, inr, append_assoc, append-nil, arith, length-take}
use Rattle.fir_base.specs.Lists.{In}
use Rattle.std.specs.Prelude.{slice_get}
use Rattle.std.proofs.lemmas.List.{take_more, map-append}
use Rattle.std.proofs.lemmas.List.Concat.{flat_map-append}
use Rattle.fir_net_names.specs.working.LeafNamed.{name_at}
use Rattle.fir_net.specs.declared.leaf.Leaf.{Leaf}
use Rattle.ver_build.specs.working.Built.{along, of_leaf, at_number, at_numbers}

along_push : {A B : Type 0} → (f : A → Option (List ℕ) → List B) (names : List (Option (List ℕ))) (k : ℕ) (xs : List A) (x : A)
    → along f names k (xs ++ x ∷ []) ≡ along f names k xs ++ f x (name_at names (k + length xs))
along_push f names k [] x = let e : k ≡ k + 0 = omega arith in append-nil (f x (name_at names k)) ∙ ap (λ j. f x (name_at names j)) e
along_push f names k (y ∷ xs) x =
    let e : (k + 1) + length xs ≡ k + length (y ∷ xs) = omega arith in
    ap (λ l. f y (name_at names k) ++ l) (along_push f names (k + 1) xs x ∙ ap (λ j. along f names (k + 1) xs ++ f x (name_at names j)) e)
    ∙ sym (append_assoc (f y (name_at names k)) (along f names (k + 1) xs) (f x (name_at names (k + length (y ∷ xs)))))

along_more : {A B : Type 0} → (f : A → Option (List ℕ) → List B) (names : List (Option (List ℕ))) (xs : List A) (i : ℕ) (x : A) → i < length xs
    → x ≡ get_or xs i x
    → along f names 0 (take (i + 1) xs) ≡ along f names 0 (take i xs) ++ f x (name_at names i)
along_more f names xs i x lt is =
    let long : 0 + length (take i xs) ≡ i = simp length-take (omega arith) in
    ap (along f names 0) (take_more xs i x lt ∙ ap (λ y. take i xs ++ y ∷ []) (sym is)) ∙ along_push f names 0 (take i xs) x
    ∙ ap (λ j. along f names 0 (take i xs) ++ f x (name_at names j)) long

-- a list that begins with s and goes on along the first i, and what is put behind it
pub put_more : {A B : Type 0}
    → (f : A → Option (List ℕ) → List B) (names : List (Option (List ℕ))) (xs : List A) (i : ℕ) (x : A) (name : Option (List ℕ))
    (s before after : List B)
    → i < length xs → x ≡ get_or xs i x → name ≡ name_at names i → before ≡ s ++ along f names 0 (take i xs) → after ≡ before ++ f x name
    → after ≡ s ++ along f names 0 (take (i + 1) xs)
put_more f names xs i x name s before after lt is named b a =
    let added = along f names 0 (take i xs) in
    a ∙ ap (λ n. before ++ f x n) named ∙ ap (λ l. l ++ f x (name_at names i)) b ∙ append_assoc s added (f x (name_at names i))
    ∙ ap (λ l. s ++ l) (sym (along_more f names xs i x lt is))

-- the first i and one more, each with what it gives
pub flat_more : {A B : Type 0} → (f : A → List B) (xs : List A) (i : ℕ) (x : A) → i < length xs → x ≡ get_or xs i x
    → flat_map f (take (i + 1) xs) ≡ flat_map f (take i xs) ++ f x
flat_more f xs i x lt is =
    ap (flat_map f) (take_more xs i x lt ∙ ap (λ y. take i xs ++ y ∷ []) (sym is)) ∙ flat_map-append f (take i xs) (x ∷ [])
    ∙ ap (λ l. flat_map f (take i xs) ++ l) (append-nil (f x))

-- what is made of all that is given
pub mapped_along : {A B C : Type 0} → (g : B → C) (f : A → Option (List ℕ) → List B) (names : List (Option (List ℕ))) (j : ℕ) (xs : List A)
    → map g (along f names j xs) ≡ along (λ x n. map g (f x n)) names j xs
mapped_along g f names j [] = refl
mapped_along {A} {B} {C} g f names j (x ∷ xs) =
    map-append g (f x (name_at names j)) (along f names (j + 1) xs)
    ∙ ap (λ (ys : List C). map g (f x (name_at names j)) ++ ys) (mapped_along g f names (j + 1) xs)

mapped_leaf : {B C : Type 0} → (g : B → C) (f : Leaf → Option (List ℕ) → List B) (o : Option Leaf) (n : Option (List ℕ))
    → map g (of_leaf f o n) ≡ of_leaf (λ l m. map g (f l m)) o n
mapped_leaf g f None n = refl
mapped_leaf g f (Some l) n = refl

pub mapped_numbers : {B C : Type 0} → (g : B → C) (f : Leaf → Option (List ℕ) → List B) (names : List (Option (List ℕ))) (leaves : List Leaf) (ks : List ℕ)
    → map g (at_numbers f names leaves ks) ≡ at_numbers (λ l n. map g (f l n)) names leaves ks
mapped_numbers g f names leaves [] = refl
mapped_numbers {B} {C} g f names leaves (k ∷ ks) =
    map-append g (at_number f names leaves k) (at_numbers f names leaves ks)
    ∙ ap (λ (ys : List C). ys ++ map g (at_numbers f names leaves ks)) (mapped_leaf g f (slice_get leaves k) (name_at names k))
    ∙ ap (λ (ys : List C). at_number (λ l n. map g (f l n)) names leaves k ++ ys) (mapped_numbers g f names leaves ks)

-- what is made of each part
pub flat_mapped : {A B C : Type 0} → (g : B → C) (f : A → List B) (h : A → List C) → ((x : A) → map g (f x) ≡ h x) → (xs : List A)
    → map g (flat_map f xs) ≡ flat_map h xs
flat_mapped g f h e [] = refl
flat_mapped g f h e (x ∷ xs) =
    map-append g (f x) (flat_map f xs) ∙ ap (λ ys. ys ++ map g (flat_map f xs)) (e x) ∙ ap (λ ys. h x ++ ys) (flat_mapped g f h e xs)

-- parts that are the same for each member
pub flat_same : {A B : Type 0} → (f g : A → List B) (xs : List A) → ((x : A) → In xs x → f x ≡ g x) → flat_map f xs ≡ flat_map g xs
flat_same f g [] e = refl
flat_same {A} {B} f g (x ∷ xs) e =
    ap (λ (ys : List B). ys ++ flat_map f xs) (e x (inl refl)) ∙ ap (λ (ys : List B). g x ++ ys) (flat_same f g xs (λ y m. e y (inr m)))

-- parts of parts
pub flat_parts : {A B C : Type 0} → (g : B → List C) (f : A → List B) (xs : List A) → flat_map g (flat_map f xs) ≡ flat_map (λ x. flat_map g (f x)) xs
flat_parts g f [] = refl
flat_parts {A} {B} {C} g f (x ∷ xs) = flat_map-append g (f x) (flat_map f xs) ∙ ap (λ (ys : List C). flat_map g (f x) ++ ys) (flat_parts g f xs)

-- parts of one member each, and parts that are none
pub flat_ones : {A B : Type 0} → (g : A → B) (xs : List A) → flat_map (λ x. g x ∷ []) xs ≡ map g xs
flat_ones g [] = refl
flat_ones {A} {B} g (x ∷ xs) = ap (λ (ys : List B). g x ∷ ys) (flat_ones g xs)

pub flat_none : {A B : Type 0} → (f : A → List B) (xs : List A) → ((x : A) → In xs x → f x ≡ []) → flat_map f xs ≡ []
flat_none f [] e = refl
flat_none {A} {B} f (x ∷ xs) e =
    ap (λ (ys : List B). ys ++ flat_map f xs) (e x (inl refl)) ∙ flat_none f xs (λ y m. e y (inr m))

-- parts of what is made of each
pub flat_made : {A B C : Type 0} → (g : B → List C) (f : A → B) (xs : List A) → flat_map g (map f xs) ≡ flat_map (λ x. g (f x)) xs
flat_made g f [] = refl
flat_made {A} {B} {C} g f (x ∷ xs) = ap (λ (ys : List C). g (f x) ++ ys) (flat_made g f xs)
