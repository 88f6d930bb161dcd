-- Members of lists: of joined lists, of mapped lists, and of lists of which others are the parts.
use Rattle.std.proofs.Common.{◌≡◌, List, [], ◌∷◌, ◌++◌, map, flat_map, refl, sym, ap, ◌∙◌, inl, inr, ◌⊎◌, ⊎_elim, subst}
use Rattle.fir_base.specs.Lists.{In, EachIn}

-- the members of joined lists
pub in_left : {A : Type 0} → (xs ys : List A) (x : A) → In xs x → In (xs ++ ys) x
in_left [] ys x m = absurd m
in_left (z ∷ xs) ys x (inl e) = inl e
in_left (z ∷ xs) ys x (inr m) = inr (in_left xs ys x m)

pub in_right : {A : Type 0} → (xs ys : List A) (x : A) → In ys x → In (xs ++ ys) x
in_right [] ys x m = m
in_right (z ∷ xs) ys x m = inr (in_right xs ys x m)

pub in_either : {A : Type 0} → (xs ys : List A) (x : A) → In (xs ++ ys) x → In xs x ⊎ In ys x
in_either [] ys x m = inr m
in_either (z ∷ xs) ys x (inl e) = inl (inl e)
in_either (z ∷ xs) ys x (inr m) = ⊎_elim (λ (n : In xs x). inl (inr n)) (λ (n : In ys x). inr n) (in_either xs ys x m)

pub in_map : {A B : Type 0} → (f : A → B) (xs : List A) (x : A) → In xs x → In (map f xs) (f x)
in_map f [] x m = m
in_map f (y ∷ ys) x (inl e) = inl (ap f e)
in_map f (y ∷ ys) x (inr m) = inr (in_map f ys x m)

-- what is in a mapped list comes from somewhere
pub in_map_from : {A B : Type 0} → (f : A → B) (xs : List A) (y : B) → In (map f xs) y → (x : A) × In xs x × (f x ≡ y)
in_map_from f [] y m = absurd m
in_map_from f (x ∷ xs) y (inl e) = (x, inl refl, e)
in_map_from f (x ∷ xs) y (inr m) = let r = in_map_from f xs y m in (r.0, inr r.1, r.2)

-- functions that agree on each member give one list, and the other way round
pub map_same : {A B : Type 0} → (e f : A → B) (xs : List A) → ((x : A) → In xs x → e x ≡ f x) → map e xs ≡ map f xs
map_same e f [] h = refl
map_same e f (x ∷ xs) h = rw (h x (inl refl), map_same e f xs (λ y o. h y (inr o))) refl

pub same_at : {A B : Type 0} → (e f : A → B) (xs : List A) → map e xs ≡ map f xs → (x : A) → In xs x → e x ≡ f x
same_at e f [] h x m = absurd m
same_at e f (y ∷ xs) h x (inl p) = let here : e y ≡ f y = cc in ap e (sym p) ∙ here ∙ ap f p
same_at e f (y ∷ xs) h x (inr m) = let rest : map e xs ≡ map f xs = cc in same_at e f xs rest x m

-- what a member gives is a member of all that is given, and the other way round
pub in_flat_map : {X A : Type 0} → (f : X → List A) (xs : List X) (x : X) (y : A) → In xs x → In (f x) y → In (flat_map f xs) y
in_flat_map f [] x y m h = absurd m
in_flat_map f (z ∷ xs) x y (inl e) h = in_left (f z) (flat_map f xs) y (subst (λ w. In (f w) y) (sym e) h)
in_flat_map f (z ∷ xs) x y (inr m) h = in_right (f z) (flat_map f xs) y (in_flat_map f xs x y m h)

pub in_flat_map_from : {X A : Type 0} → (f : X → List A) (xs : List X) (y : A) → In (flat_map f xs) y → (x : X) × In xs x × In (f x) y
in_flat_map_from f [] y m = absurd m
in_flat_map_from {X} {A} f (x ∷ xs) y m =
    ⊎_elim
    (λ (h : In (f x) y). (x, inl refl, h))
    (λ (h : In (flat_map f xs) y). let r = in_flat_map_from f xs y h in (r.0, inr r.1, r.2))
    (in_either (f x) (flat_map f xs) y m)

-- each of a list in another, by cases on the list and by members
pub each_in : {A : Type 0} → (xs ys : List A) → EachIn xs ys → (x : A) → In xs x → In ys x
each_in [] ys h x m = absurd m
each_in (z ∷ xs) ys h x (inl e) = subst (In ys) e h.0
each_in (z ∷ xs) ys h x (inr m) = each_in xs ys h.1 x m
