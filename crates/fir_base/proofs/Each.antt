-- What holds of each member of a list, and lists of which each member is in another.
use Rattle.std.proofs.Common.{List, [], ◌∷◌, ◌++◌, refl, inl, inr, subst}
use Rattle.std.specs.Prelude.{map, flat_map}
use Rattle.std.specs.List.{AllByRecursion}
use Rattle.fir_base.specs.Lists.{In, EachIn}

-- what holds of each holds of a member, and the other way round
pub all_at : {A : Type 0} → (P : A → Type 0) (xs : List A) → AllByRecursion P xs → (x : A) → In xs x → P x
all_at P [] h x m = absurd m
all_at P (y ∷ ys) h x (inl e) = subst P e h.0
all_at P (y ∷ ys) h x (inr m) = all_at P ys h.1 x m

pub all_from : {A : Type 0} → (P : A → Type 0) (xs : List A) → ((x : A) → In xs x → P x) → AllByRecursion P xs
all_from P [] h = tt
all_from P (y ∷ ys) h = (h y (inl refl), all_from P ys (λ x m. h x (inr m)))

pub all_joined : {A : Type 0} → (P : A → Type 0) (xs ys : List A) → AllByRecursion P xs → AllByRecursion P ys → AllByRecursion P (xs ++ ys)
all_joined P [] ys h k = k
all_joined P (x ∷ xs) ys h k = (h.0, all_joined P xs ys h.1 k)

pub all_left : {A : Type 0} → (P : A → Type 0) (xs ys : List A) → AllByRecursion P (xs ++ ys) → AllByRecursion P xs
all_left P [] ys h = tt
all_left P (x ∷ xs) ys h = (h.0, all_left P xs ys h.1)

pub all_right : {A : Type 0} → (P : A → Type 0) (xs ys : List A) → AllByRecursion P (xs ++ ys) → AllByRecursion P ys
all_right P [] ys h = h
all_right P (x ∷ xs) ys h = all_right P xs ys h.1

pub all_mapped : {A B : Type 0} → (P : B → Type 0) (f : A → B) (xs : List A) → AllByRecursion (λ x. P (f x)) xs → AllByRecursion P (map f xs)
all_mapped P f [] h = tt
all_mapped P f (x ∷ xs) h = (h.0, all_mapped P f xs h.1)

pub each_joined : {A : Type 0} → (xs ys zs : List A) → EachIn xs zs → EachIn ys zs → EachIn (xs ++ ys) zs
each_joined [] ys zs h k = k
each_joined (x ∷ xs) ys zs h k = (h.0, each_joined xs ys zs h.1 k)

pub each_parts : {X A : Type 0} → (f : X → List A) (xs : List X) (zs : List A) → AllByRecursion (λ x. EachIn (f x) zs) xs → EachIn (flat_map f xs) zs
each_parts f [] zs h = tt
each_parts f (x ∷ xs) zs h = each_joined (f x) (flat_map f xs) zs h.0 (each_parts f xs zs h.1)

pub each_more : {A : Type 0} → (xs ys zs : List A) → ((x : A) → In ys x → In zs x) → EachIn xs ys → EachIn xs zs
each_more [] ys zs h e = tt
each_more (x ∷ xs) ys zs h e = (h x e.0, each_more xs ys zs h e.1)

-- what holds of each of a list holds of each that is in it
pub all_among : {A : Type 0} → (P : A → Type 0) (xs ys : List A) → AllByRecursion P ys → EachIn xs ys → AllByRecursion P xs
all_among P [] ys h e = tt
all_among P (x ∷ xs) ys h e = (all_at P ys h x e.0, all_among P xs ys h e.1)
