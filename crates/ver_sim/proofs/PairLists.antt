-- Lists of pairs, and loops that append to them.
use Rattle.std.proofs.Common.{◌≡◌, ℕ, zero, suc, ◌+◌, ◌<◌, ◌≤◌, List, [], ◌∷◌, ◌++◌, length, map, take, get_or, cond, true, false, Bool, refl, sym, ap, ◌∙◌, inl, inr, subst, arith, append_assoc, append-nil}
use Rattle.std.specs.Prelude.{flat_map, filter, Some, slice_get}
use Rattle.std.proofs.lemmas.List.{take_more, map-append}
use Rattle.fir_base.specs.Lists.{In}
use Rattle.ver_sim.specs.working.Pairs.{EachPair, Appends}

pub pairs_joined : {A B : Type 0} → (R : A → B → Type 0) (xs us : List A) (ys ws : List B) → EachPair R xs ys → EachPair R us ws → EachPair R (xs ++ us) (ys ++ ws)
pairs_joined R [] us [] ws h k = k
pairs_joined R [] us (y ∷ ys) ws h k = absurd h
pairs_joined R (x ∷ xs) us [] ws h k = absurd h
pairs_joined R (x ∷ xs) us (y ∷ ys) ws h k = (h.0, pairs_joined R xs us ys ws h.1 k)

pub pairs_long : {A B : Type 0} → (R : A → B → Type 0) (xs : List A) (ys : List B) → EachPair R xs ys → length xs ≡ length ys
pairs_long R [] [] h = refl
pairs_long R [] (y ∷ ys) h = absurd h
pairs_long R (x ∷ xs) [] h = absurd h
pairs_long R (x ∷ xs) (y ∷ ys) h = ap suc (pairs_long R xs ys h.1)

pub pair_at : {A B : Type 0} → (R : A → B → Type 0) (xs : List A) (ys : List B) → EachPair R xs ys → (k : ℕ) (x : A) (y : B)
    → slice_get xs k ≡ Some x → slice_get ys k ≡ Some y → R x y
pair_at R [] ys h k x y e f = absurd (cc)
pair_at R (a ∷ xs) [] h k x y e f = absurd h
pair_at R (a ∷ xs) (b ∷ ys) h zero x y e f =
    let first : a ≡ x = cc in
    let second : b ≡ y = cc in
    subst (λ z. R x z) second (subst (λ z. R z b) first h.0)
pair_at R (a ∷ xs) (b ∷ ys) h (suc k) x y e f = pair_at R xs ys h.1 k x y e f

pub none_more : {A B : Type 0} → (R : A → B → Type 0) (xs : List A) → Appends R xs xs []
none_more R xs = record { more = []; is = sym (append-nil xs); each = tt }

pub one_more : {A B : Type 0} → (R : A → B → Type 0) (old new : List A) (x : A) (y : B) → new ≡ old ++ x ∷ [] → R x y → Appends R old new (y ∷ [])
one_more R old new x y e h = record { more = x ∷ []; is = e; each = (h, tt) }

pub then_more : {A B : Type 0} → (R : A → B → Type 0) (old mid new : List A) (ys ws : List B) → Appends R old mid ys → Appends R mid new ws → Appends R old new (ys ++ ws)
then_more R old mid new ys ws h k = record {
  more = h.more ++ k.more;
  is = k.is ∙ ap (λ xs. xs ++ k.more) h.is ∙ append_assoc old h.more k.more;
  each = pairs_joined R h.more k.more ys ws h.each k.each;
}

-- the first that are appended are all
pub all_more : {A B : Type 0} → (R : A → B → Type 0) (none new : List A) (ys : List B) → none ≡ [] → Appends R none new ys → EachPair R new ys
all_more R none new ys e h = subst (λ xs. EachPair R xs ys) (sym (h.is ∙ ap (λ xs. xs ++ h.more) e)) h.each

pub flat_map-append : {X B : Type 0} → (f : X → List B) (xs ys : List X) → flat_map f (xs ++ ys) ≡ flat_map f xs ++ flat_map f ys
flat_map-append f [] ys = refl
flat_map-append f (x ∷ xs) ys = ap (λ zs. f x ++ zs) (flat_map-append f xs ys) ∙ sym (append_assoc (f x) (flat_map f xs) (flat_map f ys))

pub in_at : {X : Type 0} → (xs : List X) (i : ℕ) (x : X) → i < length xs → x ≡ get_or xs i x → In xs x
in_at [] i x lt e = absurd (omega arith)
in_at (y ∷ ys) zero x lt e = inl (sym e)
in_at (y ∷ ys) (suc i) x lt e = inr (in_at ys i x (omega arith) e)

-- one element more
pub loop_more : {X A B : Type 0} → (R : A → B → Type 0) (f : X → List B) (xs : List X) (i : ℕ) (x : X) (old now new : List A) → i < length xs → x ≡ get_or xs i x
    → Appends R old now (flat_map f (take i xs)) → Appends R now new (f x) → Appends R old new (flat_map f (take (i + 1) xs))
loop_more R f xs i x old now new lt is h k =
    let front : take (i + 1) xs ≡ take i xs ++ x ∷ [] = take_more xs i x lt ∙ ap (λ y. take i xs ++ y ∷ []) (sym is) in
    let parts : flat_map f (take (i + 1) xs) ≡ flat_map f (take i xs) ++ f x =
    ap (flat_map f) front ∙ flat_map-append f (take i xs) (x ∷ []) ∙ ap (λ ys. flat_map f (take i xs) ++ ys) (append-nil (f x)) in
    subst (Appends R old new) (sym parts) (then_more R old now new (flat_map f (take i xs)) (f x) h k)

pub take_whole : {X : Type 0} → (xs : List X) (i : ℕ) → length xs ≤ i → take i xs ≡ xs
take_whole [] zero le = refl
take_whole [] (suc i) le = refl
take_whole (x ∷ xs) zero le = absurd (omega arith)
take_whole (x ∷ xs) (suc i) le = ap (λ ys. x ∷ ys) (take_whole xs i (omega arith))

pub loop_done : {X A B : Type 0} → (R : A → B → Type 0) (f : X → List B) (xs : List X) (i : ℕ) (ys : List B) (old new : List A) → length xs ≤ i → flat_map f xs ≡ ys
    → Appends R old new (flat_map f (take i xs)) → Appends R old new ys
loop_done R f xs i ys old new le e h = subst (Appends R old new) (ap (flat_map f) (take_whole xs i le) ∙ e) h

-- maps, lists and choices of parts
pub map_parts : {X B C : Type 0} → (g : B → C) (h : X → List B) (xs : List X) → flat_map (λ x. map g (h x)) xs ≡ map g (flat_map h xs)
map_parts g h [] = refl
map_parts g h (x ∷ xs) = ap (λ ys. map g (h x) ++ ys) (map_parts g h xs) ∙ sym (map-append g (h x) (flat_map h xs))

pub list_parts : {X B C : Type 0} → (g : B → List C) (h : X → List B) (xs : List X) → flat_map (λ x. flat_map g (h x)) xs ≡ flat_map g (flat_map h xs)
list_parts g h [] = refl
list_parts g h (x ∷ xs) = ap (λ ys. flat_map g (h x) ++ ys) (list_parts g h xs) ∙ sym (flat_map-append g (h x) (flat_map h xs))

filter-append : {B : Type 0} → (t : B → Bool) (xs ys : List B) → filter t (xs ++ ys) ≡ filter t xs ++ filter t ys
filter-append t [] ys = refl
filter-append {B} t (x ∷ xs) ys = by (t x) (filter-append t xs ys)
  where
    by : (b : Bool) → filter t (xs ++ ys) ≡ filter t xs ++ filter t ys → cond b (x ∷ filter t (xs ++ ys)) (filter t (xs ++ ys)) ≡ cond b (x ∷ filter t xs) (filter t xs) ++ filter t ys
    by true e = ap (λ zs. x ∷ zs) e
    by false e = e

pub chosen_parts : {X B : Type 0} → (t : B → Bool) (h : X → List B) (xs : List X) → flat_map (λ x. filter t (h x)) xs ≡ filter t (flat_map h xs)
chosen_parts t h [] = refl
chosen_parts t h (x ∷ xs) = ap (λ ys. filter t (h x) ++ ys) (chosen_parts t h xs) ∙ sym (filter-append t (h x) (flat_map h xs))

-- one pair more
pub pair_more : {A B : Type 0} → (R : A → B → Type 0) (xs : List A) (ys : List B) (i : ℕ) (x : A) (y : B) → i < length ys → y ≡ get_or ys i y → EachPair R xs (take i ys) → R x y
    → EachPair R (xs ++ x ∷ []) (take (i + 1) ys)
pair_more R xs ys i x y lt is h r =
    subst (EachPair R (xs ++ x ∷ [])) (sym (take_more ys i y lt ∙ ap (λ z. take i ys ++ z ∷ []) (sym is))) (pairs_joined R xs (x ∷ []) (take i ys) (y ∷ []) h (r, tt))
