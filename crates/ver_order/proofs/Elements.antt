-- Lists whose names stand once each: their elements by name, and how long they are.
use Rattle.std.proofs.Common.{◌≡◌, ℕ, suc, ◌≤◌, List, [], ◌∷◌, ◌++◌, length, map, refl, sym, ap, ◌∙◌, inl, inr, ◌⊎◌, ⊎_elim, subst, arith}
use Rattle.fir_base.specs.Lists.{In, Distinct}
use Rattle.fir_base.proofs.Members.{in_map, in_left, in_right, in_either}

-- two members with the same name are one
pub same_by : {A : Type 0} → (f : A → List ℕ) (xs : List A) → Distinct (map f xs) → (x y : A) → In xs x → In xs y → f x ≡ f y → x ≡ y
same_by f [] d x y m n e = absurd m
same_by f (z ∷ zs) d x y (inl p) (inl q) e = sym p ∙ q
same_by f (z ∷ zs) d x y (inl p) (inr n) e = absurd (d.0 (subst (In (map f zs)) (sym (ap f p ∙ e)) (in_map f zs y n)))
same_by f (z ∷ zs) d x y (inr m) (inl q) e = absurd (d.0 (subst (In (map f zs)) (e ∙ sym (ap f q)) (in_map f zs x m)))
same_by f (z ∷ zs) d x y (inr m) (inr n) e = same_by f zs d.1 x y m n e

pub split_at : {A : Type 0} → (xs : List A) (x : A) → In xs x → (front : List A) × (back : List A) × (xs ≡ front ++ x ∷ back)
split_at [] x m = absurd m
split_at (y ∷ ys) x (inl e) = ([], ys, ap (λ z. z ∷ ys) e)
split_at (y ∷ ys) x (inr m) = let t = split_at ys x m in (y ∷ t.0, t.1, ap (λ zs. y ∷ zs) t.2)

pub length_between : {A : Type 0} → (front : List A) (x : A) (back : List A) → length (front ++ x ∷ back) ≡ suc (length (front ++ back))
length_between [] x back = refl
length_between (y ∷ front) x back = ap suc (length_between front x back)

-- a member is the one in between, or one of the others
pub in_between : {A : Type 0} → (front : List A) (x : A) (back : List A) (y : A) → In (front ++ x ∷ back) y → (x ≡ y) ⊎ In (front ++ back) y
in_between front x back y m =
    ⊎_elim
    (λ (n : In front y). inr (in_left front back y n))
    (λ (n : In (x ∷ back) y). ⊎_elim (λ (e : x ≡ y). inl e) (λ (o : In back y). inr (in_right front back y o)) n)
    (in_either front (x ∷ back) y m)

-- a list without twins is no longer than one that has all its elements
pub no_longer : {A : Type 0} → (f : A → List ℕ) (xs ys : List A) → Distinct (map f xs) → ((x : A) → In xs x → In ys x) → length xs ≤ length ys
no_longer f [] ys d h = omega arith
no_longer {A} f (x ∷ xs) ys d h =
    let t = split_at ys x (h x (inl refl)) in
    let more : length ys ≡ suc (length (t.0 ++ t.1)) = ap length t.2 ∙ length_between t.0 x t.1 in
    let fewer = no_longer f xs (t.0 ++ t.1) d.1
    (λ y m. ⊎_elim
    (λ (e : x ≡ y). absurd (d.0 (subst (In (map f xs)) (sym (ap f e)) (in_map f xs y m))))
    (λ (o : In (t.0 ++ t.1) y). o)
    (in_between t.0 x t.1 y (subst (λ (zs : List A). In zs y) t.2 (h y (inr m))))) in
    omega (arith, more, fewer)
