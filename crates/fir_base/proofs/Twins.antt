-- Lists in which no element stands twice: their parts, and lists joined of such.
use Rattle.std.proofs.Common.{◌≡◌, List, [], ◌∷◌, ◌++◌, refl, sym, inl, inr, ⊎_elim, subst}
use Rattle.fir_base.specs.Lists.{In, Distinct}
use Rattle.fir_base.proofs.Members.{in_left, in_right, in_either}

pub distinct_left : {A : Type 0} → (xs ys : List A) → Distinct (xs ++ ys) → Distinct xs
distinct_left [] ys d = tt
distinct_left (x ∷ xs) ys d = (λ m. d.0 (in_left xs ys x m), distinct_left xs ys d.1)

pub distinct_right : {A : Type 0} → (xs ys : List A) → Distinct (xs ++ ys) → Distinct ys
distinct_right [] ys d = d
distinct_right (x ∷ xs) ys d = distinct_right xs ys d.1

-- the parts have no member in common
pub apart : {A : Type 0} → (xs ys : List A) → Distinct (xs ++ ys) → (x : A) → In xs x → In ys x → ⊥
apart [] ys d x m n = m
apart (z ∷ xs) ys d x (inl e) n = d.0 (in_right xs ys z (subst (In ys) (sym e) n))
apart (z ∷ xs) ys d x (inr m) n = apart xs ys d.1 x m n

pub distinct_joined : {A : Type 0} → (xs ys : List A) → Distinct xs → Distinct ys → ((x : A) → In xs x → In ys x → ⊥) → Distinct (xs ++ ys)
distinct_joined [] ys d e h = e
distinct_joined (x ∷ xs) ys d e h = (
  λ m. ⊎_elim (λ (n : In xs x). d.0 n) (λ (n : In ys x). h x (inl refl) n) (in_either xs ys x m),
  distinct_joined xs ys d.1 e (λ z m n. h z (inr m) n),
)

-- one more element
pub distinct_more : {A : Type 0} → (xs : List A) (x : A) → Distinct xs → (In xs x → ⊥) → Distinct (xs ++ x ∷ [])
distinct_more {A} xs x d new =
    distinct_joined xs (x ∷ []) d (λ m. m, tt)
    (λ y m n. ⊎_elim (λ (e : x ≡ y). new (subst (In xs) (sym e) m)) (λ (o : ⊥). o) n)
