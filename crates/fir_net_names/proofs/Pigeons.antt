-- Of different elements that are all in a list there are at most as many as the list has.
use Rattle.std.proofs.Common.{◌≡◌, ℕ, ◌+◌, ◌<◌, ◌≤◌, zero, suc, List, [], ◌∷◌, ◌++◌, length, ap, ◌∙◌, inl, inr, ◌⊎◌, ⊎_elim, subst, arith, length-append}
use Rattle.fir_base.specs.Lists.{In}

-- a list around one of its elements
record Around {A : Type 0} (xs : List A) (x : A) : Type 0 where
  front : List A
  back : List A
  is : xs ≡ front ++ x ∷ back

around : {A : Type 0} → (xs : List A) (x : A) → In xs x → Around xs x
around [] x m = absurd m
around (y ∷ ys) x (inl e) = record { front = []; back = ys; is = ap (λ z. z ∷ ys) e }
around (y ∷ ys) x (inr m) = let r = around ys x m in record { front = y ∷ r.front; back = r.back; is = ap (λ zs. y ∷ zs) r.is }

-- a member is the element in the middle, or another
middle_or_rest : {A : Type 0} → (xs : List A) (y : A) (ys : List A) (x : A) → In (xs ++ y ∷ ys) x → (y ≡ x) ⊎ In (xs ++ ys) x
middle_or_rest [] y ys x m = m
middle_or_rest (z ∷ xs) y ys x (inl e) = inr (inl e)
middle_or_rest (z ∷ xs) y ys x (inr m) =
    ⊎_elim (λ (e : y ≡ x). inl e) (λ (n : In (xs ++ ys) x). inr (inr n)) (middle_or_rest xs y ys x m)

pub pigeons : {A : Type 0} → (n : ℕ) (f : ℕ → A) (xs : List A) → ((i j : ℕ) → i < n → j < n → f i ≡ f j → i ≡ j) → ((k : ℕ) → k < n → In xs (f k)) → n ≤ length xs
pigeons zero f xs apart each = omega arith
pigeons {A} (suc n) f xs apart each =
    let r = around xs (f n) (each n (omega arith)) in
    let rest : List A = r.front ++ r.back in
    let same : (k : ℕ) → k < n → f n ≡ f k → ⊥ = λ k h e. let equal : n ≡ k = apart n k (omega arith) (omega arith) e in omega arith in
    let less : (k : ℕ) → k < n → In rest (f k) = λ k h.
    ⊎_elim (λ (e : f n ≡ f k). absurd (same k h e)) (λ (o : In rest (f k)). o)
    (middle_or_rest r.front (f n) r.back (f k) (subst (λ zs. In zs (f k)) r.is (each k (omega arith)))) in
    let shorter : n ≤ length rest = pigeons n f rest (λ i j h g. apart i j (omega arith) (omega arith)) less in
    let long : length xs ≡ length r.front + length (f n ∷ r.back) = ap length r.is ∙ length-append r.front (f n ∷ r.back) in
    let short : length rest ≡ length r.front + length r.back = length-append r.front r.back in
    omega arith
