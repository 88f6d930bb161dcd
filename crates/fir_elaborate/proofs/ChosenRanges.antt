-- The numbers from one on that pass a test: one range behind another, and one test behind another.
use Rattle.std.proofs.Common.{◌≡◌, ℕ, zero, suc, ◌+◌, ◌<◌, ◌≤◌, List, [], ◌∷◌, ◌++◌, Bool, true, false, ◌||◌, cond, filter, length, get_or, refl, sym, ap, ◌∙◌, arith}
use Rattle.std.specs.Prelude.{if◌then◌else◌}
use Rattle.std.specs.List.{range_with_len}
use Rattle.fir_meaning.specs.working.StateWalks.{numbers_where}

-- what holds of each number of a range, of the first and of the others
abbrev Within : ℕ → ℕ → (ℕ → Type 0) → Type 0
Within a n P = (x : ℕ) → a ≤ x → x < a + n → P x

within_first : (a n : ℕ) (P : ℕ → Type 0) → Within a (suc n) P → P a
within_first a n P h = h a (omega arith) (omega arith)

within_others : (a n : ℕ) (P : ℕ → Type 0) → Within a (suc n) P → Within (a + 1) n P
within_others a n P h = λ x low high. h x (omega (arith, low)) (omega (arith, high))

pub chosen_joined : (p : ℕ → Bool) (a n k b : ℕ) → a + n ≡ b
    → filter p (range_with_len a (n + k)) ≡ filter p (range_with_len a n) ++ filter p (range_with_len b k)
chosen_joined p a zero k b e =
    let same : a ≡ b = omega (arith, e) in
    let none : zero + k ≡ k = omega arith in
    ap (λ z. filter p (range_with_len a z)) none ∙ ap (λ z. filter p (range_with_len z k)) same
chosen_joined p a (suc n) k b e =
    let next : suc n + k ≡ suc (n + k) = omega arith in
    ap (λ z. filter p (range_with_len a z)) next ∙ go (p a) (chosen_joined p (a + 1) n k b (omega (arith, e)))
  where
    go : (t : Bool)
        → filter p (range_with_len (a + 1) (n + k)) ≡ filter p (range_with_len (a + 1) n) ++ filter p (range_with_len b k)
        → cond t (a ∷ filter p (range_with_len (a + 1) (n + k))) (filter p (range_with_len (a + 1) (n + k)))
        ≡ cond t (a ∷ filter p (range_with_len (a + 1) n)) (filter p (range_with_len (a + 1) n)) ++ filter p (range_with_len b k)
    go true h = ap (λ xs. a ∷ xs) h
    go false h = h

pub chosen_none : (p : ℕ → Bool) (a n : ℕ) → Within a n (λ x. p x ≡ false) → filter p (range_with_len a n) ≡ []
chosen_none p a zero h = refl
chosen_none p a (suc n) h =
    ap (λ t. cond t (a ∷ filter p (range_with_len (a + 1) n)) (filter p (range_with_len (a + 1) n))) (within_first a n (λ x. p x ≡ false) h)
    ∙ chosen_none p (a + 1) n (within_others a n (λ x. p x ≡ false) h)

pub chosen_same : (p q : ℕ → Bool) (a n : ℕ) → Within a n (λ x. p x ≡ q x) → filter p (range_with_len a n) ≡ filter q (range_with_len a n)
chosen_same p q a zero h = refl
chosen_same p q a (suc n) h =
    ap (λ t. cond t (a ∷ filter p (range_with_len (a + 1) n)) (filter p (range_with_len (a + 1) n))) (within_first a n (λ x. p x ≡ q x) h)
    ∙ ap (λ xs. cond (q a) (a ∷ xs) xs) (chosen_same p q (a + 1) n (within_others a n (λ x. p x ≡ q x) h))

-- numbers that pass one of two tests, where what passes the second stands behind what passes the first
pub chosen_in_turn : (r p q : ℕ → Bool) (a n : ℕ) → Within a n (λ x. r x ≡ (p x || q x))
    → Within a n (λ x. (y : ℕ) → x ≤ y → y < a + n → q x ≡ true → p y ≡ false)
    → filter r (range_with_len a n) ≡ filter p (range_with_len a n) ++ filter q (range_with_len a n)
chosen_in_turn r p q a zero e turn = refl
chosen_in_turn r p q a (suc n) e turn =
    go (r a) (p a) (q a) (within_first a n (λ x. r x ≡ (p x || q x)) e) (turn a (omega arith) (omega arith) a (omega arith) (omega arith))
    (chosen_in_turn r p q (a + 1) n (within_others a n (λ x. r x ≡ (p x || q x)) e)
    (λ x low high y le lt. turn x (omega (arith, low)) (omega (arith, high)) y le (omega (arith, lt))))
    (λ is. chosen_none p (a + 1) n (λ x low high. turn a (omega arith) (omega arith) x (omega (arith, low)) (omega (arith, high)) is))
  where
    go : (s t u : Bool) → s ≡ (t || u) → (u ≡ true → t ≡ false)
        → filter r (range_with_len (a + 1) n) ≡ filter p (range_with_len (a + 1) n) ++ filter q (range_with_len (a + 1) n)
        → (u ≡ true → filter p (range_with_len (a + 1) n) ≡ [])
        → cond s (a ∷ filter r (range_with_len (a + 1) n)) (filter r (range_with_len (a + 1) n))
        ≡ cond t (a ∷ filter p (range_with_len (a + 1) n)) (filter p (range_with_len (a + 1) n))
        ++ cond u (a ∷ filter q (range_with_len (a + 1) n)) (filter q (range_with_len (a + 1) n))
    go true true true is apart rest none = absurd (cc (apart refl))
    go true true false is apart rest none = ap (λ xs. a ∷ xs) rest
    go true false true is apart rest none =
        ap (λ xs. a ∷ xs) (rest ∙ ap (λ xs. xs ++ filter q (range_with_len (a + 1) n)) (none refl))
        ∙ ap (λ xs. xs ++ a ∷ filter q (range_with_len (a + 1) n)) (sym (none refl))
    go true false false is apart rest none = absurd (cc)
    go false true u is apart rest none = absurd (cc)
    go false false true is apart rest none = absurd (cc)
    go false false false is apart rest none = rest

-- the numbers of elements are those of a range
pub numbers_chosen : {A : Type 0} (is_so : A → Bool) (g : ℕ → Bool) (d : A) (b : ℕ) (xs : List A)
    → ((j : ℕ) → j < length xs → is_so (get_or xs j d) ≡ g (b + j)) → numbers_where is_so b xs ≡ filter g (range_with_len b (length xs))
numbers_chosen is_so g d b [] e = refl
numbers_chosen is_so g d b (x ∷ xs) e =
    let here : b + 0 ≡ b = omega arith in
    let next : suc b ≡ b + 1 = omega arith in
    ap (λ t. if t then b ∷ numbers_where is_so (suc b) xs else numbers_where is_so (suc b) xs) (e 0 (omega arith) ∙ ap g here)
    ∙ ap (λ ys. cond (g b) (b ∷ ys) ys)
    (ap (λ z. numbers_where is_so z xs) next
    ∙ numbers_chosen is_so g d (b + 1) xs (λ j lt. let moved : b + suc j ≡ b + 1 + j = omega arith in e (suc j) (omega (arith, lt)) ∙ ap g moved))
