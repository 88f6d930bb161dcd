-- The numbers of those elements of a list that are so, beside those elements of another list that are so.
use Rattle.std.proofs.Common.{◌≡◌, ℕ, suc, ◌+◌, ◌<◌, List, [], ◌∷◌, ◌++◌, Bool, true, false, map, filter, length, refl, ap, ap₂, arith, inl, inr}
use Rattle.std.specs.Prelude.{if◌then◌else◌}
use Rattle.fir_base.specs.Lists.{In}
use Rattle.fir_meaning.specs.working.StateWalks.{numbers_where}

-- both are so or neither is, and what is so is named alike by its number and by itself
pub record IsChosen {A B C : Type 0} (is_so : A → Bool) (so : B → Bool) (by_number : ℕ → C) (by_itself : B → C) (b : ℕ) (x : A)
    (y : B) : Type 0 where
  pub same : is_so x ≡ so y
  pub named : so y ≡ true → by_number b ≡ by_itself y

-- one by one, the first of the number b
abbrev pub AreChosen : {A B C : Type 0} → (A → Bool) → (B → Bool) → (ℕ → C) → (B → C) → ℕ → List A → List B → Type 0
AreChosen is_so so by_number by_itself b [] [] = Unit {0}
AreChosen is_so so by_number by_itself b (x ∷ xs) (y ∷ ys) =
    IsChosen is_so so by_number by_itself b x y × AreChosen is_so so by_number by_itself (suc b) xs ys
AreChosen is_so so by_number by_itself b _ _ = ⊥

pub chosen_same : {A B C : Type 0} (is_so : A → Bool) (so : B → Bool) (by_number : ℕ → C) (by_itself : B → C) (b : ℕ) (xs : List A)
    (ys : List B)
    → AreChosen is_so so by_number by_itself b xs ys → map by_number (numbers_where is_so b xs) ≡ map by_itself (filter so ys)
chosen_same is_so so by_number by_itself b [] [] h = refl
chosen_same is_so so by_number by_itself b [] (y ∷ ys) h = absurd h
chosen_same is_so so by_number by_itself b (x ∷ xs) [] h = absurd h
chosen_same is_so so by_number by_itself b (x ∷ xs) (y ∷ ys) h =
    go (is_so x) (so y) h.0.same h.0.named (chosen_same is_so so by_number by_itself (suc b) xs ys h.1)
  where
    go : (s t : Bool) → s ≡ t → (t ≡ true → by_number b ≡ by_itself y)
        → map by_number (numbers_where is_so (suc b) xs) ≡ map by_itself (filter so ys)
        → map by_number (if s then b ∷ numbers_where is_so (suc b) xs else numbers_where is_so (suc b) xs)
        ≡ map by_itself (if t then y ∷ filter so ys else filter so ys)
    go true true e named rest = ap₂ (λ z zs. z ∷ zs) (named refl) rest
    go true false e named rest = cc
    go false true e named rest = cc
    go false false e named rest = rest

-- such a number is one of the list's
pub number_within : {A : Type 0} (is_so : A → Bool) (b : ℕ) (xs : List A) (y : ℕ) → In (numbers_where is_so b xs) y → y < b + length xs
number_within is_so b [] y h = absurd h
number_within is_so b (x ∷ xs) y h = go (is_so x) h (λ i. number_within is_so (suc b) xs y i)
  where
    go : (t : Bool) → In (if t then b ∷ numbers_where is_so (suc b) xs else numbers_where is_so (suc b) xs) y
        → (In (numbers_where is_so (suc b) xs) y → y < suc b + length xs) → y < b + suc (length xs)
    go true (inl e) rest = omega (arith, e)
    go true (inr i) rest = omega (arith, rest i)
    go false i rest = omega (arith, rest i)

-- of joined lists the numbers of the first and then those of the second
pub numbers_joined : {A : Type 0} (is_so : A → Bool) (b c : ℕ) (xs ys : List A) → b + length xs ≡ c
    → numbers_where is_so b (xs ++ ys) ≡ numbers_where is_so b xs ++ numbers_where is_so c ys
numbers_joined is_so b c [] ys e = let same : b ≡ c = omega (arith, e) in ap (λ z. numbers_where is_so z ys) same
numbers_joined is_so b c (x ∷ xs) ys e = go (is_so x) (numbers_joined is_so (suc b) c xs ys (omega (arith, e)))
  where
    go : (t : Bool) → numbers_where is_so (suc b) (xs ++ ys) ≡ numbers_where is_so (suc b) xs ++ numbers_where is_so c ys
        → (if t then b ∷ numbers_where is_so (suc b) (xs ++ ys) else numbers_where is_so (suc b) (xs ++ ys))
        ≡ (if t then b ∷ numbers_where is_so (suc b) xs else numbers_where is_so (suc b) xs) ++ numbers_where is_so c ys
    go true rest = ap (λ zs. b ∷ zs) rest
    go false rest = rest

-- where two tests say the same of each element
pub numbers_alike : {A : Type 0} (is_so so : A → Bool) (b : ℕ) (xs : List A) → ((x : A) → In xs x → is_so x ≡ so x)
    → numbers_where is_so b xs ≡ numbers_where so b xs
numbers_alike is_so so b [] e = refl
numbers_alike is_so so b (x ∷ xs) e =
    ap₂ (λ t zs. if t then b ∷ zs else zs) (e x (inl refl)) (numbers_alike is_so so (suc b) xs (λ y i. e y (inr i)))

pub numbers_none : {A : Type 0} (is_so : A → Bool) (b : ℕ) (xs : List A) → ((x : A) → In xs x → is_so x ≡ false)
    → numbers_where is_so b xs ≡ []
numbers_none is_so b [] e = refl
numbers_none is_so b (x ∷ xs) e =
    ap₂ (λ t zs. if t then b ∷ zs else zs) (e x (inl refl)) (numbers_none is_so (suc b) xs (λ y i. e y (inr i)))
