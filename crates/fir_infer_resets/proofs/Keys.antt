-- No two modules and paths have one key.
use Rattle.std.proofs.Common.{◌≡◌, ℕ, ◌+◌, ◌<◌, ◌≤◌, List, [], ◌∷◌, ◌++◌, map, flat_map, refl, sym, ap, ◌∙◌, inl, inr, ◌⊎◌, arith, append_assoc}
use Rattle.std.specs.Int.Digits.{digits_of}
use Rattle.std.proofs.lemmas.Bool.{cases_lt}
use Rattle.std.proofs.lemmas.Bool.Decides.{nat_tests}
use Rattle.std.proofs.lemmas.Int.Digits.{same_from_digits_of}
use Rattle.fir_meaning.specs.LeafPaths.{Step, LeafPath, named, element}
use Rattle.fir_infer_resets.specs.working.PathKeys.{key_byte, number_key, step_key, path_key}

-- nothing, or what begins a step
abbrev Begins : List ℕ → Type 0
Begins [] = Unit {0}
Begins (b ∷ bs) = b < 2

-- digits end where a step begins
digits_apart : (ds es xs ys : List ℕ) → Begins xs → Begins ys → map (λ d. d + 3) ds ++ xs ≡ map (λ d. d + 3) es ++ ys → (ds ≡ es) × (xs ≡ ys)
digits_apart [] [] xs ys h k e = (refl, e)
digits_apart [] (d ∷ es) [] ys h k e = absurd (cc)
digits_apart [] (d ∷ es) (x ∷ xs) ys h k e = let same : x ≡ d + 3 = cc in absurd (omega (arith, same, h))
digits_apart (d ∷ ds) [] xs [] h k e = absurd (cc)
digits_apart (d ∷ ds) [] xs (y ∷ ys) h k e = let same : d + 3 ≡ y = cc in absurd (omega (arith, same, k))
digits_apart (d ∷ ds) (f ∷ es) xs ys h k e =
    let first : d + 3 ≡ f + 3 = cc in
    let same : d ≡ f = omega (arith, first) in
    let rest : map (λ d. d + 3) ds ++ xs ≡ map (λ d. d + 3) es ++ ys = cc in
    let r = digits_apart ds es xs ys h k rest in (ap (λ z. z ∷ ds) same ∙ ap (λ zs. f ∷ zs) r.0, r.1)

escaped : (b : ℕ) → b < 3 → key_byte b ≡ 2 ∷ b ∷ []
escaped b h = grind (arith, nat_tests)

plain : (b : ℕ) → 3 ≤ b → key_byte b ≡ b ∷ []
plain b h = grind (arith, nat_tests)

-- a byte of a name begins no step
no_step : (b : ℕ) (bs xs : List ℕ) → Begins xs → xs ≡ key_byte b ++ bs → ⊥
no_step b bs [] h e = by (cases_lt b 3)
  where
    by : (b < 3) ⊎ (3 ≤ b) → ⊥
    by (inl lt) = let is : [] ≡ 2 ∷ b ∷ bs = e ∙ ap (λ k. k ++ bs) (escaped b lt) in cc
    by (inr ge) = let is : [] ≡ b ∷ bs = e ∙ ap (λ k. k ++ bs) (plain b ge) in cc
no_step b bs (x ∷ xs) h e = by (cases_lt b 3)
  where
    by : (b < 3) ⊎ (3 ≤ b) → ⊥
    by (inl lt) =
        let is : x ∷ xs ≡ 2 ∷ b ∷ bs = e ∙ ap (λ k. k ++ bs) (escaped b lt) in
        let first : x ≡ 2 = cc in omega (arith, first, h)
    by (inr ge) =
        let is : x ∷ xs ≡ b ∷ bs = e ∙ ap (λ k. k ++ bs) (plain b ge) in
        let first : x ≡ b = cc in omega (arith, first, h, ge)

bytes_apart : (b c : ℕ) (xs ys : List ℕ) → key_byte b ++ xs ≡ key_byte c ++ ys → (b ≡ c) × (xs ≡ ys)
bytes_apart b c xs ys e = by (cases_lt b 3) (cases_lt c 3)
  where
    by : (b < 3) ⊎ (3 ≤ b) → (c < 3) ⊎ (3 ≤ c) → (b ≡ c) × (xs ≡ ys)
    by (inl h) (inl k) =
        let is : 2 ∷ b ∷ xs ≡ 2 ∷ c ∷ ys = ap (λ l. l ++ xs) (sym (escaped b h)) ∙ e ∙ ap (λ l. l ++ ys) (escaped c k) in
        let first : b ≡ c = cc in
        let rest : xs ≡ ys = cc in (first, rest)
    by (inl h) (inr k) =
        let is : 2 ∷ b ∷ xs ≡ c ∷ ys = ap (λ l. l ++ xs) (sym (escaped b h)) ∙ e ∙ ap (λ l. l ++ ys) (plain c k) in
        let first : 2 ≡ c = cc in absurd (omega (arith, first, k))
    by (inr h) (inl k) =
        let is : b ∷ xs ≡ 2 ∷ c ∷ ys = ap (λ l. l ++ xs) (sym (plain b h)) ∙ e ∙ ap (λ l. l ++ ys) (escaped c k) in
        let first : b ≡ 2 = cc in absurd (omega (arith, first, h))
    by (inr h) (inr k) =
        let is : b ∷ xs ≡ c ∷ ys = ap (λ l. l ++ xs) (sym (plain b h)) ∙ e ∙ ap (λ l. l ++ ys) (plain c k) in
        let first : b ≡ c = cc in
        let rest : xs ≡ ys = cc in (first, rest)

-- a name ends where a step begins
names_apart : (a b xs ys : List ℕ) → Begins xs → Begins ys → flat_map key_byte a ++ xs ≡ flat_map key_byte b ++ ys → (a ≡ b) × (xs ≡ ys)
names_apart [] [] xs ys h k e = (refl, e)
names_apart [] (y ∷ b) xs ys h k e = absurd (no_step y (flat_map key_byte b ++ ys) xs h (e ∙ append_assoc (key_byte y) (flat_map key_byte b) ys))
names_apart (x ∷ a) [] xs ys h k e = absurd (no_step x (flat_map key_byte a ++ xs) ys k (sym e ∙ append_assoc (key_byte x) (flat_map key_byte a) xs))
names_apart (x ∷ a) (y ∷ b) xs ys h k e =
    let one = bytes_apart x y (flat_map key_byte a ++ xs) (flat_map key_byte b ++ ys)
    (sym (append_assoc (key_byte x) (flat_map key_byte a) xs) ∙ e ∙ append_assoc (key_byte y) (flat_map key_byte b) ys) in
    let r = names_apart a b xs ys h k one.1 in (ap (λ z. z ∷ a) one.0 ∙ ap (λ zs. y ∷ zs) r.0, r.1)

steps_apart : (s t : Step) (xs ys : List ℕ) → Begins xs → Begins ys → step_key s ++ xs ≡ step_key t ++ ys → (s ≡ t) × (xs ≡ ys)
steps_apart (named a) (named b) xs ys h k e =
    let rest : flat_map key_byte a ++ xs ≡ flat_map key_byte b ++ ys = cc in
    let r = names_apart a b xs ys h k rest in (ap named r.0, r.1)
steps_apart (named a) (element j) xs ys h k e = absurd (cc)
steps_apart (element i) (named b) xs ys h k e = absurd (cc)
steps_apart (element i) (element j) xs ys h k e =
    let rest : number_key i ++ xs ≡ number_key j ++ ys = cc in
    let r = digits_apart (digits_of 128 i) (digits_of 128 j) xs ys h k rest in
    (ap element (same_from_digits_of 128 i j (omega arith) r.0), r.1)

begins : (p : LeafPath) → Begins (flat_map step_key p)
begins [] = tt
begins (named x ∷ p) = omega arith
begins (element i ∷ p) = omega arith

key_of_none : (t : Step) (q : LeafPath) → [] ≡ flat_map step_key (t ∷ q) → ⊥
key_of_none (named x) q e = cc
key_of_none (element i) q e = cc

paths_apart : (p q : LeafPath) → flat_map step_key p ≡ flat_map step_key q → p ≡ q
paths_apart [] [] e = refl
paths_apart [] (t ∷ q) e = absurd (key_of_none t q e)
paths_apart (s ∷ p) [] e = absurd (key_of_none s p (sym e))
paths_apart (s ∷ p) (t ∷ q) e =
    let one = steps_apart s t (flat_map step_key p) (flat_map step_key q) (begins p) (begins q) e in
    ap (λ z. z ∷ p) one.0 ∙ ap (λ zs. t ∷ zs) (paths_apart p q one.1)

pub one_path : (number other : ℕ) (p q : LeafPath) → path_key number p ≡ path_key other q → (number ≡ other) × (p ≡ q)
one_path number other p q e =
    let one = steps_apart (element number) (element other) (flat_map step_key p) (flat_map step_key q) (begins p) (begins q) e in
    (element_same number other one.0, paths_apart p q one.1)
  where
    element_same : (i j : ℕ) → element i ≡ element j → i ≡ j
    element_same i j h = cc
