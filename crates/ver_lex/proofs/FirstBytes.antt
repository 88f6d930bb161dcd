-- With which bytes tokens begin.
use Rattle.std.proofs.Common.{◌≡◌, ℕ, true, List, [], ◌∷◌, ◌++◌, codes, refl, inl, inr, ◌⊎◌}
use Rattle.std.specs.List.{list_all}
use Rattle.std.proofs.lemmas.Bool.{and_parts}
use Rattle.fir_base.specs.Lists.{In}
use Rattle.fir_base.specs.Bytes.{is_word_start, is_word_byte, is_digit}
use Rattle.fir_base.proofs.Each.{all_at}
use Rattle.ver_ast.specs.Tokens.{VToken, word, digit_zero, number, constant, sign, double, signed_shift, signed_word, question_digit, letter, lone_signs, doubles, AreDigits, IsConstant, IsSpelledAs}
use Rattle.ver_ast.specs.working.TokenSteps.{is_sign}
use Rattle.ver_ast.proofs.Reach.{all_tested}

-- a word or a digit; a sign; or the whole of `!=` or `$signed`
abbrev pub BeginsToken : ℕ → List ℕ → Type 0
BeginsToken b bs =
    (is_word_start b ≡ true) ⊎ (is_digit b ≡ true) ⊎ (is_sign b ≡ true) ⊎ ((b ≡ 33) × (bs ≡ 61 ∷ [])) ⊎ ((b ≡ 36) × (bs ≡ codes "signed"))

digits_first : (b : ℕ) (bs : List ℕ) → AreDigits (b ∷ bs) → BeginsToken b bs
digits_first b bs h = inr (inl h.1.0)

-- a constant begins with a digit
pub constant_first : (width value b : ℕ) (bs : List ℕ) → IsConstant width value (b ∷ bs) → is_digit b ≡ true
constant_first width value b bs c = at_size c.size c.is_size c.bytes
  where
    at_size : (size : List ℕ) → AreDigits size → b ∷ bs ≡ size ++ 39 ∷ letter c.base ∷ c.digits → is_digit b ≡ true
    at_size [] h e = absurd (h.0 refl)
    at_size (d ∷ ds) h e = let first : b ≡ d = cc in rw first h.1.0

double_first : (a c b : ℕ) (bs : List ℕ) → In doubles (a, c) → b ∷ bs ≡ a ∷ c ∷ [] → BeginsToken b bs
double_first a c b bs m e =
    all_at (λ d. b ∷ bs ≡ d.0 ∷ d.1 ∷ [] → BeginsToken b bs) doubles
    ((λ h. sign_at 40 42 refl h), ((λ h. sign_at 42 41 refl h), ((λ h. sign_at 60 61 refl h), ((λ h. sign_at 62 61 refl h), ((λ h. sign_at 61 61 refl h), ((λ h. unequal h), ((λ h. sign_at 60 60 refl h), ((λ h. sign_at 62 62 refl h), tt)))))))) (a, c) m e
  where
    sign_at : (x y : ℕ) → is_sign x ≡ true → b ∷ bs ≡ x ∷ y ∷ [] → BeginsToken b bs
    sign_at x y s h = let first : b ≡ x = cc in inr (inr (inl (rw first s)))

    unequal : b ∷ bs ≡ 33 ∷ 61 ∷ [] → BeginsToken b bs
    unequal h =
        let first : b ≡ 33 = cc in
        let rest : bs ≡ 61 ∷ [] = cc in
        inr (inr (inr (inl (first, rest))))

pub token_first : (t : VToken) (b : ℕ) (bs : List ℕ) → IsSpelledAs t (b ∷ bs) → BeginsToken b bs
token_first (word []) b bs h = absurd cc
token_first (word (c ∷ cs)) b bs h =
    let p = and_parts (is_word_start c) (list_all is_word_byte cs) h.0 in
    let first : b ≡ c = cc in
    inl (rw first p.0)
token_first digit_zero b bs h = let first : b ≡ 48 = cc in inr (inl (rw first refl))
token_first (number n) b bs h = digits_first b bs h.0
token_first (constant width value) b bs h = inr (inl (constant_first width value b bs h))
token_first (sign a) b bs h = let first : b ≡ a = cc in inr (inr (inl (rw first (all_tested is_sign lone_signs refl a h.0))))
token_first (double a c) b bs h = double_first a c b bs h.0 h.1
token_first signed_shift b bs h = let first : b ≡ 62 = cc in inr (inr (inl (rw first refl)))
token_first signed_word b bs h =
    let first : b ≡ 36 = cc in
    let rest : bs ≡ codes "signed" = cc in
    inr (inr (inr (inr (first, rest))))
token_first question_digit b bs h = absurd h

-- each token has bytes
pub no_bytes : (t : VToken) → IsSpelledAs t [] → ⊥
no_bytes (word []) h = cc
no_bytes (word (c ∷ cs)) h = let no : [] ≡ c ∷ cs = h.1 in cc
no_bytes digit_zero h = cc
no_bytes (number n) h = h.0.0 refl
no_bytes (constant width value) h = at h.size h.bytes
  where
    at : (size : List ℕ) → [] ≡ size ++ 39 ∷ letter h.base ∷ h.digits → ⊥
    at [] e = cc
    at (d ∷ ds) e = cc
no_bytes (sign a) h = let no : [] ≡ a ∷ [] = h.1 in cc
no_bytes (double a b) h = let no : [] ≡ a ∷ b ∷ [] = h.1 in cc
no_bytes signed_shift h = cc
no_bytes signed_word h = cc
no_bytes question_digit h = h
