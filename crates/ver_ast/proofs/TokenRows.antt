-- The tokens of small texts, and texts that have none.
use Rattle.std.proofs.Common.{◌≡◌, ℕ, List, [], ◌∷◌, refl}
use Rattle.std.specs.Prelude.{codes}
use Rattle.ver_ast.specs.Tokens.{VToken, word, digit_zero, number, constant, sign, double, signed_shift, signed_word, question_digit}
use Rattle.ver_ast.specs.Pieces.{PlacedToken, HasTokens}
use Rattle.ver_ast.specs.working.TokenSteps.{tokens_from}
use Rattle.ver_ast.proofs.TokenPieces.{plain_of}
use Rattle.ver_ast.proofs.TokensFound.{tokens_found}
use Rattle.ver_ast.proofs.TokensTaken.{spelled_tokens}

abbrev HasNoTokens : List ℕ → Type 0
HasNoTokens bytes = (ts : List PlacedToken) → HasTokens bytes ts → ⊥

-- these tokens, each at some place
abbrev HasTheTokens : List ℕ → List VToken → Type 0
HasTheTokens bytes ts = (placed : List PlacedToken) × HasTokens bytes placed × (plain_of placed ≡ ts)

constant_without_digits : HasNoTokens (codes "4'g")
unfolding tokens_from
constant_without_digits ts h = let e = spelled_tokens (codes "4'g") ts h in cc

constant_not_ended : HasNoTokens (codes "a 4'h")
unfolding tokens_from
constant_not_ended ts h = let e = spelled_tokens (codes "a 4'h") ts h in cc

constant_and_word : HasTheTokens (codes "8'h5_5") (constant 8 5 ∷ word (codes "_5") ∷ [])
unfolding tokens_from
constant_and_word = tokens_found _ _ refl

either_case : HasTheTokens (codes "8'haF") (constant 8 175 ∷ [])
unfolding tokens_from
either_case = tokens_found _ _ refl

other_bases : HasTheTokens (codes "8'd19f 8'b102") (constant 8 19 ∷ word (codes "f") ∷ constant 8 2 ∷ number 2 ∷ [])
unfolding tokens_from
other_bases = tokens_found _ _ refl

digits : HasTheTokens (codes "0 00 5x") (digit_zero ∷ number 0 ∷ number 5 ∷ word (codes "x") ∷ [])
unfolding tokens_from
digits = tokens_found _ _ refl

signed_then_word : HasTheTokens (codes "$signedx") (signed_word ∷ word (codes "x") ∷ [])
unfolding tokens_from
signed_then_word = tokens_found _ _ refl

no_dollar : HasNoTokens (codes "$sign")
unfolding tokens_from
no_dollar ts h = let e = spelled_tokens (codes "$sign") ts h in cc

four_arrows : HasTheTokens (codes ">>>>") (signed_shift ∷ sign 62 ∷ [])
unfolding tokens_from
four_arrows = tokens_found _ _ refl

marks : HasTheTokens (codes "(*)<=a") (double 40 42 ∷ sign 41 ∷ double 60 61 ∷ word (codes "a") ∷ [])
unfolding tokens_from
marks = tokens_found _ _ refl

empty_comment : HasTheTokens (codes "a/**/b/***/") (word (codes "a") ∷ word (codes "b") ∷ [])
unfolding tokens_from
empty_comment = tokens_found _ _ refl

comment_not_closed : HasNoTokens (codes "/*/")
unfolding tokens_from
comment_not_closed ts h = let e = spelled_tokens (codes "/*/") ts h in cc

ends_within_a_line : HasTheTokens (codes "a // 4'g") (word (codes "a") ∷ [])
unfolding tokens_from
ends_within_a_line = tokens_found _ _ refl

question_behind_a_constant : HasTheTokens (codes "1'h0?a") (constant 1 0 ∷ question_digit ∷ word (codes "a") ∷ [])
unfolding tokens_from
question_behind_a_constant = tokens_found _ _ refl

question_apart : HasTheTokens (codes "1'h0 ?a") (constant 1 0 ∷ sign 63 ∷ word (codes "a") ∷ [])
unfolding tokens_from
question_apart = tokens_found _ _ refl

question_behind_a_number : HasTheTokens (codes "1?a") (number 1 ∷ sign 63 ∷ word (codes "a") ∷ [])
unfolding tokens_from
question_behind_a_number = tokens_found _ _ refl
