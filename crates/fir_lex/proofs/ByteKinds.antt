-- Kinds of bytes, as tests and in words.
use Rattle.std.proofs.Common.{ℕ, ◌≤◌, ◌||◌, ◌&&◌, eqb, leb, ◌⊎◌, inl, inr}
use Rattle.std.specs.Prelude.{Decides}
use Rattle.std.proofs.lemmas.Bool.{leb-true, le-leb}
use Rattle.std.proofs.lemmas.Bool.Decides.{Decides-and, Decides-or, Decides-eqb, Decides-like}
use Rattle.fir_base.specs.Bytes.{is_letter, is_digit, is_word_start, is_word_byte}
use Rattle.fir_lex.specs.working.Bytes.{is_blank}
use Rattle.fir_lex.specs.Spelled.{IsDigit, BeginsWord, ContinuesWord}
use Rattle.fir_lex.specs.Pieces.{IsBlank}

within : (low high b : ℕ) → Decides (leb low b && leb b high) ((low ≤ b) × (b ≤ high))
within low high b = Decides-and (leb low b) (leb b high) (leb-true low b, le-leb low b) (leb-true b high, le-leb b high)

pub digit_decides : (b : ℕ) → Decides (is_digit b) (IsDigit b)
digit_decides b = within 48 57 b

pub begins_word_decides : (b : ℕ) → Decides (is_word_start b) (BeginsWord b)
begins_word_decides b =
    Decides-like (is_word_start b) apart joined
    (Decides-or (is_letter b) (eqb b 95) (Decides-or (leb 97 b && leb b 122) (leb 65 b && leb b 90) (within 97 122 b) (within 65 90 b)) (Decides-eqb b 95))
  where
    apart : {A B C : Type 0} → (A ⊎ B) ⊎ C → A ⊎ (B ⊎ C)
    apart (inl (inl a)) = inl a
    apart (inl (inr b)) = inr (inl b)
    apart (inr c) = inr (inr c)

    joined : {A B C : Type 0} → A ⊎ (B ⊎ C) → (A ⊎ B) ⊎ C
    joined (inl a) = inl (inl a)
    joined (inr (inl b)) = inl (inr b)
    joined (inr (inr c)) = inr c

pub continues_word_decides : (b : ℕ) → Decides (is_word_byte b) (ContinuesWord b)
continues_word_decides b =
    Decides-or (is_word_start b) (is_digit b || eqb b 36) (begins_word_decides b) (Decides-or (is_digit b) (eqb b 36) (digit_decides b) (Decides-eqb b 36))

pub blank_decides : (b : ℕ) → Decides (is_blank b) (IsBlank b)
blank_decides b = Decides-or (eqb b 32) (eqb b 9) (Decides-eqb b 32) (Decides-eqb b 9)
