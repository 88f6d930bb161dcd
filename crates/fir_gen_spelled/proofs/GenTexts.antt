-- The text of the rows is that of the circuit `Gen`.
use Rattle.std.proofs.Common.{◌≡◌, ℕ, suc, ◌+◌, ◌-◌, List, [], ◌∷◌, ◌++◌, codes, refl, sym, ◌∙◌, append_assoc, arith}
use Rattle.std.specs.Prelude.{decimal}
use Rattle.std.proofs.lemmas.Fmt.{decimal_digit}
use Rattle.fir_lex.specs.Tokens.{Token}
use Rattle.fir_lex.specs.Lines.{text_of}
use Rattle.fir_gen.specs.GenText.{register_name, head_lines, first_lines, step_lines, steps_text, last_line, gen_text}
use Rattle.fir_gen_spelled.proofs.Rows.{lines_of}
use Rattle.fir_gen_spelled.proofs.GenRows.{head_rows, step_rows, last_rows}
use Rattle.fir_gen_spelled.proofs.Joined.{left_is_right, rows_joined}

-- the text of the head, and that of a step
pub head_bytes : List ℕ
head_bytes = head_lines ++ first_lines

pub step_bytes : ℕ → List ℕ
step_bytes j = step_lines j

pub head_text : text_of (lines_of head_rows) ≡ head_bytes
unfolding head_bytes
head_text = rows_joined head_rows ∙ rw (decimal_digit 0 (omega arith)) refl

pub step_text : (moves : List Token) (j : ℕ) → text_of (lines_of (step_rows moves j)) ≡ step_bytes j
unfolding step_bytes
step_text moves j = rows_joined (step_rows moves j) ∙ sym (left_is_right (codes "    reg ") pieces)
  where
    own : List ℕ
    own = register_name (j + 1)

    former : List ℕ
    former = register_name j

    pieces : List (List ℕ)
    pieces =
        own ∷ codes " : UInt<16>, clock with : (reset => (reset, UInt<16>(" ∷ decimal (j + 1) ∷ codes ")))\n"
        ∷ codes "    when bits(x, 0, 0) :\n      " ∷ own ∷ codes " <= xor(" ∷ former ∷ codes ", " ∷ own ∷ codes ")\n    else :\n      " ∷ own
        ∷ codes " <= tail(add(" ∷ own ∷ codes ", " ∷ former ∷ codes "), 1)\n" ∷ []

pub last_text : (moves : List Token) (k : ℕ) → text_of (lines_of (last_rows moves k)) ≡ last_line k
last_text moves k = rows_joined (last_rows moves k) ∙ sym (left_is_right (codes "    y <= ") (register_name k ∷ codes "\n" ∷ []))

-- the text of so many steps and that of one more
pub steps_begin : (j count : ℕ) → steps_text j (suc count) ≡ step_bytes j ++ steps_text (j + 1) count
unfolding step_bytes steps_text
steps_begin j count = refl

pub no_steps : (j : ℕ) → steps_text j 0 ≡ []
unfolding steps_text
no_steps j = refl

pub gen_bytes : (n : ℕ) → gen_text n ≡ head_bytes ++ (steps_text 0 (n - 1) ++ last_line (n - 1))
unfolding head_bytes
gen_bytes n = append_assoc head_bytes (steps_text 0 (n - 1)) (last_line (n - 1))
