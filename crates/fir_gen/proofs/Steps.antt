-- The lines of one register more, behind what stands before them.
use Rattle.std.proofs.Common.{◌≡◌, ◌+◌, ◌∙◌, ℕ, zero, suc, List, [], ◌++◌, add-one, add-zero, append_assoc, append-nil, arith, ap, sym, zero-add}
use Rattle.fir_gen.specs.GenText.{step_lines, steps_text}

one_step_more : (j count : ℕ) → steps_text j (suc count) ≡ steps_text j count ++ step_lines (j + count)
unfolding steps_text
one_step_more j zero = append-nil (step_lines j) ∙ ap step_lines (sym (add-zero j))
one_step_more j (suc count) =
    let same : j + 1 + count ≡ j + suc count = omega arith in
    ap (λ rest. step_lines j ++ rest) (one_step_more (j + 1) count ∙ ap (λ k. steps_text (j + 1) count ++ step_lines k) same)
    ∙ sym (append_assoc (step_lines j) (steps_text (j + 1) count) (step_lines (j + suc count)))

pub no_steps : (front old all : List ℕ) → old ≡ [] → all ≡ old ++ front → all ≡ front ++ steps_text 0 0
unfolding steps_text
no_steps front old all empty put = put ∙ ap (λ x. x ++ front) empty ∙ sym (append-nil front)

pub more_steps : (front old all : List ℕ) (j : ℕ) → old ≡ front ++ steps_text 0 j → all ≡ old ++ step_lines j → all ≡ front ++ steps_text 0 (j + 1)
more_steps front old all j before put =
    put ∙ ap (λ x. x ++ step_lines j) before ∙ append_assoc front (steps_text 0 j) (step_lines j)
    ∙ ap (λ x. front ++ x)
    (sym (ap (steps_text 0) (add-one j) ∙ one_step_more 0 j ∙ ap (λ k. steps_text 0 j ++ step_lines k) (zero-add j)))

pub all_steps : (front last old all : List ℕ) (j n : ℕ) → j ≡ n → old ≡ front ++ steps_text 0 j → all ≡ old ++ last → all ≡ front ++ steps_text 0 n ++ last
all_steps front last old all j n same before put = put ∙ ap (λ x. x ++ last) (before ∙ ap (λ k. front ++ steps_text 0 k) same)
