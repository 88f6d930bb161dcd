-- The last elements of a list, put behind it again and again.
use Rattle.std.proofs.Common.{◌≡◌, ℕ, zero, suc, ◌+◌, ◌-◌, ◌≤◌, List, ◌++◌, length, take, drop, sym, ap, ◌∙◌, append_assoc, append-nil, arith}
use Rattle.std.specs.Prelude.{slice_range}
use Rattle.std.proofs.lemmas.List.{drop-append-le, length-append, length-drop, take-append-le, take_all}
use Rattle.fir_meaning.specs.HeldTypes.{repeated}

repeated_push : {A : Type 0} → (n : ℕ) (xs : List A) → repeated n xs ++ xs ≡ repeated (n + 1) xs
repeated_push zero xs = sym (append-nil xs)
repeated_push (suc n) xs =
    let next : suc (n + 1) ≡ suc n + 1 = omega arith in
    append_assoc xs (repeated n xs) xs ∙ ap (λ ys. xs ++ ys) (repeated_push n xs) ∙ ap (λ k. repeated k xs) next

module _ {A : Type 0} (old now : List A) (start end i : ℕ) (from : start ≤ length old) (whole : end ≡ length old)
    (is : now ≡ old ++ repeated (i - 1) (drop start old)) where
  pub within : end ≤ length now
  within =
      let long : length now ≡ length old + length (repeated (i - 1) (drop start old)) =
      ap length is ∙ length-append old (repeated (i - 1) (drop start old)) in omega arith

  same_part : slice_range now start end ≡ drop start old
  same_part =
      let one = drop start old in
      let rest = repeated (i - 1) one in
      let long : length one ≡ end - start = length-drop start old ∙ ap (λ n. n - start) (sym whole) in
      ap (λ xs. take (end - start) (drop start xs)) is ∙ ap (take (end - start)) (drop-append-le start old rest from)
      ∙ take-append-le (end - start) one rest (omega (arith, long)) ∙ take_all (end - start) one (omega (arith, long))

  pub once_more : (new : List A) → 1 ≤ i → new ≡ now ++ slice_range now start end → new ≡ old ++ repeated ((i + 1) - 1) (drop start old)
  once_more new some grown =
      let one = drop start old in
      let next : (i - 1) + 1 ≡ (i + 1) - 1 = omega arith in
      grown ∙ ap (λ xs. now ++ xs) same_part ∙ ap (λ xs. xs ++ one) is ∙ append_assoc old (repeated (i - 1) one) one
      ∙ ap (λ xs. old ++ xs) (repeated_push (i - 1) one ∙ ap (λ k. repeated k one) next)
