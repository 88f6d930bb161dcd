-- The padded hexadecimal digits of a number below 2 ^ 128: those of its sixteenth part with one digit less, then the last.
use Rattle.std.proofs.Common.{◌≡◌, ℕ, ◌+◌, ◌-◌, ◌/◌, ◌%◌, ◌^◌, ◌<◌, ◌≤◌, List, [], ◌∷◌, ◌++◌, length, false, sym, ap, ◌∙◌, append_assoc, length-append, arith}
use Rattle.std.specs.Prelude.{replicate}
use Rattle.std.specs.Fmt.{digit_glyph}
use Rattle.std.specs.Int.{div_ceil}
use Rattle.std.proofs.lemmas.Fmt.{hex_one_digit}
use Rattle.std.proofs.lemmas.List.{replicate-append-replicate}
use Rattle.fir_base.specs.Digits.{hexadecimal}
use Rattle.fir_base.proofs.Digits.{last_digit, hexadecimal_more}
use Rattle.fir_bits.specs.Values.{BitVector}
use Rattle.trace_text.specs.OutputLines.{padded, value_text}

-- one digit more needs one zero less
one_less : (count : ℕ) (ds : List ℕ) (d : ℕ) → padded count (ds ++ d ∷ []) ≡ padded (count - 1) ds ++ d ∷ []
one_less count ds d =
    let zeros : count - length (ds ++ d ∷ []) ≡ (count - 1) - length ds = omega (arith, length-append ds (d ∷ [])) in
    rw zeros (sym (append_assoc (replicate ((count - 1) - length ds) 48) ds (d ∷ [])))

-- a number of one digit behind its zeros, in a text
pub padded_one : (out : List ℕ) (count n : ℕ) → n < 16 → (out ++ replicate (count - 1) 48) ++ last_digit n ∷ [] ≡ out ++ padded count (hexadecimal n)
padded_one out count n h =
    let last : n % 16 ≡ n = omega arith in
    rw (hex_one_digit false n h, last) (append_assoc out (replicate (count - 1) 48) (digit_glyph false n ∷ []))

-- the last digit behind the others, in a text
pub padded_more : (out : List ℕ) (count n : ℕ) → 16 ≤ n → n < 2 ^ 128 → (out ++ padded (count - 1) (hexadecimal (n / 16))) ++ last_digit n ∷ [] ≡ out ++ padded count (hexadecimal n)
padded_more out count n h small =
    append_assoc out (padded (count - 1) (hexadecimal (n / 16))) (last_digit n ∷ []) ∙ ap (λ ds. out ++ ds) (sym (one_less count (hexadecimal (n / 16)) (last_digit n)) ∙ ap (padded count) (sym (hexadecimal_more n h small)))

-- a zero more
pub zero_more : (out : List ℕ) (k : ℕ) → (out ++ replicate k 48) ++ 48 ∷ [] ≡ out ++ replicate (k + 1) 48
zero_more out k = append_assoc out (replicate k 48) (48 ∷ []) ∙ ap (λ zs. out ++ zs) (replicate-append-replicate k 1 48)

-- the digits of a width are its fourths, rounded up
pub counted : (count width number : ℕ) (v : BitVector) → count ≡ div_ceil width 4 → width ≡ v.width → number ≡ v.number → padded count (hexadecimal number) ≡ value_text v
counted count width number v c w n =
    let same : div_ceil v.width 4 ≡ (v.width + 3) / 4 = omega arith in
    ap (λ k. padded k (hexadecimal number)) (c ∙ ap (λ k. div_ceil k 4) w ∙ same) ∙ ap (λ k. padded ((v.width + 3) / 4) (hexadecimal k)) n
