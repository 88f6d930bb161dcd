-- Lists that are put several times behind one another.
use Rattle.std.proofs.Common.{◌≡◌, ℕ, zero, suc, ◌+◌, ◌-◌, ◌*◌, ◌<◌, ◌≤◌, List, [], ◌++◌, map, drop, take, length, refl, sym, ap, ◌∙◌, arith, append_assoc}
use Rattle.std.specs.Prelude.{slice_range}
use Rattle.std.proofs.Math.Nat.{suc-mul}
use Rattle.std.proofs.lemmas.List.{append-nil, drop-append-le, drop_all, length-append, length-drop, map-append, take_at}
use Rattle.fir_meaning.specs.HeldTypes.{repeated}

-- once more
pub repeated_more : {A : Type 0} (n : ℕ) (xs : List A) → repeated (n + 1) xs ≡ repeated n xs ++ xs
repeated_more zero xs = append-nil xs
repeated_more (suc n) xs =
    let next : suc n + 1 ≡ suc (n + 1) = omega arith in
    ap (λ k. repeated k xs) next ∙ ap (λ ys. xs ++ ys) (repeated_more n xs) ∙ sym (append_assoc xs (repeated n xs) xs)

pub repeated_none : {A : Type 0} (n : ℕ) → repeated {A = A} n [] ≡ []
repeated_none zero = refl
repeated_none (suc n) = repeated_none n

pub map_repeated : {A B : Type 0} (f : A → B) (n : ℕ) (xs : List A) → map f (repeated n xs) ≡ repeated n (map f xs)
map_repeated f zero xs = refl
map_repeated f (suc n) xs = map-append f xs (repeated n xs) ∙ ap (λ ys. map f xs ++ ys) (map_repeated f n xs)

-- what stands from a place on, put once more behind a list that ended there before
pub repeat_next : {A : Type 0} (before now new : List A) (start end n : ℕ) → now ≡ before ++ repeated n (drop start before) → start < end
    → end ≡ length before → new ≡ now ++ slice_range now start end → new ≡ before ++ repeated (n + 1) (drop start before)
repeat_next before now new start end n left within ends grown =
    let own = drop start before in
    let more = repeated n own in
    let low : start ≤ length before = omega arith in
    let long : length own ≡ end - start = length-drop start before ∙ ap (λ k. k - start) (sym ends) in
    let range : slice_range now start end ≡ own =
    ap (λ xs. slice_range xs start end) left ∙ ap (take (end - start)) (drop-append-le start before more low)
    ∙ take_at own more (end - start) long in
    grown ∙ ap (λ xs. now ++ xs) range ∙ ap (λ xs. xs ++ own) left ∙ append_assoc before more own
    ∙ ap (λ xs. before ++ xs) (sym (repeated_more n own))

pub repeat_nothing : {A : Type 0} (before : List A) (start n : ℕ) → length before ≤ start
    → before ≡ before ++ repeated n (drop start before)
repeat_nothing before start n past =
    sym (append-nil before) ∙ ap (λ xs. before ++ xs) (sym (repeated_none n) ∙ ap (repeated n) (sym (drop_all start before past)))

pub length_repeated : {A : Type 0} (n : ℕ) (xs : List A) → length (repeated n xs) ≡ n * length xs
length_repeated zero xs = omega arith
length_repeated (suc n) xs = omega (arith, length-append xs (repeated n xs), suc-mul n (length xs), length_repeated n xs)
