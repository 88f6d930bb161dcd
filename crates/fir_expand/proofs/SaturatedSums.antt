-- Sums and products that stand still at 2^64 - 1, over what is left of a list.
use Rattle.std.proofs.Common.{◌≡◌, ℕ, ◌+◌, ◌*◌, ◌<◌, ◌≤◌, ◌^◌, List, [], ◌∷◌, drop, get_or, length, map, sym, ap, ◌∙◌, arith}
use Rattle.std.specs.Prelude.{max}
use Rattle.std.proofs.lemmas.List.{drop_more, drop_all}
use Rattle.std.proofs.Math.Nat.{mul-one, mul_assoc, mul_comm}
use Rattle.fir_type_table.specs.working.Saturated.{saturated}
use Rattle.fir_types.specs.declared.note.Pick.{Pick as PickOfCode}
use Rattle.fir_types.specs.working.Noted.{pick_seen}
use Rattle.fir_expand.specs.working.OwnSums.{picked}

-- so far in a list; the sum of a list is a number for each of its elements
pub record SumSoFar {A : Type 0} (sum_all : List A → ℕ) (xs : List A) (i sum : ℕ) : Type 0 where
  pub so_far : saturated (sum + sum_all (drop i xs)) ≡ saturated (sum_all xs)
  pub fits : sum < 2 ^ 64

module _ {A : Type 0} (sum_all : List A → ℕ) (one : A → ℕ) (none : sum_all [] ≡ 0) (more : (x : A) (xs : List A) → sum_all (x ∷ xs) ≡ one x + sum_all xs) where
  pub sum_next : (xs : List A) (i sum own next : ℕ) (x : A) → SumSoFar sum_all xs i sum → i < length xs → x ≡ get_or xs i x → own ≡ saturated (one x)
      → next ≡ saturated (sum + own) → SumSoFar sum_all xs (i + 1) next
  sum_next xs i sum own next x h within at is added =
      let left : sum_all (drop i xs) ≡ one x + sum_all (drop (i + 1) xs) =
      ap sum_all (drop_more xs i x within ∙ ap (λ y. y ∷ drop (i + 1) xs) (sym at)) ∙ more x (drop (i + 1) xs) in
      record {
        so_far = omega (arith, h.so_far, h.fits, left, is, added);
        fits = omega (arith, added);
      }

  pub sum_done : (xs : List A) (i sum : ℕ) → SumSoFar sum_all xs i sum → length xs ≤ i → sum ≡ saturated (sum_all xs)
  sum_done xs i sum h past =
      let left : sum_all (drop i xs) ≡ 0 = ap sum_all (drop_all i xs past) ∙ none in
      omega (arith, h.so_far, h.fits, left)

pub sum_begun : {A : Type 0} (sum_all : List A → ℕ) (xs : List A) → SumSoFar sum_all xs 0 0
sum_begun sum_all xs = record {
  so_far = let same : 0 + sum_all xs ≡ sum_all xs = omega arith in ap saturated same;
  fits = omega arith;
}

-- so many times as many as indices pick
pub record ProductSoFar (picks : List PickOfCode) (i product n : ℕ) : Type 0 where
  pub exact : ℕ
  pub is : product ≡ saturated exact
  pub left : exact * picked (map pick_seen (drop i picks)) ≡ n * picked (map pick_seen picks)

pub product_next : (picks : List PickOfCode) (i product n next : ℕ) (p other : PickOfCode) → ProductSoFar picks i product n → i < length picks
    → p ≡ get_or picks i other → ((m : ℕ) → product ≡ saturated m → next ≡ saturated (max 1 p.length * m)) → ProductSoFar picks (i + 1) next n
product_next picks i product n next p other h within at times =
    let rest = picked (map pick_seen (drop (i + 1) picks)) in
    let left : picked (map pick_seen (drop i picks)) ≡ max 1 p.length * rest =
    ap (λ ps. picked (map pick_seen ps)) (drop_more picks i other within ∙ ap (λ y. y ∷ drop (i + 1) picks) (sym at)) in
    record {
      exact = h.exact * max 1 p.length;
      is = times h.exact h.is ∙ ap saturated (mul_comm (max 1 p.length) h.exact);
      left = mul_assoc h.exact (max 1 p.length) rest ∙ ap (λ k. h.exact * k) (sym left) ∙ h.left;
    }

pub product_done : (picks : List PickOfCode) (i product n : ℕ) → ProductSoFar picks i product n → length picks ≤ i
    → product ≡ saturated (n * picked (map pick_seen picks))
product_done picks i product n h past =
    h.is ∙ ap saturated (sym (mul-one h.exact) ∙ ap (λ ps. h.exact * picked (map pick_seen ps)) (sym (drop_all i picks past)) ∙ h.left)
