-- A walk through numbers, each of which gives a list: part by part.
use Rattle.std.proofs.Common.{◌≡◌, ℕ, zero, suc, ◌+◌, ◌<◌, ◌≤◌, List, [], ◌∷◌, ◌++◌, flat_map, refl, ap, ap₂, ◌∙◌, arith, append-nil}
use Rattle.std.specs.List.{range_with_len}
use Rattle.std.proofs.lemmas.List.Concat.{flat_map-append}

ranges_joined : (from size more between : ℕ) → from + size ≡ between → range_with_len from
    (size + more) ≡ range_with_len from size ++ range_with_len between more
ranges_joined from zero more between e =
    let same : from ≡ between = omega (arith, e) in
    let none : zero + more ≡ more = omega arith in
    ap (range_with_len from) none ∙ ap (λ z. range_with_len z more) same
ranges_joined from (suc size) more between e =
    let next : suc size + more ≡ suc (size + more) = omega arith in
    ap (range_with_len from) next ∙ ap (λ zs. from ∷ zs) (ranges_joined (from + 1) size more between (omega (arith, e)))

-- what the numbers from one on and before another give
pub record IsWalk {A : Type 0} (gives : ℕ → List A) (from upto : ℕ) (xs : List A) : Type 0 where
  pub size : ℕ
  pub long : from + size ≡ upto
  pub is : flat_map gives (range_with_len from size) ≡ xs

module _ {A : Type 0} (gives : ℕ → List A) where
  pub no_walk : (from : ℕ) → IsWalk gives from from []
  no_walk from = record { size = 0; long = omega arith; is = refl }

  pub one_walk : (from upto : ℕ) (xs : List A) → from + 1 ≡ upto → gives from ≡ xs → IsWalk gives from upto xs
  one_walk from upto xs e is = record { size = 1; long = e; is = append-nil (gives from) ∙ is }

  pub both_walks : (from between upto : ℕ) (xs ys : List A) → IsWalk gives from between xs → IsWalk gives between upto ys
      → IsWalk gives from upto (xs ++ ys)
  both_walks from between upto xs ys a b = record {
    size = a.size + b.size;
    long = omega (arith, a.long, b.long);
    is =
        ap (flat_map gives) (ranges_joined from a.size b.size between a.long)
        ∙ flat_map-append gives (range_with_len from a.size) (range_with_len between b.size) ∙ ap₂ (λ zs ws. zs ++ ws) a.is b.is;
  }

  -- numbers that give nothing
  pub empty_walk : (from size upto : ℕ) → from + size ≡ upto → ((k : ℕ) → k < upto → gives k ≡ []) → IsWalk gives from upto []
  empty_walk from size upto e none = record { size = size; long = e; is = nothing from size (omega (arith, e)) }
    where
      nothing : (a n : ℕ) → a + n ≤ upto → flat_map gives (range_with_len a n) ≡ []
      nothing a zero le = refl
      nothing a (suc n) le = ap₂ (λ xs ys. xs ++ ys) (none a (omega (arith, le))) (nothing (a + 1) n (omega (arith, le)))

  -- the whole walk
  pub walk_is : (n : ℕ) (xs : List A) → IsWalk gives 0 n xs → flat_map gives (range_with_len 0 n) ≡ xs
  walk_is n xs w = let same : n ≡ w.size = omega (arith, w.long) in ap (λ z. flat_map gives (range_with_len 0 z)) same ∙ w.is
