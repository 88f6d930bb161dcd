-- Lists that the leaves of a net give in their order: numbers, and what is told of each.
use Rattle.std.proofs.Common.{◌≡◌, ℕ, zero, suc, ◌+◌, ◌<◌, ◌≤◌, List, [], ◌∷◌, ◌++◌, take, length, flat_map, slice_get, Bool, true, false, if◌then◌else◌, Some, refl, ap, ap₂, ◌∙◌, arith}
use Rattle.std.proofs.lemmas.Option.{none-some}
use Rattle.fir_meaning.specs.working.LeafModules.{LeafDeclared, leaf_at}
use Rattle.fir_meaning.specs.working.StateWalks.{numbers_where}
use Rattle.fir_net.specs.declared.leaf.Leaf.{Leaf}
use Rattle.fir_net.specs.declared.leaf.Role.{Role}
use Rattle.fir_net.specs.working.Settled.{numbers_by}
use Rattle.fir_flatten.proofs.GivenNumbers.{given}

module _ (number : Role → ℕ → ℕ → List ℕ) where
  -- where no leaf gives one
  pub numbers_none : (b : ℕ) (ls : List Leaf) → ((x k : ℕ) (l : Leaf) → slice_get ls x ≡ Some l → number l.role l.width k ≡ [])
      → numbers_by number b ls ≡ []
  numbers_none b [] none = refl
  numbers_none b (l ∷ ls) none =
      ap₂ (λ own rest. own ++ rest) (none 0 b l refl) (numbers_none (b + 1) ls (λ x k m e. none (suc x) k m e))

  -- those of the first leaves, where these give theirs just where they are so, and no other leaf gives one
  pub numbers_taken : (so : LeafDeclared → Bool) (p b : ℕ) (ls : List Leaf) (ms : List LeafDeclared) → length ls ≡ length ms
      → ((x k : ℕ) (l : Leaf) → slice_get ls x ≡ Some l → x < p → number l.role l.width k ≡ given (so (leaf_at ms x)) k)
      → ((x k : ℕ) (l : Leaf) → slice_get ls x ≡ Some l → p ≤ x → number l.role l.width k ≡ [])
      → numbers_by number b ls ≡ numbers_where so b (take p ms)
  numbers_taken so zero b ls ms long first none = numbers_none b ls (λ x k l e. none x k l e (omega arith))
  numbers_taken so (suc p) b [] [] long first none = refl
  numbers_taken so (suc p) b [] (m ∷ ms) long first none = absurd (omega (arith, long))
  numbers_taken so (suc p) b (l ∷ ls) [] long first none = absurd (omega (arith, long))
  numbers_taken so (suc p) b (l ∷ ls) (m ∷ ms) long first none =
      let next : b + 1 ≡ suc b = omega arith in
      let rest = numbers_taken so p (b + 1) ls ms (omega (arith, long)) (λ x k n e lt. first (suc x) k n e (omega (arith, lt)))
      (λ x k n e le. none (suc x) k n e (omega (arith, le))) in
      go (so m) (first 0 b l refl (omega arith)) (rest ∙ ap (λ k. numbers_where so k (take p ms)) next)
    where
      go : (t : Bool) → number l.role l.width b ≡ given t b → numbers_by number (b + 1) ls ≡ numbers_where so (suc b) (take p ms)
          → number l.role l.width b ++ numbers_by number (b + 1) ls
          ≡ (if t then b ∷ numbers_where so (suc b) (take p ms) else numbers_where so (suc b) (take p ms))
      go true here rest = ap₂ (λ own more. own ++ more) here rest
      go false here rest = ap₂ (λ own more. own ++ more) here rest

-- what is told of the first elements is told of those beside them, and of the others nothing is told
pub told_beside : {A B C : Type 0} → (tell : A → List C) (of : B → List C) (xs : List A) (ys : List B) → length ys ≤ length xs
    → ((k : ℕ) (x : A) (y : B) → slice_get xs k ≡ Some x → slice_get ys k ≡ Some y → tell x ≡ of y)
    → ((k : ℕ) (x : A) → slice_get xs k ≡ Some x → length ys ≤ k → tell x ≡ [])
    → flat_map tell xs ≡ flat_map of ys
told_beside tell of [] [] le same none = refl
told_beside tell of [] (y ∷ ys) le same none = absurd (omega (arith, le))
told_beside tell of (x ∷ xs) [] le same none =
    ap₂ (λ own rest. own ++ rest) (none 0 x refl (omega arith))
    (told_beside tell of xs [] (omega arith) (λ k v w e f. absurd (none-some w f)) (λ k v e le. none (suc k) v e (omega arith)))
told_beside tell of (x ∷ xs) (y ∷ ys) le same none =
    ap₂ (λ own rest. own ++ rest) (same 0 x y refl refl)
    (told_beside tell of xs ys (omega (arith, le)) (λ k v w e f. same (suc k) v w e f) (λ k v e le. none (suc k) v e (omega (arith, le))))
