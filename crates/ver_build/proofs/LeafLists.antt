-- What the leaves of a net list, beside what their names list.
-- Both go along the leaves, which are numbered in order.
use Rattle.std.proofs.Common.{◌≡◌, ℕ, zero, suc, ◌+◌, List, [], ◌∷◌, ◌++◌, map, refl, sym, ap, ◌∙◌, arith, Option, Some}
use Rattle.std.specs.Prelude.{slice_get}
use Rattle.std.proofs.lemmas.List.{map-append}
use Rattle.fir_net.specs.declared.leaf.Role.{Role}
use Rattle.fir_net.specs.declared.leaf.Leaf.{Leaf}
use Rattle.fir_net.specs.working.Settled.{numbers_by}
use Rattle.fir_net_names.specs.working.LeafNamed.{name_at}
use Rattle.ver_build.specs.working.Built.{along}

-- the names that a leaf lists have the values of the numbers that it lists
pub record SameLists {C : Type 0} (e : ℕ → C) (f : List ℕ → C) (give : Leaf → Option (List ℕ) → List (List ℕ)) (number : Role → ℕ → ℕ → List ℕ)
    (names : List (Option (List ℕ))) (j : ℕ) (ls : List Leaf) : Type 0 where
  pub each : (k : ℕ) (l : Leaf) → slice_get ls k ≡ Some l → map f (give l (name_at names (j + k))) ≡ map e (number l.role l.width (j + k))

module _ {C : Type 0} (e : ℕ → C) (f : List ℕ → C) (give : Leaf → Option (List ℕ) → List (List ℕ)) (number : Role → ℕ → ℕ → List ℕ)
    (names : List (Option (List ℕ))) where
  first : (j : ℕ) (l : Leaf) (ls : List Leaf) → SameLists e f give number names j (l ∷ ls)
      → map f (give l (name_at names j)) ≡ map e (number l.role l.width j)
  first j l ls same = let here : j + 0 ≡ j = omega arith in rw here at (same.each zero l refl)

  others : (j : ℕ) (l : Leaf) (ls : List Leaf) → SameLists e f give number names j (l ∷ ls) → SameLists e f give number names (j + 1) ls
  others j l ls same = record { each = λ k m h. let place : j + suc k ≡ j + 1 + k = omega arith in rw place at (same.each (suc k) m h) }

  same_from : (j : ℕ) (ls : List Leaf) → SameLists e f give number names j ls → map f (along give names j ls) ≡ map e (numbers_by number j ls)
  same_from j [] same = refl
  same_from j (l ∷ ls) same =
      map-append f (give l (name_at names j)) (along give names (j + 1) ls)
      ∙ ap (λ (ys : List C). ys ++ map f (along give names (j + 1) ls)) (first j l ls same)
      ∙ ap (λ (ys : List C). map e (number l.role l.width j) ++ ys) (same_from (j + 1) ls (others j l ls same))
      ∙ sym (map-append e (number l.role l.width j) (numbers_by number (j + 1) ls))

  -- all leaves
  pub same_lists : (ls : List Leaf)
      → ((k : ℕ) (l : Leaf) → slice_get ls k ≡ Some l → map f (give l (name_at names k)) ≡ map e (number l.role l.width k))
      → map f (along give names 0 ls) ≡ map e (numbers_by number 0 ls)
  same_lists ls same = same_from 0 ls (record { each = λ k l at. let start : 0 + k ≡ k = omega arith in rw start (same k l at) })
