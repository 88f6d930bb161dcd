-- What holds of each of a list, one by one: of all it holds where it holds of the rest, and of no rest where it fails.
use Rattle.std.proofs.Common.{◌≡◌, ℕ, ◌+◌, ◌<◌, ◌≤◌, List, ◌∷◌, length, drop, get_or, refl, sym, ◌∙◌, subst, add-one}
use Rattle.std.specs.Prelude.{◌↔◌}
use Rattle.std.specs.List.{AllByRecursion}
use Rattle.std.proofs.Math.Seq.{drop-cons}
use Rattle.std.proofs.Math.ListN.{drop_of_length-le}

module _ {A : Type 0} (P : A → Type 0) (All : Type 0) (xs : List A) (i : ℕ) (same : AllByRecursion P (drop i xs) ↔ All) where
  module _ (x : A) (within : i < length xs) (is : x ≡ get_or xs i x) where
    next : drop i xs ≡ x ∷ drop (i + 1) xs
    next = drop-cons xs i x within ∙ rw (sym is, add-one) refl

    pub one_holds : All → P x
    one_holds all = (subst (AllByRecursion P) next (same.1 all)).0

    pub rest_holds : P x → AllByRecursion P (drop (i + 1) xs) ↔ All
    rest_holds p = (
      λ rest. same.0 (subst (AllByRecursion P) (sym next) (p, rest)),
      λ all. (subst (AllByRecursion P) next (same.1 all)).1,
    )

  pub all_hold : length xs ≤ i → All
  all_hold past = same.0 (subst (AllByRecursion P) (sym (drop_of_length-le xs past)) tt)
