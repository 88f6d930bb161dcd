-- The first element that passes a test, and its place.
use Rattle.std.proofs.Common.{◌≡◌, ℕ, suc, ◌<◌, Bool, true, false, List, [], ◌∷◌, ◌++◌, length, get_or, take, drop, Option, Some, position, refl, sym, ap, ◌∙◌, length-append, arith}
use Rattle.std.specs.List.{AllByRecursion, position_or_len}
use Rattle.std.proofs.Math.Seq.{split_at}
use Rattle.std.proofs.lemmas.Bool.{lt-ltb}
use Rattle.std.proofs.lemmas.List.{get_or-take, length-take-le}
use Rattle.std.proofs.lemmas.List.Elements.{All-from_get_or, recursion_from_All}
use Rattle.std.proofs.lemmas.List.Quantifiers.{position-Some}

pub record FirstAt (p : ℕ → Bool) (xs : List ℕ) (k : ℕ) : Type 0 where
  pub front : List ℕ
  pub back : List ℕ
  pub parts : xs ≡ front ++ get_or xs k 0 ∷ back
  pub long : k ≡ length front
  pub fail : AllByRecursion (λ x. p x ≡ false) front
  pub pass : p (get_or xs k 0) ≡ true

pub first_at : (p : ℕ → Bool) (xs : List ℕ) (k : ℕ) → position p xs ≡ Some k → FirstAt p xs k
first_at p xs k e =
    let first = position-Some p xs k 0 e in
    let within = first.0 in
    let long : length (take k xs) ≡ k = length-take-le k xs (omega arith) in record {
      front = take k xs;
      back = drop (suc k) xs;
      parts = split_at xs k 0 within;
      long = sym long;
      fail =
          recursion_from_All (λ x. p x ≡ false) (take k xs)
          (All-from_get_or (λ x. p x ≡ false) (take k xs) 0
          (λ i lt. let less : i < k = omega arith in ap p (get_or-take k xs i 0 less) ∙ first.2 i less));
      pass = first.1;
    }

first_place : (p : ℕ → Bool) (front : List ℕ) (x : ℕ) (back : List ℕ) → AllByRecursion (λ y. p y ≡ false) front → p x ≡ true
    → position_or_len p (front ++ x ∷ back) ≡ length front
first_place p [] x back fail pass = rw pass refl
first_place p (y ∷ ys) x back fail pass = let rest = first_place p ys x back fail.1 pass in rw fail.0 (omega arith)

pub first_found : (p : ℕ → Bool) (front : List ℕ) (x : ℕ) (back : List ℕ) → AllByRecursion (λ y. p y ≡ false) front → p x ≡ true
    → position p (front ++ x ∷ back) ≡ Some (length front)
first_found p front x back fail pass =
    let all = front ++ x ∷ back in
    let place = first_place p front x back fail pass in
    rw (lt-ltb (position_or_len p all) (length all) (omega (arith, length-append front (x ∷ back)))) (ap {B = Option ℕ} (λ (k : ℕ). Some k) place)
