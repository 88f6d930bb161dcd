-- `bytes_eq` decides whether two names are the same.
use Rattle.std.proofs.Common.{◌≡◌, ℕ, List, true, false, refl, sym, ◌∙◌}
use Rattle.std.specs.Str.{bytes_eq}
use Rattle.std.proofs.lemmas.Bool.{false_from_ne_true}
use Rattle.std.proofs.lemmas.Slice.Eq.{bytes_eq-Decides}

pub name_is : (a b : List ℕ) → bytes_eq a b ≡ true → a ≡ b
name_is a b h = (bytes_eq-Decides a b).0 h

pub name_same : (a : List ℕ) → bytes_eq a a ≡ true
name_same a = (bytes_eq-Decides a a).1 refl

pub name_other : (a b : List ℕ) → (a ≡ b → ⊥) → bytes_eq a b ≡ false
name_other a b h = false_from_ne_true (bytes_eq a b) (λ t. h (name_is a b t))

pub name_apart : (a b : List ℕ) → bytes_eq a b ≡ false → a ≡ b → ⊥
name_apart a b h e = let t : bytes_eq a b ≡ true = (bytes_eq-Decides a b).1 e in let f : true ≡ false = sym t ∙ h in cc
