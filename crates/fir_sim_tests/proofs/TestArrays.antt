-- The arrays of the tests' nets: none, or one of which leaves and pipes read.
use Rattle.std.proofs.Common.{◌≡◌, ℕ, zero, suc, ◌≤◌, List, [], ◌∷◌, Some, subst, refl}
use Rattle.std.specs.Prelude.{slice_get}
use Rattle.std.specs.List.{AllByRecursion}
use Rattle.fir_base.proofs.Elements.{all_there}
use Rattle.fir_net.specs.declared.array.Array.{Array}
use Rattle.fir_net.specs.declared.array.ArrayRead.{ArrayRead}
use Rattle.fir_net.specs.declared.array.Pipe.{Pipe}
use Rattle.fir_net.specs.declared.leaf.Role.{Role}
use Rattle.fir_net.specs.declared.leaf.Role.TheVariants as role
use Rattle.fir_net.specs.declared.leaf.Leaf.{Leaf}
use Rattle.fir_net.specs.working.IsNet.{IsArrayOrder, IsReadOf}

-- what such a leaf reads, if it reads of an array
abbrev pub ReadsOf : List Array → Leaf → Role → Type 0
ReadsOf arrays l (role.Reading r) = IsReadOf arrays l r
ReadsOf arrays l (role.Pipe p) = IsReadOf arrays l p.read
ReadsOf arrays l _ = Unit {0}

pub readings_of : (arrays : List Array) (leaves : List Leaf) → AllByRecursion (λ l. ReadsOf arrays l l.role) leaves
    → (k : ℕ) (l : Leaf) (r : ArrayRead) → slice_get leaves k ≡ Some l → l.role ≡ role.Reading r → IsReadOf arrays l r
readings_of arrays leaves reads k l r at is = subst (ReadsOf arrays l) is (all_there (λ l. ReadsOf arrays l l.role) leaves reads k l at)

pub pipes_of : (arrays : List Array) (leaves : List Leaf) → AllByRecursion (λ l. ReadsOf arrays l l.role) leaves
    → (k : ℕ) (l : Leaf) (p : Pipe) → slice_get leaves k ≡ Some l → l.role ≡ role.Pipe p → IsReadOf arrays l p.read
pipes_of arrays leaves reads k l p at is = subst (ReadsOf arrays l) is (all_there (λ l. ReadsOf arrays l l.role) leaves reads k l at)

pub no_arrays : IsArrayOrder [] []
no_arrays = record { only = λ n k e. absurd (cc); all = λ k a at bits. absurd (cc); once = tt }

module _ (a : Array) (bits : 1 ≤ a.width) where
  only : (n k : ℕ) → slice_get (0 ∷ []) n ≡ Some k → (b : Array) × (slice_get (a ∷ []) k ≡ Some b) × (1 ≤ b.width)
  only zero k e = let first : 0 ≡ k = cc in subst (λ (i : ℕ). (b : Array) × (slice_get (a ∷ []) i ≡ Some b) × (1 ≤ b.width)) first (a, refl, bits)
  only (suc n) k e = absurd (cc)

  all : (k : ℕ) (b : Array) → slice_get (a ∷ []) k ≡ Some b → 1 ≤ b.width → (n : ℕ) × (slice_get (0 ∷ []) n ≡ Some k)
  all zero b at wide = (0, refl)
  all (suc k) b at wide = absurd (cc)

  pub one_array : IsArrayOrder (a ∷ []) (0 ∷ [])
  one_array = record { only = only; all = all; once = (λ m. m, tt) }
