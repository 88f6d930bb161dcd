-- The numbers of the Resets that a search has marked.
use Rattle.std.specs.Prelude.{◌≡◌, ◌↔◌, ◌⊎◌, ℕ, ◌<◌, List, Bool, true, Some, slice_get}
use Rattle.fir_ast.specs.Circuits.{CircuitTree}
use Rattle.fir_infer_resets.specs.declared.graph.Kind.TheVariants.{Reset}
use Rattle.fir_infer_resets.specs.declared.item.End.{End as EndOfCode}
use Rattle.fir_infer_resets.specs.working.Holding.{item_of}
use Rattle.fir_reset.specs.working.Inferred.{leaf_number}

-- a Reset that is marked has the leaf number
pub record IsMarkedLeaf (c : CircuitTree) (owns : List EndOfCode) (marks : List Bool) (number : ℕ) : Type 0 where
  pub at : ℕ
  pub own : EndOfCode
  pub is : slice_get owns at ≡ Some own
  pub resets : own.kind ≡ Reset
  pub marked : slice_get marks at ≡ Some true
  pub numbered : leaf_number c (item_of own.item) ≡ Some number

-- exactly such numbers are set
abbrev pub AreMarkedLeaves : CircuitTree → List EndOfCode → List Bool → List Bool → Type 0
AreMarkedLeaves c owns marks found = (number : ℕ) → (slice_get found number ≡ Some true) ↔ IsMarkedLeaf c owns marks number

-- one of the first n marks has the number
pub record IsAmongFirst (c : CircuitTree) (owns : List EndOfCode) (marks : List Bool) (n number : ℕ) : Type 0 where
  pub leaf : IsMarkedLeaf c owns marks number
  pub before : leaf.at < n

abbrev pub AreFirstMarked : CircuitTree → List EndOfCode → List Bool → List Bool → ℕ → Type 0
AreFirstMarked c owns marks found n = (number : ℕ) → (slice_get found number ≡ Some true) ↔ IsAmongFirst c owns marks n number

-- the number of an end, if it is a Reset
pub record IsNumberOf (c : CircuitTree) (own : EndOfCode) (number : ℕ) : Type 0 where
  pub resets : own.kind ≡ Reset
  pub numbered : leaf_number c (item_of own.item) ≡ Some number

-- such numbers are set beside those that were set
abbrev pub AlsoSet : (ℕ → Type 0) → List Bool → List Bool → Type 0
AlsoSet P old new = (n : ℕ) → (slice_get new n ≡ Some true) ↔ ((slice_get old n ≡ Some true) ⊎ P n)
