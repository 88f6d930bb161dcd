-- E24 at the leaves of a module (FIRRTL spec, "Initialization of Components"): a leaf that statements must drive and that some choice leaves undriven.
-- It stands at the leaf's declaration, and the first such choice is told.
use Rattle.std.specs.Prelude.{◌≡◌, ℕ, ◌<◌, List, length, IsTrue}
use Rattle.fir_ast.specs.Faults.{Fault}
use Rattle.fir_meaning.specs.SourceUndrivenGroup.{undriven_fault}
use Rattle.fir_ast.specs.declared.fault.Outcome.{Outcome}
use Rattle.fir_meaning.specs.LeafPaths.{path_text}
use Rattle.fir_meaning.specs.working.Choices.{Choice}
use Rattle.fir_meaning.specs.working.UndrivenChoices.{IsFirstUndriven, IsUndriven}
use Rattle.fir_meaning.specs.working.LeafModules.{LeafModule, depth_at, is_sink, leaf_at, role_at}

-- the fault of the leaf of a number
pub record ShowsUndriven (m : LeafModule) (leaf : ℕ) (f : Fault) : Type 0 where
  pub outcomes : List Outcome
  pub within : leaf < length m.leaves
  pub is_sink : IsTrue (is_sink (role_at m leaf))
  pub first : IsFirstUndriven (depth_at m leaf) leaf m.body outcomes
  pub is : f ≡ undriven_fault (leaf_at m.leaves leaf).place (path_text (leaf_at m.leaves leaf).path) outcomes

-- no choice leaves a leaf undriven that statements must drive
abbrev pub IsDriven : LeafModule → ℕ → Type 0
IsDriven m leaf = IsTrue (is_sink (role_at m leaf)) → (choice : Choice) → IsUndriven (depth_at m leaf) leaf m.body choice → ⊥

-- so it is for the leaves before a number, and for all
abbrev pub AreDrivenBefore : LeafModule → ℕ → Type 0
AreDrivenBefore m leaf = (x : ℕ) → x < leaf → IsDriven m x

abbrev pub AreDriven : LeafModule → Type 0
AreDriven m = AreDrivenBefore m (length m.leaves)
