-- A meeting of a circuit, with what the code has found of its module.
use Rattle.std.specs.Prelude.{◌≡◌, ℕ, List, Some, slice_get}
use Rattle.fir_base.specs.Lists.{In}
use Rattle.fir_ast.specs.Circuits.{CircuitTree}
use Rattle.fir_meaning.specs.Visibility.{declarations}
use Rattle.fir_types.specs.declared.findings.Findings.{Findings}
use Rattle.fir_types.specs.working.TypedModules.{IsTyped}
use Rattle.fir_types.specs.working.Walked.{Begins}
use Rattle.fir_infer_resets.specs.working.Meetings.{Meeting, meetings}

-- it is one of the module of that number, and what is declared before it begins what the module declares
pub record StandsIn (c : CircuitTree) (findings : Findings) (number : ℕ) (m : Meeting) : Type 0 where
  pub typed : IsTyped c findings
  pub among : In (meetings c) m
  pub number_is : m.inside.number ≡ number
  pub modules : m.inside.modules ≡ c.modules
  pub inside : slice_get c.modules number ≡ Some m.inside.inside
  pub begins : Begins m.before.declared (declarations m.inside.inside)

-- each of them is
abbrev pub AllStandIn : CircuitTree → Findings → ℕ → List Meeting → Type 0
AllStandIn c findings number ms = (m : Meeting) → In ms m → StandsIn c findings number m
