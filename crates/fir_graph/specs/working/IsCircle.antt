-- Circles of vertices.
-- Each vertex has the next as a target, the last has the first, and none stands twice.
use Rattle.std.specs.Prelude.{ℕ, List, [], ◌∷◌, Result, Ok, Err}
use Rattle.fir_base.specs.declared.refused.Refused.{Refused}
use Rattle.fir_base.specs.declared.refused.Refused.TheVariants.{Fault, Memory}
use Rattle.fir_base.specs.Lists.{Distinct}
use Rattle.fir_graph.specs.working.HasTarget.{HasTarget}

-- from v through the list to w, each has the next as a target
abbrev pub Chain : (ℕ → List ℕ) → ℕ → List ℕ → ℕ → Type 0
Chain targets v [] w = HasTarget targets v w
Chain targets v (x ∷ xs) w = HasTarget targets v x × Chain targets x xs w

abbrev pub Turns : (ℕ → List ℕ) → List ℕ → Type 0
Turns targets [] = ⊥
Turns targets (v ∷ vs) = Chain targets v vs v

pub record IsCircle (targets : ℕ → List ℕ) (circle : List ℕ) : Type 0 where
  pub turns : Turns targets circle
  pub once : Distinct circle

-- P of the fault, where there is one
abbrev pub IfRefused : {F : Type 0} → Refused F → (F → Type 0) → Type 0
IfRefused (Fault f) P = P f
IfRefused Memory P = Unit {0}

abbrev pub IfFault : {T F : Type 0} → Result T (Refused F) → (F → Type 0) → Type 0
IfFault (Ok x) P = Unit {0}
IfFault (Err e) P = IfRefused e P
