-- Marks that a walk from leaf to leaf leaves, and what they say of roots.
use Rattle.std.specs.Prelude.{◌≡◌, ◌⊎◌, ℕ, zero, suc, ◌<◌, ◌≤◌, List, length, Option, Some, None, slice_get}
use Rattle.fir_whens.specs.declared.net_role.NetRole.{NetRole}
use Rattle.fir_memory_clocks.specs.declared.clock_roots.Mark.{Mark}
use Rattle.fir_memory_clocks.specs.declared.clock_roots.Mark.TheVariants as mark
use Rattle.fir_memory_clocks.specs.declared.clock_roots.Step.{Step}
use Rattle.fir_memory_clocks.specs.declared.clock_roots.Step.TheVariants as step
use Rattle.fir_memory_clocks.specs.declared.clock_roots.Walk.{Walk}
use Rattle.fir_memory_clocks.specs.working.RoleRoots.{HasRoot, next_at}

module _ (roles : List NetRole) where
  -- so many steps lead from one leaf to another
  abbrev pub Leads : ℕ → ℕ → ℕ → Type 0
  Leads x zero y = y ≡ x
  Leads x (suc n) y = (z : ℕ) × Leads x n z × (next_at roles z ≡ Some y)

  -- what ends somewhere does so; and of what was passed that has a root something is known
  pub record AreMarks (Known : ℕ → Type 0) (marks : List Mark) : Type 0 where
    pub count : length marks ≡ length roles
    pub ends : (x root : ℕ) → slice_get marks x ≡ Some (mark.Ends root) → HasRoot roles x root
    pub passed : (x root : ℕ) → slice_get marks x ≡ Some mark.Passed → HasRoot roles x root → Known x

  -- it stands less than so many steps behind a leaf, and not among the first of them
  abbrev pub IsOnWay : ℕ → ℕ → ℕ → ℕ → Type 0
  IsOnWay from first steps x = (n : ℕ) × (first ≤ n) × (n < steps) × Leads from n x

  -- no leaf that was passed has a root
  abbrev pub AreSettled : List Mark → Type 0
  AreSettled = AreMarks (λ x. ⊥)

  -- a walk from a leaf has come to its root, or the leaf has none
  pub record IsWalkTo (leaf : ℕ) (marks : List Mark) (w : Walk) : Type 0 where
    pub root : HasRoot roles leaf w.root
    pub marks_are : AreMarks (IsOnWay leaf 0 w.steps) marks

  abbrev pub IsWalk : ℕ → List Mark → Option Walk → Type 0
  IsWalk leaf marks None = AreSettled marks
  IsWalk leaf marks (Some w) = IsWalkTo leaf marks w

  -- what a step at a leaf tells; what is known of leaves that were passed, it knows of this one
  abbrev pub StepTells : (ℕ → Type 0) → ℕ → List Mark → Step → Type 0
  StepTells Known x marks (step.On y) = (next_at roles x ≡ Some y) × AreMarks (λ z. Known z ⊎ (z ≡ x)) marks
  StepTells Known x marks (step.Root root) = HasRoot roles x root × AreMarks Known marks
  StepTells Known x marks step.Nowhere = ((root : ℕ) → HasRoot roles x root → Known x) × AreMarks Known marks

abbrev pub IsMarked : List Mark → ℕ → Type 0
IsMarked marks x = slice_get marks x ≡ Some mark.New → ⊥

abbrev pub AreMarkedBefore : ℕ → List Mark → Type 0
AreMarkedBefore n marks = (x : ℕ) → x < n → IsMarked marks x

-- what is marked stays marked
abbrev pub KeepMarks : List Mark → List Mark → Type 0
KeepMarks old new = (x : ℕ) → slice_get new x ≡ Some mark.New → slice_get old x ≡ Some mark.New

pub record IsStep (roles : List NetRole) (Known : ℕ → Type 0) (x : ℕ) (old new : List Mark) (s : Step) : Type 0 where
  pub keeps : KeepMarks old new
  pub marked : IsMarked new x
  pub tells : StepTells roles Known x new s

abbrev pub root_of : Mark → Option ℕ
root_of (mark.Ends root) = Some root
root_of _ = None
