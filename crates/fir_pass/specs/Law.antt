-- Which fault of some groups is the first.
-- A pass looks for the faults of the groups from one up to another.
use Rattle.std.specs.Prelude.{ℕ, ◌<◌, ◌≤◌}
use Rattle.fir_ast.specs.Faults.{Fault as ToldFault}
use Rattle.fir_pass.specs.Groups.{group_of, IsClear}
use Rattle.fir_pass.specs.Meaning.{Meaning}

-- no fault stands of the groups from one up to another
abbrev pub AreClear : ℕ → ℕ → Meaning → Type 0
AreClear from upto m = (k : ℕ) → from ≤ k → k ≤ upto → IsClear (m.group k)

-- the fault is told of its group, and the groups before it, from the first that is looked for, are clear
pub record IsFirst (from upto : ℕ) (m : Meaning) (f : ToldFault) : Type 0 where
  pub low : from ≤ group_of f.code
  pub high : group_of f.code ≤ upto
  pub told : (m.group (group_of f.code)).tells f
  pub stands : (m.group (group_of f.code)).shows f
  pub clear : (k : ℕ) → from ≤ k → k < group_of f.code → IsClear (m.group k)
