-- Two groups of faults that show and tell the same.
use Rattle.std.specs.Prelude.{◌↔◌}
use Rattle.fir_ast.specs.Faults.{Fault}
use Rattle.fir_pass.specs.Groups.{Group}

-- the groups show and tell the same
pub record SameGroup (one other : Group) : Type 0 where
  pub shows : (f : Fault) → one.shows f ↔ other.shows f
  pub tells : (f : Fault) → one.tells f ↔ other.tells f
