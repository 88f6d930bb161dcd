-- A circuit in which no fault of names stands (FIRRTL spec, "Circuits", "Namespaces", "Instances").
use Rattle.fir_ast.specs.Circuits.{CircuitTree}
use Rattle.fir_pass.specs.Groups.{IsClear}
use Rattle.fir_meaning.specs.NameGroups.{name_group, main_group, hierarchy_group}

-- no fault of names stands in the circuit
pub record HasNames (c : CircuitTree) : Type 0 where
  pub names : IsClear (name_group c)
  pub main : IsClear (main_group c)
  pub hierarchy : IsClear (hierarchy_group c)
