-- A circuit in which no fault of resets or widths stands (FIRRTL spec, "Width Inference", "Reset Inference").
use Rattle.fir_ast.specs.Circuits.{CircuitTree}
use Rattle.fir_pass.specs.Groups.{IsClear}
use Rattle.fir_meaning.specs.ResetWalks.{reset_group}
use Rattle.fir_meaning.specs.WidthGroups.{over_group, legal_group}

-- no fault of resets or widths stands in the circuit
pub record IsInferred (c : CircuitTree) : Type 0 where
  pub resets : IsClear (reset_group c)
  pub over : IsClear (over_group c)
  pub legal : IsClear (legal_group c)
