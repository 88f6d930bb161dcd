use Rattle.std.proofs.Common.{subst}
use Rattle.fir_ast.specs.working.Views.{circuit_of}
use Rattle.fir_pass.specs.Groups.{IsClear}
use Rattle.fir_meaning.specs.CostGroup.{cost_group}
use Rattle.fir_leaf_circuit.proofs.leaf_circuit.LeafCircuit.fitted.Goals as goal

pub returns-clause-clear : goal.returns-clause-clear
returns-clause-clear c = subst (λ t. IsClear (cost_group (circuit_of t))) c.self.view_is c.self.invariant.0
