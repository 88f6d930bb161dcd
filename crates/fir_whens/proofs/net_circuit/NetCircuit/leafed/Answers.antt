use Rattle.std.proofs.Common.{subst}
use Rattle.fir_ast.specs.working.Views.{circuit_of}
use Rattle.fir_pass.specs.Groups.{IsClear}
use Rattle.fir_meaning.specs.SourceUndrivenGroup.{undriven_group}
use Rattle.fir_whens.specs.working.ModuleFaults.{AreAllDriven}
use Rattle.fir_whens.proofs.net_circuit.NetCircuit.leafed.Goals as goal

pub returns-clause-clear : goal.returns-clause-clear
returns-clause-clear c = subst (λ t. IsClear (undriven_group (circuit_of t))) c.self.view_is c.self.invariant.0

pub returns-clause-driven : goal.returns-clause-driven
returns-clause-driven c = subst (λ t. AreAllDriven (circuit_of t)) c.self.view_is c.self.invariant.1
