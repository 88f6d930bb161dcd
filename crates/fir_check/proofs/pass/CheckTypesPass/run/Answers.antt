use Rattle.fir_ast.specs.working.CodeFaults.{fault_of}
use Rattle.fir_meaning.proofs.KeptTrees.{reports_first}
use Rattle.fir_check.proofs.TypePass.{keeps_typed}
use Rattle.fir_check.proofs.pass.CheckTypesPass.run.Goals as goal

pub returns-clause-ok : goal.returns-clause-ok
returns-clause-ok c = keeps_typed c.args.x c.check.result c.check.ensures.tree c.check.ensures.clear

pub returns-clause-fault : goal.returns-clause-fault
returns-clause-fault c = reports_first 4 4 c.args.x (λ f. fault_of f.0) c.check.result c.check.ensures.fault
