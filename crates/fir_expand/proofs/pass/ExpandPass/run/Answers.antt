use Rattle.fir_ast.specs.working.CodeFaults.{fault_of}
use Rattle.fir_meaning.proofs.KeptTrees.{reports_first}
use Rattle.fir_expand.proofs.ExpandedCircuits.{keeps_expanded}
use Rattle.fir_expand.proofs.pass.ExpandPass.run.Goals as goal

pub returns-clause-ok : goal.returns-clause-ok
returns-clause-ok c = keeps_expanded c.args.x c.expand.result c.expand.ensures.tree c.expand.ensures.clear

pub returns-clause-fault : goal.returns-clause-fault
returns-clause-fault c = reports_first 8 8 c.args.x (λ f. fault_of f.0) c.expand.result c.expand.ensures.fault
