use Rattle.fir_ast.specs.working.CodeFaults.{fault_of}
use Rattle.fir_meaning.proofs.KeptTrees.{reports_first}
use Rattle.fir_resolve.proofs.FirstOfGroups.{keeps_resolved}
use Rattle.fir_resolve.proofs.pass.ResolvePass.run.Goals as goal

pub returns-clause-ok : goal.returns-clause-ok
returns-clause-ok c = keeps_resolved c.args.x.circuit c.resolve.result c.resolve.ensures.tree c.resolve.ensures.named

pub returns-clause-fault : goal.returns-clause-fault
returns-clause-fault c = reports_first 1 3 c.args.x.circuit (λ f. fault_of f.0) c.resolve.result c.resolve.ensures.fault
