use Rattle.fir_ast.specs.working.CodeFaults.{fault_of}
use Rattle.fir_meaning.proofs.KeptTrees.{reports_first}
use Rattle.fir_whens.proofs.LoweredCircuits.{keeps_lowered}
use Rattle.fir_whens.proofs.pass.LowerWhensPass.run.Goals as goal

pub returns-clause-ok : goal.returns-clause-ok
returns-clause-ok c = keeps_lowered c.args.x c.lower_whens.result c.lower_whens.ensures.tree c.lower_whens.ensures.clear

pub returns-clause-fault : goal.returns-clause-fault
returns-clause-fault c = reports_first 9 9 c.args.x (λ f. fault_of f.0) c.lower_whens.result c.lower_whens.ensures.fault
