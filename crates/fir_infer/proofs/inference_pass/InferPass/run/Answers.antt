use Rattle.fir_ast.specs.working.CodeFaults.{fault_of}
use Rattle.fir_meaning.proofs.KeptTrees.{reports_first}
use Rattle.fir_infer.proofs.InferencePass.{keeps_fitted}
use Rattle.fir_infer.proofs.inference_pass.InferPass.run.Goals as goal

pub returns-clause-ok : goal.returns-clause-ok
returns-clause-ok c = keeps_fitted c.args.x c.infer.result c.infer.ensures.tree c.infer.ensures.clear

pub returns-clause-fault : goal.returns-clause-fault
returns-clause-fault c = reports_first 5 7 c.args.x (λ f. fault_of f.0) c.infer.result c.infer.ensures.fault
