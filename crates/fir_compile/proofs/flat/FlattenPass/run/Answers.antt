use Rattle.std.proofs.Common.{Result, Err}
use Rattle.fir_base.specs.declared.refused.Refused.{Refused}
use Rattle.fir_ast.specs.declared.circuit.Circuit.{Circuit}
use Rattle.fir_ast.specs.declared.fault.FirFault.{FirFault}
use Rattle.fir_ast.specs.working.CodeFaults.{fault_of}
use Rattle.fir_meaning.proofs.KeptTrees.{reports_first}
use Rattle.fir_net.specs.declared.net.FlatNet.{FlatNet}
use Rattle.fir_compile.proofs.NetPasses.{keeps_flat, reports_told}
use Rattle.fir_compile.proofs.flat.FlattenPass.run.Goals as goal

pub returns-in-Ok-clause-ok : goal.returns-in-Ok-clause-ok
returns-in-Ok-clause-ok c = keeps_flat c.args.x c.in-Ok.net c.new.result c.new.ensures c.in-Ok.ensures.clear c.in-Ok.ensures.flat

pub returns-in-Err-clause-fault : goal.returns-in-Err-clause-fault
returns-in-Err-clause-fault c =
    let refused : Result FlatNet (Refused (FirFault × Circuit)) = Err c.in-Err.refused in
    reports_first 10 12 c.args.x (λ f. fault_of f.0) refused (reports_told c.args.x c.in-Err.refused c.in-Err.ensures.told)
