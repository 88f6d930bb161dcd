use Rattle.std.proofs.Common.{subst}
use Rattle.fir_loop.specs.working.IsLoop.{ShowsLoop}
use Rattle.fir_loop.specs.working.Orders.{IsOrdered}
use Rattle.fir_compile.proofs.NetPasses.{keeps_order, loop_first}
use Rattle.fir_compile.proofs.ordered.FindOrderPass.run.Goals as goal

pub returns-in-Ok-clause-ok : goal.returns-in-Ok-clause-ok
returns-in-Ok-clause-ok c =
    keeps_order c.args.x c.into_net.result c.in-Ok.order c.into_net.ensures
    (subst (λ n. IsOrdered n c.in-Ok.order) c.net.ensures.value c.in-Ok.ensures)

pub returns-in-Err-Fault-clause-fault : goal.returns-in-Err-Fault-clause-fault
returns-in-Err-Fault-clause-fault c =
    let found = rw c.in-Err-Fault.field-0-is at c.in-Err-Fault.ensures in
    λ t flat. loop_first t c.args.x c.in-Err-Fault.fault flat.flattens (subst (λ n. ShowsLoop n c.in-Err-Fault.fault) c.net.ensures.value found)
