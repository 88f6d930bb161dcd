use Rattle.fir_ast.specs.working.CodeFaults.{fault_of}
use Rattle.fir_commands.proofs.SimMade.{not_made}
use Rattle.fir_commands.proofs.sim.SimSimulationCommand.machine_of.Goals as goal

pub returns-in-Ok : goal.returns-in-Ok
returns-in-Ok c = (
  record { made = c.in-Ok.ensures.made; in_order = c.in-Ok.ensures.in_order },
  (c.in-Ok.ensures.made.circuit, c.in-Ok.ensures.made.taken),
)

pub returns-in-Err-Fault : goal.returns-in-Err-Fault
returns-in-Err-Fault c =
    not_made c.args.self.now.with_state c.args.text.now (fault_of c.in-Err-Fault.fault) c.refusal.result (rw c.in-Err-Fault.field-0-is at c.in-Err-Fault.ensures.made)
    c.refusal.ensures
