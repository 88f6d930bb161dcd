use Rattle.std.proofs.Common.{Ok, ap}
use Rattle.ver_command.proofs.Refused.{refused}
use Rattle.ver_command.proofs.machine.machine_of.Goals as goal

pub unreachable-requires : goal.unreachable-requires
unreachable-requires c = c.in_ok-shape.ensures.none (ap Ok c.in-None.is) c.in-Ok.ensures.spelled.names

pub returns-in-Err-Fault : goal.returns-in-Err-Fault
returns-in-Err-Fault c = refused c.args.text.now c.in-Err-Fault.fault c.refusal.result (rw c.in-Err-Fault.field-0-is at c.in-Err-Fault.ensures) c.refusal.ensures
