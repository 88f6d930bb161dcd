use Rattle.std.proofs.Common.{inl, subst}
use Rattle.trace_lines.specs.working.Lined.{Lined}
use Rattle.trace_lines.proofs.Kept.{kept_same}
use Rattle.trace_command.proofs.LinedTicks.{lined_ticks, init_bad}
use Rattle.fir_runner.specs.working.Running.{Ran, SimulatedNet}
use Rattle.fir_commands.specs.Sim.{sim_meaning}
use Rattle.fir_commands.proofs.Printed.{prints}
use Rattle.fir_commands.proofs.SimRan.{none_ran, told_badly}
use Rattle.fir_commands.proofs.sim.SimSimulationCommand.run.Goals as goal

pub returns-in-Ok : goal.returns-in-Ok
returns-in-Ok g c text is =
    let trace = c.args.trace.now in
    let a : SimulatedNet = record { net = c.args.machine.compiled.net; shape = c.args.machine.shape; with_state = c.args.self.now.with_state } in
    lined_ticks (sim_meaning a.with_state) text trace (Ran a) (λ t lack printed. ⊥) (λ says printed ran. prints text a says printed is.made ran) (told_badly a trace)
    (λ lack printed none. absurd none) (g.S.Sink.seen c.args.out.now) _ _
    (subst (λ x. Lined trace (Ran x) (λ t lack printed. ⊥) (g.S.Sink.seen c.args.out.now) (g.S.Sink.seen c.put_lines.new.out) c.put_lines.result) c.in-Ok.ensures.1 c.put_lines.ensures)

pub returns-in-Err-Fault : goal.returns-in-Err-Fault
returns-in-Err-Fault g c text is =
    let trace = c.args.trace.now in
    let a : SimulatedNet = record { net = c.args.machine.compiled.net; shape = c.args.machine.shape; with_state = c.args.self.now.with_state } in
    let bad = rw c.in-Err-Fault.field-0-is at c.in-Err-Fault.ensures in
    rw c.in-Err-Fault.fault-is
    (init_bad (sim_meaning a.with_state) text trace (Ran a) (λ t lack printed. ⊥) (λ says printed ran. prints text a says printed is.made ran) (told_badly a trace)
    (λ lack printed none. absurd none) (g.S.Sink.seen c.args.out.now) a.shape bad.0 c.in-Err-Fault.fault (none_ran a bad.0) bad.1)

pub returns-in-Err-Memory : goal.returns-in-Err-Memory
returns-in-Err-Memory g c text is = inl (kept_same (g.S.Sink.seen c.args.out.now))
