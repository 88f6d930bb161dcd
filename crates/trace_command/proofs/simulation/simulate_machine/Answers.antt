use Rattle.std.proofs.Common.{inl, inr}
use Rattle.fir_cli.specs.Outside.{IsRead, outside}
use Rattle.trace_command.proofs.SimulationEnded.{untaken_ended}
use Rattle.trace_command.proofs.simulation.simulate_machine.Goals as goal

pub returns-in-Ok : goal.returns-in-Ok
returns-in-Ok g c text is =
    let read : IsRead c.args.trace.now (outside (g.F.Files.seen c.args.files.now) (g.S.Sink.seen c.args.out.now) (g.T.Sink.seen c.args.err.now)) c.in-Ok.ticks.items =
    record { told = c.in-Ok.ensures.shows.2; short = c.in-Ok.ensures.shows.0 } in
    inl (c.in-Ok.ticks.items, read, rw c.as_slice.ensures.value at (c.simulate_trace.ensures text is))

pub returns-in-Err : goal.returns-in-Err
returns-in-Err g c text is =
    inr (untaken_ended _ (g.F.Files.seen c.args.files.now) (g.F.Files.seen c.read.new.self) _ _ _ c.in-Err.fault _ c.in-Err.ensures.shows c.say_unread.ensures)
