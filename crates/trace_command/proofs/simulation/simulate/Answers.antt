use Rattle.std.proofs.Common.{inl, refl}
use Rattle.trace_command.specs.working.Laws.{IsOfRefusal}
use Rattle.trace_command.proofs.SimulationEnded.{text_ended, not_read, untaken_ended}
use Rattle.trace_command.proofs.simulation.simulate.Goals as goal

pub returns-in-Ok : goal.returns-in-Ok
returns-in-Ok g c =
    let k = g.C.SimulationCommand.says c.args.command.now in
    let of_refusal : IsOfRefusal k.status = rw c.status.ensures.is at c.status.ensures.of_refusal in
    text_ended k of_refusal c.fronts_begin.ensures _ _ _ _ _ _ _ _ (record { told = c.in-Ok.ensures.told; faults = c.in-Ok.ensures.shows.3 }) c.in-Ok.text.items _
    (record { told = c.in-Ok.ensures.shows.2; short = c.in-Ok.ensures.shows.0 }) (rw c.as_slice.ensures.value at c.simulate_text.ensures)

pub returns-in-Err : goal.returns-in-Err
returns-in-Err g c =
    let k = g.C.SimulationCommand.says c.args.command.now in
    let of_refusal : IsOfRefusal k.status = rw c.status.ensures.is at c.status.ensures.of_refusal in
    not_read k of_refusal c.fronts_begin.ensures _ _ _ _ _ _ _ c.args.source.now _ (inl refl)
    (untaken_ended _ (g.F.Files.seen c.args.files.now) (g.F.Files.seen c.read.new.self) _ _ _ c.in-Err.fault _ c.in-Err.ensures.shows c.say_unread.ensures)
