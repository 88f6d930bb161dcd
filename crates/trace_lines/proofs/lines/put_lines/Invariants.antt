use Rattle.trace_lines.proofs.Lining.{Lining}
use Rattle.trace_lines.proofs.lines.put_lines.Given as goal

abbrev pub invariant-loop : goal.invariant-loop
invariant-loop g l =
    Lining (g.R.Simulation.is_ready l.trace) g.R.Simulation.of g.R.Simulation.place (g.R.Simulation.has_made l.trace) l.fn.simulation l.simulation
    (g.S.Sink.seen l.fn.out) (g.S.Sink.seen l.out) l.lines.items l.counter
