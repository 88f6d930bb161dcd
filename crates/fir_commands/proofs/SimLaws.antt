-- What holds of the meaning of `sim`.
use Rattle.std.proofs.Common.{ℕ, List, Bool, subst}
use Rattle.fir_parse.specs.working.Laws.{SpellsOneTree, HasTreeOrFault}
use Rattle.trace_command.specs.working.Laws.{SimulationLaws}
use Rattle.fir_outcome.specs.Traces.{IsTraceShape}
use Rattle.fir_runner.proofs.TraceShapes.{one_shape}
use Rattle.fir_commands.specs.Sim.{sim_meaning}
use Rattle.fir_commands.proofs.Refused.{refused_is_not_taken}

pub sim_laws : SpellsOneTree → HasTreeOrFault → (with_state : Bool) → SimulationLaws (sim_meaning with_state)
sim_laws one tree_or_fault with_state = record {
  refused_is_not_taken = λ text line why taken. refused_is_not_taken one tree_or_fault text taken.0 taken.1 line why;
  shaped_is_taken = λ text shape shaped. (shaped.0, shaped.1);
  one_shape = λ text s t p q.
      one_shape p.0 s t p.2 (subst (λ c. IsTraceShape c t) (one text q.0 p.0 q.1.spelled p.1.spelled) q.2);
  prints_run = λ text says printed p.
      record { shape = p.of_trace; shaped = (p.circuit, p.taken, p.shaped); init = p.init; ticks = p.ticks; said = p.said; runs = tt };
  lacking_is_taken = λ text trace line printed none. absurd none;
  lacking_does_not_run = λ text trace line printed shape init ticks none shaped says runs. none;
}
