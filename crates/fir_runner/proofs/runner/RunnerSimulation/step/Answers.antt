use Rattle.std.proofs.Common.{refl, sym, ap, ◌∙◌}
use Rattle.fir_tick.specs.working.Views.{widths, output_widths}
use Rattle.fir_runner.specs.declared.runner.Runner.{Runner}
use Rattle.fir_runner.proofs.Stepped.{whole_ran, bad_ran, tick_ran}
use Rattle.fir_runner.proofs.runner.RunnerSimulation.step.Goals as goal

pub returns-in-Ok-false-clause-steps : goal.returns-in-Ok-false-clause-steps
returns-in-Ok-false-clause-steps c printed h = (
  refl,
  whole_ran c.args.trace.now c.args.self.now printed (c.trace_reads_in_steps.ensures c.args.trace.now c.args.self.now.shape) h c.next_tick.new.at
      (rw c.in-Ok-false.field-0-test at c.in-Ok-false.ensures.steps).0,
)

pub returns-in-Err-clause-steps : goal.returns-in-Err-clause-steps
returns-in-Err-clause-steps c printed h = (
  refl,
  bad_ran c.args.trace.now c.args.self.now printed (c.trace_reads_in_steps.ensures c.args.trace.now c.args.self.now.shape) h c.next_tick.new.at c.in-Err.fault
      c.in-Err.ensures.steps.0,
)

pub returns-clause-steps : goal.returns-clause-steps
returns-clause-steps c printed h =
    let old : Runner = c.args.self.now in
    let new : Runner = record { shape = old.shape; sim = c.tick.new.self; with_state = old.with_state; tick = c.next_tick.new.tick; at = c.next_tick.new.at } in (
      _,
      c.in_ok-write_line.ensures.line,
      tick_ran c.args.trace.now old printed (c.trace_reads_in_steps.ensures c.args.trace.now old.shape) h new
          (record { net = c.tick.ensures.net; shape_stays = refl; as_shown = refl }) c.next_tick.new.tick.tick (rw c.in-Ok-true.field-0-test at c.in-Ok-true.ensures.steps) c.tick.ensures.allows.0
          c.tick.ensures.allows.1 _ (ap widths (sym c.outputs.ensures.value) ∙ c.outputs.ensures.widths ∙ ap output_widths c.tick.ensures.net)
          (rw (c.outputs.ensures.value, c.shown_state.ensures) refl),
    )
