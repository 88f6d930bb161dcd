use Rattle.std.proofs.Common.{◌+◌, ◌≤◌, refl, subst, arith}
use Rattle.ver_ast.specs.ClockOutputs.{clocks_shown}
use Rattle.ver_ast.specs.declared.tree.Verilog.{Verilog}
use Rattle.ver_runner.specs.declared.runner.VRunner.{VRunner}
use Rattle.ver_runner.specs.working.Rooms.{IsRoomFor}
use Rattle.ver_runner.proofs.LineFits.{line_fits, state_fits}
use Rattle.ver_runner.proofs.Ready.{with_parts, still_ready, same_simulated, tree_line}
use Rattle.ver_runner.proofs.Stepped.{whole_ran, bad_ran, lacked, tick_ran}
use Rattle.ver_runner.proofs.runner.VRunnerSimulation.step.Goals as goal

pub returns-in-Ok-false-clause-steps : goal.returns-in-Ok-false-clause-steps
returns-in-Ok-false-clause-steps c printed h = (
  refl,
  whole_ran c.args.trace.now c.args.self.now printed (c.trace_reads_in_steps.ensures c.args.trace.now c.args.self.now.shape) h c.next_tick.new.at
      (rw c.in-Ok-false.field-0-test at c.in-Ok-false.ensures.steps).0,
)

pub returns-in-Err-clause-steps : goal.returns-in-Err-clause-steps
returns-in-Err-clause-steps c printed h = (
  refl,
  bad_ran c.args.trace.now c.args.self.now printed (c.trace_reads_in_steps.ensures c.args.trace.now c.args.self.now.shape) h c.next_tick.new.at c.in-Err.fault
      c.in-Err.ensures.steps.0,
)

pub put_line-requires-clause-fit : goal.put_line-requires-clause-fit
put_line-requires-clause-fit c =
    line_fits c.next_has_shape.ensures c.args.self.now.sim c.take_tick.new.sim c.requires.valid c.next_tick.new.tick.tick (clocks_shown c.args.self.now.sim.tree) c.take_tick.ensures.tree
    c.in-Ok.ensures.allows

pub returns-in_err-put_line-in-Ok-clause-ready : goal.returns-in_err-put_line-in-Ok-clause-ready
returns-in_err-put_line-in-Ok-clause-ready c =
    let r = c.args.self.now in
    let later = rw c.in-Ok-true.field-0-test at c.in-Ok-true.ensures.later refl in
    let counted : r.ticks ≤ r.at = c.requires.counted in
    still_ready c.args.trace.now r c.requires c.take_tick.new.sim c.next_tick.new.tick c.put_line.new.self c.next_tick.new.at (r.ticks + 1) c.take_tick.ensures.tree
    (state_fits c.next_has_shape.ensures r.sim.tree c.requires.valid r.sim.state c.next_tick.new.tick.tick _ _ c.take_tick.new.sim.state c.in-Ok.ensures.allows) c.in-Ok-true.ensures.room
    (subst (λ (v : Verilog). IsRoomFor v c.put_line.new.self) c.take_tick.ensures.tree c.put_line.ensures.room) (omega (arith, later, counted)) c.in-Ok-true.ensures.place

pub returns-in_ok-put_line-in-Ok-clause-ready : goal.returns-in_ok-put_line-in-Ok-clause-ready
returns-in_ok-put_line-in-Ok-clause-ready c =
    let r = c.args.self.now in
    let later = rw c.in-Ok-true.field-0-test at c.in-Ok-true.ensures.later refl in
    let counted : r.ticks ≤ r.at = c.requires.counted in
    still_ready c.args.trace.now r c.requires c.take_tick.new.sim c.next_tick.new.tick c.put_line.new.self c.next_tick.new.at (r.ticks + 1) c.take_tick.ensures.tree
    (state_fits c.next_has_shape.ensures r.sim.tree c.requires.valid r.sim.state c.next_tick.new.tick.tick _ _ c.take_tick.new.sim.state c.in-Ok.ensures.allows) c.in-Ok-true.ensures.room
    (subst (λ (v : Verilog). IsRoomFor v c.put_line.new.self) c.take_tick.ensures.tree c.put_line.ensures.room) (omega (arith, later, counted)) c.in-Ok-true.ensures.place

pub returns-in_ok-put_line-in-Ok-clause-steps : goal.returns-in_ok-put_line-in-Ok-clause-steps
returns-in_ok-put_line-in-Ok-clause-steps c printed h =
    let r = c.args.self.now in
    let new : VRunner = with_parts r c.take_tick.new.sim c.next_tick.new.tick c.put_line.new.self c.next_tick.new.at (r.ticks + 1) in (
      _,
      c.in_ok-put_line-in-Ok.ensures.line,
      tick_ran c.args.trace.now r printed (c.trace_reads_in_steps.ensures c.args.trace.now r.shape) h c.next_tick.new.at c.next_tick.new.tick.tick
          (rw c.in-Ok-true.field-0-test at c.in-Ok-true.ensures.steps) (c.runs_grow.ensures r.sim.tree) c.lines_grow.ensures.last c.lines_grow.ensures.lines new c.take_tick.ensures.tree
          (same_simulated r c.take_tick.new.sim c.next_tick.new.tick c.put_line.new.self c.next_tick.new.at (r.ticks + 1) c.take_tick.ensures.tree c.put_line.ensures.with_state) refl refl
          (clocks_shown r.sim.tree) c.in-Ok.ensures.allows c.requires.order_is c.in-Ok.rounds c.in-Ok.ensures.counts _
          (tree_line r.sim c.take_tick.new.sim r.shown.with_state c.in-Ok.rounds c.take_tick.ensures.tree),
    )

pub returns-in-Err-take_tick-clause-steps : goal.returns-in-Err-take_tick-clause-steps
returns-in-Err-take_tick-clause-steps c printed h = (
  refl,
  lacked c.args.trace.now c.args.self.now printed (c.trace_reads_in_steps.ensures c.args.trace.now c.args.self.now.shape) h c.next_tick.new.at c.next_tick.new.tick.tick
      (rw c.in-Ok-true.field-0-test at c.in-Ok-true.ensures.steps) c.in-Err-take_tick.no_value c.lack_of-lack.result c.lack_of-lack.ensures c.in-Err-take_tick.ensures.no_value,
)
