use Rattle.std.proofs.Common.{refl}
use Rattle.ver_runner.specs.declared.runner.VRunner.{VRunner}
use Rattle.ver_runner.specs.working.Running.{Simulated}
use Rattle.ver_runner.proofs.Begun.{begun, not_begun}
use Rattle.ver_runner.proofs.runner.VRunner.new.Goals as goal

pub returns-in-Err : goal.returns-in-Err
returns-in-Err c =
    let s : Simulated = record { tree = c.args.v; order = c.args.order; with_state = c.args.with_state; shape = c.args.shape } in
    not_begun c.args.trace.now s (c.trace_reads_in_steps.ensures c.args.trace.now c.args.shape) c.in-Err.refused c.in-Err.ensures

pub returns : goal.returns
returns c =
    let s : Simulated = record { tree = c.args.v; order = c.args.order; with_state = c.args.with_state; shape = c.args.shape } in
    let r : VRunner = record { shape = c.args.shape; sim = c.in_ok-sim.sim; order = c.in_ok-order.order; tick = c.in_ok-tick.tick; shown = c.in_ok-shown.shown; at = c.in-Ok.read.1; ticks = 0 } in
    begun c.args.trace.now s r c.in-Ok.read.0 c.processes.result c.requires.valid c.requires.of_tree (c.trace_reads_in_steps.ensures c.args.trace.now c.args.shape) c.in-Ok.ensures.0
    c.in-Ok.ensures.1 refl c.in_ok-sim.ensures.tree c.in_ok-sim.ensures.state c.in_ok-sim.ensures.start c.processes.ensures c.in_ok-order.ensures.numbered c.in_ok-order.ensures.order
    c.in_ok-tick.ensures c.in_ok-shown.ensures.room c.in_ok-shown.ensures.with_state refl
