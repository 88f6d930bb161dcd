use Rattle.std.proofs.Common.{refl, sym, ap, ◌∙◌}
use Rattle.fir_net.specs.declared.net.FlatNet.{FlatNet}
use Rattle.fir_net.specs.working.Settled.{shape}
use Rattle.fir_runner.specs.declared.runner.Runner.{Runner}
use Rattle.fir_runner.specs.working.Running.{SimulatedNet}
use Rattle.fir_runner.proofs.Begun.{begun, not_begun}
use Rattle.fir_runner.proofs.runner.Runner.new.Goals as goal

pub returns-in-Err : goal.returns-in-Err
returns-in-Err c =
    let a : SimulatedNet = record { net = c.args.net; shape = c.args.shape; with_state = c.args.with_state } in
    not_begun c.args.trace.now a (c.trace_reads_in_steps.ensures c.args.trace.now c.args.shape) c.in-Err.refused c.in-Err.ensures

pub returns : goal.returns
returns c =
    let r : Runner = record { shape = c.args.shape; sim = c.in_ok-sim.sim; with_state = c.args.with_state; tick = c.in_ok-tick.tick; at = c.in-Ok.read.1 } in
    let same : FlatNet → SimulatedNet = λ net. record { net = net; shape = c.args.shape; with_state = c.args.with_state } in (
      record { of_net = c.requires.of_net ∙ ap shape (sym c.in_ok-sim.ensures.net); room = c.in_ok-tick.ensures; place = c.in-Ok.ensures.0.rest.within },
      ap same c.in_ok-sim.ensures.net,
      begun c.args.trace.now r c.in-Ok.read.0 (c.trace_reads_in_steps.ensures c.args.trace.now c.args.shape) c.in-Ok.ensures.0 c.in_ok-sim.ensures.state,
    )
