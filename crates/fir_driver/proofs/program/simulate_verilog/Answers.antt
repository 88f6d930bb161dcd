use Rattle.fir_cli.specs.Outside.{outside}
use Rattle.fir_words.specs.working.Commanded.{verilog_simulated}
use Rattle.fir_driver.proofs.EmittedPrinted.{prints_emitted}
use Rattle.fir_driver.proofs.program.simulate_verilog.Goals as goal

pub returns : goal.returns
returns g c = (
  c.simulate.ensures,
  prints_emitted c.emitted_prints_the_same.ensures.whole c.emitted_prints_the_same.ensures.bad c.refused_is_not_valid.ensures c.lacked_does_not_run.ensures
      c.trace_is_spelled_or_bad.ensures (verilog_simulated c.args.words.now)
      (outside (g.F.Files.seen c.args.files.now) (g.S.Sink.seen c.args.out.now) (g.T.Sink.seen c.args.err.now))
      (outside (g.F.Files.seen c.simulate.new.files) (g.S.Sink.seen c.simulate.new.out) (g.T.Sink.seen c.simulate.new.err)) c.simulate.result c.simulate.ensures,
)
